-- Whether each name that a program and its libraries ask for found an object (this project's own).
use Rattle.std.specs.Prelude.{◌≡◌, ◌<◌, ◌&&◌, ℕ, Bool, true, false, List, [], ◌∷◌, Option, None, Some, Ok, Err, IfSome, length, nat_lt, slice_get}
use Rattle.elf_linking.specs.DynamicObject.{IsFileOf}
use Rattle.elf_linking.specs.DynamicView.{dynamic_entries_of, strings_by, view_entries, view_strings}
use Rattle.elf_linking.specs.declared.error.LinkError.TheVariants.{NoDynamic}
use Rattle.elf_linking.specs.declared.view.dynamic.DynamicView.{DynamicView}
use Rattle.elf_search.specs.Names.{NameParts, names_in}
use Rattle.elf_search.specs.declared.names.NameKind.{NameKind}
use Rattle.elf_search.specs.declared.names.NameKind.TheVariants.{Auxiliary, Filter, Needed}
use Rattle.program_libraries.specs.declared.objects.Object.{Object}
use Rattle.program_libraries.specs.declared.store.StoredFile.{StoredFile}
use Rattle.xmas_elf.specs.Types.{ElfFile}

-- the dynamic segment of the file in these bytes, or that it has none
abbrev pub IsViewOf : List ℕ → Option DynamicView → Type 0
IsViewOf bytes None = (file : ElfFile) × IsFileOf bytes file × (dynamic_entries_of file ≡ Err NoDynamic)
IsViewOf bytes (Some view) = (file : ElfFile) × IsFileOf bytes file
    × (dynamic_entries_of file ≡ Ok (view_entries view)) × (view_strings view ≡ strings_by file (view_entries view))

-- the names that the file in these bytes asks for: none if it has no dynamic segment
abbrev pub names_by : Option DynamicView → List NameParts
names_by None = []
names_by (Some view) = names_in (view_strings view) (view_entries view)

-- the first of some edges leads to one of so many objects
abbrev pub has_object : ℕ → List ℕ → Bool
has_object count [] = false
has_object count (edge ∷ edges) = nat_lt edge count

-- what is after the first
abbrev pub after_first : List ℕ → List ℕ
after_first [] = []
after_first (edge ∷ edges) = edges

-- a name of this kind has found an object by the first of some edges, or is auxiliary
abbrev pub is_found : ℕ → NameKind → List ℕ → Bool
is_found count Auxiliary edges = true
is_found count Needed edges = has_object count edges
is_found count Filter edges = has_object count edges

-- each name has, by the edges in their order
abbrev pub are_found : ℕ → List NameParts → List ℕ → Bool
are_found count [] edges = true
are_found count (name ∷ names) edges = is_found count name.kind edges && are_found count names (after_first edges)

-- each name that the file in these bytes asks for, but that of an auxiliary entry, found one of so many objects
abbrev pub IsServedBy : ℕ → List ℕ → List ℕ → Type 0
IsServedBy count bytes edges =
    (view : Option DynamicView) × IsViewOf bytes view × (are_found count (names_by view) edges ≡ true)

-- so it is of the file of an object
pub record IsServed (files : List StoredFile) (count : ℕ) (object : Object) : Type 0 where
  pub file : StoredFile
  pub file_is : slice_get files object.file ≡ Some file
  pub served : IsServedBy count file.bytes.items object.edges.items

-- there is a program, and so it is of all objects
pub record AreNamesFound (files : List StoredFile) (objects : List Object) : Type 0 where
  pub program : 0 < length objects
  pub each : (i : ℕ) → IfSome (slice_get objects i) (IsServed files (length objects))
