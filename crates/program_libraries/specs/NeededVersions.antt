-- Whether the libraries that a program gets define the versions that it needs of them (LSB, "Symbol Versioning"; which of
-- them keep a program from starting, as in glibc 2.36).
use Rattle.std.specs.Prelude.{◌≡◌, ℕ, Bool, true, false, List, [], ◌∷◌, Option, None, Some, Result, Ok, Err, IfSome, is_some, nat_eq, slice_get, ⊤, if◌then◌else◌}
use Rattle.std.specs.Cmp.Lexicographic.{pointwise}
use Rattle.elf_linking.specs.DynamicObject.{IsFileOf}
use Rattle.elf_linking.specs.DynamicView.{number_with, view_entries, view_strings}
use Rattle.elf_linking.specs.VersionTables.{NeedParts, VersionTables, definitions_in, needs_in, version_tables_of}
use Rattle.elf_linking.specs.declared.error.LinkError.{LinkError}
use Rattle.elf_linking.specs.declared.view.dynamic.DynamicView.{DynamicView}
use Rattle.elf_linking.specs.declared.view.tags.TheConstants.{DT_VERDEF}
use Rattle.elf_search.specs.MissingVersions.{ProvidedParts, Defined, NoVersions, lack_in}
use Rattle.elf_search.specs.Names.{NameParts, names_in}
use Rattle.elf_search.specs.declared.versions.Lack.{Lack}
use Rattle.elf_search.specs.declared.versions.Lack.TheVariants.{NoInformation, Strong, Weak}
use Rattle.program_libraries.specs.NeededNames.{IsViewOf, after_first}
use Rattle.program_libraries.specs.declared.objects.Object.{Object}
use Rattle.program_libraries.specs.declared.store.StoredFile.{StoredFile}
use Rattle.xmas_elf.specs.Types.{ElfFile}

-- the version tables of the file in these bytes, by its dynamic segment
abbrev pub AreTablesOf : List ℕ → DynamicView → VersionTables → Type 0
AreTablesOf bytes view tables = (file : ElfFile) × IsFileOf bytes file
    × (version_tables_of file (view_entries view) (view_strings view) 0 ≡ Ok tables)

-- a dynamic segment has an entry for definitions of versions
abbrev pub has_definitions : Option DynamicView → Bool
has_definitions None = false
has_definitions (Some view) = is_some (number_with DT_VERDEF (view_entries view))

-- what the library in these bytes provides: no versions if it has no such entry, otherwise those that it defines
pub data Provides (bytes : List ℕ) : ProvidedParts → Type 0 where
  without : (view : Option DynamicView) → IsViewOf bytes view → has_definitions view ≡ false → Provides bytes NoVersions
  defined : (view : DynamicView) (tables : VersionTables) → IsViewOf bytes (Some view) → AreTablesOf bytes view tables
      → Provides bytes (Defined (definitions_in tables.definitions))

-- a program starts with what a library lacks of a need: nothing, a version that is needed weakly, or all versions
abbrev pub starts_with : Result (Option Lack) LinkError → Bool
starts_with (Ok None) = true
starts_with (Ok (Some NoInformation)) = true
starts_with (Ok (Some Weak)) = true
starts_with (Ok (Some Strong)) = false
starts_with (Err error) = false

-- it does with the library in these bytes
abbrev pub IsProvided : List ℕ → NeedParts → Type 0
IsProvided bytes need = (provided : ProvidedParts) × Provides bytes provided × (starts_with (lack_in provided need) ≡ true)

-- it does with the library with a number, if there is one
abbrev pub IsProvidedBy : List StoredFile → List Object → NeedParts → ℕ → Type 0
IsProvidedBy files objects need number = IfSome (slice_get objects number) (λ library.
    IfSome (slice_get files library.file) (λ file. IsProvided file.bytes.items need))

-- a name is a text
abbrev pub is_text : List ℕ → Result (List ℕ) LinkError → Bool
is_text text (Ok name) = pointwise nat_eq name text
is_text text (Err error) = false

-- the edges from that of the first name that is a text on, of names with these edges
abbrev pub edges_from : List ℕ → List NameParts → List ℕ → List ℕ
edges_from text [] edges = []
edges_from text (name ∷ names) edges = if is_text text name.name then edges else edges_from text names (after_first edges)

-- the first of some edges, if there is one, leads to such a library
abbrev pub IsFirstProvided : List StoredFile → List Object → NeedParts → List ℕ → Type 0
IsFirstProvided files objects need [] = ⊤
IsFirstProvided files objects need (edge ∷ edges) = IsProvidedBy files objects need edge

-- the name of the file of a need can be read, and if the object with this dynamic segment asks for it, the library that it
-- got provides the version
abbrev pub IsMet : List StoredFile → List Object → DynamicView → List ℕ → NeedParts → Type 0
IsMet files objects view edges need = (text : List ℕ) × (need.file ≡ Ok text)
    × IsFirstProvided files objects need (edges_from text (names_in (view_strings view) (view_entries view)) edges)

-- so it is of all needs, of which none is an error
abbrev pub AreAllMet : (NeedParts → Type 0) → List (Result NeedParts LinkError) → Type 0
AreAllMet Met [] = ⊤
AreAllMet Met (Ok need ∷ needs) = Met need × AreAllMet Met needs
AreAllMet Met (Err error ∷ needs) = ⊥

-- so it is of the needs of the file in these bytes
pub data AreNeedsMet (files : List StoredFile) (objects : List Object) (bytes edges : List ℕ) : Type 0 where
  static : IsViewOf bytes None → AreNeedsMet files objects bytes edges
  dynamic : (view : DynamicView) (tables : VersionTables) → IsViewOf bytes (Some view) → AreTablesOf bytes view tables
      → AreAllMet (IsMet files objects view edges) (needs_in tables.needs) → AreNeedsMet files objects bytes edges

-- so it is of the file of an object
pub record IsObjectMet (files : List StoredFile) (objects : List Object) (object : Object) : Type 0 where
  pub file : StoredFile
  pub file_is : slice_get files object.file ≡ Some file
  pub met : AreNeedsMet files objects file.bytes.items object.edges.items

-- so it is of all objects
pub record AreVersionsMet (files : List StoredFile) (objects : List Object) : Type 0 where
  pub each : (i : ℕ) → IfSome (slice_get objects i) (IsObjectMet files objects)
