-- The objects so far have what they need.
use Rattle.std.proofs.Common.{◌≡◌, ◌<◌, ◌≤◌, ◌+◌, ℕ, true, List, Option, None, Some, length, get_or, refl, sym, subst, arith, below_more}
use Rattle.std.proofs.lemmas.Option.{slice_get_read, slice_get_within}
use Rattle.std.specs.Prelude.{IfSome, slice_get}
use Rattle.elf_linking.specs.DynamicView.{view_entries, view_strings}
use Rattle.elf_linking.specs.declared.view.dynamic.DynamicView.{DynamicView}
use Rattle.elf_search.specs.Names.{names_in}
use Rattle.program_libraries.specs.NeededNames.{AreNamesFound, IsServed, IsServedBy, IsViewOf, are_found}
use Rattle.program_libraries.specs.NeededVersions.{AreNeedsMet, AreVersionsMet, IsObjectMet}
use Rattle.program_libraries.specs.declared.objects.Object.{Object}
use Rattle.program_libraries.specs.declared.store.StoredFile.{StoredFile}

pub served_by_view : (count : ℕ) (bytes edges : List ℕ) (view : DynamicView) → IsViewOf bytes (Some view) → are_found count (names_in (view_strings view) (view_entries view)) edges ≡ true → IsServedBy count bytes edges
served_by_view count bytes edges view is found = (Some view, is, found)

pub served_by_none : (count : ℕ) (bytes edges : List ℕ) → IsViewOf bytes None → IsServedBy count bytes edges
served_by_none count bytes edges is = (None, is, refl)

pub served_here : (files : List StoredFile) (count : ℕ) (object : Object) (file : StoredFile) (bytes edges : List ℕ) → object.file < length files → file ≡ get_or files object.file file → bytes ≡ file.bytes.items → edges ≡ object.edges.items → IsServedBy count bytes edges → IsServed files count object
served_here files count object file bytes edges below is bytes_are edges_are served = record {
  file = file;
  file_is = slice_get_read files (length files) object.file file refl below is;
  served = subst (λ (ys : List ℕ). IsServedBy count file.bytes.items ys) edges_are (subst (λ (xs : List ℕ). IsServedBy count xs edges) bytes_are served);
}

pub met_here : (files : List StoredFile) (objects : List Object) (object : Object) (file : StoredFile) (bytes edges : List ℕ) → object.file < length files → file ≡ get_or files object.file file → bytes ≡ file.bytes.items → edges ≡ object.edges.items → AreNeedsMet files objects bytes edges → IsObjectMet files objects object
met_here files objects object file bytes edges below is bytes_are edges_are met = record {
  file = file;
  file_is = slice_get_read files (length files) object.file file refl below is;
  met = subst (λ (ys : List ℕ). AreNeedsMet files objects file.bytes.items ys) edges_are (subst (λ (xs : List ℕ). AreNeedsMet files objects xs edges) bytes_are met);
}

module _ (objects : List Object) (Holds : Object → Type 0) where
  -- the object at an index, if there is one, has a property
  abbrev pub HoldsAt : ℕ → Type 0
  HoldsAt i = IfSome (slice_get objects i) Holds

  -- those below an index have it
  pub record AreBelow (count : ℕ) : Type 0 where
    pub each : (i : ℕ) → i < count → HoldsAt i

  pub served_none : AreBelow 0
  served_none = record { each = λ i below. absurd (omega (arith, below)) }

  pub served_more : (index : ℕ) (object : Object) → AreBelow index → index < length objects → object ≡ get_or objects index object → Holds object → AreBelow (index + 1)
  served_more index object before below is served = record {
    each = below_more HoldsAt index before.each
        (subst (λ found. IfSome found Holds) (sym (slice_get_read objects (length objects) index object refl below is)) served);
  }

  found_served : (count i : ℕ) (found : Option Object) → slice_get objects i ≡ found → AreBelow count → length objects ≤ count → IfSome found Holds
  found_served count i None is served enough = tt
  found_served count i (Some object) is served enough =
      let below : i < length objects = slice_get_within objects i object is in
      let less : i < count = omega (arith, below, enough) in
      subst (λ one. IfSome one Holds) is (served.each i less)

  served_all : (count : ℕ) → AreBelow count → length objects ≤ count → (i : ℕ) → IfSome (slice_get objects i) Holds
  served_all count served enough i = found_served count i (slice_get objects i) refl served enough

pub names_served : (files : List StoredFile) (objects : List Object) (count : ℕ) → AreBelow objects (IsServed files (length objects)) count → length objects ≤ count → 0 < length objects → AreNamesFound files objects
names_served files objects count served enough some = record { program = some; each = served_all objects (IsServed files (length objects)) count served enough }

pub versions_met : (files : List StoredFile) (objects : List Object) (count : ℕ) → AreBelow objects (IsObjectMet files objects) count → length objects ≤ count → AreVersionsMet files objects
versions_met files objects count met enough = record { each = served_all objects (IsObjectMet files objects) count met enough }
