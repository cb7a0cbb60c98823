-- A search for the segment with the path of an interpreter, segment by segment, and what is found of an object.
use Rattle.std.proofs.Common.{◌≡◌, ◌≢◌, ℕ, Bool, List, [], ◌∷◌, Option, Some, None, refl, sym, ap, ◌∙◌, arith}
use Rattle.std.specs.Prelude.{if◌then◌else◌, slice_get}
use Rattle.std.specs.List.{find}
use Rattle.std.proofs.lemmas.Bool.{eq-eqb, le-leb, ne_eqb}
use Rattle.elf_linking.proofs.Firsts.{find_hit, find_none, find_other}
use Rattle.elf_linking.specs.declared.segments.Segment.{Segment}
use Rattle.elf_loading.specs.Segments.{is_of_type}
use Rattle.elf_loading.specs.declared.words.Binding.TheVariants.{Now}
use Rattle.elfload.specs.Interpreter.{binding_of, is_interpreter, object_binding, program_path}
use Rattle.elfload.specs.Types.{Binding, DynamicObject}

pub segment_none : (segments : List Segment) → segments ≡ [] → find (is_of_type 3 0) segments ≡ None
segment_none segments is = find_none (is_of_type 3 0) segments is

pub segment_hit : (segments others : List Segment) (segment : Segment) → segments ≡ segment ∷ others → segment.kind ≡ 3 → find (is_of_type 3 0) segments ≡ Some segment
segment_hit segments others segment is names = find_hit (is_of_type 3 0) segments others segment is (rw (eq-eqb segment.kind 3 names, le-leb 0 segment.mem_size (omega arith)) refl)

pub segment_other : (segments others : List Segment) (segment : Segment) → segments ≡ segment ∷ others → segment.kind ≢ 3 → find (is_of_type 3 0) segments ≡ find (is_of_type 3 0) others
segment_other segments others segment is other = find_other (is_of_type 3 0) segments others segment is (rw (ne_eqb segment.kind 3 other) refl)

-- what the object at an index is, by the path of the interpreter
module _ {E : Type 0} {r : _} (objects : List (DynamicObject E r)) (when : Binding) (of : ℕ) (object : DynamicObject E r) (there : slice_get objects of ≡ Some object) (path : Option (List ℕ)) (path_is : path ≡ program_path objects) where
  pub binding_found : (found : Bool) (result : Binding) → found ≡ is_interpreter path object → result ≡ (if found then Now else when) → result ≡ binding_of objects when of
  binding_found found result found_is is =
      is ∙ (ap (λ (b : Bool). if b then Now else when) (found_is ∙ ap (λ (p : Option (List ℕ)). is_interpreter p object) path_is)
      ∙ ap (object_binding (program_path objects) when) (sym there))
