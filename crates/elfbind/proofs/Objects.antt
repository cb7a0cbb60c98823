-- Objects of the inputs in order.
use Rattle.std.proofs.Common.{ℕ, List, Option, Some, None, sym, refl, subst}
use Rattle.std.specs.Prelude.{IfSome, IsOk, IsSomeAnd, MatchOption, slice_get}
use Rattle.std.proofs.lemmas.Slice.Zip.{AllZip-left}
use Rattle.elf_base.specs.FileHeader.{header_of}
use Rattle.elf_linking.specs.declared.object.DynamicObject.{DynamicObject}
use Rattle.elfbind.specs.Files.{AreAccepted}
use Rattle.elf_linking.specs.DynamicObject.{IsObjectOfBytes}
use Rattle.linking_programs.specs.Files.{AreObjectsOf}
use Rattle.linking_programs.specs.declared.Input.{Input}

-- inputs with objects are accepted
pub accepted_by : {E : Type 0} {r : _} (class size : ℕ) (inputs : List Input) (objects : List (DynamicObject E r)) → AreObjectsOf class size inputs objects → AreAccepted inputs
accepted_by {E} {r} class size inputs objects all i = go (slice_get inputs i) (AllZip-left (λ (input : Input) object. IsObjectOfBytes class size input.bytes.items object) inputs objects all i)
  where
    with_object : (input : Input) (found : Option (DynamicObject E r)) → IsSomeAnd found (IsObjectOfBytes class size input.bytes.items) → IsOk (header_of input.bytes.items)
    with_object input None never = absurd never
    with_object input (Some object) is = subst IsOk (sym is.file_is.1) refl

    go : (found : Option Input) → MatchOption found (Unit {0}) (λ input. IsSomeAnd (slice_get objects i) (IsObjectOfBytes class size input.bytes.items)) → IfSome found (λ input. IsOk (header_of input.bytes.items))
    go None none = tt
    go (Some input) is = with_object input (slice_get objects i) is
