-- Objects by their indices, and why a program stops at one.
use Rattle.std.proofs.Common.{◌≡◌, ◌<◌, ℕ, List, get_or, length, take, Result, Ok, Err, refl, sym, subst}
use Rattle.std.specs.Borrow.{Bor}
use Rattle.std.specs.Prelude.{IfErr, IsOkAnd, IsSomeAnd, MatchResult, slice_get, ⊤}
use Rattle.std.proofs.lemmas.Option.{slice_get_read}
use Rattle.elf_base.specs.FileHeader.{header_of}
use Rattle.elf_linking.specs.DynamicObject.{IsObjectErrorOf}
use Rattle.elf_linking.specs.declared.error.LinkError.{LinkError}
use Rattle.elf_linking.specs.declared.object.DynamicObject.{DynamicObject}
use Rattle.linking_programs.specs.Files.{AreObjectsOf, IsInputError, OfHeader}
use Rattle.linking_programs.specs.declared.Input.{Input}
use Rattle.linking_programs.specs.declared.Failed as reasons
use Rattle.program_ends.proofs.Ends.{stop_so}
use Rattle.program_ends.specs.Stops.{IsStop}
use Rattle.program_ends.specs.declared.Stop.{Stop}
use Rattle.program_ends.specs.declared.Stop.TheVariants.{Failed}
use Rattle.xmas_elf.specs.Types.{ElfError, ElfFile, Header}

-- what holds of a file holds of its input
pub of_header : (P : ElfFile → Type 0) (input : Bor (List ℕ)) (file : ElfFile) → file.input ≡ input → header_of input.now ≡ Ok file.header → P file → OfHeader input P
of_header P input file same header holds =
    subst (λ (r : Result Header ElfError). IsOkAnd r (λ h. P (record { input = input; header = h }))) (sym header)
    (subst (λ (i : Bor (List ℕ)). P (record { input = i; header = file.header })) same holds)

-- a property of what is read at an index
pub at_index : {A : Type 0} (P : A → Type 0) (items : List A) (index : ℕ) (item : A) → index < length items → item ≡ get_or items index item → P item → IsSomeAnd (slice_get items index) P
at_index P items index item below is holds =
    subst (λ found. IsSomeAnd found P) (sym (slice_get_read items (length items) index item refl below is)) holds

-- the reason of a result, where that implies another
pub if_err_so : {A E : Type 0} (Was : A → Type 0) (WasFailed IsFailed : E → Type 0) (WasWritten IsWritten WasShort IsShort : Type 0) (result : Result A (Stop E)) → ((error : E) → WasFailed error → IsFailed error) → (WasWritten → IsWritten) → (WasShort → IsShort)
    → MatchResult result Was (IsStop WasFailed WasWritten WasShort) → IfErr result (IsStop IsFailed IsWritten IsShort)
if_err_so Was WasFailed IsFailed WasWritten IsWritten WasShort IsShort (Ok value) failed written short is = tt
if_err_so Was WasFailed IsFailed WasWritten IsWritten WasShort IsShort (Err stop) failed written short why = stop_so _ _ _ _ _ _ stop failed written short why

pub input_stops : {E : Type 0} (r : _) (class size : ℕ) (inputs : List Input) (index : ℕ) (input : Input) (objects : List (DynamicObject E r)) (error : LinkError) (stop : Stop (reasons.Failed LinkError)) → index < length inputs → input ≡ get_or inputs index input → AreObjectsOf class size (take index inputs) objects → IsObjectErrorOf class size input.bytes.items error
    → stop ≡ Failed (record { path = input.path; error = error }) → IsStop (IsInputError {E = E} r class size inputs) ⊥ ⊤ stop
input_stops {E} r class size inputs index input objects error stop below is earlier why stop_is =
    subst (IsStop (IsInputError {E = E} r class size inputs) ⊥ ⊤) (sym stop_is) (record {
      index = index;
      input = input;
      input_is = slice_get_read inputs (length inputs) index input refl below is;
      objects = objects;
      objects_are = earlier;
      path_is = refl;
      error_is = why;
    })
