-- The status for one file more.
use Rattle.std.proofs.Common.{◌≡◌, ◌≢◌, ◌<◌, ◌+◌, ℕ, List, Result, Ok, Err, ap, ◌∙◌, arith, below_more, get_or, length, refl, subst, sym}
use Rattle.std.specs.Borrow.{Bor}
use Rattle.std.specs.Prelude.{IfSome, slice_get}
use Rattle.std.proofs.lemmas.Option.{slice_get_read}
use Rattle.elf_base.specs.FileHeader.{header_of}
use Rattle.elfload.specs.Plans.{header_limit}
use Rattle.elfload.specs.Types.{ElfFile, Fault, Input, Loader}
use Rattle.elfload.specs.Verdicts.{AreMapped, HasVerdict, IsStatus, IsVerdictEnd, failed, mapped, verdict_of, verdict_within}
use Rattle.elfload.specs.declared.plans.AnyError.{AnyError}
use Rattle.linking_programs.proofs.Objects.{at_index}
use Rattle.program_ends.specs.Ends.{status_of}
use Rattle.program_ends.specs.declared.TheConstants.{CLOSED}

module _ (by : Loader) (page : ℕ) where
  pub verdict_read : (bytes : Bor (List ℕ)) (file : ElfFile) (result : Result (Unit {0}) AnyError) → file.input ≡ bytes → header_of bytes.now ≡ Ok file.header → result ≡ verdict_within by page file (header_limit file.header) → HasVerdict by page bytes.now result
  verdict_read bytes file result same header is = (
    file.input,
    ap (λ (lent : Bor (List ℕ)). lent.now) same,
    is ∙ ap (verdict_of by page file.input) (sym (ap (λ (lent : Bor (List ℕ)). header_of lent.now) same ∙ header)),
  )

  module _ (inputs : List Input) (index : ℕ) where
    -- the status for all inputs
    pub whole : (status : ℕ) → ((i : ℕ) → i < length inputs → i < index) → IsStatus by page inputs index status → IsStatus by page inputs (length inputs) status
    whole status within (mapped before) = mapped (λ i below. before i (within i below))
    whole status within (failed i fault before own) = failed i fault before own

    -- it isn't that of a closed output
    pub status_open : (status : ℕ) → IsStatus by page inputs index status → status ≡ CLOSED → ⊥
    status_open status (mapped before) is = let never : 0 ≡ 141 = is in omega (arith, never)
    status_open status (failed i fault before at) is = let never : 1 ≡ 141 = is in omega (arith, never)

    module _ (input : Input) (below : index < length inputs) (input_is : input ≡ get_or inputs index input) where
      after : (end : Result (Unit {0}) (Fault AnyError)) → IsVerdictEnd by page input.path input.bytes.items end → AreMapped by page inputs index → IsStatus by page inputs (index + 1) (status_of end)
      after (Ok done) own before = mapped (below_more (λ i. IfSome (slice_get inputs i) (λ (one : Input). HasVerdict by page one.bytes.items (Ok tt))) index before
          (subst (λ found. IfSome found (λ (one : Input). HasVerdict by page one.bytes.items (Ok tt))) (sym (slice_get_read inputs (length inputs) index input refl below input_is)) own))
      after (Err fault) own before = failed index fault before (at_index (λ (one : Input). IsVerdictEnd by page one.path one.bytes.items (Err fault)) inputs index input below input_is own)

      -- the status with one more input
      pub one_more : (bytes : List ℕ) (end : Result (Unit {0}) (Fault AnyError)) (status next : ℕ) → bytes ≡ input.bytes.items → IsVerdictEnd by page input.path bytes end
          → (status ≡ 0 → next ≡ status_of end) → (status ≢ 0 → next ≡ status) → IsStatus by page inputs index status → IsStatus by page inputs (index + 1) next
      one_more bytes end status next same own none kept (mapped before) =
          subst (IsStatus by page inputs (index + 1)) (sym (none refl)) (after end (subst (λ b. IsVerdictEnd by page input.path b end) same own) before)
      one_more bytes end status next same own none kept (failed i fault before at) =
          subst (IsStatus by page inputs (index + 1)) (sym (kept (λ is. absurd (omega (arith, is))))) (failed i fault before at)
