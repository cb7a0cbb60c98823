-- The runs of a file by the kinds of their parts.
use Rattle.std.proofs.Common.{◌≡◌, ℕ, ◌+◌, ◌<◌, ◌/◌, ◌%◌, ◌==◌, Bool, true, false, List, [], ◌∷◌, ◌++◌, length, get_or, take, map, min, if◌then◌else◌, Result, Ok, Err, refl, ap, subst, sym, ◌∙◌, arith}
use Rattle.std.specs.List.{All}
use Rattle.std.proofs.Math.Nat.{min-le_right}
use Rattle.std.proofs.lemmas.List.{map_more}
use Rattle.std.proofs.lemmas.List.Elements.{All-map}
use Rattle.std.proofs.lemmas.List.Sums.{sum_by-cons}
use Rattle.std.specs.Borrow.{Bor}
use Rattle.std.specs.Prelude.{IfOk}
use Rattle.elf_base.specs.FileHeader.{header_of}
use Rattle.elfsize.specs.Parts.{AreRuns}
use Rattle.elfsize.specs.Sums.{AreInputSums, AreSums, kind_run, sums_of}
use Rattle.elfsize.specs.Totals.{AreTotals, all_bytes}
use Rattle.elfsize.specs.declared.sums.Sums.{Sums}
use Rattle.elfsize.specs.declared.totals.Run.{Run}
use Rattle.xmas_elf.specs.Types.{ElfError, ElfFile, Header}

small_kind : (one three : Bool) (index : ℕ) → (if one then 1 else (if three then 2 + min index 4 else 0)) < 7
small_kind true three index = omega arith
small_kind false true index = let most = min-le_right index 4 in omega (arith, most)
small_kind false false index = omega arith

-- there are seven kinds
pub kinds_small : (runs : List Run) → All (λ (run : Run). run.part < 7) (map kind_run runs)
kinds_small runs =
    All-map (λ (run : Run). run.part < 7) kind_run runs
    (λ k d less. let run = get_or runs k d in small_kind (run.part % 4 == 1) (run.part % 4 == 3) (run.part / 4))

-- the bytes are the same
pub kinds_bytes : (runs : List Run) → all_bytes (map kind_run runs) ≡ all_bytes runs
kinds_bytes [] = refl
kinds_bytes (run ∷ runs) =
    sum_by-cons (λ (one : Run). one.size) (kind_run run) (map kind_run runs)
    ∙ (ap (λ n. run.size + n) (kinds_bytes runs) ∙ sym (sum_by-cons (λ (one : Run). one.size) run runs))

pub one_more_kind : (runs : List Run) (index : ℕ) (item : Run) → index < length runs → item ≡ get_or runs index item → map kind_run (take index runs) ++ (kind_run item ∷ []) ≡ map kind_run (take (index + 1) runs)
one_more_kind runs index item below is =
    ap (λ (one : Run). map kind_run (take index runs) ++ (kind_run one ∷ [])) is ∙ sym (map_more kind_run runs index item below)

-- the sums of a file by the totals of its runs
pub sums_are : (file : ElfFile) (runs seen : List Run) (totals shown : List ℕ) (sums : Sums) → AreRuns file runs → seen ≡ runs → AreTotals (map kind_run seen) totals → shown ≡ totals → sums ≡ sums_of shown → AreSums file sums
sums_are file runs seen totals shown sums are see total show is =
    (runs, totals, are, subst (λ (l : List Run). AreTotals (map kind_run l) totals) see total, subst (λ (t : List ℕ). sums ≡ sums_of t) show is)

-- the sums of an input are those of its file
pub input_sums_are : {E : Type 0} (input : Bor (List ℕ)) (file : ElfFile) (result : Result Sums E) → file.input ≡ input → header_of input.now ≡ Ok file.header → IfOk result (AreSums file) → IfOk result (λ sums. AreInputSums input sums)
input_sums_are input file (Ok sums) same header are =
    subst (λ (r : Result Header ElfError). IfOk r (λ h. AreSums (record { input = input; header = h }) sums)) (sym header)
    (subst (λ (i : Bor (List ℕ)). AreSums (record { input = i; header = file.header }) sums) same are)
input_sums_are input file (Err error) same header are = tt

-- an input without a header may have any
pub no_input_sums : (input : Bor (List ℕ)) (error : ElfError) (sums : Sums) → header_of input.now ≡ Err error → AreInputSums input sums
no_input_sums input error sums header =
    subst (λ (r : Result Header ElfError). IfOk r (λ h. AreSums (record { input = input; header = h }) sums)) (sym header) tt
