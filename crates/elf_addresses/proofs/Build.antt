-- The parts of words that an index is built in.
use Rattle.std.proofs.Common.{◌≡◌, ℕ, ◌+◌, false, true, List, ◌++◌, length, take, drop, Option, ap, subst, sym, ◌∙◌, arith}
use Rattle.std.proofs.Math.Seq.{drop-append-add, drop-append_seam, take-append_seam}
use Rattle.elf_addresses.specs.Index.{AreLasting, AreRanges, IsBuilt, IsWorstFirst, listed}
use Rattle.elf_addresses.specs.declared.claim.Claim.{Claim}

front_of : (a rest : List ℕ) (m : ℕ) → length a ≡ m → take m (a ++ rest) ≡ a
front_of a rest m same = subst (λ k. take k (a ++ rest) ≡ a) same (take-append_seam a rest)

back_of : (a rest : List ℕ) (m : ℕ) → length a ≡ m → drop m (a ++ rest) ≡ rest
back_of a rest m same = subst (λ k. drop k (a ++ rest) ≡ rest) same (drop-append_seam a rest)

-- what is behind the three parts of words, and the two of numbers
behind_three : (a b c d : List ℕ) (m n : ℕ) → length a ≡ m → length b ≡ m → length c ≡ n → drop (m + m + n) (a ++ (b ++ (c ++ d))) ≡ d
behind_three a b c d m n la lb lc =
    let parts : m + m + n ≡ length a + (length b + length c) = omega (arith, la, lb, lc) in
    ap (λ k. drop k (a ++ (b ++ (c ++ d)))) parts ∙ drop-append-add a (b ++ (c ++ d)) (length b + length c) ∙ drop-append-add b (c ++ d) (length c) ∙ drop-append_seam c d

behind_two : (a b d : List ℕ) (m : ℕ) → length a ≡ m → length b ≡ m → drop (m + m) (a ++ (b ++ d)) ≡ d
behind_two a b d m la lb =
    let parts : m + m ≡ length a + length b = omega (arith, la, lb) in
    ap (λ k. drop k (a ++ (b ++ d))) parts ∙ drop-append-add a (b ++ d) (length b) ∙ drop-append_seam b d

-- other parts of the same lengths leave the rest
pub words_kept : (m n : ℕ) (a b c d a' b' c' new old : List ℕ) → new ≡ a ++ (b ++ (c ++ d)) → old ≡ a' ++ (b' ++ (c' ++ d)) → length a ≡ m → length b ≡ m → length c ≡ n → length a' ≡ m → length b' ≡ m → length c' ≡ n → drop (m + m + n) new ≡ drop (m + m + n) old
words_kept m n a b c d a' b' c' new old is was la lb lc la' lb' lc' =
    ap (λ xs. drop (m + m + n) xs) is ∙ behind_three a b c d m n la lb lc ∙ sym (ap (λ xs. drop (m + m + n) xs) was ∙ behind_three a' b' c' d m n la' lb' lc')

pub numbers_kept : (m : ℕ) (a b d a' b' new old : List ℕ) → new ≡ a ++ (b ++ d) → old ≡ a' ++ (b' ++ d) → length a ≡ m → length b ≡ m → length a' ≡ m → length b' ≡ m → drop (m + m) new ≡ drop (m + m) old
numbers_kept m a b d a' b' new old is was la lb la' lb' =
    ap (λ xs. drop (m + m) xs) is ∙ behind_two a b d m la lb ∙ sym (ap (λ xs. drop (m + m) xs) was ∙ behind_two a' b' d m la' lb')

pub built : (claim_of : ℕ → Option Claim) (range_of : ℕ → ℕ × ℕ) (count : ℕ) (a b c d words e f h numbers : List ℕ) → words ≡ a ++ (b ++ (c ++ d)) → numbers ≡ e ++ (f ++ h) → length a ≡ length (listed claim_of false count) → length b ≡ length (listed claim_of false count) → length c ≡ length (listed claim_of true count) → length e ≡ length (listed claim_of false count) → length f ≡ length (listed claim_of false count) → IsWorstFirst claim_of false a → AreRanges range_of a e f → AreLasting range_of a b → IsWorstFirst claim_of true c → IsBuilt claim_of range_of count words numbers
built claim_of range_of count a b c d words e f h numbers is are la lb lc le lf order ranges blocks starts =
    let m = length (listed claim_of false count) in
    let n = length (listed claim_of true count) in
    let front : take m words ≡ a = ap (λ xs. take m xs) is ∙ front_of a (b ++ (c ++ d)) m la in
    let rest : drop m words ≡ b ++ (c ++ d) = ap (λ xs. drop m xs) is ∙ back_of a (b ++ (c ++ d)) m la in
    let middle : take m (drop m words) ≡ b = ap (λ xs. take m xs) rest ∙ front_of b (c ++ d) m lb in
    let rest' : drop m (drop m words) ≡ c ++ d = ap (λ xs. drop m xs) rest ∙ back_of b (c ++ d) m lb in
    let last : take n (drop m (drop m words)) ≡ c = ap (λ xs. take n xs) rest' ∙ front_of c d n lc in
    let begins : take m numbers ≡ e = ap (λ xs. take m xs) are ∙ front_of e (f ++ h) m le in
    let others : drop m numbers ≡ f ++ h = ap (λ xs. drop m xs) are ∙ back_of e (f ++ h) m le in
    let sizes : take m (drop m numbers) ≡ f = ap (λ xs. take m xs) others ∙ front_of f h m lf in
    record {
      order = subst (λ xs. IsWorstFirst claim_of false xs) (sym front) order;
      ranges = rw (front, begins, sizes) ranges;
      blocks = subst (λ xs. AreLasting range_of xs (take m (drop m words))) (sym front) (subst (λ xs. AreLasting range_of a xs) (sym middle) blocks);
      rest = subst (λ xs. IsWorstFirst claim_of true xs) (sym last) starts;
    }
