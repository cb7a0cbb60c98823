-- How `number` relates to the numbers of `byteorder`.
use Rattle.std.proofs.Common.{◌≡◌, ℕ, zero, suc, ◌+◌, ◌*◌, ◌^◌, ◌-◌, List, length, length-drop, take, drop, slice_index, refl, sym, ap, ◌∙◌, arith, add-suc, add-zero}
use Rattle.std.proofs.Math.Nat.{pow-succ'}
use Rattle.std.proofs.lemmas.List.{get_or-drop, take_all}
use Rattle.byteorder.specs.Endian.{big_from, little_from}
use Rattle.elf_base.specs.declared.bytes.Order.TheVariants.{Little, Big}
use Rattle.elf_base.specs.Number.{little_sum, big_sum, number}

-- the number that `byteorder` reads in the bytes from a place on is the one that it reads at that place
little_from-drop : (w i a : ℕ) (xs : List ℕ) → little_from i w (drop a xs) ≡ little_from (a + i) w xs
little_from-drop zero i a xs = refl
little_from-drop (suc w) i a xs =
    let ih : little_from (suc i) w (drop a xs) ≡ little_from (suc (a + i)) w xs = little_from-drop w (suc i) a xs ∙ ap (λ n. little_from n w xs) (add-suc a i) in
    rw (get_or-drop a xs i 0, ih) refl

big_from-drop : (w i a : ℕ) (xs : List ℕ) → big_from i w (drop a xs) ≡ big_from (a + i) w xs
big_from-drop zero i a xs = refl
big_from-drop (suc w) i a xs =
    let ih : big_from (suc i) w (drop a xs) ≡ big_from (suc (a + i)) w xs = big_from-drop w (suc i) a xs ∙ ap (λ n. big_from n w xs) (add-suc a i) in
    rw (get_or-drop a xs i 0, ih) refl

-- the sum with its first byte split off
little_sum-first : (w a : ℕ) (xs : List ℕ) → little_sum (suc w) a xs ≡ slice_index xs a + 256 * little_sum w (suc a) xs
unfolding little_sum
little_sum-first zero a xs = rw add-zero (omega arith)
little_sum-first (suc w) a xs =
    let ih = little_sum-first w a xs in
    let same : slice_index xs (a + suc w) ≡ slice_index xs (suc a + w) = ap (slice_index xs) (omega arith) in
    rw (same, pow-succ' 256 w) (omega (arith, ih))

little_sum-from : (w a : ℕ) (xs : List ℕ) → little_sum w a xs ≡ little_from a w xs
unfolding little_sum
little_sum-from zero a xs = refl
little_sum-from (suc w) a xs =
    little_sum-first w a xs ∙ ap (λ n. slice_index xs a + 256 * n) (little_sum-from w (suc a) xs)

big_sum-from : (w a : ℕ) (xs : List ℕ) → big_sum w a xs ≡ big_from a w xs
unfolding big_sum
big_sum-from zero a xs = refl
big_sum-from (suc w) a xs = ap (λ n. slice_index xs a * 256 ^ w + n) (big_sum-from w (suc a) xs)

-- `&xs[a..]` has the bytes from a on
pub rest : (a : ℕ) (xs : List ℕ) → take (length xs - a) (drop a xs) ≡ drop a xs
rest a xs = let h = length-drop a xs in take_all (length xs - a) (drop a xs) (omega arith)

-- what `byteorder` reads in `&xs[a..]` is the number at a
pub number-little : (w a : ℕ) (xs : List ℕ) → little_from 0 w (take (length xs - a) (drop a xs)) ≡ number Little w a xs
unfolding number
number-little w a xs =
    ap (little_from 0 w) (rest a xs) ∙ little_from-drop w 0 a xs
    ∙ ap (λ n. little_from n w xs) (add-zero a) ∙ sym (little_sum-from w a xs)

pub number-big : (w a : ℕ) (xs : List ℕ) → big_from 0 w (take (length xs - a) (drop a xs)) ≡ number Big w a xs
unfolding number
number-big w a xs =
    ap (big_from 0 w) (rest a xs) ∙ big_from-drop w 0 a xs
    ∙ ap (λ n. big_from n w xs) (add-zero a) ∙ sym (big_sum-from w a xs)
