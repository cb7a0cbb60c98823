-- The bytes of a number, read in the order in which they were written, are the number.
use Rattle.std.proofs.Common.{◌≡◌, ℕ, zero, suc, ◌+◌, ◌-◌, ◌*◌, ◌/◌, ◌%◌, ◌^◌, ◌<◌, List, slice_index, refl, sym, ap, ◌∙◌, arith}
use Rattle.std.proofs.Math.Arith.{mod-mul}
use Rattle.std.proofs.Math.Nat.{one-le-pow, pow-succ'}
use Rattle.std.proofs.lemmas.Nat.{pow-add}
use Rattle.elf_base.specs.Number.{big_sum, little_sum, number}
use Rattle.elf_base.specs.declared.bytes.Order.{Order}
use Rattle.elf_base.specs.declared.bytes.Order.TheVariants.{Big, Little}
use Rattle.elf_loading.specs.Relocate.{byte_of_number}

power : (k : ℕ) → 2 ^ (8 * k) ≡ 256 ^ k
power zero = refl
power (suc k) =
    let one : suc k ≡ 1 + k = omega arith in
    let eight : 8 * suc k ≡ 8 + 8 * k = omega arith in
    ap (λ n. 2 ^ n) eight ∙ pow-add 2 8 (8 * k) ∙ ap (λ n. 256 * n) (power k) ∙ sym (pow-add 256 1 k) ∙ ap (λ n. 256 ^ n) (sym one)

-- a number's lowest bytes are those below, and the one at `width`
one_more : (n width : ℕ) → n % 256 ^ width + n / 256 ^ width % 256 * 256 ^ width ≡ n % 256 ^ suc width
one_more n width =
    let some : 0 < 256 ^ width = omega (arith, one-le-pow width 256 (omega arith)) in
    let split : n % (256 * 256 ^ width) ≡ n / 256 ^ width % 256 * 256 ^ width + n % 256 ^ width = mod-mul n {m = 256} {c = 256 ^ width} (omega arith) some in
    rw (pow-succ' 256 width) (omega (arith, split))

module _ (n : ℕ) (bytes : List ℕ) where
  little : (width place : ℕ) → ((j : ℕ) → j < width → slice_index bytes (place + j) ≡ n / 2 ^ (8 * j) % 256) → little_sum width place bytes ≡ n % 256 ^ width
  unfolding little_sum
  little zero place each = omega arith
  little (suc width) place each =
      let rest = little width place (λ j below. each j (omega (arith, below))) in
      let last : slice_index bytes (place + width) ≡ n / 256 ^ width % 256 = each width (omega arith) ∙ ap (λ p. n / p % 256) (power width) in
      rw (rest, last) (one_more n width)

  big : (width place : ℕ) → ((j : ℕ) → j < width → slice_index bytes (place + j) ≡ n / 2 ^ (8 * (width - 1 - j)) % 256) → big_sum width place bytes ≡ n % 256 ^ width
  unfolding big_sum
  big zero place each = omega arith
  big (suc width) place each =
      let rest = big width (suc place) (λ j below.
      ap (slice_index bytes) (next j) ∙ each (suc j) (omega (arith, below)) ∙ ap (λ k. n / 2 ^ (8 * k) % 256) (less j)) in
      let first : slice_index bytes place ≡ n / 256 ^ width % 256 =
      ap (slice_index bytes) start ∙ each 0 (omega arith) ∙ ap (λ k. n / 2 ^ (8 * k) % 256) highest ∙ ap (λ p. n / p % 256) (power width) in
      let sum = one_more n width in
      rw (rest, first) (omega (arith, sum))
    where
      next : (j : ℕ) → suc place + j ≡ place + suc j
      next j = omega arith

      less : (j : ℕ) → suc width - 1 - suc j ≡ width - 1 - j
      less j = omega arith

      start : place ≡ place + 0
      start = omega arith

      highest : suc width - 1 - 0 ≡ width
      highest = omega arith

-- the number that is read in the bytes of a number is the number, modulo 2 to the number of bits
pub number_of_bytes : (order : Order) (n width place : ℕ) (bytes : List ℕ) → ((j : ℕ) → j < width → slice_index bytes (place + j) ≡ byte_of_number order width n j)
    → number order width place bytes ≡ n % 256 ^ width
unfolding number
number_of_bytes Little n width place bytes each = little n bytes width place each
number_of_bytes Big n width place bytes each = big n bytes width place each
