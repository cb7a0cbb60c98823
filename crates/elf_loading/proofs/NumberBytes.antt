-- The bytes of numbers, and the ends of pages.
use Rattle.std.proofs.Common.{◌≡◌, ℕ, zero, suc, ◌+◌, ◌-◌, ◌*◌, ◌/◌, ◌%◌, ◌^◌, ◌<◌, ◌≤◌, ◌&&◌, nat_le, nat_lt, inl, inr, Bool, true, false, List, length, slice_index, if◌then◌else◌, refl, sym, ap, ◌∙◌, arith}
use Rattle.std.proofs.lemmas.Bool.{cases_lt, le-leb, le-ltb, lt-leb, lt-ltb}
use Rattle.std.specs.Int.{w64, byte_at, bytes_high_first, bytes_low_first, to_be_bytes, to_le_bytes}
use Rattle.std.proofs.Math.Nat.{div-eq_of_lt}
use Rattle.std.proofs.Math.Pow.{pow_mono}
use Rattle.std.proofs.lemmas.Nat.{pow-add}
use Rattle.elf_base.specs.declared.bytes.Order.{Order}
use Rattle.elf_base.specs.declared.bytes.Order.TheVariants.{Big, Little}
use Rattle.elf_loading.specs.Relocate.{byte_of_number}

-- a number of 64 bits has 8 bytes
pub no_byte : (number skipped : ℕ) → number < 2 ^ 64 → 8 ≤ skipped → number / 2 ^ (8 * skipped) % 256 ≡ 0
no_byte number skipped below past =
    let bits : 64 ≤ 8 * skipped = omega (arith, past) in
    let more : 2 ^ 64 ≤ 2 ^ (8 * skipped) = pow_mono {i = 64} {j = 8 * skipped} bits in
    let none : number / 2 ^ (8 * skipped) ≡ 0 = div-eq_of_lt (omega (arith, below, more)) in
    rw none refl

-- byte i of a number
byte_is : (i number : ℕ) → byte_at i number ≡ number / 2 ^ (8 * i) % 256
byte_is zero number = omega arith
byte_is (suc i) number = ap (λ p. number / p % 256) (power (suc i))
  where
    power : (k : ℕ) → 256 ^ k ≡ 2 ^ (8 * k)
    power zero = refl
    power (suc k) =
        let one : suc k ≡ 1 + k = omega arith in
        let eight : 8 + 8 * k ≡ 8 * suc k = omega arith in
        ap (λ n. 256 ^ n) one ∙ pow-add 256 1 k ∙ ap (λ n. 256 * n) (power k) ∙ sym (pow-add 2 8 (8 * k)) ∙ ap (λ n. 2 ^ n) eight

low_at : (first count number j : ℕ) → j < count → slice_index (bytes_low_first first count number) j ≡ byte_at (first + j) number
low_at first zero number j below = absurd (omega (arith, below))
low_at first (suc count) number zero below = let at : first ≡ first + 0 = omega arith in ap (λ i. byte_at i number) at
low_at first (suc count) number (suc j) below =
    let at : suc first + j ≡ first + suc j = omega arith in
    low_at (suc first) count number j (omega (arith, below)) ∙ ap (λ i. byte_at i number) at

high_at : (count number j : ℕ) → j < count → slice_index (bytes_high_first count number) j ≡ byte_at (count - 1 - j) number
high_at zero number j below = absurd (omega (arith, below))
high_at (suc count) number zero below = let at : count ≡ suc count - 1 - 0 = omega arith in ap (λ i. byte_at i number) at
high_at (suc count) number (suc j) below =
    let at : count - 1 - j ≡ suc count - 1 - suc j = omega (arith, below) in
    high_at count number j (omega (arith, below)) ∙ ap (λ i. byte_at i number) at

-- the bytes of a number of 64 bits, the lowest first or the highest
pub low_first : (order : Order) (width number j : ℕ) (bytes : List ℕ) → order ≡ Little → bytes ≡ to_le_bytes w64 number → j < 8
    → slice_index bytes j ≡ byte_of_number order width number j
low_first order width number j bytes is are below =
    let at : 0 + j ≡ j = omega arith in
    rw (is, are) (low_at 0 8 number j below ∙ ap (λ i. byte_at i number) at ∙ byte_is j number)

pub high_first : (order : Order) (width number j : ℕ) (bytes : List ℕ) → order ≡ Big → width ≡ 8 → bytes ≡ to_be_bytes w64 number → j < 8
    → slice_index bytes j ≡ byte_of_number order width number j
high_first order width number j bytes is wide are below = rw (is, wide, are) (high_at 8 number j below ∙ byte_is (8 - 1 - j) number)

-- such a number is written at once
module _ (index i old : ℕ) (bytes : List ℕ) (byte : ℕ → ℕ) where
  pub at_once : (width : ℕ) → width ≡ 8 → length bytes ≡ 8 → ((j : ℕ) → j < 8 → slice_index bytes j ≡ byte j)
      → (if nat_le index i && nat_lt i (index + length bytes) then slice_index bytes (i - index) else old)
      ≡ (if nat_le index i && nat_lt i (index + width) then byte (i - index) else old)
  at_once width wide long each = rw (wide, long) (elim (cases_lt i index) [
    | inl less ↦ (let from : nat_le index i ≡ false = lt-leb index i less in rw from refl)
    | inr more ↦ elim (cases_lt i (index + 8)) [
      | inl less ↦ (
          let from : nat_le index i ≡ true = le-leb index i more in
          let to : nat_lt i (index + 8) ≡ true = lt-ltb i (index + 8) less in
          rw (from, to) (each (i - index) (omega (arith, less, more))))
      | inr past ↦ (let to : nat_lt i (index + 8) ≡ false = le-ltb i (index + 8) past in by_second (nat_le index i) (nat_lt i (index + 8)) to)
    ]
  ])
    where
      by_second : (b c : Bool) → c ≡ false → (if b && c then slice_index bytes (i - index) else old) ≡ (if b && c then byte (i - index) else old)
      by_second true c is = rw is refl
      by_second false c is = refl
