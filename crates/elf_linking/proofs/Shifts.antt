-- Hash numbers shifted to the right, and their remainders by powers of two.
use Rattle.std.proofs.Common.{◌≡◌, ◌<◌, ◌≤◌, ◌-◌, ◌/◌, ◌%◌, ◌^◌, ℕ, zero, suc, arith, bit_and, count_ones, refl, subst, sym}
use Rattle.std.proofs.Math.Nat.{div-eq_of_lt}
use Rattle.std.proofs.Math.Pow.{pow_mono}
use Rattle.std.proofs.lemmas.Nat.{and_mask, ones_le_self, zero_from_ones}
use lib.Count.{ones_step}
use native.Mathlib.Nat.{pow-suc}

-- a 32-bit number shifted to the right by 32 bits or more is 0
pub shifted_out : (a k : ℕ) → a < 2 ^ 32 → 32 ≤ k → a / 2 ^ k ≡ 0
shifted_out a k below many =
    let least : 2 ^ 32 ≤ 2 ^ k = pow_mono {i = 32} {j = k} many in
    let under : a < 2 ^ k = omega arith in
    div-eq_of_lt under

half_power : (d n r : ℕ) → n % 2 ≡ r → n ≤ suc d → count_ones n ≡ 1 → ((m : ℕ) → m ≤ d → count_ones m ≡ 1 → (k : ℕ) × (m ≡ 2 ^ k)) → (k : ℕ) × (n ≡ 2 ^ k)
half_power d n zero is h e below = let s = ones_step n in let half = below (n / 2) (omega arith) (omega arith) in
    (suc half.0, omega (arith, half.1, pow-suc 2 half.0))
half_power d n (suc r) is h e below = let s = ones_step n in let none = zero_from_ones (n / 2) (omega arith) in (0, omega arith)

power_below : (d n : ℕ) → n ≤ d → count_ones n ≡ 1 → (k : ℕ) × (n ≡ 2 ^ k)
power_below zero n h e = absurd (omega (arith, ones_le_self n))
power_below (suc d) n h e = half_power d n (n % 2) refl h e (power_below d)

-- a number less one is a mask for the remainder by it, if one bit of it is set
pub masked : (number n : ℕ) → count_ones n ≡ 1 → bit_and number (n - 1) ≡ number % n
masked number n one = let power = power_below n n (omega arith) one in
    subst (λ m. bit_and number (m - 1) ≡ number % m) (sym power.1) (and_mask number power.0)

pub some_bit : (n : ℕ) → count_ones n ≡ 1 → 1 ≤ n
some_bit n one = omega (arith, ones_le_self n)
