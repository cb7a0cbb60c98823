-- Remainders of a division by the generator, several bits at a time.
use Rattle.std.proofs.Common.{◌≡◌, ℕ, zero, suc, ◌+◌, ◌*◌, ◌/◌, ◌%◌, ◌^◌, ◌-◌, ◌<◌, ◌≤◌, ◌⊎◌, ◌==◌, ◌&&◌, Bool, true, false, inl, inr, List, bit_and, bit_xor, if◌then◌else◌, refl, ap, sym, ◌∙◌, arith, eq-zero-or-pos, pow-suc, mul_assoc, mod-lt, pow_pos, zero-mul, zero-add, add-zero, add-one, length, drop, drop-cons, slice_index}
use Rattle.std.proofs.lemmas.Bool.{eqb-true}
use Rattle.std.proofs.lemmas.List.{drop_all}
use Rattle.std.specs.Int.Bits.{xor_assoc, xor_self, xor_zero_r}
use Rattle.std.proofs.lemmas.Nat.{and_mask, shr_split, xor_block, xor_comm, xor_mod, xor_shr}
use Rattle.elf_debug.specs.Crc.{after_bit, after_bits, bits_of, generator, message_bits, table_entry, times_x}
use Rattle.elf_debug.specs.declared.crc.TheConstants.{TABLE}

digit_of : (n : ℕ) → (n % 2 ≡ 0) ⊎ (n % 2 ≡ 1)
digit_of n = elim (eq-zero-or-pos (n % 2)) [ inl z ↦ inl z | inr p ↦ inr (omega (arith, p)) ]

-- the remainder before a subtraction, and whether there is one
abbrev reduced : ℕ → ℕ → ℕ
reduced digit half = if digit == 1 then bit_xor half generator else half

times_reduced : (r : ℕ) → times_x r ≡ reduced (r % 2) (r / 2)
unfolding times_x
times_reduced r = refl

swapped : (h k g : ℕ) → bit_xor (bit_xor h k) g ≡ bit_xor (bit_xor h g) k
swapped h k g = xor_assoc h k g ∙ ap (bit_xor h) (xor_comm k g) ∙ sym (xor_assoc h g k)

twice : (h k g : ℕ) → bit_xor (bit_xor h g) (bit_xor k g) ≡ bit_xor h k
twice h k g = xor_assoc h g (bit_xor k g) ∙ ap (bit_xor h) (ap (bit_xor g) (xor_comm k g) ∙ sym (xor_assoc g g k) ∙ ap (λ n. bit_xor n k) (xor_self g))

digits_linear : (d e h k : ℕ) → (d ≡ 0) ⊎ (d ≡ 1) → (e ≡ 0) ⊎ (e ≡ 1) → reduced (bit_xor d e) (bit_xor h k) ≡ bit_xor (reduced d h) (reduced e k)
digits_linear d e h k (inl zd) (inl ze) = rw (zd, ze) refl
digits_linear d e h k (inl zd) (inr oe) = rw (zd, oe) (xor_assoc h k generator)
digits_linear d e h k (inr od) (inl ze) = rw (od, ze) (swapped h k generator)
digits_linear d e h k (inr od) (inr oe) = rw (od, oe) (sym (twice h k generator))

-- a sum of polynomials times x
linear : (a b : ℕ) → times_x (bit_xor a b) ≡ bit_xor (times_x a) (times_x b)
linear a b =
    let parts : reduced (bit_xor a b % 2) (bit_xor a b / 2) ≡ reduced (bit_xor (a % 2) (b % 2)) (bit_xor (a / 2) (b / 2)) =
    ap (λ d. reduced d (bit_xor a b / 2)) (xor_mod a b 1) ∙ ap (reduced (bit_xor (a % 2) (b % 2))) (xor_shr a b 1) in
    times_reduced (bit_xor a b) ∙ parts ∙ digits_linear (a % 2) (b % 2) (a / 2) (b / 2) (digit_of a) (digit_of b)
    ∙ ap (λ n. bit_xor n (reduced (b % 2) (b / 2))) (sym (times_reduced a)) ∙ ap (bit_xor (times_x a)) (sym (times_reduced b))

times_double : (m : ℕ) → times_x (m * 2) ≡ m
times_double m =
    let even : m * 2 % 2 ≡ 0 = omega arith in
    let half : m * 2 / 2 ≡ m = omega arith in
    times_reduced (m * 2) ∙ ap (λ d. reduced d (m * 2 / 2)) even ∙ half

-- times x, so many times
times : ℕ → ℕ → ℕ
times zero r = r
times (suc n) r = times n (times_x r)

times_linear : (n a b : ℕ) → times n (bit_xor a b) ≡ bit_xor (times n a) (times n b)
unfolding times
times_linear zero a b = refl
times_linear (suc n) a b = ap (times n) (linear a b) ∙ times_linear n (times_x a) (times_x b)

times_shifted : (n h : ℕ) → times n (h * 2 ^ n) ≡ h
unfolding times
times_shifted zero h = omega arith
times_shifted (suc n) h =
    let shape : h * 2 ^ suc n ≡ h * 2 ^ n * 2 = ap (λ p. h * p) (pow-suc 2 n) ∙ sym (mul_assoc h (2 ^ n) 2) in
    ap (λ m. times n (times_x m)) shape ∙ ap (times n) (times_double (h * 2 ^ n)) ∙ times_shifted n h

-- a number as its lowest bits and the others
split : (k y : ℕ) → bit_xor (y % 2 ^ k) (y / 2 ^ k * 2 ^ k) ≡ y
split k y =
    let block = xor_block k 0 (y / 2 ^ k) (y % 2 ^ k) 0 (mod-lt y (pow_pos k)) (pow_pos k) in
    let first : 0 * 2 ^ k + y % 2 ^ k ≡ y % 2 ^ k = ap (λ n. n + y % 2 ^ k) (zero-mul (2 ^ k)) ∙ zero-add (y % 2 ^ k) in
    let second : y / 2 ^ k * 2 ^ k + 0 ≡ y / 2 ^ k * 2 ^ k = add-zero (y / 2 ^ k * 2 ^ k) in
    sym (ap (λ n. bit_xor n (y / 2 ^ k * 2 ^ k + 0)) first ∙ ap (bit_xor (y % 2 ^ k)) second) ∙ block
    ∙ ap (λ n. y / 2 ^ k * 2 ^ k + n) (xor_zero_r (y % 2 ^ k)) ∙ shr_split y k

-- one bit of a number, and the others later
one_bit : (r b : ℕ) → times_x (bit_xor r b) ≡ bit_xor (times_x (bit_xor r (b % 2))) (b / 2)
one_bit r b =
    ap (λ n. times_x (bit_xor r n)) (sym (split 1 b)) ∙ ap times_x (sym (xor_assoc r (b % 2) (b / 2 * 2)))
    ∙ linear (bit_xor r (b % 2)) (b / 2 * 2) ∙ ap (bit_xor (times_x (bit_xor r (b % 2)))) (times_double (b / 2))

halved : (n b : ℕ) → b < 2 ^ suc n → b / 2 < 2 ^ n
halved n b below = let power : 2 ^ suc n ≡ 2 ^ n * 2 = pow-suc 2 n in omega (arith, power, below)

-- the bits of a number one after the other are the number at once
at_once : (n r b : ℕ) → b < 2 ^ n → after_bits r (bits_of n b) ≡ times n (bit_xor r b)
unfolding times
at_once zero r b below = let none : b ≡ 0 = omega (arith, below) in sym (ap (bit_xor r) none ∙ xor_zero_r r)
at_once (suc n) r b below =
    at_once n (after_bit r (b % 2)) (b / 2) (halved n b below) ∙ ap (times n) (sym (one_bit r b))

-- the lowest bits by themselves, and the others shifted
apart : (n y : ℕ) → times n y ≡ bit_xor (times n (y % 2 ^ n)) (y / 2 ^ n)
apart n y =
    ap (times n) (sym (split n y)) ∙ times_linear n (y % 2 ^ n) (y / 2 ^ n * 2 ^ n)
    ∙ ap (bit_xor (times n (y % 2 ^ n))) (times_shifted n (y / 2 ^ n))

-- a byte by the remainder of the lowest byte of its sum with a remainder
pub by_table : (r b entry : ℕ) → b < 2 ^ 8 → entry ≡ table_entry (bit_and (bit_xor r b) 0xff) → bit_xor entry (bit_xor r b / 2 ^ 8) ≡ after_bits r (bits_of 8 b)
by_table r b entry below is =
    let mixed = bit_xor r b in
    let low = mixed % 2 ^ 8 in
    let same : entry ≡ times 8 low = is ∙ ap table_entry (and_mask mixed 8) ∙ at_once 8 0 low (mod-lt mixed (pow_pos 8)) in
    ap (λ n. bit_xor n (mixed / 2 ^ 8)) same ∙ sym (apart 8 mixed) ∙ sym (at_once 8 r b below)

abbrev all_below : (ℕ → Bool) → ℕ → Bool
all_below p zero = true
all_below p (suc n) = p n && all_below p n

every_below : (p : ℕ → Bool) (n : ℕ) → all_below p n ≡ true → (i : ℕ) → i < n → p i ≡ true
every_below p zero all i below = absurd (omega (arith, below))
every_below p (suc n) all i below = by_first (p n) refl (λ rest less. every_below p n rest i less) all
  where
    by_first : (b : Bool) → p n ≡ b → (all_below p n ≡ true → i < n → p i ≡ true) → (b && all_below p n) ≡ true → p i ≡ true
    by_first true is later rest = elim (eq-zero-or-pos (n - i)) [
      | inl z ↦ let same : n ≡ i = omega (arith, below, z) in ap p (sym same) ∙ is
      | inr g ↦ later rest (omega (arith, g))
    ]
    by_first false is later rest = cc

-- each entry of the table is computed
pub table_is : (i : ℕ) → i < 256 → slice_index TABLE i ≡ table_entry i
unfolding times_x
table_is i below = eqb-true (slice_index TABLE i) (table_entry i) (every_below (λ n. slice_index TABLE n == table_entry n) 256 refl i below)

-- the bits of a message from a byte on
pub left_step : (bytes : List ℕ) (i r : ℕ) → i < length bytes → after_bits r (message_bits (drop i bytes)) ≡ after_bits (after_bits r (bits_of 8 (slice_index bytes i))) (message_bits (drop (i + 1) bytes))
left_step bytes i r below = ap (λ rest. after_bits r (message_bits rest)) (drop-cons bytes i 0 below) ∙ ap (λ n. after_bits (after_bits r (bits_of 8 (slice_index bytes i))) (message_bits (drop n bytes))) (sym (add-one i))

pub left_end : (bytes : List ℕ) (i r : ℕ) → length bytes ≤ i → after_bits r (message_bits (drop i bytes)) ≡ r
left_end bytes i r past = rw (drop_all i bytes past) refl
