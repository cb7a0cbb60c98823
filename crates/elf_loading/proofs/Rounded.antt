-- Addresses rounded to pages.
use Rattle.std.proofs.Common.{◌≡◌, ℕ, ◌+◌, ◌-◌, ◌*◌, ◌%◌, ◌/◌, ◌^◌, ◌<◌, ◌≤◌, ◌==◌, nat_lt, Bool, true, false, if◌then◌else◌, inl, inr, refl, sym, ap, ◌∙◌, arith}
use Rattle.std.proofs.lemmas.Bool.{cases_lt, eq-eqb, eqb-true, eqb-false, lt-ltb, le-ltb, ne_eqb}
use Rattle.std.proofs.Math.Nat.{div-add-mod, mod-eq_of_lt, mul-add-mod_self_left, mul-le-mul_left, mul-mod_right}
use Rattle.elf_loading.specs.Pages.{down, up}

pub down_le : (p x : ℕ) → down p x ≤ x
unfolding down
down_le p x = omega arith

pub down_near : (p x : ℕ) → 0 < p → x < down p x + p
unfolding down
down_near p x h = let rest : x % p < p = omega arith in omega arith

-- the address is a whole number of pages
whole : (p q : ℕ) → p * q % p ≡ 0
whole p q = mul-mod_right p q

down_is : (p x : ℕ) → 0 < p → down p x ≡ p * (x / p)
unfolding down
down_is p x h = omega arith

pub down_whole : (p x : ℕ) → 0 < p → down p x % p ≡ 0
down_whole p x h = rw (down_is p x h) (whole p (x / p))

down_next : (p x : ℕ) → 0 < p → (x % p ≡ 0 → ⊥) → (x < down p x + p) × (down p x + p < x + p) × ((down p x + p) % p ≡ 0)
unfolding down
down_next p x h rest =
    let near : x % p < p = omega arith in
    let some : 0 < x % p = omega (arith, rest) in
    let most : x % p ≤ x = omega arith in
    let is : x - x % p + p ≡ p * (x / p + 1) = omega arith in
    (omega arith, omega arith, rw is (whole p (x / p + 1)))

up_by : (p x : ℕ) (b : Bool) → 0 < p → (x % p == 0) ≡ b → (let end = if b then x else down p x + p in (x ≤ end) × (end < x + p) × (end % p ≡ 0))
up_by p x true h is = (omega arith, omega arith, eqb-true (x % p) 0 is)
up_by p x false h is =
    let next = down_next p x h (eqb-false (x % p) 0 is) in
    (omega arith, next.1, next.2)

pub up_facts : (p x : ℕ) → 0 < p → (x ≤ up p x) × (up p x < x + p) × (up p x % p ≡ 0)
unfolding up
up_facts p x h = up_by p x (x % p == 0) h refl

pub up_ge : (p x : ℕ) → 0 < p → x ≤ up p x
up_ge p x h = (up_facts p x h).0

pub up_near : (p x : ℕ) → 0 < p → up p x < x + p
up_near p x h = (up_facts p x h).1

pub up_whole : (p x : ℕ) → 0 < p → up p x % p ≡ 0
up_whole p x h = (up_facts p x h).2

-- of two whole numbers of pages that differ by less than a page, the one is not above the other
pub whole_le : (p a b : ℕ) → 0 < p → a % p ≡ 0 → b % p ≡ 0 → a < b + p → a ≤ b
whole_le p a b h a0 b0 near =
    let a-is : a ≡ p * (a / p) = omega arith in
    let b-is : b ≡ p * (b / p) = omega arith in
    elim (cases_lt (b / p) (a / p)) [
      | inl less ↦
          let next : b / p + 1 ≤ a / p = omega arith in
          let more : p * (b / p + 1) ≤ p * (a / p) = mul-le-mul_left p next in
          absurd (omega arith)
      | inr not_less ↦
          let more : p * (a / p) ≤ p * (b / p) = mul-le-mul_left p not_less in
          omega arith
    ]

pub up_mono : (p x y : ℕ) → 0 < p → x ≤ y → up p x ≤ up p y
up_mono p x y h le =
    let near = up_near p x h in
    let above = up_ge p y h in
    whole_le p (up p x) (up p y) h (up_whole p x h) (up_whole p y h) (omega arith)

-- the pages up to an address end at a limit or before it exactly if the address is not after the limit's page
pub up_le : (p x limit : ℕ) → 0 < p → x ≤ down p limit → up p x ≤ limit
up_le p x limit h le =
    let near = up_near p x h in
    let below = down_le p limit in
    let most = whole_le p (up p x) (down p limit) h (up_whole p x h) (down_whole p limit h) (omega arith) in
    omega arith

pub up_gt : (p x limit : ℕ) → 0 < p → down p limit < x → limit < up p x
up_gt p x limit h less =
    let near = down_near p limit h in
    let above = up_ge p x h in
    elim (cases_lt limit (up p x)) [
      | inl past ↦ past
      | inr within ↦
          let most = whole_le p (up p x) (down p limit) h (up_whole p x h) (down_whole p limit h) (omega arith) in
          absurd (omega arith)
    ]

pub past_true : (p limit x : ℕ) → 0 < p → down p limit < x → nat_lt limit (up p x) ≡ true
past_true p limit x h less = lt-ltb limit (up p x) (up_gt p x limit h less)

pub past_false : (p limit x : ℕ) → 0 < p → x ≤ down p limit → nat_lt limit (up p x) ≡ false
past_false p limit x h le = le-ltb limit (up p x) (up_le p x limit h le)

pub file_end_le : (p v f m : ℕ) → 0 < p → f ≤ m → up p (v + f) ≤ up p (v + m)
file_end_le p v f m h le = up_mono p (v + f) (v + m) h (omega arith)

pub up_at : (p x : ℕ) → x % p ≡ 0 → up p x ≡ x
unfolding up
up_at p x is = rw (eq-eqb (x % p) 0 is) refl

pub up_in : (p x : ℕ) → (x % p ≡ 0 → ⊥) → up p x ≡ x - x % p + p
unfolding up down
up_in p x rest = rw (ne_eqb (x % p) 0 rest) refl

-- an address at which a page begins is the last such up to itself
pub up_same : (p x : ℕ) → down p x ≡ x → 0 < p → up p x ≡ x
unfolding down
up_same p x is h = let near : x % p ≤ x = omega arith in up_at p x (omega (arith, is, near))

pub up_next : (p x : ℕ) → (down p x ≡ x → ⊥) → up p x ≡ down p x + p
unfolding up down
up_next p x apart = rw (ne_eqb (x % p) 0 (λ is. apart (omega (arith, is)))) refl

-- with pages of 4096 bytes the end of an address is that of the last byte of its page, rounded down
usual_by : (x : ℕ) (b : Bool) → (x % 4096 == 0) ≡ b → x + 4095 - (x + 4095) % 4096 ≡ (if b then x else down 4096 x + 4096)
unfolding down
usual_by x true is = let whole : x % 4096 ≡ 0 = eqb-true (x % 4096) 0 is in omega arith
usual_by x false is = let rest = eqb-false (x % 4096) 0 is in omega (arith, rest)

pub up_usual : (x : ℕ) → x + 4095 - (x + 4095) % 4096 ≡ up 4096 x
unfolding up
up_usual x = usual_by x (x % 4096 == 0) refl

-- and that byte has an address of 64 bits
pub up_room : (x : ℕ) → up 4096 x < 2 ^ 64 → x + 4095 < 2 ^ 64
up_room x fits =
    let above = up_ge 4096 x (omega arith) in
    let end = up_whole 4096 x (omega arith) in
    omega arith

-- the test for the limit
pub past_all : (p limit x size : ℕ) → 0 < p → down p limit < x → nat_lt limit (up p (x + size)) ≡ true
past_all p limit x size h less = past_true p limit (x + size) h (omega arith)

pub past_is : (p limit x size : ℕ) → 0 < p → x ≤ down p limit → nat_lt (down p limit - x) size ≡ nat_lt limit (up p (x + size))
past_is p limit x size h le = elim (cases_lt (down p limit - x) size) [
  | inl less ↦ lt-ltb (down p limit - x) size less ∙ sym (past_true p limit (x + size) h (omega arith))
  | inr within ↦ le-ltb (down p limit - x) size within ∙ sym (past_false p limit (x + size) h (omega arith))
]

-- the remainder of a sum: that of the remainders, less the divisor if they reach it
mod_is : (p q r x : ℕ) → x ≡ p * q + r → r < p → x % p ≡ r
mod_is p q r x is below = ap (λ n. n % p) is ∙ mul-add-mod_self_left p q r ∙ mod-eq_of_lt below

sum_is : (p s z : ℕ) → s + z ≡ p * (s / p + z / p) + (s % p + z % p)
sum_is p s z =
    let one : p * (s / p) + s % p ≡ s = div-add-mod s p in
    let other : p * (z / p) + z % p ≡ z = div-add-mod z p in
    omega (arith, one, other)

-- where two addresses are at the same place in a page, the pages of as many bytes end with both or with neither
mod_sum : (p s z : ℕ) → (s + z) % p ≡ (s % p + z % p) % p
mod_sum p s z = ap (λ n. n % p) (sum_is p s z) ∙ mul-add-mod_self_left p (s / p + z / p) (s % p + z % p)

pub same_whole : (p s t z : ℕ) → 0 < p → s % p ≡ t % p → down p (t + z) ≡ t + z → down p (s + z) ≡ s + z
unfolding down
same_whole p s t z h same is =
    let near : (t + z) % p ≤ t + z = omega arith in
    let none : (t + z) % p ≡ 0 = omega (arith, is, near) in
    let equal : (s + z) % p ≡ (t + z) % p = mod_sum p s z ∙ ap (λ n. (n + z % p) % p) same ∙ sym (mod_sum p t z) in
    let zero : (s + z) % p ≡ 0 = equal ∙ none in
    omega (arith, zero)

pub end_inside : (p s z : ℕ) → 0 < p → s % p < p - z % p → s + z - (s % p + z % p) ≡ down p (s + z)
unfolding down
end_inside p s z h below =
    let near : z % p < p = omega arith in
    let rest : (s + z) % p ≡ s % p + z % p = mod_is p (s / p + z / p) (s % p + z % p) (s + z) (sum_is p s z) (omega (arith, below, near)) in
    ap (λ n. s + z - n) (sym rest)

pub end_over : (p s z : ℕ) → 0 < p → p - z % p ≤ s % p → s + z - (s % p - (p - z % p)) ≡ down p (s + z)
unfolding down
end_over p s z h above =
    let near : z % p < p = omega arith in
    let close : s % p < p = omega arith in
    let sum : s + z ≡ p * (s / p + z / p) + (s % p + z % p) = sum_is p s z in
    let next : p * (s / p + z / p + 1) ≡ p * (s / p + z / p) + p = omega arith in
    let rest : (s + z) % p ≡ s % p - (p - z % p) = mod_is p (s / p + z / p + 1) (s % p - (p - z % p)) (s + z) (omega (arith, sum, next, above, near)) (omega (arith, close, near)) in
    ap (λ n. s + z - n) (sym rest)
