-- A file of either class without its section header table.
use Rattle.std.proofs.Common.{◌≡◌, ℕ, ◌<◌, ◌≤◌, false, nat_lt, List, length, get_or, refl, arith}
use Rattle.std.proofs.lemmas.Bool.{eq-eqb, false_from_ne_true, ltb-true, ne_eqb}
use Rattle.elfsize.specs.View.{without_sections, zeroed}

long : (bytes : List ℕ) → 48 ≤ length bytes → nat_lt (length bytes) 48 ≡ false
long bytes more = false_from_ne_true (nat_lt (length bytes) 48) (λ h. let less : length bytes < 48 = ltb-true (length bytes) 48 h in omega arith)

pub narrow : (bytes : List ℕ) → 48 ≤ length bytes → get_or bytes 4 0 ≡ 1 → without_sections bytes ≡ zeroed 32 4 bytes
narrow bytes more class = rw (long bytes more, eq-eqb (get_or bytes 4 0) 1 class) refl

pub wide : (bytes : List ℕ) → 48 ≤ length bytes → (get_or bytes 4 0 ≡ 1 → ⊥) → without_sections bytes ≡ zeroed 40 8 bytes
wide bytes more class = rw (long bytes more, ne_eqb (get_or bytes 4 0) 1 class) refl
