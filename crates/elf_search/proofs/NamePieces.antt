-- Lemmas on the pieces of names and their order.
use Rattle.std.proofs.Common.{◌≡◌, ℕ, ◌+◌, ◌-◌, ◌%◌, ◌<◌, ◌≤◌, Bool, true, false, List, [], ◌∷◌, length, get_or, take, drop, refl, sym, ◌∙◌, subst, Some, ◌==◌, ◌&&◌, arith}
use Rattle.std.proofs.lemmas.Grind.{common_steps}
use Rattle.std.proofs.lemmas.Bool.{eqb-false, eqb-true}
use Rattle.std.proofs.lemmas.Map.Lookups.{exact_unsigned}
use Rattle.std.specs.Ordering.{nat_cmp, ordering_then}
use Rattle.std.specs.declared.cmp.Ordering.{Ordering}
use Rattle.std.specs.declared.cmp.Ordering.TheVariants.{Less, Equal, Greater}
use Rattle.elf_search.specs.declared.cache.pieces.Piece.{Piece}
use Rattle.elf_search.specs.declared.cache.pieces.Piece.TheVariants.{Number, Byte}
use Rattle.elf_search.specs.Pieces.{IsNumber, StartsWith, are_small, is_digit, name_order, piece_order, pieces, pieces_after, pieces_order}
use Rattle.elf_search.specs.Pieces.StartsWith.{more, ended}

then_first : (order other : Ordering) → (order ≡ Equal → ⊥) → ordering_then order other ≡ order
then_first Less other differ = refl
then_first Equal other differ = absurd (differ refl)
then_first Greater other differ = refl

-- two names that begin with equal pieces are in the order of what follows
pub order_next : (one other : List ℕ) (p q : Piece) (rest others : List ℕ) → StartsWith one p rest → StartsWith other q others
    → piece_order p q ≡ Equal → (p ≡ Byte 0 → ⊥) → name_order one other ≡ name_order rest others
order_next one other p q rest others (more _ _ is short apart behind) (more _ _ is2 short2 apart2 behind2) same end = rw (is, is2, same) refl
order_next one other p q rest others (more _ _ is short apart behind) (ended _ is2) same end = absurd (apart same)
order_next one other p q rest others (ended _ is) s same end = absurd (end refl)

-- two names are in the order of their first pieces if these differ
pub order_first : (one other : List ℕ) (p q : Piece) (rest others : List ℕ) → StartsWith one p rest → StartsWith other q others
    → (piece_order p q ≡ Equal → ⊥) → name_order one other ≡ piece_order p q
order_first one other p q rest others (more _ _ is short apart behind) (more _ _ is2 short2 apart2 behind2) differ = rw (is, is2) (then_first (piece_order p q) (pieces_order (pieces rest) (pieces others)) differ)
order_first one other p q rest others (more _ _ is short apart behind) (ended _ is2) differ = rw (is, is2) (then_first (piece_order p q) Greater differ)
order_first one other p q rest others (ended _ is) (more _ _ is2 short2 apart2 behind2) differ = rw (is, is2) (then_first (piece_order p q) Less differ)
order_first one other p q rest others (ended _ is) (ended _ is2) differ = absurd (differ refl)

-- two names are in the order of their first pieces if the first is at its end
pub order_ended : (one other : List ℕ) (p q : Piece) (rest others : List ℕ) → StartsWith one p rest → StartsWith other q others
    → p ≡ Byte 0 → name_order one other ≡ piece_order p q
order_ended one other p q rest others (more _ _ is short apart behind) s end = absurd (apart (rw end refl))
order_ended one other p q rest others (ended _ is) (more _ _ is2 short2 apart2 behind2) end = rw (is, is2) (then_first (piece_order p q) Less behind2)
order_ended one other p q rest others (ended _ is) (ended _ is2) end = rw (is, is2) refl

-- the rest of a name after a piece that is not its end is shorter
pub shorter_rest : (one : List ℕ) (p : Piece) (rest : List ℕ) → StartsWith one p rest → (p ≡ Byte 0 → ⊥) → length rest < length one
shorter_rest one p rest (more _ _ is short apart behind) end = short
shorter_rest one p rest (ended _ is) end = absurd (end refl)

rest_is : (byte : ℕ) (bytes : List ℕ) → take (length (byte ∷ bytes) - 1) (drop 1 (byte ∷ bytes)) ≡ bytes
rest_is byte bytes = grind (arith, common_steps)

-- a name with no byte has no piece
pub starts_empty : (bytes : List ℕ) → length bytes < 1 → StartsWith bytes (Byte 0) bytes
starts_empty [] h = ended [] refl
starts_empty (byte ∷ bytes) h = absurd (omega arith)

less_apart : Less ≡ Equal → ⊥
less_apart same = cc

greater_apart : Greater ≡ Equal → ⊥
greater_apart same = cc

number_apart : (p : Piece) → IsNumber p → piece_order p (Byte 0) ≡ Equal → ⊥
number_apart (Number n) is same = greater_apart same
number_apart (Byte b) is same = is

number_behind : (p : Piece) → IsNumber p → piece_order (Byte 0) p ≡ Equal → ⊥
number_behind (Number n) is same = less_apart same
number_behind (Byte b) is same = is

-- a name that begins with a digit begins with a number
pub starts_number : (bytes : List ℕ) (p : Piece) (rest : List ℕ) (front : ℕ) → front ≡ get_or bytes 0 0 - 48 → 1 ≤ length bytes → is_digit (get_or bytes 0 0) ≡ true
    → pieces_after (Some front) (take (length bytes - 1) (drop 1 bytes)) ≡ p ∷ pieces rest
    → length rest < length (take (length bytes - 1) (drop 1 bytes)) + 1 → IsNumber p → StartsWith bytes p rest
starts_number [] p rest front e h d is short number = absurd (omega arith)
starts_number (byte ∷ bytes) p rest front e h d is short number = more p rest (rw d (rw (e, rest_is byte bytes) at is)) (let less : length rest < length bytes + 1 = rw (rest_is byte bytes) at short in omega arith) (number_apart p number) (number_behind p number)

byte_apart : (byte : ℕ) → byte < 256 → (byte == 0) ≡ false → nat_cmp ((byte + 128) % 256) ((0 + 128) % 256) ≡ Equal → ⊥
byte_apart byte fits is same = let e : (byte + 128) % 256 ≡ 128 = exact_unsigned _ _ same in let differ : byte ≡ 0 → ⊥ = eqb-false byte 0 is in differ (omega arith)

byte_behind : (byte : ℕ) → byte < 256 → (byte == 0) ≡ false → nat_cmp ((0 + 128) % 256) ((byte + 128) % 256) ≡ Equal → ⊥
byte_behind byte fits is same = let e : 128 ≡ (byte + 128) % 256 = exact_unsigned _ _ same in let differ : byte ≡ 0 → ⊥ = eqb-false byte 0 is in differ (omega arith)

byte_piece : (byte : ℕ) (bytes : List ℕ) → is_digit byte ≡ false → byte < 256 → (zero : Bool) → (byte == 0) ≡ zero → StartsWith (byte ∷ bytes) (Byte byte) bytes
byte_piece byte bytes d fits true is = let none : byte ≡ 0 = eqb-true byte 0 is in subst (λ b. StartsWith (byte ∷ bytes) (Byte b) bytes) (sym none) (ended bytes (rw (d, is) refl))
byte_piece byte bytes d fits false is = more (Byte byte) bytes (rw (d, is) refl) (omega arith) (λ same. byte_apart byte fits is same) (λ same. byte_behind byte fits is same)

-- a name that begins with another byte begins with it, or is at its end
pub starts_byte : (bytes : List ℕ) → 1 ≤ length bytes → is_digit (get_or bytes 0 0) ≡ false → get_or bytes 0 0 < 256
    → StartsWith bytes (Byte (get_or bytes 0 0)) (take (length bytes - 1) (drop 1 bytes))
starts_byte [] h d fits = absurd (omega arith)
starts_byte (byte ∷ bytes) h d fits = rw (rest_is byte bytes) (byte_piece byte bytes d fits (byte == 0) refl)

-- The numbers in a name.

-- a name at its end has small numbers
pub small_ended : (one : List ℕ) (p : Piece) (rest : List ℕ) → StartsWith one p rest → p ≡ Byte 0 → are_small (pieces one) ≡ true
small_ended one p rest (more _ _ is short apart behind) end = absurd (apart (rw end refl))
small_ended one p rest (ended _ is) end = rw is refl

and_true : (b : Bool) → (b && true) ≡ b
and_true true = refl
and_true false = refl

and_false : (a b : Bool) → a ≡ false → (a && b) ≡ false
and_false true b h = cc
and_false false b h = refl

and_rest : (a b : Bool) → a ≡ true → (a && b) ≡ b
and_rest true b h = refl
and_rest false b h = cc

small_first : (p : Piece) (ps : List Piece) → are_small (p ∷ []) ≡ false → are_small (p ∷ ps) ≡ false
small_first (Number n) ps h = and_false _ _ (sym (and_true _) ∙ h)
small_first (Byte b) ps h = cc

-- a name that begins with a large number has a large number
pub large_first : (one : List ℕ) (p : Piece) (rest : List ℕ) → StartsWith one p rest → are_small (p ∷ []) ≡ false → are_small (pieces one) ≡ false
large_first one p rest (more _ _ is short apart behind) h = rw is (small_first p (pieces rest) h)
large_first one p rest (ended _ is) h = cc

small_more : (p : Piece) (ps : List Piece) → are_small (p ∷ []) ≡ true → are_small (p ∷ ps) ≡ are_small ps
small_more (Number n) ps h = and_rest _ _ (sym (and_true _) ∙ h)
small_more (Byte b) ps h = refl

-- the numbers in a name that begins with a small number are small if those behind it are
pub small_next : (one : List ℕ) (p : Piece) (rest : List ℕ) → StartsWith one p rest → are_small (p ∷ []) ≡ true → (p ≡ Byte 0 → ⊥)
    → are_small (pieces one) ≡ are_small (pieces rest)
small_next one p rest (more _ _ is short apart behind) h end = rw is (small_more p (pieces rest) h)
small_next one p rest (ended _ is) h end = absurd (end refl)
