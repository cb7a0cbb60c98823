-- The elements of a list of directories (`ld.so`'s manual page, LD_LIBRARY_PATH and DT_RUNPATH: colons, and semicolons of the
-- environment; that an empty list has no element, as in glibc 2.36).
use Rattle.std.specs.Borrow.{Bor}
use Rattle.std.specs.Prelude.{ℕ, suc, ◌==◌, nat_eq, Bool, List, [], ◌∷◌, length, Option, None, Some, if◌then◌else◌}
use Rattle.std.specs.List.{list_any}

-- a byte ends an element
abbrev pub is_end : List ℕ → ℕ → Bool
is_end separators byte = list_any (λ other. nat_eq other byte) separators

-- the number of bytes before the first that ends an element, all if none does
abbrev pub first_end : List ℕ → List ℕ → ℕ
first_end separators [] = 0
first_end separators (byte ∷ text) = if is_end separators byte then 0 else suc (first_end separators text)

-- a byte in front of the first of some pieces
abbrev pub in_front : ℕ → List (List ℕ) → List (List ℕ)
in_front byte [] = (byte ∷ []) ∷ []
in_front byte (piece ∷ pieces) = (byte ∷ piece) ∷ pieces

-- the pieces of a text between the bytes that end one: one more than such bytes
abbrev pub pieces_of : List ℕ → List ℕ → List (List ℕ)
pieces_of separators [] = [] ∷ []
pieces_of separators (byte ∷ text) =
    if is_end separators byte then [] ∷ pieces_of separators text else in_front byte (pieces_of separators text)

-- those of what is left of a text, if something is
abbrev pub pieces_left : List ℕ → Option (Bor (List ℕ)) → List (List ℕ)
pieces_left separators None = []
pieces_left separators (Some text) = pieces_of separators text.now

-- the elements of a list: none of an empty one, otherwise its pieces
abbrev pub elements_of : List ℕ → List ℕ → List (List ℕ)
elements_of separators text = if length text == 0 then [] else pieces_of separators text
