-- The pieces of a text, one after the other.
use Rattle.std.proofs.Common.{◌≡◌, ◌≢◌, ℕ, zero, suc, ◌+◌, ◌-◌, ◌<◌, ◌==◌, Bool, List, [], ◌∷◌, true, false, length, drop, take, Some, None, if◌then◌else◌, refl, ap, ◌∙◌, sym, arith}
use Rattle.std.proofs.lemmas.Bool.{eq-eqb, eqb-false, eqb-true, ne_eqb}
use Rattle.std.specs.Prelude.{slice_get}
use Rattle.elf_search.specs.Elements.{first_end, is_end, pieces_of}

pub end_none : (separators text : List ℕ) → text ≡ [] → first_end separators text ≡ 0
end_none separators text is = ap (first_end separators) is

pub end_here : (separators text others : List ℕ) (byte : ℕ) → text ≡ byte ∷ others → is_end separators byte ≡ true → first_end separators text ≡ 0
end_here separators text others byte is ends = ap (first_end separators) is ∙ rw ends refl

pub end_later : (separators text others : List ℕ) (byte : ℕ) → text ≡ byte ∷ others → is_end separators byte ≡ false → first_end separators text ≡ suc (first_end separators others)
end_later separators text others byte is ends = ap (first_end separators) is ∙ rw ends refl

-- the first piece, and those behind it
abbrev pub behind : List ℕ → List ℕ → List (List ℕ)
behind separators text = if first_end separators text == length text then [] else pieces_of separators (drop (first_end separators text + 1) text)

same_test : (a b : ℕ) → (suc a == suc b) ≡ (a == b)
same_test a b = by_test (a == b) refl
  where
    by_test : (c : Bool) → (a == b) ≡ c → (suc a == suc b) ≡ c
    by_test true is = eq-eqb (suc a) (suc b) (ap suc (eqb-true a b is))
    by_test false is = ne_eqb (suc a) (suc b) (λ same. eqb-false a b is (omega (arith, same)))

behind_more : (separators : List ℕ) (byte : ℕ) (text : List ℕ) (end : ℕ) → (if suc end == suc (length text) then [] else pieces_of separators (drop (suc end + 1) (byte ∷ text))) ≡ (if end == length text then [] else pieces_of separators (drop (end + 1) text))
behind_more separators byte text end =
    let next : suc end + 1 ≡ suc (end + 1) = omega arith in
    ap (λ b. if b then [] else pieces_of separators (drop (suc end + 1) (byte ∷ text))) (same_test end (length text))
    ∙ ap (λ k. if end == length text then [] else pieces_of separators (drop k (byte ∷ text))) next

split_by : (separators : List ℕ) (byte : ℕ) (text : List ℕ) (b : Bool) → is_end separators byte ≡ b → pieces_of separators text ≡ take (first_end separators text) text ∷ behind separators text → pieces_of separators (byte ∷ text) ≡ take (first_end separators (byte ∷ text)) (byte ∷ text) ∷ behind separators (byte ∷ text)
split_by separators byte text true is later = rw is (ap (λ b. [] ∷ (if b then [] else pieces_of separators text)) (sym (ne_eqb 0 (suc (length text)) (λ same. omega (arith, same)))))
split_by separators byte text false is later = rw (is, later) (ap (λ rest. (byte ∷ take (first_end separators text) text) ∷ rest) (sym (behind_more separators byte text (first_end separators text))))

pub split_first : (separators text : List ℕ) → pieces_of separators text ≡ take (first_end separators text) text ∷ behind separators text
split_first separators [] = refl
split_first separators (byte ∷ text) = split_by separators byte text (is_end separators byte) refl (split_first separators text)

-- the first piece
pub at_first : (separators text : List ℕ) → slice_get (pieces_of separators text) 0 ≡ Some (take (first_end separators text) text)
at_first separators text = ap (λ pieces. slice_get pieces 0) (split_first separators text)

-- there is one piece if no byte ends one
pub one_piece : (separators text : List ℕ) → first_end separators text ≡ length text → pieces_of separators text ≡ take (first_end separators text) text ∷ []
one_piece separators text ends = split_first separators text
    ∙ ap (λ b. take (first_end separators text) text ∷ (if b then [] else pieces_of separators (drop (first_end separators text + 1) text))) (eq-eqb (first_end separators text) (length text) ends)

-- otherwise the others are the pieces of the text behind that byte
pub more_pieces : (separators text : List ℕ) → first_end separators text ≢ length text → pieces_of separators text ≡ take (first_end separators text) text ∷ pieces_of separators (drop (first_end separators text + 1) text)
more_pieces separators text goes = split_first separators text
    ∙ ap (λ b. take (first_end separators text) text ∷ (if b then [] else pieces_of separators (drop (first_end separators text + 1) text))) (ne_eqb (first_end separators text) (length text) goes)

-- there is a piece
pub some_pieces : (separators text : List ℕ) → 0 < length (pieces_of separators text)
some_pieces separators text = omega (arith, ap length (split_first separators text))

pub count_one : (separators text : List ℕ) → first_end separators text ≡ length text → length (pieces_of separators text) ≡ 1
count_one separators text ends = ap length (one_piece separators text ends)

pub count_more : (separators text : List ℕ) → first_end separators text ≢ length text → length (pieces_of separators text) ≡ length (pieces_of separators (drop (first_end separators text + 1) text)) + 1
count_more separators text goes = let count = ap length (more_pieces separators text goes) in omega (arith, count)

pub at_none : (separators text : List ℕ) (index : ℕ) → first_end separators text ≡ length text → 0 < index → slice_get (pieces_of separators text) index ≡ None
at_none separators text zero ends above = absurd (omega (arith, above))
at_none separators text (suc index) ends above = ap (λ pieces. slice_get pieces (suc index)) (one_piece separators text ends)

pub at_later : (separators text : List ℕ) (index : ℕ) → first_end separators text ≢ length text → 0 < index → slice_get (pieces_of separators text) index ≡ slice_get (pieces_of separators (drop (first_end separators text + 1) text)) (index - 1)
at_later separators text zero goes above = absurd (omega (arith, above))
at_later separators text (suc index) goes above = ap (λ pieces. slice_get pieces (suc index)) (more_pieces separators text goes)
    ∙ ap (slice_get (pieces_of separators (drop (first_end separators text + 1) text))) (same index)
  where
    same : (index : ℕ) → index ≡ suc index - 1
    same index = omega arith

-- whether the first piece is the last
pub last_true : (separators text : List ℕ) → (first_end separators text == length text) ≡ true → length (pieces_of separators text) ≡ 1
last_true separators text is = count_one separators text (eqb-true (first_end separators text) (length text) is)

pub last_false : (separators text : List ℕ) → (first_end separators text == length text) ≡ false → 1 < length (pieces_of separators text)
last_false separators text is =
    let count = count_more separators text (eqb-false (first_end separators text) (length text) is) in
    let some = some_pieces separators (drop (first_end separators text + 1) text) in
    omega (arith, count, some)

pub some_bytes : (separators text : List ℕ) → (first_end separators text == length text) ≡ false → 0 < length text
some_bytes separators [] is = cc
some_bytes separators (byte ∷ text) is = omega arith
