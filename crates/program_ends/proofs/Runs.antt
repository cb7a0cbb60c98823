-- Bytes of which some are written in another way: what is written up to the first of these, with that, and what is left.
use Rattle.std.proofs.Common.{◌≡◌, ◌<◌, ◌+◌, ◌-◌, ℕ, suc, List, [], ◌∷◌, ◌++◌, length, take, drop, get_or, Bool, true, false, cond, Option, None, Some, MatchOption, refl, sym, ap, ◌∙◌, subst, append_assoc, length-drop, arith}
use Rattle.std.proofs.lemmas.List.{take_all}
use Rattle.std.specs.List.{flat_map, position_from}

-- the first byte that the test picks stands behind bytes that are written as they are
pub record IsFirst (test : ℕ → Bool) (written : ℕ → List ℕ) (name : List ℕ) (place : ℕ) : Type 0 where
  pub bound : place < length name
  pub picked : test (get_or name place 0) ≡ true
  pub text : flat_map written name ≡ take place name ++ (written (get_or name place 0) ++ flat_map written (drop (suc place) name))

module _ (test : ℕ → Bool) (written : ℕ → List ℕ) (plain : (byte : ℕ) → test byte ≡ false → written byte ≡ byte ∷ []) where
  -- what a search finds in a name, whose first byte it calls that at index i
  abbrev Found : ℕ → List ℕ → Option ℕ → Type 0
  Found i name found = MatchOption found (flat_map written name ≡ name) (λ k. (place : ℕ) × (k ≡ i + place) × IsFirst test written name place)

  plain_first : (found : Option ℕ) (i byte : ℕ) (others : List ℕ) → test byte ≡ false → Found (i + 1) others found → Found i (byte ∷ others) found
  plain_first None i byte others is all = ap (λ e. e ++ flat_map written others) (plain byte is) ∙ ap (λ l. byte ∷ l) all
  plain_first (Some k) i byte others is (place, at, first) = (
    suc place,
    omega (arith, at),
    record {
      bound = omega (arith, first.bound);
      picked = first.picked;
      text = ap (λ e. e ++ flat_map written others) (plain byte is) ∙ ap (λ l. byte ∷ l) first.text;
    },
  )

  first_or_later : (b : Bool) (i byte : ℕ) (others : List ℕ) → test byte ≡ b → Found (i + 1) others (position_from test (i + 1) others) → Found i (byte ∷ others) (cond b (Some i) (position_from test (i + 1) others))
  first_or_later true i byte others is later = (0, omega arith, record { bound = omega arith; picked = is; text = refl })
  first_or_later false i byte others is later = plain_first _ i byte others is later

  found_from : (name : List ℕ) (i : ℕ) → Found i name (position_from test i name)
  found_from [] i = refl
  found_from (byte ∷ others) i = first_or_later (test byte) i byte others refl (found_from others (i + 1))

  at_front : (found : Option ℕ) (name : List ℕ) → Found 0 name found → MatchOption found (flat_map written name ≡ name) (IsFirst test written name)
  at_front None name all = all
  at_front (Some k) name (place, at, first) = let same : place ≡ k = omega (arith, at) in subst (IsFirst test written name) same first

  -- what a search finds
  pub first_found : (name : List ℕ) (found : Option ℕ) → found ≡ position_from test 0 name → MatchOption found (flat_map written name ≡ name) (IsFirst test written name)
  first_found name found is = subst (λ f. MatchOption f (flat_map written name ≡ name) (IsFirst test written name)) (sym is) (at_front _ name (found_from name 0))

  -- the first byte of the rest that the test picks is written, too
  pub one_more : (name rest text : List ℕ) (place : ℕ) → IsFirst test written rest place → text ++ flat_map written rest ≡ flat_map written name
      → ((text ++ take place rest) ++ written (get_or rest place 0)) ++ flat_map written (take (length rest - (place + 1)) (drop (place + 1) rest)) ≡ flat_map written name
  one_more name rest text place first so_far =
      let counted = length-drop (place + 1) rest in
      let behind : take (length rest - (place + 1)) (drop (place + 1) rest) ≡ drop (place + 1) rest = take_all _ _ (omega (arith, counted)) in
      let next : place + 1 ≡ suc place = omega arith in
      let left = ap (flat_map written) (behind ∙ ap (λ n. drop n rest) next) in
      let picked = written (get_or rest place 0) in
      ap (λ e. ((text ++ take place rest) ++ picked) ++ e) left
      ∙ append_assoc (text ++ take place rest) picked (flat_map written (drop (suc place) rest))
      ∙ append_assoc text (take place rest) (picked ++ flat_map written (drop (suc place) rest))
      ∙ ap (λ e. text ++ e) (sym first.text)
      ∙ so_far
