-- Strings and objects of JSON, as they are written piece by piece.
use Rattle.std.proofs.Common.{◌≡◌, ◌<◌, ◌≤◌, ◌+◌, ℕ, suc, List, [], ◌∷◌, ◌++◌, Bool, true, false, Result, Ok, Err, MatchResult, is_ok, codes, refl, sym, ap, ◌∙◌, length, drop, get_or, append_assoc, append-nil, drop-cons, arith}
use Rattle.std.proofs.lemmas.Str.{IsUtf8-from_is_utf8, is_utf8-from_IsUtf8}
use Rattle.std.proofs.lemmas.List.{drop_all}
use Rattle.std.specs.List.{flat_map}
use Rattle.std.specs.Str.{IsUtf8, is_utf8}
use Rattle.program_ends.specs.Json.{is_escaped, string_byte}

not_utf8 : (bytes : List ℕ) (b : Bool) → is_utf8 bytes ≡ b → (IsUtf8 bytes → ⊥) → false ≡ is_utf8 bytes
not_utf8 bytes true is never = elim (never (IsUtf8-from_is_utf8 bytes is)) [ ]
not_utf8 bytes false is never = sym is

-- what a test for UTF-8 says, by its result
pub tested : {A B : Type 0} (Of : A → Type 0) (At : B → Type 0) (bytes : List ℕ) (result : Result A B) → MatchResult result (λ s. Of s × IsUtf8 bytes) (λ e. (IsUtf8 bytes → ⊥) × At e) → is_ok result ≡ is_utf8 bytes
tested Of At bytes (Ok text) is = sym (is_utf8-from_IsUtf8 bytes is.1)
tested Of At bytes (Err error) is = not_utf8 bytes (is_utf8 bytes) refl is.0

-- a byte that needs no escape is written as it is
pub unescaped : (byte : ℕ) → is_escaped byte ≡ false → string_byte byte ≡ byte ∷ []
unescaped byte is = rw is refl

-- the members that are left, after what goes before the first of them
abbrev pub left_after : {A : Type 0} → (A → List ℕ) → List ℕ → List A → List ℕ
left_after written between [] = []
left_after written between (first ∷ others) = (between ++ written first) ++ flat_map (λ other. codes "," ++ written other) others

left_behind : {A : Type 0} (written : A → List ℕ) (members : List A) → left_after written (codes ",") members ≡ flat_map (λ other. codes "," ++ written other) members
left_behind written [] = refl
left_behind written (first ∷ others) = refl

module _ {A : Type 0} (written : A → List ℕ) (items : List A) (i : ℕ) (text whole : List ℕ) where
  -- one more item is written
  pub one_item : (d : A) → i < length items → text ++ flat_map written (drop i items) ≡ whole → (text ++ written (get_or items i d)) ++ flat_map written (drop (i + 1) items) ≡ whole
  one_item d below so_far =
      let next : i + 1 ≡ suc i = omega arith in
      ap (λ n. (text ++ written (get_or items i d)) ++ flat_map written (drop n items)) next
      ∙ append_assoc text (written (get_or items i d)) (flat_map written (drop (suc i) items))
      ∙ ap (λ left. text ++ flat_map written left) (sym (drop-cons items i d below))
      ∙ so_far

  -- one more member, after what goes before it
  pub one_member : (between : List ℕ) (d : A) → i < length items → text ++ left_after written between (drop i items) ≡ whole → ((text ++ between) ++ written (get_or items i d)) ++ left_after written (codes ",") (drop (i + 1) items) ≡ whole
  one_member between d below so_far =
      let next : i + 1 ≡ suc i = omega arith in
      let own = written (get_or items i d) in
      let others = flat_map (λ other. codes "," ++ written other) (drop (suc i) items) in
      ap (λ n. ((text ++ between) ++ own) ++ left_after written (codes ",") (drop n items)) next
      ∙ ap (λ left. ((text ++ between) ++ own) ++ left) (left_behind written (drop (suc i) items))
      ∙ ap (λ so. so ++ others) (append_assoc text between own)
      ∙ append_assoc text (between ++ own) others
      ∙ ap (λ left. text ++ left_after written between left) (sym (drop-cons items i d below))
      ∙ so_far

  -- at the end all members
  pub all_members : (between : List ℕ) → length items ≤ i → text ++ left_after written between (drop i items) ≡ whole → text ≡ whole
  all_members between end so_far = sym (append-nil text) ∙ ap (λ left. text ++ left_after written between left) (sym (drop_all i items end)) ∙ so_far
