-- What is kept of a list whose items are returned one by one, by a test that stays the same.
use Rattle.std.proofs.Common.{◌≡◌, Bool, true, false, if◌then◌else◌, List, [], ◌∷◌, filter, ap, sym, ◌∙◌}

module _ {A C : Type 0} (test : C → A → Bool) (before : C) where
  pub kept_none : (items : List A) → items ≡ [] → filter (test before) items ≡ []
  kept_none items is = ap (filter (test before)) is

  pub kept_first : (after : C) (items others : List A) (item : A) → after ≡ before → items ≡ item ∷ others → test before item ≡ true
      → filter (test before) items ≡ item ∷ filter (test after) others
  kept_first after items others item same is kept =
      ap (filter (test before)) is
      ∙ ap (λ b. if b then item ∷ filter (test before) others else filter (test before) others) kept
      ∙ ap (λ c. item ∷ filter (test c) others) (sym same)

  pub kept_other : (after : C) (items others : List A) (item : A) → after ≡ before → items ≡ item ∷ others → test before item ≡ false
      → filter (test before) items ≡ filter (test after) others
  kept_other after items others item same is passed =
      ap (filter (test before)) is
      ∙ ap (λ b. if b then item ∷ filter (test before) others else filter (test before) others) passed
      ∙ ap (λ c. filter (test c) others) (sym same)
