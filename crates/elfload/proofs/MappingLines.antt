-- How a loop over mappings writes a line for each.
use Rattle.std.proofs.Common.{◌≡◌, ℕ, List, ◌∷◌, ◌++◌, append_assoc, sym, ap, ◌∙◌}
use Rattle.std.specs.List.{flat_map}
use Rattle.elf_loading.specs.declared.mapping.Mapping.{Mapping}

-- with `rest` still left of all mappings, the text is the lines of those before it
abbrev pub AreLinesSoFar : (Mapping → List ℕ) → List Mapping → List Mapping → List ℕ → Type 0
AreLinesSoFar line_of all rest text = text ++ flat_map line_of rest ≡ flat_map line_of all

-- one more line
pub one_more_line : (line_of : Mapping → List ℕ) (all rest others : List Mapping) (item : Mapping) (text : List ℕ) → rest ≡ item ∷ others → AreLinesSoFar line_of all rest text → AreLinesSoFar line_of all others (text ++ line_of item)
one_more_line line_of all rest others item text is before =
    append_assoc text (line_of item) (flat_map line_of others) ∙ ap (λ left. text ++ flat_map line_of left) (sym is) ∙ before
