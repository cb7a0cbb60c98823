-- The lines of the sizes so far.
use Rattle.std.proofs.Common.{◌≡◌, ℕ, ◌+◌, ◌<◌, List, [], ◌∷◌, ◌++◌, length, get_or, take, ap, sym, ◌∙◌}
use Rattle.std.specs.List.{flat_map}
use Rattle.std.proofs.lemmas.List.{flat_map_more, take_more}
use Rattle.elfsize.specs.declared.totals.Run.{Run}

pub one_more_line : (line_of : Run → List ℕ) (sizes : List Run) (index : ℕ) (item : Run) → index < length sizes → item ≡ get_or sizes index item → flat_map line_of (take index sizes) ++ line_of item ≡ flat_map line_of (take (index + 1) sizes)
one_more_line line_of sizes index item below is =
    flat_map_more line_of [] (take index sizes) item
    ∙ ap (flat_map line_of) (ap (λ (one : Run). take index sizes ++ (one ∷ [])) is ∙ sym (take_more sizes index item below))
