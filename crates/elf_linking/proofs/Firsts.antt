-- The first item of a list that passes a test, item by item.
use Rattle.std.proofs.Common.{◌≡◌, Bool, true, false, List, [], ◌∷◌, Some, None, refl, ap, ◌∙◌}
use Rattle.std.specs.List.{find}

pub find_none : {X : Type 0} (test : X → Bool) (items : List X) → items ≡ [] → find test items ≡ None
find_none test items is = ap (find test) is

pub find_hit : {X : Type 0} (test : X → Bool) (items others : List X) (x : X) → items ≡ x ∷ others → test x ≡ true → find test items ≡ Some x
find_hit test items others x is hit = ap (find test) is ∙ rw hit refl

pub find_other : {X : Type 0} (test : X → Bool) (items others : List X) (x : X) → items ≡ x ∷ others → test x ≡ false → find test items ≡ find test others
find_other test items others x is miss = ap (find test) is ∙ rw miss refl
