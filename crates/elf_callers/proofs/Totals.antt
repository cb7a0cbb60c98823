-- How a loop over a list adds up its items, each of which must have something.
use Rattle.std.proofs.Common.{◌≡◌, ℕ, ◌+◌, ◌-◌, ◌^◌, ◌++◌, List, [], ◌∷◌, append_assoc, append-nil, min, refl, sym, ap, ◌∙◌, subst, arith}
use Rattle.std.proofs.lemmas.List.Elements.{All-nil, All-push}
use Rattle.std.proofs.lemmas.List.Sums.{sum_by_push}
use Rattle.elf_callers.specs.Totals.{IsFirstWithout, IsTotal}

-- with `rest` still left of all items, `total` is what those before it come to
pub record HasAdded {X : Type 0} (Has : X → Type 0) (size : X → ℕ) (all rest : List X) (total : ℕ) : Type 0 where
  pub earlier : List X
  pub split : earlier ++ rest ≡ all
  pub so_far : IsTotal Has size earlier total

-- nothing yet
pub has_added_none : {X : Type 0} (Has : X → Type 0) (size : X → ℕ) (all rest : List X) → rest ≡ all → HasAdded Has size all rest 0
has_added_none Has size all rest same =
    record { earlier = []; split = same; so_far = record { all = All-nil Has; sum = refl } }

-- one more item adds its size
pub has_added_one : {X : Type 0} (Has : X → Type 0) (size : X → ℕ) (all rest others : List X) (item : X) (total next : ℕ) → rest ≡ item ∷ others → Has item → next ≡ min (total + size item) (2 ^ 64 - 1) → HasAdded Has size all rest total → HasAdded Has size all others next
has_added_one Has size all rest others item total next is has adds before =
    let more = sum_by_push size before.earlier item in
    let sum = before.so_far.sum in
    record {
      earlier = before.earlier ++ item ∷ [];
      split = append_assoc before.earlier (item ∷ []) others ∙ ap (λ left. before.earlier ++ left) (sym is) ∙ before.split;
      so_far = record {
        all = All-push Has before.earlier item before.so_far.all has;
        sum = omega (arith, adds, sum, more);
      };
    }

-- at the end all are added
pub has_added_all : {X : Type 0} (Has : X → Type 0) (size : X → ℕ) (all rest : List X) (total : ℕ) → rest ≡ [] → HasAdded Has size all rest total → IsTotal Has size all total
has_added_all Has size all rest total end added =
    subst (λ items. IsTotal Has size items total) (sym (append-nil added.earlier) ∙ ap (λ left. added.earlier ++ left) (sym end) ∙ added.split) added.so_far

-- an item that lacks what it must have is the first that does
pub is_first_without : {X : Type 0} (Has : X → Type 0) (size : X → ℕ) (all rest others : List X) (item : X) (total : ℕ) → rest ≡ item ∷ others → ¬ Has item → HasAdded Has size all rest total → IsFirstWithout Has all item
is_first_without Has size all rest others item total is lacks added = record {
  earlier = added.earlier;
  others = others;
  split = sym added.split ∙ ap (λ left. added.earlier ++ left) is;
  have = added.so_far.all;
  lacks = lacks;
}
