-- Lists of parts as the caller has them, and the rows of their changes.
use Rattle.std.proofs.Common.{◌≡◌, ℕ, ◌+◌, ◌<◌, List, [], ◌∷◌, Option, None, Some, Ordering, Less, Equal, Greater, is_lt, length, map, ap, subst, refl, ◌∙◌, IsSorted, arith}
use Rattle.std.proofs.lemmas.List.{get_or-map, length-map}
use Rattle.std.proofs.lemmas.List.Sorted.{ranks_by}
use Rattle.std.proofs.lemmas.Option.{get_or_from_slice_get, none-some, same_Some}
use Rattle.std.specs.Cmp.{IsStrictWeakOrder}
use Rattle.std.proofs.lemmas.List.Elements.{All-head, All-tail}
use Rattle.std.specs.List.{All, AllZip, slice_get, slice_index_or}
use Rattle.elf_addresses.specs.Differences.{change_of, first_of, name_order, part_order}
use Rattle.elf_addresses.specs.declared.difference.Change.{Change}
use Rattle.elf_addresses.specs.declared.difference.Change.TheVariants.{Both, Gone, New}
use Rattle.elf_addresses.specs.declared.difference.SizedPart.{SizedPart}
use Rattle.elf_addresses.proofs.Merging.{change_total, part_total}
use Rattle.elf_c.specs.SizeChanges.{IsOwnRow, IsRow, change_at, row_change_order, row_of, sized}
use Rattle.elf_c.specs.declared.size_changes.SizeChange.{SizeChange}
use Rattle.elf_c.specs.declared.size_changes.SizePart.{SizePart}

-- a list in order by keys: the keys are in order
pub sorted_keys : {X Y : Type 0} (key : X → Y) (order : Y → Y → Ordering) (xs : List X) → IsSorted (λ x y. order (key x) (key y)) xs → IsSorted order (map key xs)
sorted_keys key order [] sorted k d from below = absurd (omega (arith, below))
sorted_keys key order (x ∷ xs) sorted k d from below =
    let long = length-map (x ∷ xs) key in
    let within : k + 1 < length (x ∷ xs) = omega (arith, below, long) in
    rw (get_or-map key (x ∷ xs) (k + 1) x d within, get_or-map key (x ∷ xs) k x d (omega (arith, within))) (sorted k x from within)

pub given_weak : IsStrictWeakOrder (λ (x : SizePart) (y : SizePart). is_lt (part_order (sized x) (sized y)))
given_weak = ranks_by part_total sized

pub rows_weak : (old new : List SizePart) (none : SizedPart) → IsStrictWeakOrder (λ (x : SizeChange) (y : SizeChange). is_lt (row_change_order old new none x y))
rows_weak old new none = ranks_by change_total (change_at old new none)

-- The row of the next change.

module _ (old new : List SizePart) (none : SizedPart) (first second : ℕ) where
  abbrev Own : Change → Type 0
  Own change = (change_at old new none (row_of change first second) ≡ change) × IsRow old new change (row_of change first second)

  gone_row : (p : SizedPart) → slice_get (map sized old) first ≡ Some p → Own (Gone p)
  gone_row p is = (ap Gone (get_or_from_slice_get (map sized old) first p none is), (refl, is))

  new_row : (q : SizedPart) → slice_get (map sized new) second ≡ Some q → Own (New q)
  new_row q is = (ap New (get_or_from_slice_get (map sized new) second q none is), (refl, is))

  both_row : (p q : SizedPart) → slice_get (map sized old) first ≡ Some p → slice_get (map sized new) second ≡ Some q → Own (Both p q)
  both_row p q is other = (
    ap (λ x. Both x (slice_index_or (map sized new) second none)) (get_or_from_slice_get (map sized old) first p none is)
        ∙ ap (Both p) (get_or_from_slice_get (map sized new) second q none other),
    (refl, is, other),
  )

  by_order : (r : Ordering) (p q : SizedPart) → slice_get (map sized old) first ≡ Some p → slice_get (map sized new) second ≡ Some q → Own (first_of r p q)
  by_order Less p q is other = gone_row p is
  by_order Equal p q is other = both_row p q is other
  by_order Greater p q is other = new_row q other

  own_at : (x y : Option SizedPart) (change : Change) → slice_get (map sized old) first ≡ x → slice_get (map sized new) second ≡ y → change_of x y ≡ Some change → Own change
  own_at None None change is other found = absurd (none-some change found)
  own_at (Some p) None change is other found = subst Own (same_Some (Gone p) change found) (gone_row p is)
  own_at None (Some q) change is other found = subst Own (same_Some (New q) change found) (new_row q other)
  own_at (Some p) (Some q) change is other found = subst Own (same_Some (first_of (name_order p q) p q) change found) (by_order (name_order p q) p q is other)

  -- the change of the row is the change itself, and the row is its own
  pub own_row : (change : Change) → change_of (slice_get (map sized old) first) (slice_get (map sized new) second) ≡ Some change → Own change
  own_row change found = own_at (slice_get (map sized old) first) (slice_get (map sized new) second) change refl refl found

-- rows that are their own are those of their changes
pub each_row : (old new : List SizePart) (none : SizedPart) (rows : List SizeChange) → All (IsOwnRow old new none) rows → AllZip (IsRow old new) (map (change_at old new none) rows) rows
each_row old new none [] all = tt
each_row old new none (row ∷ rows) all = (All-head (IsOwnRow old new none) row rows all, each_row old new none rows (All-tail (IsOwnRow old new none) row rows all))
