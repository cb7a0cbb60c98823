-- The difference of the parts of two files (this project's own): the n-th part of a kind and a name of one file is matched
-- with the n-th of the other.
use Rattle.std.specs.Prelude.{◌≡◌, ℕ, ◌+◌, ◌-◌, ◌==◌, ◌&&◌, Bool, true, List, [], ◌∷◌, Option, None, Some, All, nat_eq, take}
use Rattle.std.specs.Cmp.Lexicographic.{slice_cmp}
use lib.Pointwise.{pointwise}
use Rattle.std.specs.List.{count_by, flat_map, slice_get, sum_by}
use Rattle.std.specs.List.Sorted.{IsPermutation, IsSorted}
use Rattle.std.specs.Ordering.{nat_cmp, ordering_then}
use Rattle.std.specs.declared.cmp.Ordering.{Ordering}
use Rattle.std.specs.declared.cmp.Ordering.TheVariants.{Less, Equal, Greater}
use Rattle.elf_addresses.specs.declared.difference.Change.{Change}
use Rattle.elf_addresses.specs.declared.difference.Change.TheVariants.{Both, Gone, New}
use Rattle.elf_addresses.specs.declared.difference.SizedPart.{SizedPart}

-- two parts have one kind and one name
abbrev pub have_one_name : SizedPart → SizedPart → Bool
have_one_name one other = (one.kind == other.kind) && pointwise nat_eq one.name.now other.name.now

-- the order of parts by kind and name
abbrev pub name_order : SizedPart → SizedPart → Ordering
name_order one other = ordering_then (nat_cmp one.kind other.kind) (slice_cmp nat_cmp one.name.now other.name.now)

-- the same, and by place where these are equal
abbrev pub part_order : SizedPart → SizedPart → Ordering
part_order one other = ordering_then (name_order one other) (nat_cmp one.place other.place)

-- the part at an index of one list and that at an index of the other have one name, and as many parts of that name are
-- before the one as before the other
pub record IsMatch (olds news : List SizedPart) (i j : ℕ) : Type 0 where
  pub old : SizedPart
  pub new : SizedPart
  pub old_is : slice_get olds i ≡ Some old
  pub new_is : slice_get news j ≡ Some new
  pub one_name : have_one_name old new ≡ true
  pub one_rank : count_by (have_one_name old) (take i olds) ≡ count_by (have_one_name new) (take j news)

-- a change of lists that are in order: a part that has no match in the other list, or two parts that match
abbrev pub IsChange : List SizedPart → List SizedPart → Change → Type 0
IsChange olds news (Gone old) = (i : ℕ) × (slice_get olds i ≡ Some old) × ((j : ℕ) → IsMatch olds news i j → ⊥)
IsChange olds news (New new) = (j : ℕ) × (slice_get news j ≡ Some new) × ((i : ℕ) → IsMatch olds news i j → ⊥)
IsChange olds news (Both old new) =
    (i : ℕ) × (j : ℕ) × (slice_get olds i ≡ Some old) × (slice_get news j ≡ Some new) × IsMatch olds news i j

-- the parts of the old file in a change: one or none
abbrev pub olds_of : Change → List SizedPart
olds_of (Gone old) = old ∷ []
olds_of (New new) = []
olds_of (Both old new) = old ∷ []

-- the parts of the new file in a change: one or none
abbrev pub news_of : Change → List SizedPart
news_of (Gone old) = []
news_of (New new) = new ∷ []
news_of (Both old new) = new ∷ []

-- the number of bytes in the old file; 0 without a part there
abbrev pub old_size : Change → ℕ
old_size (Gone old) = old.size
old_size (New new) = 0
old_size (Both old new) = old.size

-- the number of bytes in the new file; 0 without a part there
abbrev pub new_size : Change → ℕ
new_size (Gone old) = 0
new_size (New new) = new.size
new_size (Both old new) = new.size

-- the part of the new file, or else that of the old one
abbrev pub shown : Change → SizedPart
shown (Gone old) = old
shown (New new) = new
shown (Both old new) = new

-- by how many bytes a part grew; 0 if it didn't
abbrev pub growth : Change → ℕ
growth change = new_size change - old_size change

-- by how many bytes a part shrank; 0 if it didn't
abbrev pub shrinkage : Change → ℕ
shrinkage change = old_size change - new_size change

-- by how many bytes the sizes in the two files differ
abbrev pub distance : Change → ℕ
distance change = growth change + shrinkage change

-- the order of changes: the greatest first, and of the same number of bytes by their parts
abbrev pub change_order : Change → Change → Ordering
change_order one other = ordering_then (nat_cmp (distance other) (distance one)) (part_order (shown one) (shown other))

-- the sum of the sizes of some parts
abbrev pub all_sizes : List SizedPart → ℕ
all_sizes parts = sum_by (λ part. part.size) parts

-- changes of lists that are in order, with each part once
pub record AreMerged (olds news : List SizedPart) (changes : List Change) : Type 0 where
  pub each : All (IsChange olds news) changes
  pub each_old : flat_map olds_of changes ≡ olds
  pub each_new : flat_map news_of changes ≡ news

-- the differences of two lists of parts, the greatest first: in another order they list each part of each list once, by
-- the order of the parts; and the differences of the sizes sum to the difference of the sums
pub record AreDifferences (old new : List SizedPart) (changes : List Change) : Type 0 where
  pub olds : List SizedPart
  pub news : List SizedPart
  pub olds_moved : IsPermutation old olds
  pub news_moved : IsPermutation new news
  pub olds_sorted : IsSorted part_order olds
  pub news_sorted : IsSorted part_order news
  pub merged : List Change
  pub are_merged : AreMerged olds news merged
  pub moved : IsPermutation merged changes
  pub old_sum : sum_by old_size changes ≡ all_sizes old
  pub new_sum : sum_by new_size changes ≡ all_sizes new
  pub difference : sum_by growth changes + all_sizes old ≡ sum_by shrinkage changes + all_sizes new
  pub greatest_first : IsSorted change_order changes

-- The changes in the order of their names.

-- the change of two parts, by the order of their names
abbrev pub first_of : Ordering → SizedPart → SizedPart → Change
first_of Less old new = Gone old
first_of Equal old new = Both old new
first_of Greater old new = New new

-- the change of the first parts that are left
abbrev pub change_of : Option SizedPart → Option SizedPart → Option Change
change_of None None = None
change_of (Some old) None = Some (Gone old)
change_of None (Some new) = Some (New new)
change_of (Some old) (Some new) = Some (first_of (name_order old new) old new)
