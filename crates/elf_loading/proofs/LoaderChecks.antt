-- The checks of one loader, load by load.
use Rattle.std.proofs.Common.{◌≡◌, ℕ, Bool, true, false, List, [], ◌∷◌, length, Option, Some, None, Ok, Err, if◌then◌else◌, refl, ap, ◌∙◌}
use Rattle.std.specs.List.{last_or, list_all, list_any}
use Rattle.std.specs.Prelude.{slice_get}
use Rattle.elf_base.specs.FirstError.{unless}
use Rattle.elf_loading.specs.FileCheck.{has_no_load}
use Rattle.elf_loading.specs.LoaderCheck.{are_nothing, check_each, is_nothing_at}
use Rattle.elf_loading.specs.LoadCheck.{load_start}
use Rattle.elf_loading.specs.Types.{LoadError, Segment}

module _ (rows : Segment → List (Bool × LoadError)) (items others : List Segment) (load : Segment) where
  pub each_rest : items ≡ load ∷ others → unless (rows load) (tt {0}) ≡ Ok (tt {0}) → check_each rows items ≡ check_each rows others
  each_rest is ok = ap (check_each rows) is ∙ rw ok refl

  pub each_error : (error : LoadError) → items ≡ load ∷ others → unless (rows load) (tt {0}) ≡ Err error → check_each rows items ≡ Err error
  each_error error is err = ap (check_each rows) is ∙ rw err refl

pub each_end : (rows : Segment → List (Bool × LoadError)) (items : List Segment) → items ≡ [] → check_each rows items ≡ Ok (tt {0})
each_end rows items is = ap (check_each rows) is

module _ (test : Segment → Bool) (items others : List Segment) (load : Segment) where
  pub all_miss : items ≡ load ∷ others → test load ≡ false → list_all test items ≡ false
  all_miss is miss = ap (list_all test) is ∙ rw miss refl

  pub all_rest : items ≡ load ∷ others → test load ≡ true → list_all test items ≡ list_all test others
  all_rest is hit = ap (list_all test) is ∙ rw hit refl

  pub any_hit : items ≡ load ∷ others → test load ≡ true → list_any test items ≡ true
  any_hit is hit = ap (list_any test) is ∙ rw hit refl

  pub any_rest : items ≡ load ∷ others → test load ≡ false → list_any test items ≡ list_any test others
  any_rest is miss = ap (list_any test) is ∙ rw miss refl

pub all_end : (test : Segment → Bool) (items : List Segment) → items ≡ [] → list_all test items ≡ true
all_end test items is = ap (list_all test) is

pub any_end : (test : Segment → Bool) (items : List Segment) → items ≡ [] → list_any test items ≡ false
any_end test items is = ap (list_any test) is

-- the first load
pub first_some : (items others : List Segment) (load : Segment) → items ≡ load ∷ others → slice_get items 0 ≡ Some load
first_some items others load is = ap (λ list. slice_get list 0) is

pub first_none : (items : List Segment) → items ≡ [] → slice_get items 0 ≡ None
first_none items is = ap (λ list. slice_get list 0) is

-- the last load
pub last_next : (before : Option Segment) (items others : List Segment) (load : Segment) → items ≡ load ∷ others → last_or before items ≡ last_or (Some load) others
last_next before items others load is = ap (last_or before) is

pub last_end : (before : Option Segment) (items : List Segment) → items ≡ [] → last_or before items ≡ before
last_end before items is = ap (last_or before) is

pub nothing_some : (page : ℕ) (loads : List Segment) (first : Segment) → slice_get loads 0 ≡ Some first → are_nothing page loads ≡ list_all (is_nothing_at (load_start page first)) loads
nothing_some page (load ∷ loads) first is = let same : load ≡ first = cc in ap (λ one. list_all (is_nothing_at (load_start page one)) (load ∷ loads)) same
nothing_some page [] first is = absurd (cc)

pub nothing_none : (page : ℕ) (loads : List Segment) → slice_get loads 0 ≡ None → are_nothing page loads ≡ false
nothing_none page (load ∷ loads) is = absurd (cc)
nothing_none page [] is = refl

-- there is no load
pub none_is : (loads : List Segment) → length loads ≡ 0 → has_no_load loads ≡ true
none_is [] is = refl
none_is (load ∷ loads) is = absurd (cc)

pub some_is : (loads : List Segment) → (length loads ≡ 0 → ⊥) → has_no_load loads ≡ false
some_is [] is = absurd (is refl)
some_is (load ∷ loads) is = refl
