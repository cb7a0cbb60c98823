-- The remaining entries of an iterator, one by one.
use Rattle.std.proofs.Common.{◌≡◌, ◌≢◌, ℕ, ◌==◌, ◌<◌, ◌≤◌, suc, length, arith, Bool, true, false, List, [], ◌∷◌, if◌then◌else◌, refl, ap, ◌∙◌}
use Rattle.std.proofs.lemmas.Bool.{eq-eqb, ne_eqb}
use Rattle.elf_linking.specs.DynamicView.{entries_left, pairs_left, until_null}
use Rattle.elf_linking.specs.declared.view.entries.DynamicEntries.{DynamicEntries}
use Rattle.elf_records.specs.Dynamic.{dynamic_tag}
use Rattle.elf_records.specs.declared.dynamic.Dynamic.{Dynamic}
use Rattle.elf_linking.specs.declared.view.tags.TheConstants.{DT_NULL}

pub left_ended : (iter : DynamicEntries) → iter.ended ≡ true → entries_left iter ≡ []
left_ended iter is = rw is refl

nothing_left : (iter : DynamicEntries) → until_null (pairs_left iter.rest) ≡ [] → entries_left iter ≡ []
nothing_left iter is = by_end iter.ended
  where
    by_end : (b : Bool) → (if b then [] else until_null (pairs_left iter.rest)) ≡ []
    by_end true = refl
    by_end false = is

pub left_none : (iter : DynamicEntries) → pairs_left iter.rest ≡ [] → entries_left iter ≡ []
left_none iter is = nothing_left iter (ap until_null is)

pub left_null : (iter : DynamicEntries) (entry : Dynamic ℕ) (others : List (Dynamic ℕ)) → pairs_left iter.rest ≡ entry ∷ others → dynamic_tag entry ≡ DT_NULL → entries_left iter ≡ []
left_null iter entry others is null = nothing_left iter (ap until_null is ∙ rw (eq-eqb (dynamic_tag entry) DT_NULL null) refl)

pub left_first : (iter : DynamicEntries) (entry : Dynamic ℕ) (others : List (Dynamic ℕ)) → iter.ended ≡ false → pairs_left iter.rest ≡ entry ∷ others → dynamic_tag entry ≢ DT_NULL → entries_left iter ≡ entry ∷ until_null others
left_first iter entry others going is other = rw going (ap until_null is ∙ rw (ne_eqb (dynamic_tag entry) DT_NULL other) refl)

pub left_going : (iter : DynamicEntries) → iter.ended ≡ false → entries_left iter ≡ until_null (pairs_left iter.rest)
left_going iter going = rw going refl

-- the entries before the first with tag Null are no more than all entries
few_by : (b : Bool) (entry : Dynamic ℕ) (before entries : List (Dynamic ℕ)) → length before ≤ length entries → length (if b then [] else entry ∷ before) ≤ suc (length entries)
few_by true entry before entries few = omega arith
few_by false entry before entries few = omega (arith, few)

until_null_few : (entries : List (Dynamic ℕ)) → length (until_null entries) ≤ length entries
until_null_few [] = omega arith
until_null_few (entry ∷ entries) = few_by (dynamic_tag entry == DT_NULL) entry (until_null entries) entries (until_null_few entries)

pub until_null_fits : (entries : List (Dynamic ℕ)) (bound : ℕ) → length entries < bound → length (until_null entries) < bound
until_null_fits entries bound fits = let few = until_null_few entries in omega (arith, few, fits)
