-- The names of needed libraries, entry by entry.
use Rattle.std.proofs.Common.{◌≡◌, ◌≢◌, ℕ, ◌==◌, ◌<◌, ◌≤◌, suc, length, arith, Bool, true, false, if◌then◌else◌, List, [], ◌∷◌, Some, Result, refl, ap, ◌∙◌}
use Rattle.std.proofs.lemmas.Bool.{eq-eqb, ne_eqb}
use Rattle.elf_linking.specs.DynamicView.{needed_by, first_with}
use Rattle.elf_linking.specs.declared.error.LinkError.{LinkError}
use Rattle.elf_records.specs.Dynamic.{dynamic_tag, dynamic_value}
use Rattle.elf_records.specs.declared.dynamic.Dynamic.{Dynamic}
use Rattle.elf_linking.specs.declared.view.tags.TheConstants.{DT_NEEDED}

pub needed_none : (name_at : ℕ → Result (List ℕ) LinkError) (entries : List (Dynamic ℕ)) → entries ≡ [] → needed_by name_at entries ≡ []
needed_none name_at entries is = ap (needed_by name_at) is

pub needed_first : (name_at : ℕ → Result (List ℕ) LinkError) (entries others : List (Dynamic ℕ)) (entry : Dynamic ℕ) → entries ≡ entry ∷ others → dynamic_tag entry ≡ DT_NEEDED → needed_by name_at entries ≡ name_at (dynamic_value entry) ∷ needed_by name_at others
needed_first name_at entries others entry is tagged = ap (needed_by name_at) is ∙ rw (eq-eqb (dynamic_tag entry) DT_NEEDED tagged) refl

pub needed_other : (name_at : ℕ → Result (List ℕ) LinkError) (entries others : List (Dynamic ℕ)) (entry : Dynamic ℕ) → entries ≡ entry ∷ others → dynamic_tag entry ≢ DT_NEEDED → needed_by name_at entries ≡ needed_by name_at others
needed_other name_at entries others entry is other = ap (needed_by name_at) is ∙ rw (ne_eqb (dynamic_tag entry) DT_NEEDED other) refl

-- the number of the first such entry, entry by entry
pub number_first : (entries others : List (Dynamic ℕ)) (entry : Dynamic ℕ) → entries ≡ entry ∷ others → dynamic_tag entry ≡ DT_NEEDED → first_with DT_NEEDED entries ≡ Some (dynamic_value entry)
number_first entries others entry is tagged = ap (first_with DT_NEEDED) is ∙ rw (eq-eqb (dynamic_tag entry) DT_NEEDED tagged) refl

pub number_other : (entries others : List (Dynamic ℕ)) (entry : Dynamic ℕ) → entries ≡ entry ∷ others → dynamic_tag entry ≢ DT_NEEDED → first_with DT_NEEDED entries ≡ first_with DT_NEEDED others
number_other entries others entry is other = ap (first_with DT_NEEDED) is ∙ rw (ne_eqb (dynamic_tag entry) DT_NEEDED other) refl

-- the names are no more than the entries
few_by : {A : Type 0} (b : Bool) (name : A) (names : List A) (count : ℕ) → length names ≤ count → length (if b then name ∷ names else names) ≤ suc count
few_by true name names count few = omega (arith, few)
few_by false name names count few = omega (arith, few)

needed_few : (name_at : ℕ → Result (List ℕ) LinkError) (entries : List (Dynamic ℕ)) → length (needed_by name_at entries) ≤ length entries
needed_few name_at [] = omega arith
needed_few name_at (entry ∷ entries) = few_by (dynamic_tag entry == DT_NEEDED) (name_at (dynamic_value entry)) (needed_by name_at entries) (length entries) (needed_few name_at entries)

pub needed_fits : (name_at : ℕ → Result (List ℕ) LinkError) (entries : List (Dynamic ℕ)) (bound : ℕ) → length entries < bound → length (needed_by name_at entries) < bound
needed_fits name_at entries bound fits = let few = needed_few name_at entries in omega (arith, few, fits)
