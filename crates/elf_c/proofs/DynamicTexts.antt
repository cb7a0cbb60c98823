-- The texts that dynamic entries with a tag name, entry by entry.
use Rattle.std.proofs.Common.{◌≡◌, ◌≢◌, ℕ, List, [], ◌∷◌, Result, refl, ap, ◌∙◌}
use Rattle.std.proofs.lemmas.Bool.{eq-eqb, ne_eqb}
use Rattle.elf_records.specs.Dynamic.{dynamic_tag, dynamic_value}
use Rattle.elf_records.specs.declared.dynamic.Dynamic.{Dynamic}
use Rattle.elf_c.specs.DynamicTexts.{linked_name, range_in_strings, texts_with}
use Rattle.elf_c.specs.declared.names.Range.{Range}
use Rattle.elf_c.specs.declared.status.AnyError.{AnyError}

pub texts_none : (tag : ℕ) (input : List ℕ) (strings : Result Range AnyError) (entries : List (Dynamic ℕ)) → entries ≡ [] → texts_with tag input strings entries ≡ []
texts_none tag input strings entries is = ap (texts_with tag input strings) is

pub texts_first : (tag : ℕ) (input : List ℕ) (strings : Result Range AnyError) (entries others : List (Dynamic ℕ)) (entry : Dynamic ℕ) → entries ≡ entry ∷ others → dynamic_tag entry ≡ tag → texts_with tag input strings entries ≡ linked_name (range_in_strings input strings (dynamic_value entry)) ∷ texts_with tag input strings others
texts_first tag input strings entries others entry is tagged = ap (texts_with tag input strings) is ∙ rw (eq-eqb (dynamic_tag entry) tag tagged) refl

pub texts_other : (tag : ℕ) (input : List ℕ) (strings : Result Range AnyError) (entries others : List (Dynamic ℕ)) (entry : Dynamic ℕ) → entries ≡ entry ∷ others → dynamic_tag entry ≢ tag → texts_with tag input strings entries ≡ texts_with tag input strings others
texts_other tag input strings entries others entry is other = ap (texts_with tag input strings) is ∙ rw (ne_eqb (dynamic_tag entry) tag other) refl
