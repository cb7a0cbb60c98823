-- The names that an object asks for and the last entry of a tag, entry by entry.
use Rattle.std.proofs.Common.{◌≡◌, ◌≢◌, ℕ, List, [], ◌∷◌, Option, Some, None, Result, refl, ap, ◌∙◌}
use Rattle.std.proofs.lemmas.Bool.{eq-eqb, ne_eqb}
use Rattle.elf_linking.specs.DynamicView.{bytes_in_strings}
use Rattle.elf_linking.specs.declared.error.LinkError.{LinkError}
use Rattle.elf_records.specs.Dynamic.{dynamic_tag, dynamic_value}
use Rattle.elf_records.specs.declared.dynamic.Dynamic.{Dynamic}
use Rattle.elf_search.specs.Names.{behind_name, kind_of, last_number, names_in}
use Rattle.elf_search.specs.declared.names.NameKind.{NameKind}

pub names_none : (strings : Result (List ℕ) LinkError) (entries : List (Dynamic ℕ)) → entries ≡ [] → names_in strings entries ≡ []
names_none strings entries is = ap (names_in strings) is

pub names_first : (strings : Result (List ℕ) LinkError) (entries others : List (Dynamic ℕ)) (entry : Dynamic ℕ) (kind : NameKind) → entries ≡ entry ∷ others → kind_of (dynamic_tag entry) ≡ Some kind → names_in strings entries ≡ record { kind = kind; name = bytes_in_strings strings (dynamic_value entry) } ∷ names_in strings others
names_first strings entries others entry kind is asks = ap (names_in strings) is ∙ ap (λ found. behind_name found (bytes_in_strings strings (dynamic_value entry)) (names_in strings others)) asks

pub names_other : (strings : Result (List ℕ) LinkError) (entries others : List (Dynamic ℕ)) (entry : Dynamic ℕ) → entries ≡ entry ∷ others → kind_of (dynamic_tag entry) ≡ None → names_in strings entries ≡ names_in strings others
names_other strings entries others entry is asks = ap (names_in strings) is ∙ ap (λ found. behind_name found (bytes_in_strings strings (dynamic_value entry)) (names_in strings others)) asks

pub last_none : (tag : ℕ) (before : Option ℕ) (entries : List (Dynamic ℕ)) → entries ≡ [] → last_number tag before entries ≡ before
last_none tag before entries is = ap (last_number tag before) is

pub last_hit : (tag : ℕ) (before : Option ℕ) (entries others : List (Dynamic ℕ)) (entry : Dynamic ℕ) → entries ≡ entry ∷ others → dynamic_tag entry ≡ tag → last_number tag before entries ≡ last_number tag (Some (dynamic_value entry)) others
last_hit tag before entries others entry is same = ap (last_number tag before) is ∙ rw (eq-eqb (dynamic_tag entry) tag same) refl

pub last_other : (tag : ℕ) (before : Option ℕ) (entries others : List (Dynamic ℕ)) (entry : Dynamic ℕ) → entries ≡ entry ∷ others → dynamic_tag entry ≢ tag → last_number tag before entries ≡ last_number tag before others
last_other tag before entries others entry is other = ap (last_number tag before) is ∙ rw (ne_eqb (dynamic_tag entry) tag other) refl
