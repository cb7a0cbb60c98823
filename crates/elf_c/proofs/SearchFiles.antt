-- The names of the entries that ask for a library, entry by entry.
use Rattle.std.proofs.Common.{◌≡◌, ℕ, List, [], ◌∷◌, None, Some, Result, ap, ◌∙◌}
use Rattle.elf_records.specs.Dynamic.{dynamic_tag, dynamic_value}
use Rattle.elf_records.specs.declared.dynamic.Dynamic.{Dynamic}
use Rattle.elf_c.specs.DynamicTexts.{linked_name, range_in_strings}
use Rattle.elf_c.specs.SearchFiles.{behind_row, needed_kind, needed_rows}
use Rattle.elf_c.specs.declared.names.Range.{Range}
use Rattle.elf_c.specs.declared.status.AnyError.{AnyError}

pub needed_none : (input : List ℕ) (strings : Result Range AnyError) (entries : List (Dynamic ℕ)) → entries ≡ [] → needed_rows input strings entries ≡ []
needed_none input strings entries is = ap (needed_rows input strings) is

pub needed_first : (input : List ℕ) (strings : Result Range AnyError) (entries others : List (Dynamic ℕ)) (entry : Dynamic ℕ) (kind : ℕ) → entries ≡ entry ∷ others → needed_kind (dynamic_tag entry) ≡ Some kind → needed_rows input strings entries ≡ behind_row (Some kind) (linked_name (range_in_strings input strings (dynamic_value entry))) (needed_rows input strings others)
needed_first input strings entries others entry kind is asks = ap (needed_rows input strings) is ∙ ap (λ found. behind_row found (linked_name (range_in_strings input strings (dynamic_value entry))) (needed_rows input strings others)) asks

pub needed_other : (input : List ℕ) (strings : Result Range AnyError) (entries others : List (Dynamic ℕ)) (entry : Dynamic ℕ) → entries ≡ entry ∷ others → needed_kind (dynamic_tag entry) ≡ None → needed_rows input strings entries ≡ needed_rows input strings others
needed_other input strings entries others entry is asks = ap (needed_rows input strings) is ∙ ap (λ found. behind_row found (linked_name (range_in_strings input strings (dynamic_value entry))) (needed_rows input strings others)) asks
