-- The names of needed libraries as texts are their bytes as texts.
use Rattle.std.proofs.Common.{◌≡◌, ℕ, ◌==◌, Bool, true, false, if◌then◌else◌, List, [], ◌∷◌, map, Result, Ok, Err, refl, ap}
use Rattle.elf_base.proofs.Texts.{text_of-bytes, text_of-error}
use Rattle.elf_base.specs.Text.{bytes_up_to_zero_of, text_of}
use Rattle.elf_base.specs.declared.error.ElfError.{ElfError}
use Rattle.elf_linking.specs.DynamicView.{as_link_error, as_linked_text, bytes_in_strings, needed_bytes_in, needed_in, text_in_strings}
use Rattle.elf_linking.specs.declared.error.LinkError.{LinkError}
use Rattle.elf_records.specs.Dynamic.{dynamic_tag, dynamic_value}
use Rattle.elf_records.specs.declared.dynamic.Dynamic.{Dynamic}
use Rattle.elf_linking.specs.declared.view.tags.TheConstants.{DT_NEEDED}

text_by : (table : List ℕ) (place : ℕ) (found : Result (List ℕ) ElfError) → bytes_up_to_zero_of table place ≡ found → as_link_error (text_of table place) ≡ as_linked_text (as_link_error found)
text_by table place (Ok bytes) is = ap as_link_error (text_of-bytes table place bytes is)
text_by table place (Err error) is = ap as_link_error (text_of-error table place error is)

pub text_as_bytes : (strings : Result (List ℕ) LinkError) (place : ℕ) → text_in_strings strings place ≡ as_linked_text (bytes_in_strings strings place)
text_as_bytes (Ok table) place = text_by table place (bytes_up_to_zero_of table place) refl
text_as_bytes (Err error) place = refl

step : (b : Bool) (text bytes : Result (List ℕ) LinkError) (texts parts : List (Result (List ℕ) LinkError)) → text ≡ as_linked_text bytes → texts ≡ map as_linked_text parts → (if b then text ∷ texts else texts) ≡ map as_linked_text (if b then bytes ∷ parts else parts)
step true text bytes texts parts first others = cc
step false text bytes texts parts first others = others

pub needed_texts : (strings : Result (List ℕ) LinkError) (entries : List (Dynamic ℕ)) → needed_in strings entries ≡ map as_linked_text (needed_bytes_in strings entries)
needed_texts strings [] = refl
needed_texts strings (entry ∷ entries) =
    step (dynamic_tag entry == DT_NEEDED) (text_in_strings strings (dynamic_value entry)) (bytes_in_strings strings (dynamic_value entry)) (needed_in strings entries) (needed_bytes_in strings entries)
    (text_as_bytes strings (dynamic_value entry)) (needed_texts strings entries)
