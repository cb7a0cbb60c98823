-- A text that is compared in place.
use Rattle.std.proofs.Common.{◌≡◌, ◌↔◌, ℕ, Bool, true, List, Ok, IsTrue, refl, sym, ap, ◌∙◌}
use Rattle.std.proofs.lemmas.Slice.Eq.{bytes_eq-Decides}
use Rattle.std.specs.Str.{bytes_eq}
use Rattle.elf_base.proofs.lemmas.TextLemmas.{is-text_of}
use Rattle.elf_base.specs.Text.{IsText, text_of}
use Rattle.elf_linking.specs.DynamicView.{as_link_error, text_in_strings}
use Rattle.elf_linking.specs.VersionTables.{result_map}

-- if a text stands in a string table, it is the text there
pub text_stands : (table : List ℕ) (place : ℕ) (wanted : List ℕ) (held : Bool) → (IsTrue held ↔ IsText table place wanted) → held ≡ true
    → Ok true ≡ result_map (λ text. bytes_eq text wanted) (text_in_strings (Ok table) place)
text_stands table place wanted held stands is =
    let found : text_of table place ≡ Ok wanted = is-text_of table place wanted (stands.0 is) in
    let same : bytes_eq wanted wanted ≡ true = (bytes_eq-Decides wanted wanted).1 refl in
    sym (ap (λ text. result_map (λ other. bytes_eq other wanted) (as_link_error text)) found ∙ ap (λ b. Ok b) same)
