-- Names of symbols, compared in the string table that was found for them.
use Rattle.std.proofs.Common.{◌≡◌, ◌↔◌, ℕ, List, Some, Result, Ok, Err, Bool, true, false, IsTrue, Bor, ap}
use Rattle.std.specs.Result.{result_ok}
use Rattle.elf_base.specs.Lent.{Answers}
use Rattle.elf_base.specs.Text.{EndsInZero, IsText, bytes_up_to_zero_of, text_of}
use Rattle.elf_base.proofs.lemmas.TextLemmas.{bytes-ended, ended-bytes, text_of-is, is-text_of}
use Rattle.xmas_elf.specs.Prelude.{ElfError, ElfFile}
use Rattle.xmas_elf.specs.StringTables.{dyn_string_of, string_of}
use Rattle.xmas_elf.specs.SymbolName.{name_in_table, symbol_string_of, symbol_strings_of}

pub ok_of_some : (answer : Result (List ℕ) ElfError) (text : List ℕ) → result_ok answer ≡ Some text → answer ≡ Ok text
ok_of_some (Ok one) text same = cc
ok_of_some (Err error) text same = cc

pub compared : (table : List ℕ) (index : ℕ) (wanted : List ℕ) (b : Bool) → (IsTrue b ↔ IsText table index wanted) → IsTrue b ↔ (result_ok (text_of table index) ≡ Some wanted)
compared table index wanted b said = (
  λ yes. ap result_ok (is-text_of table index wanted (said.0 yes)),
  λ same. said.1 (text_of-is table index wanted (ok_of_some (text_of table index) wanted same)),
)

pub compared_bytes : (table : List ℕ) (index : ℕ) (wanted : List ℕ) (b : Bool) → (IsTrue b ↔ EndsInZero table index wanted) → IsTrue b ↔ (result_ok (bytes_up_to_zero_of table index) ≡ Some wanted)
compared_bytes table index wanted b said = (
  λ yes. ap result_ok (bytes-ended table index wanted (said.0 yes)),
  λ same. said.1 (ended-bytes table index wanted (ok_of_some (bytes_up_to_zero_of table index) wanted same)),
)

-- the string table that was found contains the names of the symbols
pub holds_found : (dynamic : Bool) (file : ElfFile) (found : Result (Bor (List ℕ)) ElfError) (index : ℕ) → Answers (symbol_strings_of dynamic file) found → result_ok (symbol_string_of dynamic file index) ≡ result_ok (name_in_table found index)
unfolding string_of dyn_string_of
holds_found true file (Ok bytes) index is = rw is
holds_found true file (Err error) index is = rw is
holds_found false file (Ok bytes) index is = rw is
holds_found false file (Err error) index is = rw is
