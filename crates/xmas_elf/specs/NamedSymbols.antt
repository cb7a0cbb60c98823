-- Where the names of the symbols of a table are read, and what they are (gABI, "Symbol Table", st_name, and
-- "String Table").
use Rattle.std.specs.Prelude.{ℕ, Bool, true, false, List, Option, None, Some, Result, Ok}
use Rattle.std.specs.Borrow.{Bor}
use Rattle.std.specs.Result.{result_ok}
use Rattle.std.proofs.Math.Path.{Singl, contract}
use Rattle.std.proofs.Common.{sym, ◌∙◌}
use Rattle.elf_base.specs.Text.{bytes_up_to_zero_of}
use Rattle.xmas_elf.specs.Prelude.{ElfError, ElfFile}
use Rattle.xmas_elf.specs.Symbol.{SymbolFields}
use Rattle.xmas_elf.specs.SymbolName.{name_in_table}
use Rattle.xmas_elf.specs.declared.symbol_table.symbol_names.Names.{Names}
use Rattle.xmas_elf.specs.declared.symbol_table.symbol_names.Names.TheVariants.{Bytes, File, Strings}

-- the name of each symbol: the text or the bytes in the string table, or the text in the file
abbrev pub text_by : {E : Type 0} → (E → SymbolFields) → (E → ElfFile → Option (List ℕ)) → Names → E → Option (List ℕ)
text_by fields text_in (Strings found) = λ entry. result_ok (name_in_table found (fields entry).name)
text_by fields text_in (Bytes strings) = λ entry. result_ok (bytes_up_to_zero_of strings.now (fields entry).name)
text_by fields text_in (File file) = λ entry. text_in entry file

-- the string table, or the error for it; None if names are not texts of one table
abbrev pub strings_by : Names → Option (Result (Bor (List ℕ)) ElfError)
strings_by (Strings found) = Some found
strings_by (Bytes strings) = Some (Ok strings)
strings_by (File file) = None

-- names are bytes, whether or not they are UTF-8
abbrev pub are_bytes : Names → Bool
are_bytes (Bytes strings) = true
are_bytes _ = false

-- the names of symbols in one value: a ghost field can't have a function, but it can have a type of one value
abbrev pub TextBy : {E : Type 0} → (E → SymbolFields) → (E → ElfFile → Option (List ℕ)) → Names → Type 0
TextBy fields text_in names = Singl (text_by fields text_in names)

-- `TextBy` has only one value, as the type of a ghost field must
pub TextBy-prop : {E : Type 0} (fields : E → SymbolFields) (text_in : E → ElfFile → Option (List ℕ)) (names : Names) → IsProp (TextBy fields text_in names)
TextBy-prop fields text_in names = λ one other. sym (contract one.1) ∙ contract other.1
