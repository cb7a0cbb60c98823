-- The names of symbols in a file, one by one and in a string table that was found for many of them (gABI,
-- "Symbol Table", st_name).
use Rattle.std.specs.Prelude.{◌≡◌, ℕ, List, Option, Some, None, Result, Ok, Err, Bool, true, false}
use Rattle.std.specs.Borrow.{Bor}
use Rattle.std.specs.Result.{result_ok}
use Rattle.elf_base.specs.Text.{bytes_up_to_zero_of, text_of}
use Rattle.xmas_elf.specs.Prelude.{ElfError, ElfFile}
use Rattle.xmas_elf.specs.StringTables.{IsDynString, IsString, dyn_string_of, dynstr_of, string_of, strtab_of}
use Rattle.xmas_elf.specs.Symbol.{SymbolFields}

-- the string table of symbols: .dynstr for symbols for dynamic linking, otherwise .strtab
abbrev pub symbol_strings_of : Bool → ElfFile → Result (List ℕ) ElfError
symbol_strings_of true = dynstr_of
symbol_strings_of false = strtab_of

-- the text at an index of the string table of symbols, or why there is none
abbrev pub symbol_string_of : Bool → ElfFile → ℕ → Result (List ℕ) ElfError
symbol_string_of true = dyn_string_of
symbol_string_of false = string_of

-- a text is the one at an index of the string table of symbols
abbrev pub IsSymbolString : Bool → ElfFile → ℕ → List ℕ → Type 0
IsSymbolString true = IsDynString
IsSymbolString false = IsString

-- the text at an index of the table that was found, or why there is none
abbrev pub name_in_table : Result (Bor (List ℕ)) ElfError → ℕ → Result (List ℕ) ElfError
name_in_table (Ok table) index = text_of table.now index
name_in_table (Err error) index = Err error

-- the bytes at an index of the table that was found, or why there are none
abbrev pub name_bytes_in_table : Result (Bor (List ℕ)) ElfError → ℕ → Result (List ℕ) ElfError
name_bytes_in_table (Ok table) index = bytes_up_to_zero_of table.now index
name_bytes_in_table (Err error) index = Err error

-- the text at an index of the given string table, or, if none is given, of the string table of symbols
abbrev pub name_by : Bool → ElfFile → Option (Result (Bor (List ℕ)) ElfError) → ℕ → Result (List ℕ) ElfError
name_by dynamic file (Some found) index = name_in_table found index
name_by dynamic file None index = symbol_string_of dynamic file index

-- the name of each symbol is the text at its index in the string table that was found
abbrev pub HoldsNames : {E : Type 0} → (E → SymbolFields) → (E → Option (List ℕ)) → Result (Bor (List ℕ)) ElfError → Type 0
HoldsNames {E} fields text found = (entry : E) → text entry ≡ result_ok (name_in_table found (fields entry).name)
