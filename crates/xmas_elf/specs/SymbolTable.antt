-- Symbol tables that carry the names of their symbols (gABI, "Symbol Table" and "String Table").
use Rattle.std.specs.Prelude.{◌≡◌, ◌↔◌, ℕ, Bool, true, false, List, Option, None, Some, Result, IfOk, IfSome, IsOkAnd, MatchOption, MatchResult}
use Rattle.std.specs.Borrow.{Bor}
use Rattle.elf_base.specs.Lent.{Answers, LiesAt}
use Rattle.std.specs.Str.{IsUtf8}
use Rattle.elf_base.specs.Table.{table_items}
use Rattle.elf_base.specs.Text.{TextIfUtf8}
use Rattle.xmas_elf.specs.Prelude.{ElfError, Table}
use Rattle.xmas_elf.specs.Symbol.{Symbols}
use Rattle.xmas_elf.specs.SymbolName.{name_bytes_in_table}
use Rattle.xmas_elf.specs.NamedSymbols.{are_bytes, strings_by}
use Rattle.xmas_elf.specs.declared.symbol_table.table.SymbolTable.{SymbolTable}

-- the table without the names
abbrev pub carried_table : {E : Type 0} → {e r : _} → SymbolTable E e r → Table E r
carried_table symbols = symbols.table

-- the string table of the names, or the error for it; None if names are not texts of one table
abbrev pub carried_strings : {E : Type 0} → {e r : _} → SymbolTable E e r → Option (Result (Bor (List ℕ)) ElfError)
carried_strings symbols = strings_by symbols.names

-- the symbols in order, their fields, and their names, if any
abbrev pub table_symbols : {E : Type 0} → {e r : _} → SymbolTable E e r → Symbols E
table_symbols {E} {e} {r} symbols =
    record { items = table_items symbols.table; fields = e.fields; text = symbols.text.0 }

-- names are bytes, whether or not they are UTF-8
abbrev pub carries_bytes : {E : Type 0} → {e r : _} → SymbolTable E e r → Bool
carries_bytes symbols = are_bytes symbols.names

-- why a call returns no text: there is no name, or it is bytes that aren't UTF-8
abbrev pub IsNoText : Bool → Option (List ℕ) → Type 0
IsNoText false name = name ≡ None
IsNoText true name = (text : List ℕ) → name ≡ Some text → IsUtf8 text → ⊥

-- the bytes of a name have the property exactly if they are returned; where names are texts, only if they are UTF-8
abbrev pub NameIf : {E : Type 0} → Bool → (List ℕ → Type 0) → Result (Bor (List ℕ)) E → Type 0
NameIf false Is result = TextIfUtf8 Is result
NameIf true Is result = (name : List ℕ) → Is name ↔ IsOkAnd result (λ part. part.now ≡ name)

-- the result of a call is the bytes of a symbol's name: those in the string table, or else those of its text
abbrev pub AreNameBytes : {E : Type 0} → {e r : _} → SymbolTable E e r → E → Result (Bor (List ℕ)) ElfError → Type 0
AreNameBytes {E} {e} {r} symbols symbol result = MatchOption (carried_strings symbols)
    (MatchResult result (λ name. (table_symbols symbols).text symbol ≡ Some name.now) (λ error. (table_symbols symbols).text symbol ≡ None))
    (λ found. Answers (name_bytes_in_table found (e.fields symbol).name) result)

-- the place of these bytes in the string table
abbrev pub LieAsNameBytes : {E : Type 0} → {e r : _} → SymbolTable E e r → E → Result (Bor (List ℕ)) ElfError → Type 0
LieAsNameBytes {E} {e} {r} symbols symbol result = IfSome (carried_strings symbols)
    (λ found. IfOk found (λ table. IfOk result (LiesAt table (e.fields symbol).name)))
