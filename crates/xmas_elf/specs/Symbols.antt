-- The symbols of a table in a file, as in look-ups and checks (gABI, "Symbol Table").
use Rattle.std.specs.Prelude.{◌≡◌, ◌^◌, ◌<◌, ℕ, List, Option, Some, Bool, true, false, Contains, slice_get}
use Rattle.std.specs.Borrow.{Bor}
use Rattle.std.specs.Fn.{Shared, FnReturns, FnReturnsAt}
use Rattle.std.specs.Result.{result_ok}
use Rattle.elf_base.specs.Table.{records, table_items}
use Rattle.elf_base.specs.Text.{bytes_up_to_zero_of, text_of}
use Rattle.xmas_elf.specs.Prelude.{DynEntry32, DynEntry64, ElfFile, Entry32, Entry64, Order, Table}
use Rattle.xmas_elf.specs.Symbol.{SymbolFields, Symbols, dyn_entry_32, dyn_entry_32_fields, dyn_entry_64, dyn_entry_64_fields, entry_32, entry_32_fields, entry_64, entry_64_fields}
use Rattle.xmas_elf.specs.SymbolName.{symbol_string_of}

-- the symbols of a table in a file
abbrev pub symbols_of : {E : Type 0} → {r : _} → (E → SymbolFields) → (E → ElfFile → Option (List ℕ)) → Table E r → ElfFile → Symbols E
symbols_of fields text_in table file =
    record { items = table_items table; fields = fields; text = λ e. text_in e file }

-- the symbols of a table with their names in a string table
abbrev pub named_symbols : {E : Type 0} → {r : _} → (E → SymbolFields) → List ℕ → Table E r → Symbols E
named_symbols fields strings table =
    record { items = table_items table; fields = fields; text = λ e. result_ok (text_of strings (fields e).name) }

-- the symbols of a table with the bytes of their names in a string table, whether or not they are UTF-8
abbrev pub symbols_by_bytes : {E : Type 0} → {r : _} → (E → SymbolFields) → List ℕ → Table E r → Symbols E
symbols_by_bytes fields strings table =
    record { items = table_items table; fields = fields; text = λ e. result_ok (bytes_up_to_zero_of strings (fields e).name) }

-- the symbols in bytes of a file, each of a size, with their names in `.strtab` or in `.dynstr`
abbrev pub symbols_in : {E : Type 0} → ℕ → (List ℕ → E) → (E → SymbolFields) → Bool → ElfFile → List ℕ → Symbols E
symbols_in size entry fields dynamic file bytes = record {
  items = records size entry bytes;
  fields = fields;
  text = λ e. result_ok (symbol_string_of dynamic file (fields e).name);
}

-- the symbols of class 32 in bytes, with their names in .strtab
abbrev pub symbols_in_32 : ElfFile → Order → List ℕ → Symbols Entry32
symbols_in_32 file order bytes = symbols_in 16 (entry_32 order) entry_32_fields false file bytes

-- the symbols of class 64 in bytes, with their names in .strtab
abbrev pub symbols_in_64 : ElfFile → Order → List ℕ → Symbols Entry64
symbols_in_64 file order bytes = symbols_in 24 (entry_64 order) entry_64_fields false file bytes

-- the symbols for dynamic linking of class 32 in bytes, with their names in .dynstr
abbrev pub dyn_symbols_in_32 : ElfFile → Order → List ℕ → Symbols DynEntry32
dyn_symbols_in_32 file order bytes = symbols_in 16 (dyn_entry_32 order) dyn_entry_32_fields true file bytes

-- the symbols for dynamic linking of class 64 in bytes, with their names in .dynstr
abbrev pub dyn_symbols_in_64 : ElfFile → Order → List ℕ → Symbols DynEntry64
dyn_symbols_in_64 file order bytes = symbols_in 24 (dyn_entry_64 order) dyn_entry_64_fields true file bytes

-- a test has at most one result for each of the symbols
abbrev pub Decides : {F E : Type 0} → Symbols E → Shared F (Bor E × Unit {0}) Bool → F → Type 0
Decides {F} {E} symbols test f =
    (e : E) → Contains symbols.items e → FnReturnsAt test f e true → FnReturnsAt test f e false → ⊥

-- a symbol has the name and passes the test
abbrev pub IsMatch : {F E : Type 0} → Symbols E → Shared F (Bor E × Unit {0}) Bool → F → List ℕ → E → Type 0
IsMatch symbols test f name e = (symbols.text e ≡ Some name) × FnReturnsAt test f e true

-- a test of an index and a symbol may have the result r for symbol at.1 at index at.0
pub record ReturnsWhere {F E : Type 0} (test : Shared F (ℕ × (Bor E × Unit {0})) Bool) (f : F) (at : ℕ × E) (r : Bool) : Type 0 where
  pub shown : Bor E
  pub shows : shown.now ≡ at.1
  pub says : FnReturns test f (at.0, (shown, tt)) r

-- a test of an index and a symbol has at most one result for each symbol at its index, if that fits in 32 bits
abbrev pub DecidesWhere : {F E : Type 0} → Symbols E → Shared F (ℕ × (Bor E × Unit {0})) Bool → F → Type 0
DecidesWhere {F} {E} symbols test f = (i : ℕ) (e : E) → i < 2 ^ 32 → slice_get symbols.items i ≡ Some e
    → ReturnsWhere test f (i, e) true → ReturnsWhere test f (i, e) false → ⊥

-- a symbol has the name and passes the test with its index
abbrev pub IsMatchWhere : {F E : Type 0} → Symbols E → Shared F (ℕ × (Bor E × Unit {0})) Bool → F → List ℕ → ℕ × E → Type 0
IsMatchWhere symbols test f name at = (symbols.text at.1 ≡ Some name) × ReturnsWhere test f at true
