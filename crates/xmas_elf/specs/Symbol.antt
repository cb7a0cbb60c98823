-- The fields of symbols (gABI, "Symbol Table": Elf32_Sym and Elf64_Sym).
use Rattle.std.specs.Prelude.{◌%◌, ◌/◌, ◌<◌, ◌≡◌, ◌≢◌, List, Option, Result, Some, slice_get, ℕ}
use Rattle.elf_base.specs.Number.{byte_at, number}
use Rattle.elf_base.specs.declared.bytes.Order.{Order}
use Rattle.elf_base.specs.declared.error.ElfError.{ElfError}
use Rattle.elf_records.specs.SymbolNumbers.{binding_of, symbol_type_of, visibility_of}
use Rattle.elf_records.specs.declared.symbol_table.Binding.{Binding}
use Rattle.elf_records.specs.declared.symbol_table.Type as symbol_types
use Rattle.elf_records.specs.declared.symbol_table.Visibility.{Visibility}
use Rattle.xmas_elf.specs.declared.symbol_table.entries.DynEntry32.{DynEntry32}
use Rattle.xmas_elf.specs.declared.symbol_table.entries.DynEntry64.{DynEntry64}
use Rattle.xmas_elf.specs.declared.symbol_table.entries.Entry32.{Entry32}
use Rattle.xmas_elf.specs.declared.symbol_table.entries.Entry64.{Entry64}
use Rattle.xmas_elf.specs.declared.symbol_table.entries.Layout.{Layout}
use Rattle.xmas_elf.specs.declared.symbol_table.entries.Layout.TheVariants.{Narrow, Wide}

-- the fields of a symbol, as numbers
pub record SymbolFields : Type 0 where
  pub name : ℕ
  pub info : ℕ
  pub other : ℕ
  pub shndx : ℕ
  pub value : ℕ
  pub size : ℕ

-- a symbol of class 32, of 16 bytes
abbrev pub symbol_32 : Order → List ℕ → SymbolFields
symbol_32 order bytes = record {
  name = number order 4 0 bytes;
  value = number order 4 4 bytes;
  size = number order 4 8 bytes;
  info = byte_at 12 bytes;
  other = byte_at 13 bytes;
  shndx = number order 2 14 bytes;
}

-- a symbol of class 64, of 24 bytes
abbrev pub symbol_64 : Order → List ℕ → SymbolFields
symbol_64 order bytes = record {
  name = number order 4 0 bytes;
  info = byte_at 4 bytes;
  other = byte_at 5 bytes;
  shndx = number order 2 6 bytes;
  value = number order 8 8 bytes;
  size = number order 8 16 bytes;
}

-- the fields of a symbol, by the layout of its bytes
abbrev pub symbol_in : Layout → SymbolFields
symbol_in (Narrow bytes order) = symbol_32 order bytes.now
symbol_in (Wide bytes order) = symbol_64 order bytes.now

-- the entry of class 32 that stores these bytes
abbrev pub entry_32 : Order → List ℕ → Entry32
entry_32 order bytes = record { bytes = bytes; order = order }

-- the entry of class 64 that stores these bytes
abbrev pub entry_64 : Order → List ℕ → Entry64
entry_64 order bytes = record { bytes = bytes; order = order }

-- the entry for dynamic linking of class 32 that stores these bytes
abbrev pub dyn_entry_32 : Order → List ℕ → DynEntry32
dyn_entry_32 order bytes = record { bytes = bytes; order = order }

-- the entry for dynamic linking of class 64 that stores these bytes
abbrev pub dyn_entry_64 : Order → List ℕ → DynEntry64
dyn_entry_64 order bytes = record { bytes = bytes; order = order }

-- the fields of an entry of class 32
unfoldable pub entry_32_fields : Entry32 → SymbolFields
entry_32_fields entry = symbol_32 entry.order entry.bytes

-- the fields of an entry of class 64
unfoldable pub entry_64_fields : Entry64 → SymbolFields
entry_64_fields entry = symbol_64 entry.order entry.bytes

-- the fields of an entry for dynamic linking of class 32
unfoldable pub dyn_entry_32_fields : DynEntry32 → SymbolFields
dyn_entry_32_fields entry = symbol_32 entry.order entry.bytes

-- the fields of an entry for dynamic linking of class 64
unfoldable pub dyn_entry_64_fields : DynEntry64 → SymbolFields
dyn_entry_64_fields entry = symbol_64 entry.order entry.bytes

-- the binding of a symbol (gABI, "Symbol Table": ELF32_ST_BIND)
abbrev pub symbol_binding : SymbolFields → Result Binding ElfError
symbol_binding symbol = binding_of (symbol.info / 16)

-- the type of a symbol (gABI, "Symbol Table": ELF32_ST_TYPE)
abbrev pub symbol_type : SymbolFields → Result symbol_types.Type ElfError
symbol_type symbol = symbol_type_of (symbol.info % 16)

-- the visibility of a symbol (gABI, "Symbol Table": ELF32_ST_VISIBILITY)
abbrev pub symbol_visibility : SymbolFields → Visibility
symbol_visibility symbol = visibility_of symbol.other

-- the symbols in order, their fields, and their names, if any
pub record Symbols (E : Type 0) : Type 0 where
  pub items : List E
  pub fields : E → SymbolFields
  pub text : E → Option (List ℕ)

-- the symbol at index i is not local (STB_LOCAL) and has the name; index 0 is no symbol (STN_UNDEF)
pub record IsGlobal {E : Type 0} (symbols : Symbols E) (i : ℕ) (e : E) (name : List ℕ) : Type 0 where
  pub not_first : 0 < i
  pub stands : slice_get symbols.items i ≡ Some e
  pub binding : (symbols.fields e).info / 16 ≢ 0
  pub named : symbols.text e ≡ Some name
