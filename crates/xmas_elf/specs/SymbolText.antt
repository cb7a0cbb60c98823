-- The printed form of a symbol (this project's own, after the Rust crate).
use Rattle.std.specs.Prelude.{List, [], ◌∷◌, ◌++◌, ℕ, codes, decimal}
use Rattle.elf_base.specs.Printed.{field_line, joined, result_text}
use Rattle.elf_records.specs.SymbolNumbers.{binding_text, symbol_type_text, visibility_text}
use Rattle.xmas_elf.specs.Symbol.{SymbolFields, symbol_binding, symbol_type, symbol_visibility}

-- the fields of either class
abbrev pub symbol_fields_text : SymbolFields → List ℕ
symbol_fields_text symbol = joined (
    field_line (codes "name") (decimal symbol.name)
    ∷ field_line (codes "binding") (result_text binding_text (symbol_binding symbol))
    ∷ field_line (codes "type") (result_text symbol_type_text (symbol_type symbol))
    ∷ field_line (codes "other") (visibility_text (symbol_visibility symbol))
    ∷ field_line (codes "shndx") (decimal symbol.shndx)
    ∷ field_line (codes "value") (decimal symbol.value)
    ∷ field_line (codes "size") (decimal symbol.size)
    ∷ [])

-- a symbol, under its heading
abbrev pub symbol_text : SymbolFields → List ℕ
symbol_text symbol = codes "Symbol table entry:\n" ++ symbol_fields_text symbol
