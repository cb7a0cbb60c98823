-- Which symbols serve references of other files than their own (gABI, "Symbol Table": the binding in st_info, and the
-- visibility in st_other; LSB, STB_GNU_UNIQUE).
use Rattle.std.specs.Prelude.{ℕ, ◌/◌, ◌%◌, ◌==◌, ◌&&◌, ◌||◌, Bool, Option, Some, None, if◌then◌else◌}
use Rattle.xmas_elf.specs.Symbol.{SymbolFields}

-- a symbol serves references of other files: its binding is global (STB_GLOBAL, 1), weak (STB_WEAK, 2) or unique
-- (STB_GNU_UNIQUE, 10), and its visibility is the default (STV_DEFAULT, 0) or protected (STV_PROTECTED, 3)
abbrev pub serves_others : SymbolFields → Bool
serves_others e = let binding = e.info / 16 in let visibility = e.other % 4 in
    (binding == 1 || (binding == 2 || binding == 10)) && (visibility == 0 || visibility == 3)

-- what a file gives to other files, by the symbol that is found in it: that symbol, if it serves them
abbrev pub if_serving : {E : Type 0} → (E → SymbolFields) → Option (ℕ × E) → Option (ℕ × E)
if_serving fields None = None
if_serving fields (Some at) = if serves_others (fields at.1) then Some at else None
