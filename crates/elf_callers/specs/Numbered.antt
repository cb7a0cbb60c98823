-- The symbols of one's own.
use Rattle.std.specs.Prelude.{ℕ, ◌==◌, List, Option, Some, None, codes, if◌then◌else◌}
use Rattle.xmas_elf.specs.Symbol.{SymbolFields}

-- what symbol `n` says: it is global, belongs to no section, and has its number as value
abbrev pub numbered_fields : ℕ → SymbolFields
numbered_fields n = record { name = 0; info = 0x10; other = 0; shndx = 0; value = n; size = 0 }

-- its name, which only two of them have
abbrev pub numbered_name : ℕ → Option (List ℕ)
numbered_name n = if n == 1 then Some (codes "ab") else (if n == 2 then Some (codes "zz") else None)
