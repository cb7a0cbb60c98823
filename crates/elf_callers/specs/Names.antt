-- Names that are read from the bytes of a file, and how many bytes names have (gABI, "String Table").
use Rattle.std.specs.Prelude.{◌==◌, ◌%◌, ℕ, IsSome, List, [], ◌∷◌, Option, Result, length, not, take}
use Rattle.std.specs.Borrow.{Bor}
use Rattle.std.specs.Option.{option_map_or}
use Rattle.elf_callers.specs.Totals.{IsTotal}
use Rattle.xmas_elf.specs.ElfError.TheVariants.{NotMultiple, SymbolIndex}
use Rattle.xmas_elf.specs.FileHeader.{header_of}
use Rattle.xmas_elf.specs.NameTable.{shstr_of}
use Rattle.xmas_elf.specs.FirstError.{and_then, unless}
use Rattle.xmas_elf.specs.StringTables.{string_of}
use Rattle.xmas_elf.specs.Symbol.{Symbols, entry_64, entry_64_fields}
use Rattle.xmas_elf.specs.Types.{ElfError, Order}

-- how many bytes a text has, and 0 where there is none
abbrev pub text_length : Option (List ℕ) → ℕ
text_length text = option_map_or length text 0

-- the text at an index of the name table of the file that an input is, or why there is none
abbrev pub name_in_bytes : Bor (List ℕ) → ℕ → Result (List ℕ) ElfError
name_in_bytes input index = and_then (header_of input.now)
    (λ header. shstr_of (record { input = input; header = header }) index)

-- the name of the first of some symbols of class 64 in the file that an input is, or why there is none
abbrev pub first_name_of : Bor (List ℕ) → Order → List ℕ → Result (List ℕ) ElfError
first_name_of input order symbols = and_then (header_of input.now) (λ header. and_then (unless (
    (not (length symbols % 24 == 0), NotMultiple)
    ∷ (length symbols == 0, SymbolIndex)
    ∷ []) (entry_64 order (take 24 symbols)))
    (λ symbol. string_of (record { input = input; header = header }) (entry_64_fields symbol).name))

-- a symbol has a text
abbrev pub HasText : {E : Type 0} → Symbols E → E → Type 0
HasText symbols symbol = IsSome (symbols.text symbol)

-- all symbols have one, and these have so many bytes
abbrev pub IsNameTotal : {E : Type 0} → Symbols E → ℕ → Type 0
IsNameTotal symbols = IsTotal (HasText symbols) (λ symbol. text_length (symbols.text symbol)) symbols.items
