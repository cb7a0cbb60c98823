-- Which symbols name addresses, and which of two with the same range comes first (gABI, "Symbol Table"; the
-- order is this project's own).
use Rattle.std.specs.Prelude.{ℕ, ◌+◌, ◌*◌, ◌%◌, ◌/◌, Bool, true, false, ◌&&◌, ◌||◌, ◌==◌, not, nat_le, nat_lt, List, Option, None, Some, slice_get, slice_index, unwrap_or, if◌then◌else◌}
use Rattle.xmas_elf.specs.Symbol.{SymbolFields}

-- the section index of a symbol: its own, if it is not reserved; for 0xffff (SHN_XINDEX) the word at its index
-- in the section of type SHT_SYMTAB_SHNDX (gABI, "Sections"); 0 if it has none
abbrev pub section_index : List ℕ → SymbolFields → ℕ → ℕ
section_index words symbol index =
    if symbol.shndx == 0xffff then unwrap_or (slice_get words index) 0
    else (if nat_lt symbol.shndx 0xff00 then symbol.shndx else 0)

-- a symbol is in some section, or in the one that is asked for
abbrev pub is_within : Option ℕ → ℕ → Bool
is_within (Some wanted) section = not (section == 0) && section == wanted
is_within None section = not (section == 0)

-- symbols of the type name addresses: STT_NOTYPE, STT_OBJECT, STT_FUNC and STT_GNU_IFUNC
abbrev pub has_address : ℕ → Bool
has_address kind = nat_le kind 2 || kind == 10

-- the letters after the dollar sign in the names of mapping symbols, `a` `d` `t` for machine 40 (ELF for the
-- Arm Architecture), `d` `x` for 183 (ELF for the Arm 64-bit Architecture), `d` `t` for 252 (C-SKY psABI), and
-- `d` for 243 (RISC-V psABI)
abbrev pub is_mapping_letter : ℕ → ℕ → Bool
is_mapping_letter machine letter =
    if machine == 40 then letter == 97 || letter == 100 || letter == 116
    else (if machine == 183 then letter == 100 || letter == 120
    else (if machine == 252 then letter == 100 || letter == 116
    else machine == 243 && letter == 100))

-- a name with these first bytes begins with `.L` (labels that assemblers make), or is that of a mapping symbol:
-- it begins with `$x` for machine 243, or is a dollar sign and a letter, and then ends or goes on with a dot
abbrev pub is_mapping : ℕ → ℕ → ℕ → ℕ → Bool
is_mapping machine first second third =
    if first == 46 then second == 76
    else (if not (first == 36) then false
    else (if machine == 243 && second == 120 then true
    else is_mapping_letter machine second && (third == 0 || third == 46)))

-- a symbol has a name (gABI, "Symbol Table": st_name is 0 if it has none), and is not a local symbol without a type
-- that is named as a mapping symbol or a label; the bytes of a string table past its end are 0
unfoldable pub is_named : ℕ → List ℕ → SymbolFields → Bool
is_named machine strings symbol =
    not (symbol.name == 0)
    && not (symbol.info == 0 && is_mapping machine (slice_index strings symbol.name) (slice_index strings (symbol.name + 1)) (slice_index strings (symbol.name + 2)))

-- a symbol names addresses, by the string table of its names, the machine, and the words of section indices
abbrev pub is_candidate : ℕ → List ℕ → List ℕ → Option ℕ → ℕ → SymbolFields → Bool
is_candidate machine strings words within index symbol =
    has_address (symbol.info % 16) && is_within within (section_index words symbol index)
    && is_named machine strings symbol

-- functions (STT_FUNC, STT_GNU_IFUNC) come before objects (STT_OBJECT), and these before others
abbrev pub type_rank : ℕ → ℕ
type_rank kind = if kind == 2 || kind == 10 then 0 else (if kind == 1 then 1 else 2)

-- global symbols (STB_GLOBAL, STB_GNU_UNIQUE) come before weak ones (STB_WEAK), and these before others
abbrev pub binding_rank : ℕ → ℕ
binding_rank binding = if binding == 1 || binding == 10 then 0 else (if binding == 2 then 1 else 2)

-- the rank of a symbol by its type and then its binding, both in st_info
unfoldable pub symbol_rank : ℕ → ℕ
symbol_rank info = type_rank (info % 16) * 3 + binding_rank (info / 16)
