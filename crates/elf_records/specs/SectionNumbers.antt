-- The meaning of the numbers of sections (gABI, "Sections", sh_type).
use Rattle.std.specs.Prelude.{ℕ, nat_le, ◌==◌, ◌&&◌, Bool, true, false, List, [], ◌∷◌, Result, Ok, Err, codes, if◌then◌else◌}
use Rattle.elf_base.specs.Number.{named_or}
use Rattle.elf_base.specs.Printed.{numbered}
use Rattle.elf_base.specs.declared.error.ElfError.{ElfError}
use Rattle.elf_base.specs.declared.error.ElfError.TheVariants.{InvalidShType}
use Rattle.elf_records.specs.declared.sections.ShType_.{ShType_}
use Rattle.elf_records.specs.declared.sections.ShType.{ShType}
use Rattle.elf_records.specs.declared.sections.ShType.TheVariants as sh_type

-- the number of a section's type (sh_type), as it is in the file
abbrev pub sh_type_number : ShType_ → ℕ
sh_type_number type_ = type_.0

-- the type of a number
abbrev pub sh_type_raw : ℕ → ShType_
sh_type_raw n = record { 0 = n }

-- the ranges of types: OS-specific, processor-specific, and for applications
abbrev pub sh_type_in_range : ℕ → Result ShType ElfError
sh_type_in_range n =
    if nat_le 0x60000000 n && nat_le n 0x6fffffff then Ok (sh_type.OsSpecific n)
    else (if nat_le 0x70000000 n && nat_le n 0x7fffffff then Ok (sh_type.ProcessorSpecific n)
    else (if nat_le 0x80000000 n then Ok (sh_type.User n)
    else Err InvalidShType))

-- the type of a number, or that the number is unknown
unfoldable pub sh_type_of : ℕ → Result ShType ElfError
sh_type_of n = named_or sh_type_in_range (
    (0, Ok sh_type.Null)
    ∷ (1, Ok sh_type.ProgBits)
    ∷ (2, Ok sh_type.SymTab)
    ∷ (3, Ok sh_type.StrTab)
    ∷ (4, Ok sh_type.Rela)
    ∷ (5, Ok sh_type.Hash)
    ∷ (6, Ok sh_type.Dynamic)
    ∷ (7, Ok sh_type.Note)
    ∷ (8, Ok sh_type.NoBits)
    ∷ (9, Ok sh_type.Rel)
    ∷ (10, Ok sh_type.ShLib)
    ∷ (11, Ok sh_type.DynSym)
    ∷ (14, Ok sh_type.InitArray)
    ∷ (15, Ok sh_type.FiniArray)
    ∷ (16, Ok sh_type.PreInitArray)
    ∷ (17, Ok sh_type.Group)
    ∷ (18, Ok sh_type.SymTabShIndex)
    ∷ []) n

-- whether two types are equal
abbrev pub is_sh_type : ShType → ShType → Bool
is_sh_type sh_type.Null sh_type.Null = true
is_sh_type sh_type.ProgBits sh_type.ProgBits = true
is_sh_type sh_type.SymTab sh_type.SymTab = true
is_sh_type sh_type.StrTab sh_type.StrTab = true
is_sh_type sh_type.Rela sh_type.Rela = true
is_sh_type sh_type.Hash sh_type.Hash = true
is_sh_type sh_type.Dynamic sh_type.Dynamic = true
is_sh_type sh_type.Note sh_type.Note = true
is_sh_type sh_type.NoBits sh_type.NoBits = true
is_sh_type sh_type.Rel sh_type.Rel = true
is_sh_type sh_type.ShLib sh_type.ShLib = true
is_sh_type sh_type.DynSym sh_type.DynSym = true
is_sh_type sh_type.InitArray sh_type.InitArray = true
is_sh_type sh_type.FiniArray sh_type.FiniArray = true
is_sh_type sh_type.PreInitArray sh_type.PreInitArray = true
is_sh_type sh_type.Group sh_type.Group = true
is_sh_type sh_type.SymTabShIndex sh_type.SymTabShIndex = true
is_sh_type (sh_type.OsSpecific m) (sh_type.OsSpecific n) = m == n
is_sh_type (sh_type.ProcessorSpecific m) (sh_type.ProcessorSpecific n) = m == n
is_sh_type (sh_type.User m) (sh_type.User n) = m == n
is_sh_type _ _ = false

-- whether a result is this type
abbrev pub has_sh_type : ShType → Result ShType ElfError → Bool
has_sh_type wanted (Ok kind) = is_sh_type wanted kind
has_sh_type wanted (Err error) = false

-- the printed form of a type
abbrev pub sh_type_text : ShType → List ℕ
sh_type_text sh_type.Null = codes "Null"
sh_type_text sh_type.ProgBits = codes "ProgBits"
sh_type_text sh_type.SymTab = codes "SymTab"
sh_type_text sh_type.StrTab = codes "StrTab"
sh_type_text sh_type.Rela = codes "Rela"
sh_type_text sh_type.Hash = codes "Hash"
sh_type_text sh_type.Dynamic = codes "Dynamic"
sh_type_text sh_type.Note = codes "Note"
sh_type_text sh_type.NoBits = codes "NoBits"
sh_type_text sh_type.Rel = codes "Rel"
sh_type_text sh_type.ShLib = codes "ShLib"
sh_type_text sh_type.DynSym = codes "DynSym"
sh_type_text sh_type.InitArray = codes "InitArray"
sh_type_text sh_type.FiniArray = codes "FiniArray"
sh_type_text sh_type.PreInitArray = codes "PreInitArray"
sh_type_text sh_type.Group = codes "Group"
sh_type_text sh_type.SymTabShIndex = codes "SymTabShIndex"
sh_type_text (sh_type.OsSpecific n) = numbered (codes "OsSpecific") n
sh_type_text (sh_type.ProcessorSpecific n) = numbered (codes "ProcessorSpecific") n
sh_type_text (sh_type.User n) = numbered (codes "User") n
