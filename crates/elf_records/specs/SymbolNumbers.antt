-- The meaning of the numbers of symbols (gABI, "Symbol Table": STB_, STT_ and STV_).
use Rattle.std.specs.Prelude.{ℕ, ◌%◌, nat_le, ◌&&◌, List, [], ◌∷◌, Result, Ok, Err, codes, if◌then◌else◌}
use Rattle.elf_base.specs.Number.{named_or}
use Rattle.elf_base.specs.Printed.{numbered}
use Rattle.elf_base.specs.declared.error.ElfError.{ElfError}
use Rattle.elf_base.specs.declared.error.ElfError.TheVariants.{InvalidBinding, InvalidSymbolType}
use Rattle.elf_records.specs.declared.symbol_table.Visibility_.{Visibility_}
use Rattle.elf_records.specs.declared.symbol_table.Visibility.{Visibility}
use Rattle.elf_records.specs.declared.symbol_table.Visibility.TheVariants as visibility
use Rattle.elf_records.specs.declared.symbol_table.Binding_.{Binding_}
use Rattle.elf_records.specs.declared.symbol_table.Binding.{Binding}
use Rattle.elf_records.specs.declared.symbol_table.Binding.TheVariants as binding
use Rattle.elf_records.specs.declared.symbol_table.Type_.{Type_}
use Rattle.elf_records.specs.declared.symbol_table.Type as the_type
use Rattle.elf_records.specs.declared.symbol_table.Type.TheVariants as symbol_type

-- the number of a visibility in the file
abbrev pub visibility_number : Visibility_ → ℕ
visibility_number visibility = visibility.0

-- the visibility with this number
abbrev pub visibility_raw : ℕ → Visibility_
visibility_raw n = record { 0 = n }

-- the number of a binding in the file
abbrev pub binding_number : Binding_ → ℕ
binding_number binding = binding.0

-- the binding with this number
abbrev pub binding_raw : ℕ → Binding_
binding_raw n = record { 0 = n }

-- the number of a symbol type in the file
abbrev pub symbol_type_number : Type_ → ℕ
symbol_type_number type_ = type_.0

-- the symbol type with this number
abbrev pub symbol_type_raw : ℕ → Type_
symbol_type_raw n = record { 0 = n }

-- STV_: the visibility, in the low two bits
unfoldable pub visibility_of : ℕ → Visibility
visibility_of n = named_or (λ _. visibility.Default) (
    (0, visibility.Default)
    ∷ (1, visibility.Internal)
    ∷ (2, visibility.Hidden)
    ∷ (3, visibility.Protected)
    ∷ []) (n % 4)

-- the ranges of bindings: OS-specific and processor-specific
abbrev pub binding_in_range : ℕ → Result Binding ElfError
binding_in_range n =
    if nat_le 10 n && nat_le n 12 then Ok (binding.OsSpecific n)
    else (if nat_le 13 n && nat_le n 15 then Ok (binding.ProcessorSpecific n)
    else Err InvalidBinding)

-- STB_: the binding of a number, or that the number is unknown
unfoldable pub binding_of : ℕ → Result Binding ElfError
binding_of n = named_or binding_in_range (
    (0, Ok binding.Local)
    ∷ (1, Ok binding.Global)
    ∷ (2, Ok binding.Weak)
    ∷ []) n

-- the ranges of types: OS-specific and processor-specific
abbrev pub symbol_type_in_range : ℕ → Result the_type.Type ElfError
symbol_type_in_range n =
    if nat_le 10 n && nat_le n 12 then Ok (symbol_type.OsSpecific n)
    else (if nat_le 13 n && nat_le n 15 then Ok (symbol_type.ProcessorSpecific n)
    else Err InvalidSymbolType)

-- STT_: the type of a number, or that the number is unknown
unfoldable pub symbol_type_of : ℕ → Result the_type.Type ElfError
symbol_type_of n = named_or symbol_type_in_range (
    (0, Ok symbol_type.NoType)
    ∷ (1, Ok symbol_type.Object)
    ∷ (2, Ok symbol_type.Func)
    ∷ (3, Ok symbol_type.Section)
    ∷ (4, Ok symbol_type.File)
    ∷ (5, Ok symbol_type.Common)
    ∷ (6, Ok symbol_type.Tls)
    ∷ []) n

-- the printed form of a visibility
abbrev pub visibility_text : Visibility → List ℕ
visibility_text visibility.Default = codes "Default"
visibility_text visibility.Internal = codes "Internal"
visibility_text visibility.Hidden = codes "Hidden"
visibility_text visibility.Protected = codes "Protected"

-- the printed form of a binding
abbrev pub binding_text : Binding → List ℕ
binding_text binding.Local = codes "Local"
binding_text binding.Global = codes "Global"
binding_text binding.Weak = codes "Weak"
binding_text (binding.OsSpecific n) = numbered (codes "OsSpecific") n
binding_text (binding.ProcessorSpecific n) = numbered (codes "ProcessorSpecific") n

-- the printed form of a symbol type
abbrev pub symbol_type_text : the_type.Type → List ℕ
symbol_type_text symbol_type.NoType = codes "NoType"
symbol_type_text symbol_type.Object = codes "Object"
symbol_type_text symbol_type.Func = codes "Func"
symbol_type_text symbol_type.Section = codes "Section"
symbol_type_text symbol_type.File = codes "File"
symbol_type_text symbol_type.Common = codes "Common"
symbol_type_text symbol_type.Tls = codes "Tls"
symbol_type_text (symbol_type.OsSpecific n) = numbered (codes "OsSpecific") n
symbol_type_text (symbol_type.ProcessorSpecific n) = numbered (codes "ProcessorSpecific") n
