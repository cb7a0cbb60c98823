-- The meaning of the numbers of program headers (gABI, "Program Header", p_type and p_flags).
use Rattle.std.specs.Prelude.{ℕ, ◌==◌, ◌^◌, nat_le, ◌&&◌, Bool, true, false, List, [], ◌∷◌, ◌++◌, Result, Ok, Err, codes, bit_and, if◌then◌else◌}
use Rattle.elf_base.specs.Number.{named_or}
use Rattle.elf_base.specs.Printed.{numbered}
use Rattle.elf_base.specs.declared.error.ElfError.{ElfError}
use Rattle.elf_base.specs.declared.error.ElfError.TheVariants.{InvalidPhType}
use Rattle.elf_records.specs.declared.program.Type_.{Type_}
use Rattle.elf_records.specs.declared.program.Type as the_type
use Rattle.elf_records.specs.declared.program.Type.TheVariants as ph_type

-- the number of a segment's type (p_type), as it is in the file
abbrev pub ph_type_number : Type_ → ℕ
ph_type_number type_ = type_.0

-- the type of a number
abbrev pub ph_type_raw : ℕ → Type_
ph_type_raw n = record { 0 = n }

-- the ranges of types: OS-specific and processor-specific
abbrev pub ph_type_in_range : ℕ → Result the_type.Type ElfError
ph_type_in_range n =
    if nat_le 0x60000000 n && nat_le n 0x6fffffff then Ok (ph_type.OsSpecific n)
    else (if nat_le 0x70000000 n && nat_le n 0x7fffffff then Ok (ph_type.ProcessorSpecific n)
    else Err InvalidPhType)

-- the type of a number, or that the number is unknown
unfoldable pub ph_type_of : ℕ → Result the_type.Type ElfError
ph_type_of n = named_or ph_type_in_range (
    (0, Ok ph_type.Null)
    ∷ (1, Ok ph_type.Load)
    ∷ (2, Ok ph_type.Dynamic)
    ∷ (3, Ok ph_type.Interp)
    ∷ (4, Ok ph_type.Note)
    ∷ (5, Ok ph_type.ShLib)
    ∷ (6, Ok ph_type.Phdr)
    ∷ (7, Ok ph_type.Tls)
    ∷ (0x6474e552, Ok ph_type.GnuRelro)
    ∷ []) n

-- whether two types are equal
abbrev pub is_ph_type : the_type.Type → the_type.Type → Bool
is_ph_type ph_type.Null ph_type.Null = true
is_ph_type ph_type.Load ph_type.Load = true
is_ph_type ph_type.Dynamic ph_type.Dynamic = true
is_ph_type ph_type.Interp ph_type.Interp = true
is_ph_type ph_type.Note ph_type.Note = true
is_ph_type ph_type.ShLib ph_type.ShLib = true
is_ph_type ph_type.Phdr ph_type.Phdr = true
is_ph_type ph_type.Tls ph_type.Tls = true
is_ph_type ph_type.GnuRelro ph_type.GnuRelro = true
is_ph_type (ph_type.OsSpecific m) (ph_type.OsSpecific n) = m == n
is_ph_type (ph_type.ProcessorSpecific m) (ph_type.ProcessorSpecific n) = m == n
is_ph_type _ _ = false

-- whether a result is this type
abbrev pub has_ph_type : the_type.Type → Result the_type.Type ElfError → Bool
has_ph_type wanted (Ok kind) = is_ph_type wanted kind
has_ph_type wanted (Err error) = false

-- the printed form of a type
abbrev pub ph_type_text : the_type.Type → List ℕ
ph_type_text ph_type.Null = codes "Null"
ph_type_text ph_type.Load = codes "Load"
ph_type_text ph_type.Dynamic = codes "Dynamic"
ph_type_text ph_type.Interp = codes "Interp"
ph_type_text ph_type.Note = codes "Note"
ph_type_text ph_type.ShLib = codes "ShLib"
ph_type_text ph_type.Phdr = codes "Phdr"
ph_type_text ph_type.Tls = codes "Tls"
ph_type_text ph_type.GnuRelro = codes "GnuRelro"
ph_type_text (ph_type.OsSpecific n) = numbered (codes "OsSpecific") n
ph_type_text (ph_type.ProcessorSpecific n) = numbered (codes "ProcessorSpecific") n

-- a letter where bit k is set, else a space
abbrev pub flag_text : ℕ → ℕ → List ℕ → List ℕ
flag_text n k letter = if bit_and n (2 ^ k) == 0 then codes " " else letter

-- p_flags, as `X R`: bits 0, 1 and 2
abbrev pub flags_text : ℕ → List ℕ
flags_text n = flag_text n 0 (codes "X") ++ (flag_text n 1 (codes "W") ++ flag_text n 2 (codes "R"))
