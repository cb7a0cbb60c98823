-- The printed form of an ELF header (this project's own, after the Rust crate).
use Rattle.std.specs.Prelude.{ℕ, List, [], ◌∷◌, ◌++◌, codes, decimal}
use Rattle.elf_base.specs.Printed.{numbered, bytes_text, field_line, joined}
use Rattle.elf_base.specs.FileHeader.{class_number, class_of, encoding_number, encoding_of, header_fields, machine_number, machine_of, os_abi_number, os_abi_of, type_number, type_of, version_number, version_of}
use Rattle.elf_base.specs.declared.header.numbers.Class.{Class}
use Rattle.elf_base.specs.declared.header.numbers.Class.TheVariants as class
use Rattle.elf_base.specs.declared.header.numbers.Data.{Data}
use Rattle.elf_base.specs.declared.header.numbers.Data.TheVariants as encoding
use Rattle.elf_base.specs.declared.header.numbers.Version.{Version}
use Rattle.elf_base.specs.declared.header.numbers.Version.TheVariants as version
use Rattle.elf_base.specs.declared.header.numbers.OsAbi.{OsAbi}
use Rattle.elf_base.specs.declared.header.numbers.OsAbi.TheVariants as os_abi
use Rattle.elf_base.specs.declared.header.numbers.Type as the_type
use Rattle.elf_base.specs.declared.header.numbers.Type.TheVariants as kind
use Rattle.elf_base.specs.declared.header.numbers.Machine.{Machine}
use Rattle.elf_base.specs.declared.header.numbers.Machine.TheVariants as machine
use Rattle.elf_base.specs.declared.header.HeaderPt1.{HeaderPt1}
use Rattle.elf_base.specs.declared.header.HeaderPt2_.{HeaderPt2_}
use Rattle.elf_base.specs.declared.header.Header.{Header}

-- the name of a class (EI_CLASS)
abbrev pub class_text : Class → List ℕ
class_text class.None = codes "None"
class_text class.ThirtyTwo = codes "ThirtyTwo"
class_text class.SixtyFour = codes "SixtyFour"
class_text (class.Other n) = numbered (codes "Other") n

-- the name of a data encoding (EI_DATA)
abbrev pub encoding_text : Data → List ℕ
encoding_text encoding.None = codes "None"
encoding_text encoding.LittleEndian = codes "LittleEndian"
encoding_text encoding.BigEndian = codes "BigEndian"
encoding_text (encoding.Other n) = numbered (codes "Other") n

-- the name of a version (EI_VERSION)
abbrev pub version_text : Version → List ℕ
version_text version.None = codes "None"
version_text version.Current = codes "Current"
version_text (version.Other n) = numbered (codes "Other") n

-- the name of an ABI (EI_OSABI)
abbrev pub os_abi_text : OsAbi → List ℕ
os_abi_text os_abi.SystemV = codes "SystemV"
os_abi_text os_abi.HpUx = codes "HpUx"
os_abi_text os_abi.NetBSD = codes "NetBSD"
os_abi_text os_abi.Linux = codes "Linux"
os_abi_text os_abi.Solaris = codes "Solaris"
os_abi_text os_abi.Aix = codes "Aix"
os_abi_text os_abi.Irix = codes "Irix"
os_abi_text os_abi.FreeBSD = codes "FreeBSD"
os_abi_text os_abi.OpenBSD = codes "OpenBSD"
os_abi_text os_abi.OpenVMS = codes "OpenVMS"
os_abi_text (os_abi.Other n) = numbered (codes "Other") n

-- the name of an object file type (e_type)
abbrev pub type_text : the_type.Type → List ℕ
type_text kind.None = codes "None"
type_text kind.Relocatable = codes "Relocatable"
type_text kind.Executable = codes "Executable"
type_text kind.SharedObject = codes "SharedObject"
type_text kind.Core = codes "Core"
type_text (kind.ProcessorSpecific n) = numbered (codes "ProcessorSpecific") n

-- the name of an architecture (e_machine)
abbrev pub machine_text : Machine → List ℕ
machine_text machine.None = codes "None"
machine_text machine.Sparc = codes "Sparc"
machine_text machine.X86 = codes "X86"
machine_text machine.Mips = codes "Mips"
machine_text machine.PowerPC = codes "PowerPC"
machine_text machine.Arm = codes "Arm"
machine_text machine.SuperH = codes "SuperH"
machine_text machine.Ia64 = codes "Ia64"
machine_text machine.X86_64 = codes "X86_64"
machine_text machine.AArch64 = codes "AArch64"
machine_text machine.RISC_V = codes "RISC_V"
machine_text machine.BPF = codes "BPF"
machine_text (machine.Other n) = numbered (codes "Other") n

-- part 1: a line for each of its seven fields
abbrev pub first_part_text : HeaderPt1 → List ℕ
first_part_text part = joined (
    field_line (codes "magic") (bytes_text part.magic)
    ∷ field_line (codes "class") (class_text (class_of (class_number part.class)))
    ∷ field_line (codes "data") (encoding_text (encoding_of (encoding_number part.encoding)))
    ∷ field_line (codes "version") (version_text (version_of (version_number part.version)))
    ∷ field_line (codes "os abi") (os_abi_text (os_abi_of (os_abi_number part.os_abi)))
    ∷ field_line (codes "abi version") (decimal part.abi_version)
    ∷ field_line (codes "padding") (bytes_text part.padding)
    ∷ [])

-- part 2, of either class
abbrev pub second_part_text : HeaderPt2_ ℕ → List ℕ
second_part_text part = joined (
    field_line (codes "type") (type_text (type_of (type_number part.type_)))
    ∷ field_line (codes "machine") (machine_text (machine_of (machine_number part.machine)))
    ∷ field_line (codes "version") (decimal part.version)
    ∷ field_line (codes "entry_point") (decimal part.entry_point)
    ∷ field_line (codes "ph_offset") (decimal part.ph_offset)
    ∷ field_line (codes "sh_offset") (decimal part.sh_offset)
    ∷ field_line (codes "flags") (decimal part.flags)
    ∷ field_line (codes "header_size") (decimal part.header_size)
    ∷ field_line (codes "ph_entry_size") (decimal part.ph_entry_size)
    ∷ field_line (codes "ph_count") (decimal part.ph_count)
    ∷ field_line (codes "sh_entry_size") (decimal part.sh_entry_size)
    ∷ field_line (codes "sh_count") (decimal part.sh_count)
    ∷ field_line (codes "sh_str_index") (decimal part.sh_str_index)
    ∷ [])

-- the whole header, under its heading
abbrev pub header_text : Header → List ℕ
header_text header =
    codes "ELF header:\n" ++ (first_part_text header.pt1 ++ second_part_text (header_fields header.pt2))
