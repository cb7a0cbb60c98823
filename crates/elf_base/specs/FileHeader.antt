-- The ELF header (gABI, "ELF Header"): the meaning of its numbers, its layout, and the bytes that are accepted
-- as a file.
use Rattle.std.specs.Prelude.{ℕ, ◌==◌, [], ◌∷◌, if◌then◌else◌, ◌+◌, List, slice_range, ◌≡◌, ◌≤◌, ◌||◌, ◌⊎◌, not, nat_eq, nat_lt, length, Result}
use Rattle.elf_base.specs.Number.{named_or, number, byte_at}
use Rattle.elf_base.specs.declared.bytes.Order.{Order}
use Rattle.elf_base.specs.declared.bytes.Order.TheVariants.{Little, Big}
use Rattle.elf_base.specs.declared.header.numbers.Class_.{Class_}
use Rattle.elf_base.specs.declared.header.numbers.Data_.{Data_}
use Rattle.elf_base.specs.declared.header.numbers.Version_.{Version_}
use Rattle.elf_base.specs.declared.header.numbers.OsAbi_.{OsAbi_}
use Rattle.elf_base.specs.declared.header.numbers.Type_.{Type_}
use Rattle.elf_base.specs.declared.header.numbers.Machine_.{Machine_}
use Rattle.elf_base.specs.declared.header.numbers.Class.{Class}
use Rattle.elf_base.specs.declared.header.numbers.Data.{Data}
use Rattle.elf_base.specs.declared.header.numbers.Version.{Version}
use Rattle.elf_base.specs.declared.header.numbers.OsAbi.{OsAbi}
use Rattle.elf_base.specs.declared.header.numbers.Machine.{Machine}
use Rattle.elf_base.specs.declared.header.HeaderPt1.{HeaderPt1}
use Rattle.elf_base.specs.declared.header.HeaderPt2_.{HeaderPt2_}
use Rattle.elf_base.specs.declared.header.HeaderPt2.{HeaderPt2}
use Rattle.elf_base.specs.declared.header.HeaderPt2.TheVariants.{Header32, Header64}
use Rattle.elf_base.specs.FirstError.{unless}
use Rattle.elf_base.specs.declared.error.ElfError.{ElfError}
use Rattle.elf_base.specs.declared.header.Header.{Header}
use lib.Pointwise.{pointwise}
use Rattle.elf_base.specs.declared.header.numbers.Class.TheVariants as classes
use Rattle.elf_base.specs.declared.header.numbers.Data.TheVariants as encodings
use Rattle.elf_base.specs.declared.header.numbers.Version.TheVariants as versions
use Rattle.elf_base.specs.declared.header.numbers.OsAbi.TheVariants as os_abis
use Rattle.elf_base.specs.declared.header.numbers.Type as the_type
use Rattle.elf_base.specs.declared.header.numbers.Type.TheVariants as kind
use Rattle.elf_base.specs.declared.header.numbers.Machine.TheVariants as machines
use Rattle.elf_base.specs.declared.error.ElfError.TheVariants as error

-- The meaning of the numbers of a header (e_ident, e_type, e_machine).

-- the number of EI_CLASS in the file
abbrev pub class_number : Class_ → ℕ
class_number raw = raw.0

-- EI_CLASS with this number
abbrev pub class_raw : ℕ → Class_
class_raw n = record { 0 = n }

-- the meaning of EI_CLASS
abbrev pub class_of : ℕ → Class
class_of n = named_or classes.Other ((0, classes.None) ∷ (1, classes.ThirtyTwo) ∷ (2, classes.SixtyFour) ∷ []) n

-- the number of EI_DATA in the file
abbrev pub encoding_number : Data_ → ℕ
encoding_number raw = raw.0

-- EI_DATA with this number
abbrev pub encoding_raw : ℕ → Data_
encoding_raw n = record { 0 = n }

-- the meaning of EI_DATA
abbrev pub encoding_of : ℕ → Data
encoding_of n = named_or encodings.Other (
    (0, encodings.None) ∷ (1, encodings.LittleEndian) ∷ (2, encodings.BigEndian) ∷ []) n

-- the byte order by EI_DATA: all numbers but 2 mean little-endian (this project's own)
abbrev pub order_of : ℕ → Order
order_of n = if n == 2 then Big else Little

-- the number of EI_VERSION in the file
abbrev pub version_number : Version_ → ℕ
version_number raw = raw.0

-- EI_VERSION with this number
abbrev pub version_raw : ℕ → Version_
version_raw n = record { 0 = n }

-- the meaning of EI_VERSION
abbrev pub version_of : ℕ → Version
version_of n = named_or versions.Other ((0, versions.None) ∷ (1, versions.Current) ∷ []) n

-- the number of EI_OSABI in the file
abbrev pub os_abi_number : OsAbi_ → ℕ
os_abi_number raw = raw.0

-- EI_OSABI with this number
abbrev pub os_abi_raw : ℕ → OsAbi_
os_abi_raw n = record { 0 = n }

-- the meaning of EI_OSABI
abbrev pub os_abi_of : ℕ → OsAbi
os_abi_of n = named_or os_abis.Other (
    (0, os_abis.SystemV) ∷ (1, os_abis.HpUx) ∷ (2, os_abis.NetBSD) ∷ (3, os_abis.Linux)
    ∷ (6, os_abis.Solaris) ∷ (7, os_abis.Aix) ∷ (8, os_abis.Irix) ∷ (9, os_abis.FreeBSD)
    ∷ (12, os_abis.OpenBSD) ∷ (13, os_abis.OpenVMS) ∷ []) n

-- the number of e_type in the file
abbrev pub type_number : Type_ → ℕ
type_number raw = raw.0

-- e_type with this number
abbrev pub type_raw : ℕ → Type_
type_raw n = record { 0 = n }

-- the meaning of e_type
abbrev pub type_of : ℕ → the_type.Type
type_of n = named_or kind.ProcessorSpecific (
    (0, kind.None) ∷ (1, kind.Relocatable) ∷ (2, kind.Executable) ∷ (3, kind.SharedObject) ∷ (4, kind.Core) ∷ []) n

-- the number of e_machine in the file
abbrev pub machine_number : Machine_ → ℕ
machine_number raw = raw.0

-- e_machine with this number
abbrev pub machine_raw : ℕ → Machine_
machine_raw n = record { 0 = n }

-- the meaning of e_machine
abbrev pub machine_of : ℕ → Machine
machine_of n = named_or machines.Other (
    (0, machines.None) ∷ (2, machines.Sparc) ∷ (3, machines.X86) ∷ (8, machines.Mips)
    ∷ (0x14, machines.PowerPC) ∷ (0x28, machines.Arm) ∷ (0x2a, machines.SuperH) ∷ (0x32, machines.Ia64)
    ∷ (0x3e, machines.X86_64) ∷ (0xb7, machines.AArch64) ∷ (0xf3, machines.RISC_V) ∷ (0xf7, machines.BPF) ∷ []) n

-- The layout of a header (Elf32_Ehdr and Elf64_Ehdr).

-- e_ident: the first 16 bytes of every file
abbrev pub header_pt1 : List ℕ → HeaderPt1
header_pt1 bytes = record {
  magic = slice_range bytes 0 4;
  class = class_raw (byte_at 4 bytes);
  encoding = encoding_raw (byte_at 5 bytes);
  version = version_raw (byte_at 6 bytes);
  os_abi = os_abi_raw (byte_at 7 bytes);
  abi_version = byte_at 8 bytes;
  padding = slice_range bytes 9 16;
}

-- the next 36 bytes of class 32; `place` is 16 in a file
abbrev pub header_pt2_32 : Order → ℕ → List ℕ → HeaderPt2_ ℕ
header_pt2_32 order place bytes = record {
  type_ = type_raw (number order 2 place bytes);
  machine = machine_raw (number order 2 (place + 2) bytes);
  version = number order 4 (place + 4) bytes;
  entry_point = number order 4 (place + 8) bytes;
  ph_offset = number order 4 (place + 12) bytes;
  sh_offset = number order 4 (place + 16) bytes;
  flags = number order 4 (place + 20) bytes;
  header_size = number order 2 (place + 24) bytes;
  ph_entry_size = number order 2 (place + 26) bytes;
  ph_count = number order 2 (place + 28) bytes;
  sh_entry_size = number order 2 (place + 30) bytes;
  sh_count = number order 2 (place + 32) bytes;
  sh_str_index = number order 2 (place + 34) bytes;
}

-- the next 48 bytes of class 64; `place` is 16 in a file
abbrev pub header_pt2_64 : Order → ℕ → List ℕ → HeaderPt2_ ℕ
header_pt2_64 order place bytes = record {
  type_ = type_raw (number order 2 place bytes);
  machine = machine_raw (number order 2 (place + 2) bytes);
  version = number order 4 (place + 4) bytes;
  entry_point = number order 8 (place + 8) bytes;
  ph_offset = number order 8 (place + 16) bytes;
  sh_offset = number order 8 (place + 24) bytes;
  flags = number order 4 (place + 32) bytes;
  header_size = number order 2 (place + 36) bytes;
  ph_entry_size = number order 2 (place + 38) bytes;
  ph_count = number order 2 (place + 40) bytes;
  sh_entry_size = number order 2 (place + 42) bytes;
  sh_count = number order 2 (place + 44) bytes;
  sh_str_index = number order 2 (place + 46) bytes;
}

-- the fields of part 2, of either class
abbrev pub header_fields : HeaderPt2 → HeaderPt2_ ℕ
header_fields (Header32 part) = part
header_fields (Header64 part) = part

-- the size of part 2 in bytes
abbrev pub pt2_size : HeaderPt2 → ℕ
pt2_size (Header32 part) = 36
pt2_size (Header64 part) = 48

-- The bytes that are accepted as a file, and their header.

-- the first four bytes of every file (EI_MAG0 to EI_MAG3): 0x7f and `ELF`
abbrev pub magic_number : List ℕ
magic_number = 0x7f ∷ 0x45 ∷ 0x4c ∷ 0x46 ∷ []

-- the bytes begin with the magic number, and have a valid class and at least the size of its header
pub record IsAccepted (bytes : List ℕ) : Type 0 where
  pub magic : slice_range bytes 0 4 ≡ magic_number
  pub class : ((byte_at 4 bytes ≡ 1) × (52 ≤ length bytes)) ⊎ ((byte_at 4 bytes ≡ 2) × (64 ≤ length bytes))

-- part 2, in the layout of the class
abbrev pub pt2_record : ℕ → Order → List ℕ → HeaderPt2
pt2_record class order bytes =
    if class == 1 then Header32 (header_pt2_32 order 16 bytes) else Header64 (header_pt2_64 order 16 bytes)

-- part 2 of a file, by its class byte and its data byte
abbrev pub header_pt2 : List ℕ → HeaderPt2
header_pt2 bytes = pt2_record (byte_at 4 bytes) (order_of (byte_at 5 bytes)) bytes

-- the header at the start of the bytes
abbrev pub file_header : List ℕ → Header
file_header bytes = record { pt1 = header_pt1 bytes; pt2 = header_pt2 bytes }

-- the class of a file, by part 1 of its header
abbrev pub file_class : Header → ℕ
file_class header = class_number header.pt1.class

-- the byte order of a file
abbrev pub file_order : Header → Order
file_order header = order_of (encoding_number header.pt1.encoding)

-- the header of a file, or why there is none
unfoldable pub header_of : List ℕ → Result Header ElfError
header_of bytes = unless (
    (nat_lt (length bytes) 16, error.ShortPart1)
    ∷ (not (pointwise nat_eq (slice_range bytes 0 4) magic_number), error.NoMagic)
    ∷ (not (byte_at 4 bytes == 1 || byte_at 4 bytes == 2), error.InvalidClass)
    ∷ (nat_lt (length bytes) (if byte_at 4 bytes == 1 then 52 else 64), error.ShortHeaders)
    ∷ []) (file_header bytes)
