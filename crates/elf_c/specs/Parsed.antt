-- The header of a file as numbers, and the file of such numbers and an input (gABI, "ELF Header").
use Rattle.std.specs.Prelude.{ℕ, List, ◌==◌, ◌&&◌, ◌^◌, nat_lt, Bool, if◌then◌else◌}
use Rattle.std.specs.Borrow.{Bor}
use Rattle.elf_base.specs.FileHeader.{class_number, class_raw, encoding_number, encoding_raw, header_fields, machine_number, machine_raw, magic_number, os_abi_number, os_abi_raw, type_number, type_raw, version_number, version_raw}
use Rattle.elf_base.specs.declared.header.Header.{Header}
use Rattle.elf_base.specs.declared.header.HeaderPt1.{HeaderPt1}
use Rattle.elf_base.specs.declared.header.HeaderPt2_.{HeaderPt2_}
use Rattle.elf_base.specs.declared.header.HeaderPt2.TheVariants.{Header32, Header64}
use Rattle.xmas_elf.specs.declared.ElfFile.{ElfFile}
use Rattle.elf_c.specs.declared.file.Parsed.{Parsed}

-- the numbers of a header
abbrev pub numbers_of : Header → Parsed
numbers_of header = let part = header_fields header.pt2 in record {
  entry_point = part.entry_point;
  ph_offset = part.ph_offset;
  sh_offset = part.sh_offset;
  version = part.version;
  flags = part.flags;
  type_ = type_number part.type_;
  machine = machine_number part.machine;
  header_size = part.header_size;
  ph_entry_size = part.ph_entry_size;
  ph_count = part.ph_count;
  sh_entry_size = part.sh_entry_size;
  sh_count = part.sh_count;
  sh_str_index = part.sh_str_index;
  class = class_number header.pt1.class;
  encoding = encoding_number header.pt1.encoding;
  header_version = version_number header.pt1.version;
  os_abi = os_abi_number header.pt1.os_abi;
  abi_version = header.pt1.abi_version;
  padding = header.pt1.padding;
}

-- part 1 of a header with these numbers, with the magic number
abbrev pub part_1 : Parsed → HeaderPt1
part_1 numbers = record {
  magic = magic_number;
  class = class_raw numbers.class;
  encoding = encoding_raw numbers.encoding;
  version = version_raw numbers.header_version;
  os_abi = os_abi_raw numbers.os_abi;
  abi_version = numbers.abi_version;
  padding = numbers.padding;
}

-- part 2 with these numbers, except for its address and offsets
abbrev pub part_2_with : {P : Type 0} → Parsed → P → P → P → HeaderPt2_ P
part_2_with numbers entry_point ph_offset sh_offset = record {
  type_ = type_raw numbers.type_;
  machine = machine_raw numbers.machine;
  version = numbers.version;
  entry_point = entry_point;
  ph_offset = ph_offset;
  sh_offset = sh_offset;
  flags = numbers.flags;
  header_size = numbers.header_size;
  ph_entry_size = numbers.ph_entry_size;
  ph_count = numbers.ph_count;
  sh_entry_size = numbers.sh_entry_size;
  sh_count = numbers.sh_count;
  sh_str_index = numbers.sh_str_index;
}

-- part 2 with these numbers, of either class
abbrev pub part_2 : Parsed → HeaderPt2_ ℕ
part_2 numbers = part_2_with numbers numbers.entry_point numbers.ph_offset numbers.sh_offset

-- the numbers are those of class 32, and fit in its fields
abbrev pub is_narrow : Parsed → Bool
is_narrow numbers = numbers.class == 1 && (nat_lt numbers.entry_point (2 ^ 32)
    && (nat_lt numbers.ph_offset (2 ^ 32) && nat_lt numbers.sh_offset (2 ^ 32)))

-- the header with these numbers
abbrev pub header_from : Parsed → Header
header_from numbers = record {
  pt1 = part_1 numbers;
  pt2 = if is_narrow numbers then Header32 (part_2 numbers) else Header64 (part_2 numbers);
}

-- the file of these bytes whose header has these numbers
abbrev pub file_of : Bor (List ℕ) → Parsed → ElfFile
file_of input numbers = record { input = input; header = header_from numbers }
