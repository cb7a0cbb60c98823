-- The checks of headers (this project's own, after the Rust crate).
use Rattle.std.specs.Prelude.{ℕ, ◌+◌, ◌%◌, ◌==◌, ◌&&◌, not, nat_eq, nat_lt, nat_le, is_err, Bool, [], ◌∷◌, length, Result, Ok}
use lib.Pointwise.{pointwise}
use Rattle.elf_base.specs.FirstError.{and_then, unless}
use Rattle.elf_base.specs.FileHeader.{encoding_number, file_class, header_fields, magic_number, pt2_size, version_number}
use Rattle.elf_base.specs.declared.header.HeaderPt2.TheVariants.{Header32, Header64}
use Rattle.elf_records.specs.ProgramNumbers.{has_ph_type}
use Rattle.elf_records.specs.declared.program.Type.TheVariants.{ShLib}
use Rattle.elf_base.specs.declared.error.ElfError.TheVariants.{BadAlign, BadMagic, ClassMismatch, EntryPointRange, HeaderSize, InvalidPhType, NoClass, NoDataFormat, NoVersion, PhSizeMismatch, PhTableRange, ShLibUsed, ShTableRange}
use Rattle.xmas_elf.specs.Prelude.{ElfError, ElfFile, HeaderPt2, ProgramHeader, ProgramHeader64, SectionHeader}
use Rattle.xmas_elf.specs.SectionHeader.{program_count_of, section_count_of, section_place, section_type}
use Rattle.xmas_elf.specs.ProgramHeader.{program_fields, program_place, program_record_size, segment_type}

-- the class number of part 2
abbrev pub part_class : HeaderPt2 → ℕ
part_class (Header32 part) = 1
part_class (Header64 part) = 2

-- the first error in an ELF header over its input; a table ends where one more entry would begin
unfoldable pub header_check : ElfFile → Result (Unit {0}) ElfError
header_check file = let header = file.header in unless (
    (not (pointwise nat_eq header.pt1.magic magic_number), BadMagic)
    ∷ (not (16 + pt2_size header.pt2 == (header_fields header.pt2).header_size), HeaderSize)
    ∷ (file_class header == 0, NoClass)
    ∷ (not (file_class header == part_class header.pt2), ClassMismatch)
    ∷ (version_number header.pt1.version == 0, NoVersion)
    ∷ (encoding_number header.pt1.encoding == 0, NoDataFormat)
    ∷ (nat_lt (length file.input.now) (program_place header (program_count_of file)), PhTableRange)
    ∷ (nat_lt (length file.input.now) (section_place header (section_count_of file)), ShTableRange)
    ∷ []) tt

-- the only error in a section header: an unknown type
abbrev pub section_check : SectionHeader → Result (Unit {0}) ElfError
section_check section = and_then (section_type section) (λ kind. Ok tt)

-- the address and the offset of a segment differ modulo its alignment
abbrev pub is_misaligned : ProgramHeader64 → Bool
is_misaligned segment =
    nat_lt 1 segment.align && not (segment.virtual_addr % segment.align == segment.offset % segment.align)

-- the first error in a program header over a file
unfoldable pub program_check : ElfFile → ProgramHeader → Result (Unit {0}) ElfError
program_check file program = let segment = program_fields program in unless (
    (not ((header_fields file.header.pt2).ph_entry_size == program_record_size program), PhSizeMismatch)
    ∷ (nat_le (length file.input.now) (segment.offset + segment.file_size), EntryPointRange)
    ∷ (is_err (segment_type segment), InvalidPhType)
    ∷ (has_ph_type ShLib (segment_type segment), ShLibUsed)
    ∷ (is_misaligned segment, BadAlign)
    ∷ []) tt
