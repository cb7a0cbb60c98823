-- The segments of a file beside the program headers that xmas_elf reads.
use Rattle.std.specs.Prelude.{◌≡◌, ◌≢◌, true, map}
use Rattle.elf_base.specs.FileHeader.{file_class, header_fields}
use Rattle.elf_records.specs.ProgramNumbers.{ph_type_number}
use Rattle.xmas_elf.specs.HeaderTable.{IsKnownClass}
use Rattle.xmas_elf.specs.ProgramHeader.{program_fields, program_list}
use Rattle.xmas_elf.specs.declared.ElfFile.{ElfFile}
use Rattle.xmas_elf.specs.Types.{ProgramHeader}
use Rattle.elf_linking.specs.Segments.{is_whole, segments_of}
use Rattle.elf_linking.specs.declared.segments.Segment.{Segment}

-- a program header as a segment
abbrev pub segment_by : ProgramHeader → Segment
segment_by program = let fields = program_fields program in record {
  kind = ph_type_number fields.type_;
  flags = fields.flags;
  offset = fields.offset;
  address = fields.virtual_addr;
  file_size = fields.file_size;
  mem_size = fields.mem_size;
  align = fields.align;
}

-- xmas_elf reads the same records: the table is whole and not at offset 0, the class is 1 or 2, and the number of
-- entries is in the header, not in section header 0 (PN_XNUM)
pub record HasPlainTable (file : ElfFile) : Type 0 where
  pub whole : is_whole file ≡ true
  pub placed : (header_fields file.header.pt2).ph_offset ≢ 0
  pub class : IsKnownClass (file_class file.header)
  pub few : (header_fields file.header.pt2).ph_count ≢ 0xffff

-- where xmas_elf reads the same records, the segments of a file are its program headers
abbrev pub AreProgramHeaders : ElfFile → Type 0
AreProgramHeaders file = HasPlainTable file → segments_of file ≡ map segment_by (program_list file)
