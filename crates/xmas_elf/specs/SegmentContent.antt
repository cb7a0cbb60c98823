-- The contents of a segment, by its type (gABI, "Program Header", p_type).
use Rattle.std.specs.Prelude.{ℕ, List, Result, Ok, if◌then◌else◌}
use Rattle.elf_base.specs.FileHeader.{file_class, file_order}
use Rattle.elf_base.specs.FirstError.{and_then}
use Rattle.elf_base.specs.Table.{table_data, table_order}
use Rattle.elf_records.specs.ProgramNumbers.{is_ph_type}
use Rattle.elf_records.specs.declared.program.Type.TheVariants as segment_type
use Rattle.xmas_elf.specs.Prelude.{ElfError, ElfFile, Order, ProgramHeader64, SegmentData, SegmentType}
use Rattle.xmas_elf.specs.Content.{Content, by_class, dynamic_32, dynamic_64, empty, note_64, note_content, table_of, undefined}
use Rattle.xmas_elf.specs.ProgramHeader as program_header
use Rattle.xmas_elf.specs.ProgramHeader.{segment_data_of}
use Rattle.xmas_elf.specs.declared.program.content.SegmentData.TheVariants as segment_data

-- the contents in a value of `SegmentData`
abbrev pub segment_content : SegmentData → Content
segment_content segment_data.Empty = empty
segment_content (segment_data.Undefined bytes) = undefined bytes.now
segment_content (segment_data.Dynamic32 table) = table_of dynamic_32 (table_order table) (table_data table)
segment_content (segment_data.Dynamic64 table) = table_of dynamic_64 (table_order table) (table_data table)
segment_content (segment_data.Note64 header body) = note_64 header body.now

-- the contents of bytes in a segment of this type, which isn't Null, in a file of this class and byte order,
-- or why they are malformed
abbrev pub content_of_segment : SegmentType → ℕ → Order → List ℕ → Result Content ElfError
content_of_segment segment_type.Dynamic class order bytes = by_class dynamic_32 dynamic_64 class order bytes
content_of_segment segment_type.Note class order bytes = note_content class order bytes
content_of_segment _ class order bytes = Ok (undefined bytes)

-- the contents of a segment, or the first reason why it has none
unfoldable pub segment_content_of : ElfFile → ProgramHeader64 → Result Content ElfError
segment_content_of file segment = and_then (program_header.segment_type segment) (λ kind.
    if is_ph_type segment_type.Null kind then Ok empty
    else and_then (segment_data_of file segment)
    (content_of_segment kind (file_class file.header) (file_order file.header)))
