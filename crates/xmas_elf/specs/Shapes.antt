-- When the data of a section or a segment can be read by its type, and what it then is, in words (gABI,
-- "Sections": what a section of each type holds, and "Program Header", p_type).
use Rattle.std.specs.Prelude.{◌≡◌, ◌≢◌, ℕ, ◌+◌, ◌-◌, ◌%◌, ◌==◌, ◌≤◌, false, Option, None, Some, Ok, length, if◌then◌else◌}
use Rattle.elf_base.specs.FileHeader.{file_class}
use Rattle.elf_records.specs.ProgramNumbers.{is_ph_type}
use Rattle.elf_records.specs.declared.program.Type.TheVariants as ph_type
use Rattle.elf_records.specs.declared.sections.ShType.TheVariants as sh_type
use Rattle.xmas_elf.specs.Prelude.{ElfFile, ProgramHeader64, SectionHeader, SegmentType, ShType}
use Rattle.xmas_elf.specs.Content.{Content, TableKind, dyn_symbols_32, dyn_symbols_64, dynamic_32, dynamic_64, empty, functions_32, functions_64, group, hash_table, note_64, record_size, rel_32, rel_64, rela_32, rela_64, section_indices, strings, symbols_32, symbols_64, table_of, undefined}
use Rattle.xmas_elf.specs.ProgramHeader.{segment_type}
use Rattle.xmas_elf.specs.SectionContent.{has_no_bytes}
use Rattle.xmas_elf.specs.SectionHeader.{section_fields, section_type}

-- what data is, without its bytes
pub data Shape : Type 0 where
  nothing bytes texts a_group a_note a_hash_table : Shape
  table : TableKind → Shape

-- what some contents are
abbrev pub shape : Content → Shape
shape empty = nothing
shape (undefined _) = bytes
shape (strings _) = texts
shape (table_of kind _ _) = table kind
shape (group _ _ _) = a_group
shape (note_64 _ _) = a_note
shape (hash_table _ _) = a_hash_table

-- what differs by the class of the file; there is none of another class than 1 and 2
abbrev pub of_class : Option Shape → Option Shape → ℕ → Option Shape
of_class narrow wide class = if class == 1 then narrow else (if class == 2 then wide else None)

-- what a section of a type is in a file of a class
abbrev pub shape_in : ShType → ℕ → Option Shape
shape_in sh_type.Null class = Some nothing
shape_in sh_type.NoBits class = Some nothing
shape_in sh_type.StrTab class = Some texts
shape_in sh_type.SymTab class = of_class (Some (table symbols_32)) (Some (table symbols_64)) class
shape_in sh_type.DynSym class = of_class (Some (table dyn_symbols_32)) (Some (table dyn_symbols_64)) class
shape_in sh_type.InitArray class = of_class (Some (table functions_32)) (Some (table functions_64)) class
shape_in sh_type.FiniArray class = of_class (Some (table functions_32)) (Some (table functions_64)) class
shape_in sh_type.PreInitArray class = of_class (Some (table functions_32)) (Some (table functions_64)) class
shape_in sh_type.Rela class = of_class (Some (table rela_32)) (Some (table rela_64)) class
shape_in sh_type.Rel class = of_class (Some (table rel_32)) (Some (table rel_64)) class
shape_in sh_type.Dynamic class = of_class (Some (table dynamic_32)) (Some (table dynamic_64)) class
shape_in sh_type.SymTabShIndex class = Some (table section_indices)
shape_in sh_type.Group class = Some a_group
shape_in sh_type.Note class = of_class None (Some a_note) class
shape_in sh_type.Hash class = Some a_hash_table
shape_in _ class = Some bytes

-- so many bytes can be that: whole records, a group's flags and then its indices, a note's header, or the
-- two counts of a hash table and a bucket
abbrev pub Fills : Shape → ℕ → Type 0
Fills (table kind) size = size % record_size kind ≡ 0
Fills a_group size = (4 ≤ size) × ((size - 4) % 4 ≡ 0)
Fills a_note size = 12 ≤ size
Fills a_hash_table size = 12 ≤ size
Fills _ size = Unit {0}

-- the data of a section can be read, and is this
pub record HasShape (file : ElfFile) (section : SectionHeader) (wanted : Shape) : Type 0 where
  pub kind : ShType
  pub typed : section_type section ≡ Ok kind
  pub is : shape_in kind (file_class file.header) ≡ Some wanted
  pub within : has_no_bytes kind ≡ false
      → (section_fields section).offset + (section_fields section).size ≤ length file.input.now
  pub fills : has_no_bytes kind ≡ false → Fills wanted (section_fields section).size

-- what a segment of a type is in a file of a class
abbrev pub segment_shape_in : SegmentType → ℕ → Option Shape
segment_shape_in ph_type.Null class = Some nothing
segment_shape_in ph_type.Dynamic class = of_class (Some (table dynamic_32)) (Some (table dynamic_64)) class
segment_shape_in ph_type.Note class = of_class None (Some a_note) class
segment_shape_in _ class = Some bytes

-- the data of a segment can be read, and is this; an empty segment lies wherever it likes
pub record HasSegmentShape (file : ElfFile) (segment : ProgramHeader64) (wanted : Shape) : Type 0 where
  pub kind : SegmentType
  pub typed : segment_type segment ≡ Ok kind
  pub is : segment_shape_in kind (file_class file.header) ≡ Some wanted
  pub within : is_ph_type ph_type.Null kind ≡ false → segment.file_size ≢ 0
      → segment.offset + segment.file_size ≤ length file.input.now
  pub fills : is_ph_type ph_type.Null kind ≡ false → Fills wanted segment.file_size
