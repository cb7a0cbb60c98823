-- Build ids (gABI, "Note Section"; the names and the type are those of GNU's linker; that only files of class
-- 64 have one is this project's own).
use Rattle.std.specs.Prelude.{◌≡◌, ℕ, List, Ok, codes}
use Rattle.elf_base.specs.FileHeader.{file_class, file_order}
use Rattle.elf_records.specs.Note.{IsNote, IsNoteDescription, IsNoteName, note_desc_size, note_name_size, note_type}
use Rattle.elf_records.specs.declared.sections.ShType.TheVariants as sh_type
use Rattle.xmas_elf.specs.Prelude.{ElfFile, NoteHeader, SectionHeader}
use Rattle.xmas_elf.specs.NameTable.{IsFirstNamed}
use Rattle.xmas_elf.specs.SectionData.{IsSectionData}
use Rattle.xmas_elf.specs.SectionHeader.{section_type}
use Rattle.xmas_elf.specs.declared.extensions.TheConstants.{NT_GNU_BUILD_ID}

-- a section of type Note whose data is a note, in a file of class 64
pub record IsNoteSection (file : ElfFile) (section : SectionHeader) (header : NoteHeader) (body : List ℕ) : Type 0 where
  pub class : file_class file.header ≡ 2
  pub typed : section_type section ≡ Ok sh_type.Note
  pub bytes : List ℕ
  pub bytes_are : IsSectionData file section bytes
  pub note : IsNote (file_order file.header) bytes header body

-- a build id note: its type is NT_GNU_BUILD_ID, its name is `GNU`, and its description is `id`
pub record IsBuildIdNote (header : NoteHeader) (body id : List ℕ) : Type 0 where
  pub type_is : note_type header ≡ NT_GNU_BUILD_ID
  pub name_is : IsNoteName body (note_name_size header) (codes "GNU")
  pub desc_is : IsNoteDescription body (note_name_size header) (note_desc_size header) id

-- the build id of a file: that of a build id note in the first section named `.note.gnu.build-id`
pub record IsBuildId (file : ElfFile) (id : List ℕ) : Type 0 where
  pub index : ℕ
  pub section : SectionHeader
  pub header : NoteHeader
  pub body : List ℕ
  pub named : IsFirstNamed file (codes ".note.gnu.build-id") index section
  pub in_section : IsNoteSection file section header body
  pub is_id : IsBuildIdNote header body id
