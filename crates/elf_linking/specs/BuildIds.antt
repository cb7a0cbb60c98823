-- Build ids among notes: GNU's notes of type 3 (that the first of several is the build id is this project's
-- own).
use Rattle.std.specs.Borrow.{Bor}
use Rattle.std.specs.Prelude.{◌≡◌, ℕ, ◌+◌, ◌==◌, ◌&&◌, Bool, List, [], ◌∷◌, Option, Some, None, Result, Ok, Err, codes, if◌then◌else◌}
use Rattle.std.specs.Str.{bytes_eq}
use Rattle.elf_base.specs.FileHeader.{file_order}
use Rattle.elf_linking.specs.Notes.{NoteParts, notes_of}
use Rattle.elf_linking.specs.declared.error.LinkError.{LinkError}
use Rattle.elf_linking.specs.declared.error.LinkError.TheVariants.{Elf}
use Rattle.xmas_elf.specs.NameTable.{section_named}
use Rattle.xmas_elf.specs.SectionData.{section_data_of}
use Rattle.xmas_elf.specs.SectionHeader.{section_fields}
use Rattle.elf_base.specs.declared.error.ElfError.{ElfError}
use Rattle.xmas_elf.specs.declared.ElfFile.{ElfFile}
use Rattle.elf_base.specs.declared.bytes.Order.{Order}
use Rattle.xmas_elf.specs.Types.{SectionHeader}
use Rattle.elf_linking.specs.Segments.{segment_bytes, segments_of}
use Rattle.elf_linking.specs.declared.segments.Segment.{Segment}

-- the name of GNU's notes, with its zero byte
abbrev pub gnu : List ℕ
gnu = 0x47 ∷ 0x4e ∷ 0x55 ∷ 0 ∷ []

-- a note is a build id
abbrev pub IsBuildId : NoteParts → Type 0
IsBuildId note = (note.type_ ≡ 3) × (note.name.now ≡ gnu)

-- whether a note is a build id
abbrev pub is_build_id : NoteParts → Bool
is_build_id note = note.type_ == 3 && bytes_eq note.name.now gnu

-- the result of a search among items: the description of the first build id, nothing if there is none, or the
-- error before it
abbrev pub id_among : List (Result NoteParts LinkError) → Result (Option (Bor (List ℕ))) LinkError
id_among [] = Ok None
id_among (Err error ∷ items) = Err error
id_among (Ok note ∷ items) = if is_build_id note then Ok (Some note.desc) else id_among items

-- the first build id among the notes in some data at an offset in the input, or why they can't be read
abbrev pub id_in : ℕ → Order → Bor (List ℕ) → ℕ → Result (List ℕ) ElfError → Result (Option (Bor (List ℕ))) LinkError
id_in align order input start (Ok bytes) =
    id_among (notes_of align order (record { ref_ptr = (input.ref_ptr.0, input.ref_ptr.1 + start); now = bytes }))
id_in align order input start (Err error) = Err (Elf error)

-- the build id in a section of any type
unfoldable pub id_of_section : ElfFile → SectionHeader → Result (Option (Bor (List ℕ))) LinkError
id_of_section file section = let fields = section_fields section in
    id_in fields.align (file_order file.header) file.input fields.offset (section_data_of file section)

-- the build id in a segment of any type
unfoldable pub id_of_segment : ElfFile → Segment → Result (Option (Bor (List ℕ))) LinkError
id_of_segment file segment =
    id_in segment.align (file_order file.header) file.input segment.offset (segment_bytes file segment)

-- the build id in the section that was found by its name; nothing if there is no such section
abbrev pub id_of_named : ElfFile → Option SectionHeader → Result (Option (Bor (List ℕ))) LinkError
id_of_named file None = Ok None
id_of_named file (Some section) = id_of_section file section

-- the build id of a file by its section headers: that in the first section `.note.gnu.build-id`
abbrev pub id_by_sections : ElfFile → Result (Option (Bor (List ℕ))) LinkError
id_by_sections file = id_of_named file (section_named file (codes ".note.gnu.build-id"))

-- a segment has type Note (PT_NOTE)
abbrev pub is_notes : Segment → Bool
is_notes segment = segment.kind == 4

-- a result, or the next one if it is nothing
abbrev pub or_next : Result (Option (Bor (List ℕ))) LinkError → Result (Option (Bor (List ℕ))) LinkError → Result (Option (Bor (List ℕ))) LinkError
or_next (Ok None) next = next
or_next (Ok (Some id)) next = Ok (Some id)
or_next (Err error) next = Err error

-- the build id in the first segment of type Note that has one, or the error before it
abbrev pub id_in_segments : ElfFile → List Segment → Result (Option (Bor (List ℕ))) LinkError
id_in_segments file [] = Ok None
id_in_segments file (segment ∷ segments) = let rest = id_in_segments file segments in
    if is_notes segment then or_next (id_of_segment file segment) rest else rest

-- the build id of a file by its program headers
abbrev pub id_by_segments : ElfFile → Result (Option (Bor (List ℕ))) LinkError
id_by_segments file = id_in_segments file (segments_of file)
