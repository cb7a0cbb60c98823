-- A part of a part is a part of the whole: places add up.
use Rattle.std.proofs.Common.{◌≡◌, ◌≢◌, ℕ, ◌+◌, List, Option, IfSome, Result, IfOk, codes, length, ◌∙◌, arith}
use Rattle.std.proofs.lemmas.Option.{IfSome_then}
use Rattle.std.proofs.lemmas.Result.{IfOk-weaker}
use Rattle.std.specs.Borrow.{Bor}
use Rattle.elf_base.specs.Lent.{LiesAt}
use Rattle.elf_records.specs.Note.{note_name_size, rounded_up}
use Rattle.xmas_elf.specs.Prelude.{ElfError, ElfFile, NoteHeader, ProgramHeader64, SectionData, SectionHeader, SegmentData}
use Rattle.xmas_elf.specs.BuildId.{IsNoteSection}
use Rattle.xmas_elf.specs.NameTable.{IsFirstNamed}
use Rattle.xmas_elf.specs.Place.{LiesAsBuildId, LiesAsRest, LiesAsSegment, Part, PartLies, after, all, nothing, section_part, segment_part}
use Rattle.xmas_elf.specs.SectionHeader.{section_fields}

lies_within : {whole middle part : Bor (List ℕ)} {start place later : ℕ} → LiesAt whole start middle → LiesAt middle place part → later ≡ start + place → LiesAt whole later part
lies_within outer inner sum = record { block = inner.block ∙ outer.block; place_is = omega (arith, outer.place_is, inner.place_is, sum) }

-- the lent part of some data is in the memory of the data
pub part_lies : (whole middle : Bor (List ℕ)) (start : ℕ) (part : Part) → LiesAt whole start middle → PartLies middle 0 part → PartLies whole start part
part_lies whole middle start nothing outer inner = tt
part_lies whole middle start (all bytes) outer inner = lies_within outer inner (omega arith)
part_lies whole middle start (after count bytes) outer inner = lies_within outer inner (omega arith)

-- the lent part of a section's data is in the section
pub section_lies : (whole middle : Bor (List ℕ)) (start : ℕ) (answer : Result SectionData ElfError) → LiesAt whole start middle → IfOk answer (λ d. PartLies middle 0 (section_part d)) → IfOk answer (λ d. PartLies whole start (section_part d))
section_lies whole middle start answer outer inner =
    IfOk-weaker answer (λ d. PartLies middle 0 (section_part d)) (λ d. PartLies whole start (section_part d)) (λ d. part_lies whole middle start (section_part d) outer) inner

-- the lent part of a segment's data is in the segment, unless it is empty
pub segment_lies : (file : ElfFile) (segment : ProgramHeader64) (middle : Bor (List ℕ)) (answer : Result SegmentData ElfError) → LiesAsSegment file segment middle → IfOk answer (λ d. PartLies middle 0 (segment_part d)) → IfOk answer (λ d. segment.file_size ≢ 0 → PartLies file.input segment.offset (segment_part d))
segment_lies file segment middle answer outer inner =
    IfOk-weaker answer (λ d. PartLies middle 0 (segment_part d)) (λ d. segment.file_size ≢ 0 → PartLies file.input segment.offset (segment_part d)) (λ d lies some. part_lies file.input middle segment.offset (segment_part d) (outer some) lies) inner

-- a build id follows the header and the name of its note
pub build_id_lies : (file : ElfFile) (index : ℕ) (section : SectionHeader) (header : NoteHeader) (body : Bor (List ℕ)) (id : Option (Bor (List ℕ))) → IsFirstNamed file (codes ".note.gnu.build-id") index section → IsNoteSection file section header body.now → LiesAt file.input ((section_fields section).offset + 12) body → IfSome id (LiesAt body (rounded_up (note_name_size header))) → IfSome id (LiesAsBuildId file)
build_id_lies file index section header body id named in_section outer inner = IfSome_then id inner (λ part lies. record {
  index = index;
  section = section;
  header = header;
  body = body.now;
  named = named;
  in_section = in_section;
  lies = lies_within outer lies (omega arith);
})

-- the rest of an alternate link follows its text
pub rest_lies : (file : ElfFile) (index : ℕ) (section : SectionHeader) (bytes : Bor (List ℕ)) (link : Option (Bor (List ℕ) × Bor (List ℕ))) → IsFirstNamed file (codes ".gnu_debugaltlink") index section → LiesAt file.input (section_fields section).offset bytes → IfSome link (λ l. LiesAt bytes (length l.0.now + 1) l.1) → IfSome link (λ l. LiesAsRest file l.0.now l.1)
rest_lies file index section bytes link named outer inner = IfSome_then link inner (λ l lies. record {
  index = index;
  section = section;
  named = named;
  lies = lies_within outer lies (omega arith);
})
