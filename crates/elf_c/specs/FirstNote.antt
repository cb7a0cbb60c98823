-- The note at the start of a part of the input, as in the list of notes (gABI, "Note Section").
use Rattle.std.specs.Prelude.{ℕ, ◌≤◌, ◌+◌, ◌-◌, ◌==◌, nat_le, List, length, Result, Ok, Err, if◌then◌else◌}
use Rattle.elf_base.specs.declared.bytes.Order.{Order}
use Rattle.elf_linking.specs.Notes.{begins_with_note, desc_size, desc_start, name_size, next_note, type_word}
use Rattle.elf_linking.specs.declared.error.LinkError.TheVariants.{ShortNote}
use Rattle.xmas_elf.specs.Ranges.{range_of}
use Rattle.elf_c.specs.Records.{range_at}
use Rattle.elf_c.specs.Status.{and_so}
use Rattle.elf_c.specs.declared.names.Range.{Range}
use Rattle.elf_c.specs.declared.notes.NoteRange.{NoteRange}
use Rattle.elf_c.specs.declared.status.AnyError.{AnyError}
use Rattle.elf_c.specs.declared.status.AnyError.TheVariants.{Link, NoRecord}

-- the ranges of the parts of the note at the start of the bytes, which begin at `start`, and of the rest
abbrev pub note_parts_at : ℕ → ℕ → Order → List ℕ → NoteRange
note_parts_at start align order bytes =
    let after = next_note align order bytes in
    let next = if nat_le after (length bytes) then after else length bytes in record {
      name = range_at (start + 12) (name_size order bytes);
      desc = range_at (start + desc_start align order bytes) (desc_size order bytes);
      rest = range_at (start + next) (length bytes - next);
      type_ = type_word order bytes;
    }

-- the name, the description and the rest end at this offset or before
abbrev pub EndsBy : ℕ → NoteRange → Type 0
EndsBy end note = (note.name.offset + note.name.size ≤ end) × (note.desc.offset + note.desc.size ≤ end)
    × (note.rest.offset + note.rest.size ≤ end)

-- the ranges of the first note and of the rest, or why there is no note
abbrev pub note_at : ℕ → ℕ → Order → List ℕ → Result NoteRange AnyError
note_at start align order bytes = if length bytes == 0 then Err NoRecord
    else (if begins_with_note align order bytes then Ok (note_parts_at start align order bytes)
    else Err (Link ShortNote))

-- the note at the start of a part of the input
abbrev pub note_in : List ℕ → Order → Range → ℕ → Result NoteRange AnyError
note_in input order part align = and_so (range_of input part.offset part.size) (note_at part.offset align order)
