-- Notes, one after the other (gABI, "Note Section"; alignment to eight bytes is GNU's, and that the padding
-- after the last may be missing is this project's own).
use Rattle.std.specs.Prelude.{◌≡◌, ℕ, zero, suc, ◌+◌, ◌*◌, ◌/◌, ◌<◌, ◌≤◌, ◌==◌, ◌&&◌, min, nat_le, Bool, List, [], ◌∷◌, drop, length, take, Result, Ok, Err, if◌then◌else◌}
use Rattle.std.specs.Borrow.{Bor}
use Rattle.elf_base.specs.Number.{number}
use Rattle.elf_base.specs.declared.bytes.Order.{Order}
use Rattle.elf_linking.specs.declared.error.LinkError.{LinkError}
use Rattle.elf_linking.specs.declared.error.LinkError.TheVariants.{ShortNote}
use Rattle.elf_linking.specs.declared.notes.Note.{Note}
use Rattle.elf_linking.specs.declared.notes.Notes.{Notes}

-- n, rounded up to a multiple of eight if the alignment is eight, otherwise of four
unfoldable pub next_step : ℕ → ℕ → ℕ
next_step align n = if align == 8 then (n + 7) / 8 * 8 else (n + 3) / 4 * 4

-- n_namesz: the first word of a note
abbrev pub name_size : Order → List ℕ → ℕ
name_size order bytes = number order 4 0 bytes

-- n_descsz: the second word of a note
abbrev pub desc_size : Order → List ℕ → ℕ
desc_size order bytes = number order 4 4 bytes

-- n_type: the third word of a note
abbrev pub type_word : Order → List ℕ → ℕ
type_word order bytes = number order 4 8 bytes

-- the start of the description in the note at the start of the bytes
abbrev pub desc_start : ℕ → Order → List ℕ → ℕ
desc_start align order bytes = next_step align (12 + name_size order bytes)

-- the end of the description in the note at the start of the bytes
abbrev pub desc_end : ℕ → Order → List ℕ → ℕ
desc_end align order bytes = desc_start align order bytes + desc_size order bytes

-- the start of the note after the one at the start of the bytes
abbrev pub next_note : ℕ → Order → List ℕ → ℕ
next_note align order bytes = next_step align (desc_end align order bytes)

-- the bytes begin with a whole note: they contain its words and its description, and so its name
abbrev pub BeginsWithNote : ℕ → Order → List ℕ → Type 0
BeginsWithNote align order bytes = (12 ≤ length bytes) × (desc_end align order bytes ≤ length bytes)

-- the fields of a note: its type, and its name and description with their places in memory
pub record NoteParts : Type 0 where
  pub type_ : ℕ
  pub name : Bor (List ℕ)
  pub desc : Bor (List ℕ)

-- the slice of `count` bytes at an offset in another, in the same memory
abbrev pub slice_at : Bor (List ℕ) → ℕ → ℕ → Bor (List ℕ)
slice_at whole start count =
    record { ref_ptr = (whole.ref_ptr.0, whole.ref_ptr.1 + start); now = take count (drop start whole.now) }

-- the note at the start of the bytes
abbrev pub first_note : ℕ → Order → Bor (List ℕ) → NoteParts
first_note align order bytes = record {
  type_ = type_word order bytes.now;
  name = slice_at bytes 12 (name_size order bytes.now);
  desc = slice_at bytes (desc_start align order bytes.now) (desc_size order bytes.now);
}

-- the bytes from the next note on; none if the bytes end in the padding of the first
abbrev pub after_note : ℕ → Order → Bor (List ℕ) → Bor (List ℕ)
after_note align order bytes = let start = min (next_note align order bytes.now) (length bytes.now) in
    record { ref_ptr = (bytes.ref_ptr.0, bytes.ref_ptr.1 + start); now = drop start bytes.now }

-- `items` are the notes of the bytes, in order; if bytes remain after the last whole note, the last item is
-- an error
pub data AreNotes (align : ℕ) (order : Order) : Bor (List ℕ) → List (Result NoteParts LinkError) → Type 0 where
  at_end : (bytes : Bor (List ℕ)) → length bytes.now ≡ 0 → AreNotes align order bytes []
  cut_off : (bytes : Bor (List ℕ)) → 0 < length bytes.now → (¬ BeginsWithNote align order bytes.now)
      → AreNotes align order bytes (Err ShortNote ∷ [])
  whole : (bytes : Bor (List ℕ)) (items : List (Result NoteParts LinkError))
      → BeginsWithNote align order bytes.now → AreNotes align order (after_note align order bytes) items
      → AreNotes align order bytes (Ok (first_note align order bytes) ∷ items)

-- whether the bytes begin with a whole note
abbrev pub begins_with_note : ℕ → Order → List ℕ → Bool
begins_with_note align order bytes = nat_le 12 (length bytes) && nat_le (desc_end align order bytes) (length bytes)

-- the notes of the bytes as a function, at most `count`
unfoldable pub notes_within : ℕ → Order → ℕ → Bor (List ℕ) → List (Result NoteParts LinkError)
notes_within align order zero bytes = []
notes_within align order (suc count) bytes =
    if length bytes.now == 0 then []
    else (if begins_with_note align order bytes.now
    then Ok (first_note align order bytes) ∷ notes_within align order count (after_note align order bytes)
    else Err ShortNote ∷ [])

-- all notes of the bytes, since there are no more items than bytes
abbrev pub notes_of : ℕ → Order → Bor (List ℕ) → List (Result NoteParts LinkError)
notes_of align order bytes = notes_within align order (length bytes.now) bytes

-- the fields of a note
abbrev pub note_parts : Note → NoteParts
note_parts note = record { type_ = note.type_; name = note.name; desc = note.desc }

-- the fields of an item
abbrev pub note_item : Result Note LinkError → Result NoteParts LinkError
note_item (Ok note) = Ok (note_parts note)
note_item (Err error) = Err error

-- the slice that an iterator has not yet read
abbrev pub notes_bytes : Notes → Bor (List ℕ)
notes_bytes notes = notes.rest

-- the byte order of an iterator over notes
abbrev pub notes_order : Notes → Order
notes_order notes = notes.order

-- the alignment of an iterator over notes
abbrev pub notes_align : Notes → ℕ
notes_align notes = notes.align

-- the items that an iterator over notes has not yet returned
abbrev pub notes_left : Notes → List (Result NoteParts LinkError)
notes_left notes = notes_of (notes_align notes) (notes_order notes) (notes_bytes notes)
