-- Notes: a header, followed by a name and a description (gABI, "Note Section"; in both classes words have
-- four bytes and sizes are rounded up to four, as in files of class 64).
use Rattle.std.specs.Prelude.{◌≡◌, ◌≢◌, ℕ, ◌+◌, ◌*◌, ◌/◌, ◌≤◌, nat_eq, nat_lt, not, List, [], ◌∷◌, length, drop, take, Result}
use Rattle.elf_base.specs.Number.{number}
use Rattle.elf_base.specs.FirstError.{and_then, unless}
use Rattle.elf_base.specs.Text.{IsText, TextError, text_of}
use Rattle.elf_base.specs.declared.bytes.Order.{Order}
use Rattle.elf_base.specs.declared.error.ElfError.{ElfError}
use Rattle.elf_base.specs.declared.error.ElfError.TheVariants.{NoteDesc, NoteName}
use Rattle.elf_records.specs.declared.sections.note.NoteHeader.{NoteHeader}

-- the note header in twelve bytes
abbrev pub note_header : Order → List ℕ → NoteHeader
note_header order bytes = record { bytes = bytes; order = order }

-- n_namesz: the size of the name in bytes, with the zero byte that ends it
unfoldable pub note_name_size : NoteHeader → ℕ
note_name_size header = number header.order 4 0 header.bytes

-- n_descsz: the size of the description in bytes
unfoldable pub note_desc_size : NoteHeader → ℕ
note_desc_size header = number header.order 4 4 header.bytes

-- n_type
unfoldable pub note_type : NoteHeader → ℕ
note_type header = number header.order 4 8 header.bytes

-- the bytes are a note: the first twelve are its header, and all others its body
pub record IsNote (order : Order) (bytes : List ℕ) (header : NoteHeader) (body : List ℕ) : Type 0 where
  pub enough : 12 ≤ length bytes
  pub header_is : header ≡ note_header order (take 12 bytes)
  pub body_is : body ≡ drop 12 bytes

-- the name of a note: the text at the start of the body, which with its zero byte has the size in the header
pub record IsNoteName (body : List ℕ) (name_size : ℕ) (text : List ℕ) : Type 0 where
  pub front : IsText body 0 text
  pub size : length text + 1 ≡ name_size

-- why there is no name: no text, or one of another size
abbrev pub NoteNameError : List ℕ → ℕ → ElfError → Type 0
NoteNameError body name_size NoteName = (text : List ℕ) × IsText body 0 text × (length text + 1 ≢ name_size)
NoteNameError body name_size error = TextError body 0 error

-- the name, or why there is none, as a function
unfoldable pub note_name_of : List ℕ → ℕ → Result (List ℕ) ElfError
note_name_of body name_size = and_then (text_of body 0) (λ text. unless (
    (not (nat_eq (length text + 1) name_size), NoteName)
    ∷ []) text)

-- n rounded up to a multiple of four
abbrev pub rounded_up : ℕ → ℕ
rounded_up n = (n + 3) / 4 * 4

-- the description of a note: `desc_size` bytes of the body, from the end of the name, rounded up to a
-- multiple of four
pub record IsNoteDescription (body : List ℕ) (name_size desc_size : ℕ) (desc : List ℕ) : Type 0 where
  pub fits : rounded_up name_size + desc_size ≤ length body
  pub bytes : desc ≡ take desc_size (drop (rounded_up name_size) body)
  pub count_is : length desc ≡ desc_size

-- the description, or that it passes the end of the body
unfoldable pub note_desc_of : List ℕ → ℕ → ℕ → Result (List ℕ) ElfError
note_desc_of body name_size desc_size = unless (
    (nat_lt (length body) (rounded_up name_size + desc_size), NoteDesc)
    ∷ []) (take desc_size (drop (rounded_up name_size) body))
