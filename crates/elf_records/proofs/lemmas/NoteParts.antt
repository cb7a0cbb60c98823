-- A note has at most one name and one description: those computed.
use Rattle.std.proofs.Common.{◌≡◌, ◌+◌, ◌<◌, ℕ, true, false, Ok, Err, List, length, nat_eq, nat_lt, refl, sym, ap}
use Rattle.std.proofs.lemmas.Bool.{eq-eqb, le-ltb, lt-ltb, ne_eqb}
use Rattle.elf_base.specs.declared.error.ElfError.{ElfError}
use Rattle.elf_base.specs.declared.error.ElfError.TheVariants.{NoteDesc, NoteName}
use Rattle.elf_base.proofs.Texts.{text_of-failed}
use Rattle.elf_base.proofs.lemmas.TextLemmas.{is-text_of}
use Rattle.elf_records.specs.Note.{IsNoteDescription, IsNoteName, NoteNameError, note_desc_of, note_name_of, rounded_up}

pub is-note_name : (body : List ℕ) (size : ℕ) (text : List ℕ) → IsNoteName body size text → note_name_of body size ≡ Ok text
unfolding note_name_of
is-note_name body size text is =
    let front = is-text_of body 0 text is.front in
    let test : nat_eq (length text + 1) size ≡ true = eq-eqb (length text + 1) size is.size in
    rw (front, test) refl

pub note_name-failed : (body : List ℕ) (size : ℕ) (why : ElfError) → NoteNameError body size why → note_name_of body size ≡ Err why
unfolding note_name_of
note_name-failed body size NoteName (text, front, other) =
    let found = is-text_of body 0 text front in
    let test : nat_eq (length text + 1) size ≡ false = ne_eqb (length text + 1) size other in
    rw (found, test) refl
note_name-failed body size why failed = let none = text_of-failed body 0 why failed in rw none refl

pub is-note_desc : (body : List ℕ) (name_size desc_size : ℕ) (desc : List ℕ) → IsNoteDescription body name_size desc_size desc → note_desc_of body name_size desc_size ≡ Ok desc
unfolding note_desc_of
is-note_desc body name_size desc_size desc is =
    let fits : nat_lt (length body) (rounded_up name_size + desc_size) ≡ false = le-ltb (length body) (rounded_up name_size + desc_size) is.fits in
    rw fits (ap Ok (sym is.bytes))

pub note_desc-failed : (body : List ℕ) (name_size desc_size : ℕ) → length body < rounded_up name_size + desc_size → note_desc_of body name_size desc_size ≡ Err NoteDesc
unfolding note_desc_of
note_desc-failed body name_size desc_size short =
    let low : nat_lt (length body) (rounded_up name_size + desc_size) ≡ true = lt-ltb (length body) (rounded_up name_size + desc_size) short in
    rw low refl
