-- Searches for a build id, note by note and segment by segment.
use Rattle.std.proofs.Common.{◌≡◌, ◌≢◌, ◌+◌, ◌⊎◌, inl, inr, ℕ, sym, true, false, List, [], ◌∷◌, length, Some, None, Result, Ok, Err, refl, ap, ◌∙◌}
use Rattle.std.proofs.Math.Dec.{eqb}
use Rattle.std.proofs.lemmas.Bool.Decides.{eqb_tells}
use Rattle.std.specs.Borrow.{Bor}
use Rattle.elf_base.specs.FileHeader.{file_order}
use Rattle.elf_base.specs.Lent.{LiesAt}
use Rattle.elf_base.specs.declared.bytes.Order.{Order}
use Rattle.elf_linking.specs.Notes.{NoteParts, notes_align, notes_bytes, notes_left, notes_of, notes_order}
use Rattle.elf_linking.specs.declared.notes.Notes.{Notes}
use Rattle.elf_linking.proofs.NoteItems.{notes_end}
use Rattle.elf_linking.specs.declared.error.LinkError.{LinkError}
use Rattle.elf_linking.specs.BuildIds.{id_among, id_in, id_in_segments, id_of_segment, is_build_id, is_notes}
use Rattle.elf_linking.specs.Segments.{segment_bytes}
use Rattle.elf_linking.specs.declared.segments.Segment.{Segment}
use Rattle.xmas_elf.specs.Types.{ElfFile}

pub search_end : (items : List (Result NoteParts LinkError)) → items ≡ [] → id_among items ≡ Ok None
search_end items is = ap id_among is

pub search_fault : (items others : List (Result NoteParts LinkError)) (error : LinkError) → items ≡ Err error ∷ others → id_among items ≡ Err error
search_fault items others error is = ap id_among is

pub search_found : (items others : List (Result NoteParts LinkError)) (note : NoteParts) → items ≡ Ok note ∷ others → is_build_id note ≡ true → id_among items ≡ Ok (Some note.desc)
search_found items others note is found = ap id_among is ∙ rw found refl

pub search_other : (items others : List (Result NoteParts LinkError)) (note : NoteParts) → items ≡ Ok note ∷ others → is_build_id note ≡ false → id_among items ≡ id_among others
search_other items others note is other = ap id_among is ∙ rw other refl

pub segments_end : (file : ElfFile) (segments : List Segment) → segments ≡ [] → id_in_segments file segments ≡ Ok None
segments_end file segments is = ap (id_in_segments file) is

pub segments_fault : (file : ElfFile) (segments others : List Segment) (segment : Segment) (error : LinkError) → segments ≡ segment ∷ others → is_notes segment ≡ true → id_of_segment file segment ≡ Err error → id_in_segments file segments ≡ Err error
segments_fault file segments others segment error is notes fault = ap (id_in_segments file) is ∙ rw notes (rw fault refl)

pub segments_found : (file : ElfFile) (segments others : List Segment) (segment : Segment) (id : Bor (List ℕ)) → segments ≡ segment ∷ others → is_notes segment ≡ true → id_of_segment file segment ≡ Ok (Some id) → id_in_segments file segments ≡ Ok (Some id)
segments_found file segments others segment id is notes found = ap (id_in_segments file) is ∙ rw notes (rw found refl)

pub segments_none : (file : ElfFile) (segments others : List Segment) (segment : Segment) → segments ≡ segment ∷ others → is_notes segment ≡ true → id_of_segment file segment ≡ Ok None → id_in_segments file segments ≡ id_in_segments file others
segments_none file segments others segment is notes none = ap (id_in_segments file) is ∙ rw notes (rw none refl)

pub segments_other : (file : ElfFile) (segments others : List Segment) (segment : Segment) → segments ≡ segment ∷ others → is_notes segment ≡ false → id_in_segments file segments ≡ id_in_segments file others
segments_other file segments others segment is other = ap (id_in_segments file) is ∙ rw other refl

-- a slice is made of its place in memory and its bytes
abbrev at_place : (whole : Bor (List ℕ)) (start : ℕ) (bytes : List ℕ) → Bor (List ℕ)
at_place whole start bytes = record { ref_ptr = (whole.ref_ptr.0, whole.ref_ptr.1 + start); now = bytes }

placed : (whole part : Bor (List ℕ)) (start : ℕ) → LiesAt whole start part → part ≡ at_place whole start part.now
placed whole part start lies = λ i. record { ref_ptr = (lies.block i, lies.place_is i); now = part.now }

-- the notes of a segment are those at its offset; an empty segment has none, wherever its slice is
notes_placed : (align : ℕ) (order : Order) (file : ElfFile) (segment : Segment) (part : Bor (List ℕ)) → length part.now ≡ segment.file_size → (segment.file_size ≢ 0 → LiesAt file.input segment.offset part)
    → notes_of align order part ≡ notes_of align order (at_place file.input segment.offset part.now)
notes_placed align order file segment part count lies = go (eqb_tells segment.file_size 0)
  where
    go : ((eqb segment.file_size 0 ≡ true) × (segment.file_size ≡ 0)) ⊎ ((eqb segment.file_size 0 ≡ false) × (segment.file_size ≢ 0)) → notes_of align order part ≡ notes_of align order (at_place file.input segment.offset part.now)
    go (inl (_, none)) = notes_end align order part (count ∙ none) ∙ sym (notes_end align order (at_place file.input segment.offset part.now) (count ∙ none))
    go (inr (_, some)) = ap (notes_of align order) (placed file.input part segment.offset (lies some))

-- the build id among the notes of a segment
pub id_placed : (file : ElfFile) (segment : Segment) (notes : Notes) → segment_bytes file segment ≡ Ok (notes_bytes notes).now → length (notes_bytes notes).now ≡ segment.file_size → (segment.file_size ≢ 0 → LiesAt file.input segment.offset (notes_bytes notes))
    → notes_order notes ≡ file_order file.header → notes_align notes ≡ segment.align → id_among (notes_left notes) ≡ id_of_segment file segment
unfolding id_of_segment
id_placed file segment notes is count lies order align =
    let part = notes_bytes notes in
    ap (λ a. id_among (notes_of a (notes_order notes) part)) align ∙ ap (λ o. id_among (notes_of segment.align o part)) order
    ∙ ap id_among (notes_placed segment.align (file_order file.header) file segment part count lies)
    ∙ sym (ap (id_in segment.align (file_order file.header) file.input segment.offset) is)
