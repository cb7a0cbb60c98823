-- The records of a whole table are the program headers that xmas_elf reads.
use Rattle.std.proofs.Common.{◌≡◌, ℕ, zero, suc, ◌+◌, ◌-◌, ◌*◌, ◌<◌, ◌≤◌, ◌==◌, Bool, true, false, List, ◌∷◌, length, map, Result, Ok, refl, sym, ap, ◌∙◌, arith}
use Rattle.std.proofs.lemmas.Bool.{and_parts, eqb-true}
use Rattle.std.proofs.lemmas.Bool.Decides.{nat_tests}
use Rattle.elf_base.specs.FileHeader.{file_class, file_order, header_fields}
use Rattle.elf_base.specs.declared.bytes.Order.{Order}
use Rattle.elf_base.specs.declared.error.ElfError.{ElfError}
use Rattle.xmas_elf.specs.HeaderTable.{entry_place, headers_from}
use Rattle.xmas_elf.specs.ProgramHeader.{HasProgram, program_at_place, program_of}
use Rattle.xmas_elf.specs.SectionHeader.{program_count_of}
use Rattle.xmas_elf.specs.Types.{ElfFile, ProgramHeader}
use Rattle.xmas_elf.proofs.ProgramLists.{programs}
use Rattle.elf_linking.specs.PortSegments.{AreProgramHeaders, HasPlainTable, segment_by}
use Rattle.elf_linking.specs.Segments.{segment_at, segment_size, segments_at}
use Rattle.elf_linking.proofs.SegmentRecords.{all_segments, all_within}

fields_at : (class : ℕ) (narrow : Bool) (order : Order) (input : List ℕ) (place : ℕ) → (class == 1) ≡ narrow → segment_by (program_at_place class order place input) ≡ segment_at narrow order input place
fields_at class true order input place is = rw is refl
fields_at class false order input place is = rw is refl

next_place : (narrow : Bool) (offset index place : ℕ) → place ≡ entry_place offset (segment_size narrow) index → place + segment_size narrow ≡ entry_place offset (segment_size narrow) (suc index)
next_place true offset index place is = omega arith
next_place false offset index place is = omega arith

module _ (header_at : ℕ → Result ProgramHeader ElfError) (class : ℕ) (order : Order) (input : List ℕ) (offset : ℕ) where
  -- the program headers from an index on, where each can be read
  segments_from : (count index place : ℕ) → place ≡ entry_place offset (segment_size (class == 1)) index
      → ((i : ℕ) → index ≤ i → i < index + count → header_at i ≡ Ok (program_at_place class order (entry_place offset (segment_size (class == 1)) i) input))
      → segments_at (class == 1) order input place count ≡ map segment_by (headers_from header_at index count)
  segments_from zero index place is each = refl
  segments_from (suc count) index place is each =
      let first : header_at index ≡ Ok (program_at_place class order place input) = each index (omega arith) (omega arith) ∙ ap (λ p. Ok (program_at_place class order p input)) (sym is) in
      let others = segments_from count (suc index) (place + segment_size (class == 1)) (next_place (class == 1) offset index place is) (λ i low high. each i (omega arith) (omega arith)) in
      sym (rw first (ap (λ x. x ∷ map segment_by (headers_from header_at (suc index) count)) (fields_at class (class == 1) order input place refl)
      ∙ ap (λ xs. segment_at (class == 1) order input place ∷ xs) (sym others)))

within_at : (narrow : Bool) (offset size count i len : ℕ) → size ≡ segment_size narrow → i < count → offset + count * segment_size narrow ≤ len → entry_place offset size (i + 1) ≤ len
within_at true offset size count i len is below within = rw is (omega arith)
within_at false offset size count i len is below within = rw is (omega arith)

count_is : (file : ElfFile) → HasPlainTable file → program_count_of file ≡ (header_fields file.header.pt2).ph_count
unfolding program_count_of
count_is file read =
    let few = read.few in
    let other : ((header_fields file.header.pt2).ph_count == 0xffff) ≡ false = grind (arith, nat_tests) in rw other refl

-- where xmas_elf reads the same records, the segments of a file are its program headers
pub are_program_headers : (file : ElfFile) → AreProgramHeaders file
are_program_headers file read =
    let part = header_fields file.header.pt2 in
    let narrow = file_class file.header == 1 in
    let sized : part.ph_entry_size ≡ segment_size narrow = eqb-true _ _ (and_parts _ _ read.whole).0 in
    let counted : program_count_of file ≡ part.ph_count = count_is file read in
    let has : (i : ℕ) → i < part.ph_count → HasProgram file i = λ i below. record {
      counted = rw counted below;
      placed = read.placed;
      within = within_at narrow part.ph_offset part.ph_entry_size part.ph_count i (length file.input.now) sized below (all_within file read.whole);
      class = read.class;
      large = omega (arith, sized);
    } in
    let all : program_count_of file - 0 ≡ part.ph_count = omega (arith, counted) in
    all_segments file read.whole
    ∙ segments_from (program_of file) (file_class file.header) (file_order file.header) file.input.now part.ph_offset part.ph_count 0 part.ph_offset (omega arith)
    (λ i low high. (programs file).at i (has i (omega (arith, high))) ∙ ap (λ size. Ok (program_at_place (file_class file.header) (file_order file.header) (entry_place part.ph_offset size i) file.input.now)) sized)
    ∙ ap (λ count. map segment_by (headers_from (program_of file) 0 count)) (sym all)
