-- The last loaded segment with the bytes at some addresses, in the list and by its index, and its bytes.
use Rattle.std.proofs.Common.{◌≡◌, ◌≢◌, ℕ, zero, suc, ◌+◌, ◌-◌, ◌≤◌, ◌==◌, ◌&&◌, nat_le, true, false, List, length, take, drop, Option, Some, None, IfSome, IfNone, sym, ap, ◌∙◌, refl, subst, arith}
use Rattle.std.proofs.lemmas.Bool.{and_from, and_parts, eq-eqb, eqb-true, le-leb, leb-true}
use Rattle.std.proofs.lemmas.List.{drop-drop, drop-take, length-drop, length-take-le, take-take}
use Rattle.elf_linking.specs.Loaded.{HasFileBytes, IsAt, IsLastWithBytes, NoneHasFileBytes, has_file_bytes, segment_at_of}
use Rattle.elf_linking.specs.Segments.{segments_of}
use Rattle.elf_linking.specs.declared.segments.Segment.{Segment}
use Rattle.elf_linking.proofs.Lasts.{NonePasses, found_in, none_in}
use Rattle.xmas_elf.specs.Ranges.{IsRange}
use Rattle.xmas_elf.specs.declared.ElfFile.{ElfFile}

-- the test decides whether a segment has the bytes
pub holds_by_test : (address count : ℕ) (segment : Segment) → has_file_bytes address count segment ≡ true → HasFileBytes address count segment
holds_by_test address count segment is =
    let both = and_parts (segment.kind == 1 && nat_le segment.address address) (nat_le (address + count) (segment.address + segment.file_size)) is in
    let front = and_parts (segment.kind == 1) (nat_le segment.address address) both.0 in record {
      loaded = eqb-true segment.kind 1 front.0;
      begins = leb-true segment.address address front.1;
      ends = leb-true (address + count) (segment.address + segment.file_size) both.1;
    }

pub test_by_holds : (address count : ℕ) (segment : Segment) → HasFileBytes address count segment → has_file_bytes address count segment ≡ true
test_by_holds address count segment holds = and_from _ _ (and_from _ _ (eq-eqb segment.kind 1 holds.loaded) (le-leb _ _ holds.begins)) (le-leb _ _ holds.ends)

not_by_test : (address count : ℕ) (segment : Segment) → has_file_bytes address count segment ≡ false → ¬ HasFileBytes address count segment
not_by_test address count segment fails holds =
    let passes = test_by_holds address count segment holds in cc

none_from : (file : ElfFile) (address count low : ℕ) → NonePasses (has_file_bytes address count) (segments_of file) low → NoneHasFileBytes file address count low
none_from file address count low none k d above below = not_by_test address count _ (none k d above below)

-- the computed segment is the last with the bytes; if there is none, no segment has them
pub last_segment_at : (file : ElfFile) (address count : ℕ) (segment : Segment) → segment_at_of file address count ≡ Some segment → IsLastWithBytes file address count segment
unfolding segment_at_of
last_segment_at file address count segment is =
    let found = found_in (has_file_bytes address count) (segments_of file) segment is in record {
      index = found.position;
      below = found.below;
      stands = found.stands;
      holds = holds_by_test address count segment found.passes;
      last = none_from file address count (found.position + 1) found.last;
    }

pub no_segment_at : (file : ElfFile) (address count : ℕ) → segment_at_of file address count ≡ None → NoneHasFileBytes file address count 0
unfolding segment_at_of
no_segment_at file address count is = none_from file address count 0 (none_in (has_file_bytes address count) (segments_of file) is)

-- a result that equals the computed segment is the last with the bytes
pub found_holds : (file : ElfFile) (address count : ℕ) (r : Option Segment) → r ≡ segment_at_of file address count → IfSome r (IsLastWithBytes file address count)
found_holds file address count None is = tt
found_holds file address count (Some segment) is = last_segment_at file address count segment (sym is)

pub missing_holds : (file : ElfFile) (address count : ℕ) (r : Option Segment) → r ≡ segment_at_of file address count → IfNone r (NoneHasFileBytes file address count 0)
missing_holds file address count None is = no_segment_at file address count (sym is)
missing_holds file address count (Some segment) is = tt

-- bytes of the data of a segment are bytes of the file
pub part_by : (input kept : List ℕ) (offset size start count : ℕ) → (size ≢ 0 → IsRange input offset size kept) → start + count ≤ size → take count (drop start kept) ≡ take count (drop (offset + start) input)
part_by input kept offset size start zero range within = refl
part_by input kept offset size start (suc more) range within =
    let count : ℕ = suc more in
    let left : ℕ = size - start in
    let lies : IsRange input offset size kept = range (λ none. omega (arith, none, within)) in
    let whole : size ≡ start + left = omega (arith, within) in
    let enough : count ≤ left = omega (arith, within) in
    let cut : drop start kept ≡ take left (drop (offset + start) input) =
    ap (drop start) lies.bytes_are ∙ ap (λ n. drop start (take n (drop offset input))) whole ∙ drop-take start left (drop offset input) ∙ ap (take left) (drop-drop start offset input) in
    ap (take count) cut ∙ take-take count left (drop (offset + start) input) enough

long_by : (kept : List ℕ) (size start count : ℕ) → length kept ≡ size → start + count ≤ size → length (take count (drop start kept)) ≡ count
long_by kept size start count long within =
    let rest : length (drop start kept) ≡ length kept - start = length-drop start kept in
    length-take-le count (drop start kept) (omega (arith, rest, long, within))

pub is_at : (file : ElfFile) (address count start : ℕ) (segment : Segment) (kept : List ℕ) → segment_at_of file address count ≡ Some segment → length kept ≡ segment.file_size → (segment.file_size ≢ 0 → IsRange file.input.now segment.offset segment.file_size kept) → start ≡ address - segment.address → IsAt file address count (take (start + count - start) (drop start kept))
is_at file address count start segment kept is long range begins =
    let holder = last_segment_at file address count segment is in
    let within : start + count ≤ segment.file_size = omega (arith, begins, holder.holds.begins, holder.holds.ends) in
    let many : start + count - start ≡ count = omega arith in record {
      segment = segment;
      holder = holder;
      count_is = ap (λ n. length (take n (drop start kept))) many ∙ long_by kept segment.file_size start count long within;
      bytes_are = ap (λ n. take n (drop start kept)) many ∙ part_by file.input.now kept segment.offset segment.file_size start count range within
          ∙ ap (λ n. take count (drop (segment.offset + n) file.input.now)) begins;
    }

-- if a segment has the bytes, it is not true that none has
pub some_holds : (file : ElfFile) (address count : ℕ) (segment : Segment) → segment_at_of file address count ≡ Some segment → ¬ NoneHasFileBytes file address count 0
some_holds file address count segment is none =
    let holder = last_segment_at file address count segment is in
    none holder.index segment (omega arith) holder.below (subst (λ s. HasFileBytes address count s) (sym (holder.stands segment)) holder.holds)
