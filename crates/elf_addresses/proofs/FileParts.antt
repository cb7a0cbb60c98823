-- The claims of a file are not empty, and end within the file.
use Rattle.std.proofs.Common.{◌&&◌, Bool, not, nat_lt, length, [], lit<, if◌then◌else◌, ◌≡◌, ℕ, ◌<◌, ◌≤◌, ◌+◌, ◌==◌, false, true, List, Option, None, Some, slice_get, refl, ap, subst, arith}
use Rattle.std.specs.Option.{option_map_or}
use Rattle.std.proofs.lemmas.Bool.{and_parts, eqb-false, eqb-true, ltb-true}
use Rattle.xmas_elf.specs.Types.{ElfFile}
use Rattle.elf_addresses.specs.Claims.{claim_end}
use Rattle.xmas_elf.specs.ProgramHeader.{program_list}
use Rattle.elf_base.specs.FileHeader.{header_fields}
use Rattle.xmas_elf.specs.SectionHeader.{program_count_of, section_count_of, section_list}
use Rattle.elf_addresses.specs.Index.{IsKind, listed, word_count}
use Rattle.elf_addresses.proofs.Listed.{length_listed-le}
use Rattle.elf_addresses.specs.FileClaims.{byte_count, cut_range, is_whole, range_claim, section_claim, section_parts, section_range, section_range_at, segment_claim, segment_parts, segment_range, segment_range_at}
use Rattle.elf_addresses.specs.PartRanges.{unless_some}
use Rattle.elf_addresses.specs.declared.claim.Claim.{Claim}

-- a claim is of the sized ones, and ends within n bytes
pub record IsWithin (n : ℕ) (claim : Claim) : Type 0 where
  pub sized : IsKind false claim
  pub ends : claim_end claim ≤ n
  pub begins : claim.begin < n

-- a range that is cut and not empty ends within the file
pub cut_ends : (n : ℕ) (range : ℕ × ℕ) → 0 < (cut_range n range).1 → (cut_range n range).0 + (cut_range n range).1 ≤ n
cut_ends n range some = omega arith

part_ends : {H : Type 0} (range : H → ℕ × ℕ) (n : ℕ) (found : Option H) → 0 < (option_map_or (λ part. cut_range n (range part)) found (0, 0)).1 → (option_map_or (λ part. cut_range n (range part)) found (0, 0)).0 + (option_map_or (λ part. cut_range n (range part)) found (0, 0)).1 ≤ n
part_ends range n None some = absurd (omega arith)
part_ends range n (Some part) some = cut_ends n (range part) some

claim_within : (n index : ℕ) (range : ℕ × ℕ) (claim : Claim) → (0 < range.1 → range.0 + range.1 ≤ n) → range_claim index range ≡ Some claim → IsWithin n claim
claim_within n index range claim ends is =
    let (some, same) = unless_some (range.1 == 0) (record { begin = range.0; size = range.1; extent = range.1; rank = 0; index = index }) claim is in
    let size : range.1 ≡ claim.size = ap (λ (k : Claim). k.size) same in
    let begin : range.0 ≡ claim.begin = ap (λ (k : Claim). k.begin) same in
    let sized : (claim.size == 0) ≡ false = subst (λ s. (s == 0) ≡ false) size some in
    let fails : (claim.size ≡ 0 → ⊥) = eqb-false claim.size 0 sized in
    let more : 0 < claim.size = omega arith in
    let last : range.0 + range.1 ≤ n = ends (omega arith) in
    record { sized = sized; ends = omega arith; begins = omega arith }

pub section_within : (file : ElfFile) (index : ℕ) (claim : Claim) → section_claim file index ≡ Some claim → IsWithin (byte_count file) claim
section_within file index claim is =
    claim_within (byte_count file) index (section_range_at file index) claim (part_ends section_range (byte_count file) (slice_get (section_parts file) index)) is

pub segment_within : (file : ElfFile) (index : ℕ) (claim : Claim) → segment_claim file index ≡ Some claim → IsWithin (byte_count file) claim
segment_within file index claim is =
    claim_within (byte_count file) index (segment_range_at file index) claim (part_ends segment_range (byte_count file) (slice_get (segment_parts file) index)) is

few : {A : Type 0} (b : Bool) (xs : List A) → (b ≡ true → length xs < 0x100000000) → length (if b then xs else []) < 0x100000000
few true xs bound = bound refl
few false xs bound = lit< tt

whole_few : (offset count readable : ℕ) → is_whole offset count readable ≡ true → readable < 0x100000000
whole_few offset count readable h =
    let (rest, less) = and_parts (not (offset == 0) && readable == count) (nat_lt count 0x100000000) h in
    let (_, same) = and_parts (not (offset == 0)) (readable == count) rest in
    let eq : readable ≡ count = eqb-true readable count same in
    let bound : count < 0x100000000 = ltb-true count 0x100000000 less in
    omega arith

-- there are fewer than 2 to the 32 parts of a kind
pub sections_few : (file : ElfFile) → length (section_parts file) < 0x100000000
sections_few file =
    let offset = (header_fields file.header.pt2).sh_offset in
    let count = section_count_of file in
    let readable = length (section_list file) in
    few (is_whole offset count readable) (section_list file) (whole_few offset count readable)

pub segments_few : (file : ElfFile) → length (segment_parts file) < 0x100000000
segments_few file =
    let offset = (header_fields file.header.pt2).ph_offset in
    let count = program_count_of file in
    let readable = length (program_list file) in
    few (is_whole offset count readable) (program_list file) (whole_few offset count readable)

pub words_few : (claim_of : ℕ → Option Claim) (count : ℕ) → count < 0x100000000 → word_count claim_of count ≤ 0x300000000
words_few claim_of count bound =
    let sized : length (listed claim_of false count) ≤ count = length_listed-le claim_of false count in
    let opens : length (listed claim_of true count) ≤ count = length_listed-le claim_of true count in
    omega arith

-- the words for their indices are few too
pub section_words : (file : ElfFile) → word_count (section_claim file) (length (section_parts file)) ≤ 0x300000000
section_words file = words_few (section_claim file) (length (section_parts file)) (sections_few file)

pub segment_words : (file : ElfFile) → word_count (segment_claim file) (length (segment_parts file)) ≤ 0x300000000
segment_words file = words_few (segment_claim file) (length (segment_parts file)) (segments_few file)
