-- The header of an accepted file is the one that its numbers stand for.
use Rattle.std.proofs.Common.{◌≡◌, ℕ, suc, ◌+◌, ◌*◌, ◌^◌, ◌<◌, ◌≤◌, ◌==◌, ◌&&◌, nat_lt, Bool, true, false, inl, inr, ◌⊎◌, List, length, slice_index, if◌then◌else◌, refl, sym, ap, subst, ◌∙◌, arith}
use Rattle.std.proofs.lemmas.Bool.{eq-eqb, lt-ltb}
use Rattle.elf_base.specs.FileHeader.{IsAccepted, class_number, file_header, header_pt1, header_pt2_32, header_pt2_64, magic_number, order_of, pt2_record}
use Rattle.elf_base.specs.Number.{big_sum, byte_at, little_sum, number}
use Rattle.elf_base.specs.declared.bytes.Order.{Order}
use Rattle.elf_base.specs.declared.bytes.Order.TheVariants.{Little, Big}
use Rattle.elf_base.specs.declared.header.Header.{Header}
use Rattle.elf_base.specs.declared.header.HeaderPt1.{HeaderPt1}
use Rattle.elf_base.specs.declared.header.HeaderPt2.{HeaderPt2}
use Rattle.elf_base.specs.declared.header.HeaderPt2_.{HeaderPt2_}
use Rattle.elf_base.specs.declared.header.HeaderPt2.TheVariants.{Header32, Header64}
use Rattle.elf_c.specs.Parsed.{header_from, is_narrow, numbers_of, part_2}

-- the number in four bytes has 32 bits
word_below : (order : Order) (place : ℕ) (bytes : List ℕ) → ((i : ℕ) → slice_index bytes i < 256) → number order 4 place bytes < 2 ^ 32
unfolding number little_sum big_sum
word_below Little place bytes small =
    let sum : number Little 4 place bytes ≡ 0 + slice_index bytes (place + 0) * 1 + slice_index bytes (place + 1) * 256 + slice_index bytes (place + 2) * 65536 + slice_index bytes (place + 3) * 16777216 = refl in
    omega (arith, sum, small (place + 0), small (place + 1), small (place + 2), small (place + 3))
word_below Big place bytes small =
    let sum : number Big 4 place bytes ≡ slice_index bytes place * 16777216 + (slice_index bytes (suc place) * 65536 + (slice_index bytes (suc (suc place)) * 256 + (slice_index bytes (suc (suc (suc place))) * 1 + 0))) = refl in
    omega (arith, sum, small place, small (suc place), small (suc (suc place)), small (suc (suc (suc place))))

-- part 1 with the magic number in place of its own
abbrev with_magic : HeaderPt1 → List ℕ → HeaderPt1
with_magic part magic = record {
  magic = magic;
  class = part.class;
  encoding = part.encoding;
  version = part.version;
  os_abi = part.os_abi;
  abi_version = part.abi_version;
  padding = part.padding;
}

-- a header with the magic number is the one from its numbers, if its class is that of its layout
abbrev parts : HeaderPt1 → HeaderPt2 → Header
parts part rest = record { pt1 = part; pt2 = rest }

-- part 2 as it is rebuilt
abbrev laid_out : Bool → HeaderPt2_ ℕ → HeaderPt2
laid_out narrow part = if narrow then Header32 part else Header64 part

from_parts : (part : HeaderPt1) (rest : HeaderPt2) (fields : HeaderPt2_ ℕ) (narrow : Bool) → part.magic ≡ magic_number → rest ≡ laid_out narrow fields → is_narrow (numbers_of (parts part (laid_out narrow fields))) ≡ narrow → part_2 (numbers_of (parts part (laid_out narrow fields))) ≡ fields → header_from (numbers_of (parts part rest)) ≡ parts part rest
from_parts part rest fields narrow magic is test same =
    let rebuilt : header_from (numbers_of (parts part (laid_out narrow fields))) ≡ parts (with_magic part magic_number) (laid_out narrow fields) =
    ap (λ b. parts (with_magic part magic_number) (laid_out b (part_2 (numbers_of (parts part (laid_out narrow fields)))))) test
    ∙ ap (λ f. parts (with_magic part magic_number) (laid_out narrow f)) same in
    let own : parts (with_magic part magic_number) (laid_out narrow fields) ≡ parts part (laid_out narrow fields) =
    ap (λ m. parts (with_magic part m) (laid_out narrow fields)) (sym magic) in
    subst (λ r. header_from (numbers_of (parts part r)) ≡ parts part r) (sym is) (rebuilt ∙ own)

-- the numbers of class 32 fit in its fields, so they are read back as those of class 32
all_true : (a b c d : Bool) → a ≡ true → b ≡ true → c ≡ true → d ≡ true → (a && (b && (c && d))) ≡ true
all_true true true true true e f g h = refl
all_true false b c d e f g h = e
all_true true false c d e f g h = f
all_true true true false d e f g h = g
all_true true true true false e f g h = h

narrow_from : (part : HeaderPt1) (fields : HeaderPt2_ ℕ) → part.magic ≡ magic_number → class_number part.class ≡ 1 → fields.entry_point < 2 ^ 32 → fields.ph_offset < 2 ^ 32 → fields.sh_offset < 2 ^ 32 → header_from (numbers_of (parts part (Header32 fields))) ≡ parts part (Header32 fields)
narrow_from part fields magic class entry programs sections = from_parts part (Header32 fields) fields true magic refl
    (all_true (class_number part.class == 1) (nat_lt fields.entry_point (2 ^ 32)) (nat_lt fields.ph_offset (2 ^ 32)) (nat_lt fields.sh_offset (2 ^ 32))
    (eq-eqb (class_number part.class) 1 class) (lt-ltb fields.entry_point (2 ^ 32) entry) (lt-ltb fields.ph_offset (2 ^ 32) programs) (lt-ltb fields.sh_offset (2 ^ 32) sections))
    refl

not_narrow : (n : ℕ) (b : Bool) → n ≡ 2 → (n == 1 && b) ≡ false
not_narrow n b is = subst (λ m. (m == 1 && b) ≡ false) (sym is) refl

wide_from : (part : HeaderPt1) (fields : HeaderPt2_ ℕ) → part.magic ≡ magic_number → class_number part.class ≡ 2 → header_from (numbers_of (parts part (Header64 fields))) ≡ parts part (Header64 fields)
wide_from part fields magic class = from_parts part (Header64 fields) fields false magic refl
    (not_narrow (class_number part.class) (nat_lt fields.entry_point (2 ^ 32) && (nat_lt fields.ph_offset (2 ^ 32) && nat_lt fields.sh_offset (2 ^ 32))) class)
    refl

-- part 2 by the class
narrow_laid : (n : ℕ) (order : Order) (bytes : List ℕ) → n ≡ 1 → pt2_record n order bytes ≡ Header32 (header_pt2_32 order 16 bytes)
narrow_laid n order bytes is = subst (λ m. pt2_record m order bytes ≡ Header32 (header_pt2_32 order 16 bytes)) (sym is) refl

wide_laid : (n : ℕ) (order : Order) (bytes : List ℕ) → n ≡ 2 → pt2_record n order bytes ≡ Header64 (header_pt2_64 order 16 bytes)
wide_laid n order bytes is = subst (λ m. pt2_record m order bytes ≡ Header64 (header_pt2_64 order 16 bytes)) (sym is) refl

-- the header of an accepted file
pub opened_is : (bytes : List ℕ) → ((i : ℕ) → slice_index bytes i < 256) → IsAccepted bytes → header_from (numbers_of (file_header bytes)) ≡ file_header bytes
opened_is bytes small accepted = by_class accepted.class
  where
    by_class : ((byte_at 4 bytes ≡ 1) × (52 ≤ length bytes)) ⊎ ((byte_at 4 bytes ≡ 2) × (64 ≤ length bytes)) → header_from (numbers_of (file_header bytes)) ≡ file_header bytes
    by_class (inl (class, long)) = let order = order_of (byte_at 5 bytes) in
        subst (λ rest. header_from (numbers_of (parts (header_pt1 bytes) rest)) ≡ parts (header_pt1 bytes) rest) (sym (narrow_laid (byte_at 4 bytes) order bytes class))
        (narrow_from (header_pt1 bytes) (header_pt2_32 order 16 bytes) accepted.magic class
        (word_below order 24 bytes small) (word_below order 28 bytes small) (word_below order 32 bytes small))
    by_class (inr (class, long)) = let order = order_of (byte_at 5 bytes) in
        subst (λ rest. header_from (numbers_of (parts (header_pt1 bytes) rest)) ≡ parts (header_pt1 bytes) rest) (sym (wide_laid (byte_at 4 bytes) order bytes class))
        (wide_from (header_pt1 bytes) (header_pt2_64 order 16 bytes) accepted.magic class)
