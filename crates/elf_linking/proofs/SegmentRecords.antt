-- The records of a program header table, one after the other.
use Rattle.std.proofs.Common.{◌≡◌, ℕ, zero, suc, ◌+◌, ◌-◌, ◌*◌, ◌<◌, ◌≤◌, ◌==◌, Bool, true, false, List, [], ◌∷◌, length, refl, arith}
use Rattle.std.proofs.lemmas.Bool.{and_parts, leb-true}
use Rattle.elf_base.specs.FileHeader.{file_class, file_order, header_fields}
use Rattle.elf_base.specs.Number.{number}
use Rattle.elf_base.specs.declared.bytes.Order.{Order}
use Rattle.xmas_elf.specs.Types.{ElfFile}
use Rattle.elf_linking.specs.Segments.{is_whole, segment_at, segment_size, segments_at, segments_of}

-- the next record is in the file
pub next_within : (narrow : Bool) (place left len : ℕ) → 0 < left → place + left * segment_size narrow ≤ len → place + segment_size narrow ≤ len
next_within true place left len some within = omega arith
next_within false place left len some within = omega arith

-- so is its type
pub kind_within : (narrow : Bool) (place left len : ℕ) → 0 < left → place + left * segment_size narrow ≤ len → place + 4 ≤ len
kind_within true place left len some within = omega arith
kind_within false place left len some within = omega arith

-- so are those after it
pub rest_within : (narrow : Bool) (place left len : ℕ) → 0 < left → place + left * segment_size narrow ≤ len → place + segment_size narrow + (left - 1) * segment_size narrow ≤ len
rest_within true place left len some within = omega arith
rest_within false place left len some within = omega arith

-- the type has one place in both classes
pub kind_is : (narrow : Bool) (order : Order) (input : List ℕ) (place : ℕ) → number order 4 place input ≡ (segment_at narrow order input place).kind
kind_is true order input place = refl
kind_is false order input place = refl

-- there are as many records as are left
pub count_is : (narrow : Bool) (order : Order) (input : List ℕ) (place left : ℕ) → left ≡ length (segments_at narrow order input place left)
count_is narrow order input place zero = refl
count_is narrow order input place (suc left) =
    let rest : left ≡ length (segments_at narrow order input (place + segment_size narrow) left) = count_is narrow order input (place + segment_size narrow) left in
    omega (arith, rest)

pub rest_is : (narrow : Bool) (order : Order) (input : List ℕ) (place left : ℕ) → 0 < left → segments_at narrow order input place left ≡ segment_at narrow order input place ∷ segments_at narrow order input (place + segment_size narrow) (left - 1)
rest_is narrow order input place zero some = absurd (omega arith)
rest_is narrow order input place (suc left) some =
    let e : suc left - 1 ≡ left = omega arith in rw e refl

pub none_are : (narrow : Bool) (order : Order) (input : List ℕ) (place left : ℕ) → left ≤ 0 → segments_at narrow order input place left ≡ []
none_are narrow order input place zero none = refl
none_are narrow order input place (suc left) none = absurd (omega arith)

-- the table of a file that has it whole is in it, and its records are the segments of the file
pub all_within : (file : ElfFile) → is_whole file ≡ true → (header_fields file.header.pt2).ph_offset + (header_fields file.header.pt2).ph_count * segment_size (file_class file.header == 1) ≤ length file.input.now
all_within file whole = leb-true _ _ (and_parts _ _ whole).1

pub all_segments : (file : ElfFile) → is_whole file ≡ true → segments_of file ≡ segments_at (file_class file.header == 1) (file_order file.header) file.input.now (header_fields file.header.pt2).ph_offset (header_fields file.header.pt2).ph_count
all_segments file whole = rw whole refl

-- the segments of a file whose table is not whole are none
pub no_segments : (file : ElfFile) → is_whole file ≡ false → segments_of file ≡ []
no_segments file other = rw other refl
