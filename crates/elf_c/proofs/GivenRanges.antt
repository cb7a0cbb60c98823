-- The range that an export answers lies in the input.
use Rattle.std.proofs.Common.{◌≡◌, ℕ, ◌+◌, ◌-◌, ◌<◌, ◌≤◌, ◌==◌, Bool, true, false, List, [], length, Option, None, Some, Result, Ok, Err, IfOk, if◌then◌else◌, refl, sym, subst, arith}
use Rattle.std.proofs.lemmas.Bool.{eqb-true}
use Rattle.elf_base.specs.FirstError.{and_then}
use Rattle.elf_base.specs.declared.error.ElfError.{ElfError}
use Rattle.elf_linking.specs.Loaded.{segment_at_of}
use Rattle.elf_linking.proofs.LoadedBytes.{last_segment_at}
use Rattle.elf_records.specs.ProgramNumbers.{is_ph_type}
use Rattle.elf_records.specs.declared.program.Type.TheVariants.{Null}
use Rattle.xmas_elf.specs.ProgramHeader.{program_fields, program_of, segment_data_of, segment_type}
use Rattle.xmas_elf.proofs.FirstNamed.{not_failed, went_on}
use Rattle.xmas_elf.specs.Ranges.{range_of}
use Rattle.xmas_elf.specs.Types.{ElfFile, ProgramHeader64}
use Rattle.elf_linking.specs.Segments.{segment_bytes}
use Rattle.elf_linking.specs.declared.segments.Segment.{Segment}
use Rattle.elf_c.specs.Addresses.{bytes_range, range_at_address, range_in_segment}
use Rattle.elf_c.specs.Records.{LiesIn, range_at, segment_data_range}
use Rattle.elf_base.specs.Message.{error_number}
use Rattle.elf_c.specs.Status.{Gives, GivesBy, GivesHere, and_so, failure_number}
use Rattle.elf_c.proofs.Statuses.{error_above, failure_above}
use Rattle.elf_c.proofs.StoredNames.{part_within}
use Rattle.elf_c.specs.declared.names.Range.{Range}
use Rattle.elf_c.specs.declared.status.AnyError.{AnyError}

-- the record of a call that returned Ok has the property that the value has
gives : {T E : Type 0} (number_of : E → ℕ) (P : T → Type 0) (answer : Result T E) (old : T) (status : ℕ) (new : T) → ((error : E) → 0 < number_of error) → IfOk answer P → GivesBy number_of answer old status new → status ≡ 0 → P new
gives number_of P (Ok value) old status new above has given zero = subst P (sym given.1) has
gives number_of P (Err error) old status new above has given zero = absurd (omega (arith, given.0, zero, above error))

pub given : {T : Type 0} (P : T → Type 0) (answer : Result T ElfError) (old : T) (status : ℕ) (new : T) → IfOk answer P → Gives answer old status new → status ≡ 0 → P new
given P answer old status new has gave zero = gives error_number P answer old status new error_above has gave zero

pub given_here : {T : Type 0} (P : T → Type 0) (answer : Result T AnyError) (old : T) (status : ℕ) (new : T) → IfOk answer P → GivesHere answer old status new → status ≡ 0 → P new
given_here P answer old status new has gave zero = gives failure_number P answer old status new failure_above has gave zero

-- the record of a call that returned Ok has each property of what its value is in the file
pub given_in : {T : Type 0} (P : ElfFile → T → Type 0) (Is : ElfFile → Result T AnyError → Type 0) (file known : ElfFile) (answer : Result T AnyError) (old : T) (status : ℕ) (new : T) → ((value : T) → Is file (Ok value) → P file value) → file ≡ known → Is file answer → GivesHere answer old status new → status ≡ 0 → P known new
given_in {T} P Is file known answer old status new has same is gave zero =
    subst (λ f. P f new) same (given_here (P file) answer old status new (by_answer answer is) gave zero)
  where
    by_answer : (found : Result T AnyError) → Is file found → IfOk found (P file)
    by_answer (Ok value) here = has value here
    by_answer (Err why) here = tt

pub given_range : (file known : ElfFile) (answer : Result Range ElfError) (old : Range) (status : ℕ) (new : Range) → file ≡ known → IfOk answer (LiesIn file.input.now) → Gives answer old status new → status ≡ 0 → LiesIn known.input.now new
given_range file known answer old status new same has gave zero = subst (λ f. LiesIn f.input.now new) same (given (LiesIn file.input.now) answer old status new has gave zero)

pub given_range_here : (file known : ElfFile) (answer : Result Range AnyError) (old : Range) (status : ℕ) (new : Range) → file ≡ known → IfOk answer (LiesIn file.input.now) → GivesHere answer old status new → status ≡ 0 → LiesIn known.input.now new
given_range_here file known answer old status new same has gave zero = subst (λ f. LiesIn f.input.now new) same (given_here (LiesIn file.input.now) answer old status new has gave zero)

-- the data of a segment that has some lie in the input
part_lies : (file : ElfFile) (offset size : ℕ) (part : Range) (bytes : List ℕ) → (if size == 0 then Ok [] else range_of file.input.now offset size) ≡ Ok bytes
    → range_at (if size == 0 then 0 else offset) size ≡ part → LiesIn file.input.now part × (part.size ≡ size)
part_lies file offset size part bytes read own = by_size (size == 0) refl read own
  where
    by_size : (none : Bool) → (size == 0) ≡ none → (if none then Ok [] else range_of file.input.now offset size) ≡ Ok bytes
        → range_at (if size == 0 then 0 else offset) size ≡ part → LiesIn file.input.now part × (part.size ≡ size)
    by_size true none taken own =
        let there : range_at 0 size ≡ part = subst (λ b. range_at (if b then 0 else offset) size ≡ part) none own in
        let zero : size ≡ 0 = eqb-true size 0 none in
        let sum : 0 + size ≤ length file.input.now = omega (arith, zero) in
        subst (λ r. LiesIn file.input.now r × (r.size ≡ size)) there (sum, refl)
    by_size false some taken own =
        let fits : offset + size ≤ length file.input.now = (part_within file.input.now offset size bytes taken).0 in
        let there : range_at offset size ≡ part = subst (λ b. range_at (if b then 0 else offset) size ≡ part) some own in
        subst (λ r. LiesIn file.input.now r × (r.size ≡ size)) there (fits, refl)

segment_lies : (file : ElfFile) (segment : ProgramHeader64) (part : Range) → segment_data_range file segment ≡ Ok part → LiesIn file.input.now part × (part.size ≡ segment.file_size)
unfolding segment_data_of
segment_lies file segment part is =
    let (bytes, read, answered) = went_on (segment_data_of file segment) _ part is in
    let (kind, typed, checked) = went_on (segment_type segment) _ bytes read in
    let own : range_at (if segment.file_size == 0 then 0 else segment.offset) segment.file_size ≡ part = cc in
    part_lies file segment.offset segment.file_size part bytes (not_failed (is_ph_type Null kind) _ _ bytes checked).1 own

bytes_lie : (file : ElfFile) (segment : Segment) (part : Range) → bytes_range file segment ≡ Ok part → LiesIn file.input.now part × (part.size ≡ segment.file_size)
bytes_lie file segment part is =
    let (bytes, read, answered) = went_on (segment_bytes file segment) _ part is in
    let own : range_at (if segment.file_size == 0 then 0 else segment.offset) segment.file_size ≡ part = cc in
    part_lies file segment.offset segment.file_size part bytes read own

found_lies : {A : Type 0} (file : ElfFile) (r : Result A ElfError) (next : A → Result Range ElfError) → ((a : A) (part : Range) → next a ≡ Ok part → LiesIn file.input.now part) → IfOk (and_then r next) (LiesIn file.input.now)
found_lies {A} file (Err error) next has = tt
found_lies {A} file (Ok a) next has = by_next (next a) refl
  where
    by_next : (r : Result Range ElfError) → next a ≡ r → IfOk r (LiesIn file.input.now)
    by_next (Ok part) is = has a part is
    by_next (Err error) is = tt

pub segment_data_lies : (file : ElfFile) (index : ℕ) → IfOk (and_then (program_of file index) (λ program. segment_data_range file (program_fields program))) (LiesIn file.input.now)
segment_data_lies file index = found_lies file (program_of file index) (λ program. segment_data_range file (program_fields program))
    (λ program part is. (segment_lies file (program_fields program) part is).0)

-- the bytes at an address lie in the data of their segment
pub address_lies : (file : ElfFile) (address count : ℕ) → IfOk (range_at_address file address count) (LiesIn file.input.now)
address_lies file address count = by_segment (segment_at_of file address count) refl
  where
    by_part : (segment : Segment) (r : Result Range ElfError) → segment_at_of file address count ≡ Some segment → bytes_range file segment ≡ r
        → IfOk (and_so r (λ part. Ok (range_at (part.offset + (address - segment.address)) count))) (LiesIn file.input.now)
    by_part segment (Err error) is ranged = tt
    by_part segment (Ok part) is ranged =
        let holds = (last_segment_at file address count segment is).holds in
        let begins = holds.begins in
        let ends = holds.ends in
        let (lies, long) = bytes_lie file segment part ranged in
        let whole : part.offset + part.size ≤ length file.input.now = lies in
        let sum : part.offset + (address - segment.address) + count ≤ length file.input.now = omega (arith, begins, ends, whole, long) in sum

    by_segment : (found : Option Segment) → segment_at_of file address count ≡ found → IfOk (range_in_segment file address count found) (LiesIn file.input.now)
    by_segment None is = tt
    by_segment (Some segment) is = by_part segment (bytes_range file segment) is refl
