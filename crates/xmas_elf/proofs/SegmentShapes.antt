-- The data of a segment is what the words of `SegmentShapes` say, by the tests that it goes through.
use Rattle.std.proofs.Common.{◌≡◌, ◌≢◌, ◌↔◌, ℕ, ◌+◌, ◌==◌, ◌≤◌, Bool, true, false, eqb-true, eq-eqb, List, [], length, Option, Some, Result, Ok, Err, IsOkAnd, MatchResult, if◌then◌else◌, refl, sym, ap, ◌∙◌, subst}
use Rattle.xmas_elf.proofs.Shapes.{Says, in_range, says_by_class, says_note, says_ok}
use Rattle.xmas_elf.specs.Shapes.{Fills, HasSegmentShape, Shape, segment_shape_in, shape}
use Rattle.xmas_elf.specs.Content.{Content, dynamic_32, dynamic_64, empty, undefined}
use Rattle.elf_base.specs.declared.error.ElfError.TheVariants.{NullData}
use Rattle.elf_base.specs.FileHeader.{file_class, file_order}
use Rattle.xmas_elf.specs.ProgramHeader.{segment_data_of, segment_type}
use Rattle.elf_records.specs.ProgramNumbers.{is_ph_type}
use Rattle.xmas_elf.specs.Ranges.{range_of}
use Rattle.elf_base.specs.FirstError.{and_then}
use Rattle.xmas_elf.specs.SegmentContent.{content_of_segment, segment_content_of}
use Rattle.elf_records.specs.declared.program.Type.TheVariants as ph_type
use Rattle.xmas_elf.specs.Prelude.{ElfError, ElfFile, ProgramHeader64, SegmentType}

-- an answer over the data of a segment is Ok with a shape exactly where that is the one, and the bytes are
-- there, if it has any, and fill it
abbrev SaysOf : Result Content ElfError → Option Shape → List ℕ → ℕ → ℕ → Type 0
SaysOf answer one input start size = (wanted : Shape) → IsOkAnd answer (λ c. shape c ≡ wanted)
    ↔ ((one ≡ Some wanted) × (size ≢ 0 → start + size ≤ length input) × Fills wanted size)

in_segment : (make : List ℕ → Result Content ElfError) (one : Option Shape) (input : List ℕ) (start size : ℕ) (zero : Bool) → (size == 0) ≡ zero → ((b : List ℕ) → Says (make b) one (length b)) → SaysOf (and_then (if zero then Ok [] else range_of input start size) make) one input start size
in_segment make one input start size true test says wanted =
    let none : 0 ≡ size = sym (eqb-true size 0 test) in
    let there = says [] wanted in (
      λ is. (let held = there.0 is in (held.0, (λ some. absurd (some (sym none))), subst (Fills wanted) none held.1)),
      λ held. there.1 (held.0, subst (Fills wanted) (sym none) held.2),
    )
in_segment make one input start size false test says wanted =
    let there = in_range make one input start size says wanted in (
      λ is. (let held = there.0 is in (held.0, (λ some. held.1), held.2)),
      λ held. there.1 (held.0, held.1 (λ none. (let other = eq-eqb size 0 none in let both : true ≡ false = sym other ∙ test in absurd (cc))), held.2),
    )

-- the bytes of a segment that isn't of type Null
abbrev data_of : ElfFile → ProgramHeader64 → Result (List ℕ) ElfError
data_of file segment = if segment.file_size == 0 then Ok [] else range_of file.input.now segment.offset segment.file_size

data_is : (file : ElfFile) (segment : ProgramHeader64) (kind : SegmentType) → segment_type segment ≡ Ok kind → is_ph_type ph_type.Null kind ≡ false → segment_data_of file segment ≡ data_of file segment
unfolding segment_data_of
data_is file segment kind typed not_null =
    ap (λ (r : Result SegmentType ElfError). and_then r (λ k. if is_ph_type ph_type.Null k then Err NullData else data_of file segment)) typed
    ∙ ap (λ (t : Bool). if t then Err NullData else data_of file segment) not_null

-- what a segment of one type has
abbrev content_by : ElfFile → ProgramHeader64 → SegmentType → Result Content ElfError
content_by file segment kind = if is_ph_type ph_type.Null kind then Ok empty
    else and_then (segment_data_of file segment) (content_of_segment kind (file_class file.header) (file_order file.header))

-- what the words say of it
record IsShaped (file : ElfFile) (segment : ProgramHeader64) (kind : SegmentType) (wanted : Shape) : Type 0 where
  pub is : segment_shape_in kind (file_class file.header) ≡ Some wanted
  pub within : is_ph_type ph_type.Null kind ≡ false → segment.file_size ≢ 0 → segment.offset + segment.file_size ≤ length file.input.now
  pub fills : is_ph_type ph_type.Null kind ≡ false → Fills wanted segment.file_size

abbrev Agrees : ElfFile → ProgramHeader64 → SegmentType → Type 0
Agrees file segment kind = (wanted : Shape) → IsOkAnd (content_by file segment kind) (λ c. shape c ≡ wanted) ↔ IsShaped file segment kind wanted

with_bytes : (file : ElfFile) (segment : ProgramHeader64) (kind : SegmentType) → segment_type segment ≡ Ok kind → is_ph_type ph_type.Null kind ≡ false → ((b : List ℕ) → Says (content_of_segment kind (file_class file.header) (file_order file.header) b) (segment_shape_in kind (file_class file.header)) (length b)) → Agrees file segment kind
with_bytes file segment kind typed not_null says wanted =
    let make = content_of_segment kind (file_class file.header) (file_order file.header) in
    let there = in_segment make (segment_shape_in kind (file_class file.header)) file.input.now segment.offset segment.file_size (segment.file_size == 0) refl says wanted in
    let same : content_by file segment kind ≡ and_then (data_of file segment) make =
    ap (λ (t : Bool). if t then Ok empty else and_then (segment_data_of file segment) make) not_null
    ∙ ap (λ (d : Result (List ℕ) ElfError). and_then d make) (data_is file segment kind typed not_null) in (
      λ is. (let held = there.0 (subst (λ r. IsOkAnd r (λ c. shape c ≡ wanted)) same is) in record {
        is = held.0;
        within = λ _. held.1;
        fills = λ _. held.2;
      }),
      λ held. subst (λ r. IsOkAnd r (λ c. shape c ≡ wanted)) (sym same) (there.1 (held.is, held.within not_null, held.fills not_null)),
    )

null_agrees : (file : ElfFile) (segment : ProgramHeader64) → Agrees file segment ph_type.Null
null_agrees file segment wanted = (
  λ is. record {
    is = ap (λ s. Some s) is;
    within = λ other. (let both : true ≡ false = other in absurd (cc));
    fills = λ other. (let both : true ≡ false = other in absurd (cc));
  },
  λ held. (let same = held.is in cc),
)

agrees : (file : ElfFile) (segment : ProgramHeader64) (kind : SegmentType) → segment_type segment ≡ Ok kind → Agrees file segment kind
agrees file segment ph_type.Null typed = null_agrees file segment
agrees file segment ph_type.Dynamic typed = with_bytes file segment ph_type.Dynamic typed refl (says_by_class dynamic_32 dynamic_64 (file_class file.header) (file_order file.header))
agrees file segment ph_type.Note typed = with_bytes file segment ph_type.Note typed refl (says_note (file_class file.header) (file_order file.header))
agrees file segment kind typed = with_bytes file segment kind typed refl (λ b. says_ok (undefined b) (length b) tt)

by_type : (file : ElfFile) (segment : ProgramHeader64) (wanted : Shape) (kind : Result SegmentType ElfError) → segment_type segment ≡ kind → IsOkAnd (and_then kind (content_by file segment)) (λ c. shape c ≡ wanted) ↔ HasSegmentShape file segment wanted
by_type file segment wanted (Ok kind) typed = (
  λ is. (let held = (agrees file segment kind typed wanted).0 is in record { kind = kind; typed = typed; is = held.is; within = held.within; fills = held.fills }),
  λ held. (let same : held.kind ≡ kind = let other = held.typed in cc in
      let shaped : IsShaped file segment held.kind wanted = record { is = held.is; within = held.within; fills = held.fills } in
      (agrees file segment kind typed wanted).1 (subst (λ k. IsShaped file segment k wanted) same shaped)),
)
by_type file segment wanted (Err error) typed = (λ is. absurd is, λ held. (let other = held.typed in cc))

-- the data of a segment is read as a shape exactly where the words say so
pub has_segment_shape : (file : ElfFile) (segment : ProgramHeader64) (wanted : Shape) → IsOkAnd (segment_content_of file segment) (λ c. shape c ≡ wanted) ↔ HasSegmentShape file segment wanted
unfolding segment_content_of
has_segment_shape file segment wanted = by_type file segment wanted (segment_type segment) refl

-- the same of a result that is its content
pub segment_shaped_by : {T : Type 0} (file : ElfFile) (segment : ProgramHeader64) (content_is : T → Content) (answer : Result T ElfError) → MatchResult answer (λ d. segment_content_of file segment ≡ Ok (content_is d)) (λ e. segment_content_of file segment ≡ Err e) → (wanted : Shape) → IsOkAnd answer (λ d. shape (content_is d) ≡ wanted) ↔ HasSegmentShape file segment wanted
segment_shaped_by file segment content_is (Ok part) exact wanted = subst (λ r. IsOkAnd r (λ c. shape c ≡ wanted) ↔ HasSegmentShape file segment wanted) exact (has_segment_shape file segment wanted)
segment_shaped_by file segment content_is (Err error) exact wanted = subst (λ r. IsOkAnd r (λ c. shape c ≡ wanted) ↔ HasSegmentShape file segment wanted) exact (has_segment_shape file segment wanted)

typed_not_null : (kind : SegmentType) → kind ≢ ph_type.Null → is_ph_type ph_type.Null kind ≡ false
typed_not_null ph_type.Null not_null = absurd (not_null refl)
typed_not_null _ not_null = refl

-- the contents of a segment of another type than Null, whose bytes are there
pub segment_content_there : (file : ElfFile) (segment : ProgramHeader64) (kind : SegmentType) (b : List ℕ) → segment_type segment ≡ Ok kind → kind ≢ ph_type.Null → segment_data_of file segment ≡ Ok b → segment_content_of file segment ≡ content_of_segment kind (file_class file.header) (file_order file.header) b
unfolding segment_content_of
segment_content_there file segment kind b typed not_null there =
    ap (λ (k : Result SegmentType ElfError). and_then k (content_by file segment)) typed
    ∙ ap (λ (t : Bool). if t then Ok empty else and_then (segment_data_of file segment) (content_of_segment kind (file_class file.header) (file_order file.header))) (typed_not_null kind not_null)
    ∙ ap (λ (r : Result (List ℕ) ElfError). and_then r (content_of_segment kind (file_class file.header) (file_order file.header))) there
