-- The data of a section is what the words of `Shapes` say, by the tests that it goes through.
use Rattle.std.proofs.Common.{◌≡◌, ◌≢◌, ◌↔◌, ℕ, ◌+◌, ◌-◌, ◌%◌, ◌==◌, ◌≤◌, Bool, true, false, not, nat_lt, eqb-true, eq-eqb, ltb-false, le-ltb, length-drop, length-take-le, List, length, take, drop, Option, None, Some, Result, Ok, Err, IsOkAnd, MatchResult, if◌then◌else◌, refl, sym, ap, ◌∙◌, subst, arith}
use Rattle.xmas_elf.specs.Shapes.{Fills, HasShape, Shape, a_group, a_hash_table, a_note, nothing, of_class, shape, shape_in, table}
use Rattle.xmas_elf.specs.Content.{Content, TableKind, by_class, dyn_symbols_32, dyn_symbols_64, dynamic_32, dynamic_64, empty, functions_32, functions_64, group, group_content, hash_table, hash_table_content, note_64, note_content, record_size, rel_32, rel_64, rela_32, rela_64, section_indices, strings, symbols_32, symbols_64, table_of, undefined, whole_table}
use Rattle.elf_base.specs.declared.error.ElfError.TheVariants.{DataRange, Note32, NotMultiple, ShortData, UnknownClass}
use Rattle.elf_base.specs.FileHeader.{file_class, file_order}
use Rattle.elf_records.specs.Note.{note_header}
use Rattle.elf_base.specs.Number.{number}
use Rattle.xmas_elf.specs.Prelude.{ElfError, ElfFile, Order, SectionHeader, ShType}
use Rattle.xmas_elf.specs.Ranges.{range_of}
use Rattle.elf_base.specs.FirstError.{and_then}
use Rattle.xmas_elf.specs.SectionContent.{content_in, content_of_section, has_no_bytes, section_content_of}
use Rattle.xmas_elf.specs.SectionHeader.{section_fields, section_type}
use Rattle.elf_records.specs.declared.sections.ShType.TheVariants as sh_type

-- an answer over so many bytes is Ok with a shape exactly where that is the one, and the bytes fill it
abbrev pub Says : Result Content ElfError → Option Shape → ℕ → Type 0
Says answer one size = (wanted : Shape) → IsOkAnd answer (λ c. shape c ≡ wanted) ↔ ((one ≡ Some wanted) × Fills wanted size)

pub says_none : (error : ElfError) (size : ℕ) → Says (Err error) None size
says_none error size wanted = (λ is. absurd is, λ held. cc)

says_tested : (c : Content) (error : ElfError) (size : ℕ) (failed : Bool) → (failed ≡ false → Fills (shape c) size) → (Fills (shape c) size → failed ≡ false) → Says (if failed then Err error else Ok c) (Some (shape c)) size
says_tested c error size true fills back wanted = (
  λ is. absurd is,
  λ held. (let same : shape c ≡ wanted = let one = held.0 in cc in
      let no : true ≡ false = back (subst (λ s. Fills s size) (sym same) held.1) in cc),
)
says_tested c error size false fills back wanted = (
  λ is. (ap (λ s. Some s) is, subst (λ s. Fills s size) is (fills refl)),
  λ held. (let one = held.0 in cc),
)

pub says_class : (narrow wide : Result Content ElfError) (one other : Option Shape) (size : ℕ) (is_one is_two : Bool) → Says narrow one size → Says wide other size → Says (if is_one then narrow else (if is_two then wide else Err UnknownClass)) (if is_one then one else (if is_two then other else None)) size
says_class narrow wide one other size true b first second = first
says_class narrow wide one other size false true first second = second
says_class narrow wide one other size false false first second = says_none UnknownClass size

not-true : (t : Bool) → not t ≡ false → t ≡ true
not-true true h = refl
not-true false h = cc

true-not : (t : Bool) → t ≡ true → not t ≡ false
true-not true h = refl
true-not false h = cc

says_table : (kind : TableKind) (order : Order) (b : List ℕ) → Says (whole_table kind order b) (Some (table kind)) (length b)
says_table kind order b = says_tested (table_of kind order b) NotMultiple (length b) (not (length b % record_size kind == 0))
    (λ t. eqb-true _ _ (not-true _ t)) (λ fills. true-not _ (eq-eqb _ _ fills))

pub says_by_class : (narrow wide : TableKind) (class : ℕ) (order : Order) (b : List ℕ) → Says (by_class narrow wide class order b) (of_class (Some (table narrow)) (Some (table wide)) class) (length b)
says_by_class narrow wide class order b =
    says_class (whole_table narrow order b) (whole_table wide order b) (Some (table narrow)) (Some (table wide)) (length b) (class == 1) (class == 2)
    (says_table narrow order b) (says_table wide order b)

says_hash : (order : Order) (b : List ℕ) → Says (hash_table_content order b) (Some a_hash_table) (length b)
says_hash order b = says_tested (hash_table order b) ShortData (length b) (nat_lt (length b) 12) (λ t. ltb-false _ _ t) (λ fills. le-ltb _ _ fills)

says_group_tested : (c : Content) (size : ℕ) (short apart : Bool) → (short ≡ false → apart ≡ false → Fills (shape c) size) → (Fills (shape c) size → (short ≡ false) × (apart ≡ false)) → Says (if short then Err ShortData else (if apart then Err NotMultiple else Ok c)) (Some (shape c)) size
says_group_tested c size true apart fills back = says_tested c ShortData size true (λ t. cc) (λ f. (back f).0)
says_group_tested c size false apart fills back = says_tested c NotMultiple size apart (λ t. fills refl t) (λ f. (back f).1)

says_group : (order : Order) (b : List ℕ) → Says (group_content order b) (Some a_group) (length b)
says_group order b =
    let rest : length (drop 4 b) ≡ length b - 4 = grind arith in
    says_group_tested (group (number order 4 0 b) order (drop 4 b)) (length b) (nat_lt (length b) 4) (not (length (drop 4 b) % 4 == 0))
    (λ s a. (ltb-false _ _ s, ap (λ n. n % 4) (sym rest) ∙ eqb-true _ _ (not-true _ a)))
    (λ f. (le-ltb _ _ f.0, true-not _ (eq-eqb _ _ (ap (λ n. n % 4) rest ∙ f.1))))

says_note_tested : (c : Content) (size : ℕ) (one two short : Bool) → Says (if short then Err ShortData else Ok c) (Some (shape c)) size → Says (if one then Err Note32 else (if not two then Err UnknownClass else (if short then Err ShortData else Ok c))) (if one then None else (if two then Some (shape c) else None)) size
says_note_tested c size true two short wide = says_none Note32 size
says_note_tested c size false true short wide = wide
says_note_tested c size false false short wide = says_none UnknownClass size

pub says_note : (class : ℕ) (order : Order) (b : List ℕ) → Says (note_content class order b) (of_class None (Some a_note) class) (length b)
says_note class order b =
    let note = note_64 (note_header order (take 12 b)) (drop 12 b) in
    says_note_tested note (length b) (class == 1) (class == 2) (nat_lt (length b) 12)
    (says_tested note ShortData (length b) (nat_lt (length b) 12) (λ t. ltb-false _ _ t) (λ fills. le-ltb _ _ fills))

pub says_ok : (c : Content) (size : ℕ) → Fills (shape c) size → Says (Ok c) (Some (shape c)) size
says_ok c size fills = says_tested c ShortData size false (λ t. fills) (λ f. refl)

-- the same of data that lies in the input
abbrev pub SaysIn : Result Content ElfError → Option Shape → List ℕ → ℕ → ℕ → Type 0
SaysIn answer one input start size = (wanted : Shape) → IsOkAnd answer (λ c. shape c ≡ wanted)
    ↔ ((one ≡ Some wanted) × (start + size ≤ length input) × Fills wanted size)

in_range_tested : (make : List ℕ → Result Content ElfError) (one : Option Shape) (input : List ℕ) (start size : ℕ) (past : Bool) → nat_lt (length input) (start + size) ≡ past → ((b : List ℕ) → Says (make b) one (length b)) → SaysIn (and_then (if past then Err DataRange else Ok (take size (drop start input))) make) one input start size
in_range_tested make one input start size true test says wanted = (
  λ is. absurd is,
  λ held. (let no = le-ltb _ _ held.1 in let both : true ≡ false = sym test ∙ no in cc),
)
in_range_tested make one input start size false test says wanted =
    let within : start + size ≤ length input = ltb-false _ _ test in
    let left = length-drop start input in
    let fits : size ≤ length (drop start input) = omega (arith, left, within) in
    let long = length-take-le size (drop start input) fits in
    let there = says (take size (drop start input)) wanted in (
      λ is. (let held = there.0 is in (held.0, within, subst (Fills wanted) long held.1)),
      λ held. there.1 (held.0, subst (Fills wanted) (sym long) held.2),
    )

pub in_range : (make : List ℕ → Result Content ElfError) (one : Option Shape) (input : List ℕ) (start size : ℕ) → ((b : List ℕ) → Says (make b) one (length b)) → SaysIn (and_then (range_of input start size) make) one input start size
in_range make one input start size says = in_range_tested make one input start size (nat_lt (length input) (start + size)) refl says

-- what the words say of a section of one type
record IsShaped (file : ElfFile) (section : SectionHeader) (kind : ShType) (wanted : Shape) : Type 0 where
  pub is : shape_in kind (file_class file.header) ≡ Some wanted
  pub within : has_no_bytes kind ≡ false → (section_fields section).offset + (section_fields section).size ≤ length file.input.now
  pub fills : has_no_bytes kind ≡ false → Fills wanted (section_fields section).size

abbrev Agrees : ElfFile → SectionHeader → ShType → Type 0
Agrees file section kind = (wanted : Shape) → IsOkAnd (content_in file section kind) (λ c. shape c ≡ wanted) ↔ IsShaped file section kind wanted

with_bytes : (file : ElfFile) (section : SectionHeader) (kind : ShType) → has_no_bytes kind ≡ false → ((b : List ℕ) → Says (content_of_section kind (file_class file.header) (file_order file.header) b) (shape_in kind (file_class file.header)) (length b)) → Agrees file section kind
with_bytes file section kind has says wanted =
    let input = file.input.now in
    let start = (section_fields section).offset in
    let size = (section_fields section).size in
    let make = content_of_section kind (file_class file.header) (file_order file.header) in
    let there = in_range make (shape_in kind (file_class file.header)) input start size says wanted in
    let same : content_in file section kind ≡ and_then (range_of input start size) make = ap (λ (t : Bool). if t then Ok empty else and_then (range_of input start size) make) has in (
      λ is. (let held = there.0 (subst (λ r. IsOkAnd r (λ c. shape c ≡ wanted)) same is) in record {
        is = held.0;
        within = λ _. held.1;
        fills = λ _. held.2;
      }),
      λ held. subst (λ r. IsOkAnd r (λ c. shape c ≡ wanted)) (sym same) (there.1 (held.is, held.within has, held.fills has)),
    )

without_bytes : (file : ElfFile) (section : SectionHeader) (kind : ShType) → has_no_bytes kind ≡ true → shape_in kind (file_class file.header) ≡ Some nothing → Agrees file section kind
without_bytes file section kind none one wanted =
    let input = file.input.now in
    let start = (section_fields section).offset in
    let size = (section_fields section).size in
    let make = content_of_section kind (file_class file.header) (file_order file.header) in
    let same : content_in file section kind ≡ Ok empty = ap (λ (t : Bool). if t then Ok empty else and_then (range_of input start size) make) none in (
      λ is. (let nothing_is : nothing ≡ wanted = subst (λ r. IsOkAnd r (λ c. shape c ≡ wanted)) same is in record {
        is = one ∙ ap (λ s. Some s) nothing_is;
        within = λ has. (let both : true ≡ false = sym none ∙ has in absurd (cc));
        fills = λ has. (let both : true ≡ false = sym none ∙ has in absurd (cc));
      }),
      λ held. (let wanted_is : nothing ≡ wanted = let a = held.is in cc in subst (λ r. IsOkAnd r (λ c. shape c ≡ wanted)) (sym same) wanted_is),
    )

agrees : (file : ElfFile) (section : SectionHeader) (kind : ShType) → Agrees file section kind
agrees file section sh_type.Null = without_bytes file section sh_type.Null refl refl
agrees file section sh_type.NoBits = without_bytes file section sh_type.NoBits refl refl
agrees file section sh_type.StrTab = with_bytes file section sh_type.StrTab refl (λ b. says_ok (strings b) (length b) tt)
agrees file section sh_type.SymTab = with_bytes file section sh_type.SymTab refl (says_by_class symbols_32 symbols_64 (file_class file.header) (file_order file.header))
agrees file section sh_type.DynSym = with_bytes file section sh_type.DynSym refl (says_by_class dyn_symbols_32 dyn_symbols_64 (file_class file.header) (file_order file.header))
agrees file section sh_type.InitArray = with_bytes file section sh_type.InitArray refl (says_by_class functions_32 functions_64 (file_class file.header) (file_order file.header))
agrees file section sh_type.FiniArray = with_bytes file section sh_type.FiniArray refl (says_by_class functions_32 functions_64 (file_class file.header) (file_order file.header))
agrees file section sh_type.PreInitArray = with_bytes file section sh_type.PreInitArray refl (says_by_class functions_32 functions_64 (file_class file.header) (file_order file.header))
agrees file section sh_type.Rela = with_bytes file section sh_type.Rela refl (says_by_class rela_32 rela_64 (file_class file.header) (file_order file.header))
agrees file section sh_type.Rel = with_bytes file section sh_type.Rel refl (says_by_class rel_32 rel_64 (file_class file.header) (file_order file.header))
agrees file section sh_type.Dynamic = with_bytes file section sh_type.Dynamic refl (says_by_class dynamic_32 dynamic_64 (file_class file.header) (file_order file.header))
agrees file section sh_type.SymTabShIndex = with_bytes file section sh_type.SymTabShIndex refl (says_table section_indices (file_order file.header))
agrees file section sh_type.Group = with_bytes file section sh_type.Group refl (says_group (file_order file.header))
agrees file section sh_type.Note = with_bytes file section sh_type.Note refl (says_note (file_class file.header) (file_order file.header))
agrees file section sh_type.Hash = with_bytes file section sh_type.Hash refl (says_hash (file_order file.header))
agrees file section kind = with_bytes file section kind refl (λ b. says_ok (undefined b) (length b) tt)

by_type : (file : ElfFile) (section : SectionHeader) (wanted : Shape) (kind : Result ShType ElfError) → section_type section ≡ kind → IsOkAnd (and_then kind (content_in file section)) (λ c. shape c ≡ wanted) ↔ HasShape file section wanted
by_type file section wanted (Ok kind) typed = (
  λ is. (let held = (agrees file section kind wanted).0 is in record { kind = kind; typed = typed; is = held.is; within = held.within; fills = held.fills }),
  λ held. (let same : held.kind ≡ kind = let other = held.typed in cc in
      let shaped : IsShaped file section held.kind wanted = record { is = held.is; within = held.within; fills = held.fills } in
      (agrees file section kind wanted).1 (subst (λ k. IsShaped file section k wanted) same shaped)),
)
by_type file section wanted (Err error) typed = (λ is. absurd is, λ held. (let other = held.typed in cc))

-- the data of a section is read as a shape exactly where the words say so
pub has_shape : (file : ElfFile) (section : SectionHeader) (wanted : Shape) → IsOkAnd (section_content_of file section) (λ c. shape c ≡ wanted) ↔ HasShape file section wanted
unfolding section_content_of
has_shape file section wanted = by_type file section wanted (section_type section) refl

-- the same of a result that is its content
pub shaped_by : {T : Type 0} (file : ElfFile) (section : SectionHeader) (content_is : T → Content) (answer : Result T ElfError) → MatchResult answer (λ d. section_content_of file section ≡ Ok (content_is d)) (λ e. section_content_of file section ≡ Err e) → (wanted : Shape) → IsOkAnd answer (λ d. shape (content_is d) ≡ wanted) ↔ HasShape file section wanted
shaped_by file section content_is (Ok part) exact wanted = subst (λ r. IsOkAnd r (λ c. shape c ≡ wanted) ↔ HasShape file section wanted) exact (has_shape file section wanted)
shaped_by file section content_is (Err error) exact wanted = subst (λ r. IsOkAnd r (λ c. shape c ≡ wanted) ↔ HasShape file section wanted) exact (has_shape file section wanted)

has_bytes : (kind : ShType) → kind ≢ sh_type.Null → kind ≢ sh_type.NoBits → has_no_bytes kind ≡ false
has_bytes sh_type.Null not_null not_empty = absurd (not_null refl)
has_bytes sh_type.NoBits not_null not_empty = absurd (not_empty refl)
has_bytes _ not_null not_empty = refl

-- the contents of a section of a type that has bytes, which are there
pub content_there : (file : ElfFile) (section : SectionHeader) (kind : ShType) (b : List ℕ) → section_type section ≡ Ok kind → kind ≢ sh_type.Null → kind ≢ sh_type.NoBits → range_of file.input.now (section_fields section).offset (section_fields section).size ≡ Ok b → section_content_of file section ≡ content_of_section kind (file_class file.header) (file_order file.header) b
unfolding section_content_of
content_there file section kind b typed not_null not_empty range =
    let has : has_no_bytes kind ≡ false = has_bytes kind not_null not_empty in
    ap (λ (k : Result ShType ElfError). and_then k (content_in file section)) typed
    ∙ ap (λ (t : Bool). if t then Ok empty else and_then (range_of file.input.now (section_fields section).offset (section_fields section).size) (content_of_section kind (file_class file.header) (file_order file.header))) has
    ∙ ap (λ (r : Result (List ℕ) ElfError). and_then r (content_of_section kind (file_class file.header) (file_order file.header))) range
