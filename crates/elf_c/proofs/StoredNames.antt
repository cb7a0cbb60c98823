-- The names that a call stores lie in the input.
use Rattle.std.proofs.Common.{◌≡◌, ◌<◌, ◌≤◌, ◌+◌, ◌-◌, ◌%◌, ◌==◌, ℕ, zero, suc, Bool, true, false, List, [], ◌∷◌, length, slice_get, Option, None, Some, Result, Ok, Err, IfOk, drop, take, le-ltb, if◌then◌else◌, refl, sym, ap, subst, ◌∙◌, arith}
use Rattle.std.proofs.lemmas.List.{length-take-le, length-drop}
use Rattle.elf_base.proofs.Texts.{zero_within}
use Rattle.elf_base.proofs.lemmas.TextLemmas.{text_of-is}
use Rattle.elf_base.specs.FileHeader.{order_of}
use Rattle.elf_base.specs.FirstError.{and_then}
use Rattle.elf_base.specs.Table.{records}
use Rattle.elf_base.specs.Text.{text_of}
use Rattle.elf_base.specs.declared.bytes.Order.{Order}
use Rattle.elf_base.specs.declared.error.ElfError.{ElfError}
use Rattle.elf_base.specs.declared.error.ElfError.TheVariants.{DataRange}
use Rattle.elf_records.specs.Dynamic.{dynamic_tag, dynamic_value}
use Rattle.elf_records.specs.declared.dynamic.Dynamic.{Dynamic}
use Rattle.elf_records.specs.SectionNumbers.{is_sh_type}
use Rattle.elf_records.specs.declared.sections.ShType.TheVariants.{Null}
use Rattle.std.proofs.lemmas.Bool.{ltb-false}
use Rattle.std.specs.Prelude.{nat_lt}
use Rattle.xmas_elf.proofs.FirstNamed.{not_failed, went_on}
use Rattle.xmas_elf.specs.Ranges.{range_of}
use Rattle.xmas_elf.specs.SectionData.{section_data_of}
use Rattle.xmas_elf.specs.SectionHeader.{section_fields, section_type}
use Rattle.xmas_elf.specs.Symbol.{dyn_entry_32, dyn_entry_32_fields, dyn_entry_64, dyn_entry_64_fields}
use Rattle.xmas_elf.specs.Types.{ElfFile, SectionHeader}
use Rattle.elf_c.specs.Batch.{Fills, FillsBy, IsBatch}
use Rattle.elf_c.specs.DynamicTexts.{linked_name, range_in_strings, texts_with}
use Rattle.elf_c.specs.Records.{AllLieIn, LiesIn, record_in, is_relr_type, name_answer, name_range_by, range_at, section_data_range, record_or_none, text_range}
use Rattle.elf_c.specs.Status.{and_so}
use Rattle.elf_c.specs.SymbolTables.{symbol_name_range, name_range_in, symbol_among, symbol_by}
use Rattle.elf_c.specs.declared.names.Name.{Name}
use Rattle.elf_c.specs.declared.names.Range.{Range}
use Rattle.elf_c.specs.declared.status.AnyError.{AnyError}
use Rattle.elf_c.specs.declared.symbol_tables.SymbolTable.{SymbolTable}

-- what is stored has each property that the items have
pub stored : {T : Type 0} (P : T → Type 0) (item : ℕ → Result T AnyError) (first : ℕ) (old : List T) (answer : Result ℕ AnyError) (new : List T) → ((i : ℕ) (x : T) → item i ≡ Ok x → P x) → Fills item first old answer new → IfOk answer (λ count. (k : ℕ) (x : T) → k < count → slice_get new k ≡ Some x → P x)
stored P item first old (Err why) new has fills = tt
stored {T} P item first old (Ok count) new has fills = λ k x below at. has (first + k) x (sym ((batch (item first) fills).each k below) ∙ ap (record_or_none (λ y. y)) at)
  where
    batch : (r : Result T AnyError) → FillsBy item first old r (Ok count) new → IsBatch item first old count new
    batch (Ok y) is = is
    batch (Err why) is = absurd is

-- an item that is found has each property that all items have
pub found_has : {A T : Type 0} (P : T → Type 0) (value : A → T) (r : Option A) (x : T) → ((a : A) → P (value a)) → record_or_none value r ≡ Ok x → P x
found_has P value None x has is = absurd (cc)
found_has P value (Some a) x has is = let same : value a ≡ x = cc in subst P same (has a)

pub stored_lie : {A : Type 0} (input : List ℕ) (value : A → Name) (items : List A) (first : ℕ) (old : List Name) (answer : Result ℕ AnyError) (new : List Name) → Fills (record_in value items) first old answer new → ((a : A) → LiesIn input (value a).range) → IfOk answer (λ count. AllLieIn input count new)
stored_lie input value items first old answer new fills has =
    stored (λ name. LiesIn input name.range) (record_in value items) first old answer new
    (λ i x is. found_has (λ name. LiesIn input name.range) value (slice_get items i) x has is) fills

-- a text lies in the part that it is read from
pub part_within : (input : List ℕ) (start count : ℕ) (part : List ℕ) → range_of input start count ≡ Ok part → (start + count ≤ length input) × (length part ≡ count)
part_within input start count part is =
    let (short, taken) = not_failed (nat_lt (length input) (start + count)) _ _ part is in
    let fits : start + count ≤ length input = ltb-false _ _ short in
    let same : take count (drop start input) ≡ part = cc in
    let rest : length (drop start input) ≡ length input - start = length-drop start input in
    (fits, ap length (sym same) ∙ length-take-le count (drop start input) (omega (arith, fits, rest)))

text_lies : (input : List ℕ) (part : Range) (index : ℕ) → IfOk (text_range input part index) (LiesIn input)
text_lies input part index = by_part (range_of input part.offset part.size) refl
  where
    by_text : (bytes : List ℕ) (r : Result (List ℕ) ElfError) → range_of input part.offset part.size ≡ Ok bytes → text_of bytes index ≡ r → IfOk (and_then r (λ text. Ok (range_at (part.offset + index) (length text)))) (LiesIn input)
    by_text bytes (Err error) is read = tt
    by_text bytes (Ok text) is read =
        let (fits, long) = part_within input part.offset part.size bytes is in
        let ends = zero_within bytes index text (text_of-is bytes index text read).ended in
        let sum : part.offset + index + length text ≤ length input = omega (arith, fits, long, ends) in sum

    by_part : (r : Result (List ℕ) ElfError) → range_of input part.offset part.size ≡ r → IfOk (and_then r (λ bytes. and_then (text_of bytes index) (λ text. Ok (range_at (part.offset + index) (length text))))) (LiesIn input)
    by_part (Err error) is = tt
    by_part (Ok bytes) is = by_text bytes (text_of bytes index) is refl

and_then_lies : {A : Type 0} (input : List ℕ) (r : Result A ElfError) (next : A → Result Range ElfError) → ((a : A) → IfOk (next a) (LiesIn input)) → IfOk (and_then r next) (LiesIn input)
and_then_lies input (Ok a) next has = has a
and_then_lies input (Err error) next has = tt

pub answer_lies : (input : List ℕ) (r : Result Range ElfError) → IfOk r (LiesIn input) → LiesIn input (name_answer r).range
answer_lies input (Ok range) has = has
answer_lies input (Err error) has = let none : 0 + 0 ≤ length input = omega arith in none

-- the data of a section are a range of the input
pub data_in : (file : ElfFile) (header : SectionHeader) (bytes : List ℕ) → section_data_of file header ≡ Ok bytes → range_of file.input.now (section_fields header).offset (section_fields header).size ≡ Ok bytes
unfolding section_data_of
data_in file header bytes is =
    let (kind, typed, answered) = went_on (section_type header) _ bytes is in
    (not_failed (is_sh_type Null kind) _ _ bytes answered).1

pub found_lies : (file : ElfFile) (found : Result SectionHeader ElfError) → IfOk (and_then found (section_data_range file)) (LiesIn file.input.now)
found_lies file (Err error) = tt
found_lies file (Ok header) = by_type (is_relr_type header)
  where
    by_range : (found : Result (List ℕ) ElfError) → ((bytes : List ℕ) → found ≡ Ok bytes → range_of file.input.now (section_fields header).offset (section_fields header).size ≡ Ok bytes)
        → IfOk (and_then found (λ _. Ok (range_at (section_fields header).offset (section_fields header).size))) (LiesIn file.input.now)
    by_range (Ok bytes) is_range = (part_within file.input.now (section_fields header).offset (section_fields header).size bytes (is_range bytes refl)).0
    by_range (Err error) is_range = tt

    by_type : (b : Bool) → IfOk (and_then (if b then range_of file.input.now (section_fields header).offset (section_fields header).size else section_data_of file header) (λ _. Ok (range_at (section_fields header).offset (section_fields header).size))) (LiesIn file.input.now)
    by_type true = by_range (range_of file.input.now (section_fields header).offset (section_fields header).size) (λ bytes is. is)
    by_type false = by_range (section_data_of file header) (λ bytes is. data_in file header bytes is)

pub in_range_of : (input : List ℕ) (start count : ℕ) → start + count ≤ length input → range_of input start count ≡ Ok (take count (drop start input))
in_range_of input start count fits = ap (λ (b : Bool). if b then Err DataRange else Ok (take count (drop start input))) (le-ltb (length input) (start + count) fits)

pub section_name_lies : (input : List ℕ) (names : Result Range ElfError) (section : SectionHeader) → LiesIn input (name_answer (name_range_by input names section)).range
section_name_lies input names section = answer_lies input (name_range_by input names section)
    (and_then_lies input names (λ part. text_range input part (section_fields section).name) (λ part. text_lies input part (section_fields section).name))

if_ok : {T : Type 0} (b : Bool) (r : Result T AnyError) (why : AnyError) (x : T) → (if b then r else Err why) ≡ Ok x → r ≡ Ok x
if_ok true r why x is = is
if_ok false r why x is = absurd (cc)

-- the names of the symbols of a record lie in the input
module _ (input : List ℕ) (table : SymbolTable) where
  name_lies : (name : ℕ) → LiesIn input (name_range_in input table name).range
  name_lies name = by_status (table.strings_status == 0)
    where
      by_status : (b : Bool) → LiesIn input (if b then name_answer (text_range input table.strings name) else record { range = range_at 0 0; status = table.strings_status }).range
      by_status true = answer_lies input (text_range input table.strings name) (text_lies input table.strings name)
      by_status false = let none : 0 + 0 ≤ length input = omega arith in none

  among_lies : (narrow : Bool) (order : Order) (bytes : List ℕ) (index : ℕ) (x : Name) → symbol_among (symbol_name_range input table) narrow order bytes index ≡ Ok x → LiesIn input x.range
  among_lies true order bytes index x is = found_has (λ one. LiesIn input one.range) (λ e. symbol_name_range input table (dyn_entry_32_fields e)) (slice_get (records 16 (dyn_entry_32 order) bytes) index) x (λ e. name_lies (dyn_entry_32_fields e).name) (if_ok (length bytes % 16 == 0) _ _ x is)
  among_lies false order bytes index x is = found_has (λ one. LiesIn input one.range) (λ e. symbol_name_range input table (dyn_entry_64_fields e)) (slice_get (records 24 (dyn_entry_64 order) bytes) index) x (λ e. name_lies (dyn_entry_64_fields e).name) (if_ok (length bytes % 24 == 0) _ _ x is)

  pub stored_names_lie : (first : ℕ) (old : List Name) (answer : Result ℕ AnyError) (new : List Name) → Fills (symbol_by (symbol_name_range input table) input table) first old answer new → IfOk answer (λ count. AllLieIn input count new)
  stored_names_lie first old answer new fills = stored (λ name. LiesIn input name.range) (symbol_by (symbol_name_range input table) input table) first old answer new
      (λ i x is. by_range i x (range_of input table.symbols.offset table.symbols.size) is) fills
    where
      by_range : (i : ℕ) (x : Name) (found : Result (List ℕ) ElfError) → and_so found (λ bytes. symbol_among (symbol_name_range input table) (table.class == 1) (order_of table.encoding) bytes i) ≡ Ok x → LiesIn input x.range
      by_range i x (Err error) is = absurd (cc)
      by_range i x (Ok bytes) is = among_lies (table.class == 1) (order_of table.encoding) bytes i x is

pub linked_name_lies : (input : List ℕ) (strings : Result Range AnyError) (place : ℕ) → LiesIn input (linked_name (range_in_strings input strings place)).range
linked_name_lies input (Err error) place = let none : 0 + 0 ≤ length input = omega arith in none
linked_name_lies input (Ok part) place = by_text (text_range input part place) (text_lies input part place)
  where
    by_text : (r : Result Range ElfError) → IfOk r (LiesIn input) → LiesIn input (linked_name (and_so r (λ range. Ok range))).range
    by_text (Ok range) has = has
    by_text (Err error) has = let none : 0 + 0 ≤ length input = omega arith in none

-- each text of an entry with a tag lies in the input
one_more : (input : List ℕ) (b : Bool) (one : Name) (others : List Name) → LiesIn input one.range → ((i : ℕ) (x : Name) → slice_get others i ≡ Some x → LiesIn input x.range) → (i : ℕ) (x : Name) → slice_get (if b then one ∷ others else others) i ≡ Some x → LiesIn input x.range
one_more input false one others has rest i x at = rest i x at
one_more input true one others has rest zero x at = let same : one ≡ x = cc in subst (λ name. LiesIn input name.range) same has
one_more input true one others has rest (suc i) x at = rest i x at

texts_lie : (tag : ℕ) (input : List ℕ) (strings : Result Range AnyError) (entries : List (Dynamic ℕ)) (i : ℕ) (x : Name) → slice_get (texts_with tag input strings entries) i ≡ Some x → LiesIn input x.range
texts_lie tag input strings [] i x is = absurd (cc)
texts_lie tag input strings (entry ∷ entries) i x is =
    one_more input (dynamic_tag entry == tag) (linked_name (range_in_strings input strings (dynamic_value entry))) (texts_with tag input strings entries)
    (linked_name_lies input strings (dynamic_value entry)) (λ k name at. texts_lie tag input strings entries k name at) i x is

pub stored_texts_lie : (tag : ℕ) (input : List ℕ) (strings : Result Range AnyError) (entries : List (Dynamic ℕ)) (first : ℕ) (old : List Name) (answer : Result ℕ AnyError) (new : List Name) → Fills (record_in (λ name. name) (texts_with tag input strings entries)) first old answer new → IfOk answer (λ count. AllLieIn input count new)
stored_texts_lie tag input strings entries first old answer new fills =
    stored (λ name. LiesIn input name.range) (record_in (λ name. name) (texts_with tag input strings entries)) first old answer new
    (λ i x is. found_some (slice_get (texts_with tag input strings entries) i) x (λ found. texts_lie tag input strings entries i x found) is) fills
  where
    found_some : (r : Option Name) (x : Name) → (r ≡ Some x → LiesIn input x.range) → record_or_none (λ name. name) r ≡ Ok x → LiesIn input x.range
    found_some None x has is = absurd (cc)
    found_some (Some y) x has is = let same : y ≡ x = cc in has (ap Some same)
