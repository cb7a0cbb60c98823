-- The symbols by a record are those of the section that it was read from.
use Rattle.std.proofs.Common.{◌≡◌, ◌<◌, ◌==◌, ◌%◌, ◌/◌, ◌↔◌, ◌⊎◌, inl, inr, ℕ, zero, suc, not, nat_lt, Bool, true, false, List, [], ◌∷◌, length, drop, take, Result, Ok, Err, IfOk, IsOk, MatchResult, if◌then◌else◌, refl, sym, ap, subst, ◌∙◌, arith}
use Rattle.std.proofs.Math.Path.{fun_ext}
use Rattle.std.proofs.lemmas.Bool.{eqb-true}
use Rattle.elf_base.specs.FileHeader.{file_class, file_order, order_of}
use Rattle.elf_base.specs.Message.{error_number}
use Rattle.elf_base.specs.Number.{number}
use Rattle.elf_base.specs.FirstError.{and_then, unless}
use Rattle.elf_base.specs.Table.{first_records, records, table_items}
use Rattle.elf_base.specs.declared.bytes.Order.{Order}
use Rattle.elf_base.specs.declared.error.ElfError.{ElfError}
use Rattle.elf_base.specs.declared.error.ElfError.TheVariants.{Note32, NotMultiple, ShortData, UnknownClass}
use Rattle.elf_records.specs.Note.{note_header}
use Rattle.elf_records.specs.declared.sections.ShType.TheVariants as sh_type
use Rattle.xmas_elf.specs.Content.{Content, TableKind, by_class, dyn_symbols_32, dyn_symbols_64, dynamic_32, dynamic_64, empty, functions_32, functions_64, group, hash_table, hash_table_content, note_64, record_size, rel_32, rel_64, rela_32, rela_64, section_indices, symbols_32, symbols_64, table_of, whole_table}
use Rattle.xmas_elf.specs.Prelude.{ShType}
use Rattle.xmas_elf.proofs.FirstNamed.{went_on}
use Rattle.xmas_elf.specs.Ranges.{range_of}
use Rattle.xmas_elf.specs.SectionContent.{content_in, content_of_section, has_no_bytes, section_content_of}
use Rattle.xmas_elf.specs.SectionHeader.{section_fields, section_of, section_type}
use Rattle.xmas_elf.specs.Symbol.{SymbolFields, dyn_entry_32, dyn_entry_32_fields, dyn_entry_64, dyn_entry_64_fields, entry_32, entry_32_fields, entry_64, entry_64_fields}
use Rattle.xmas_elf.specs.declared.ElfFile.{ElfFile}
use Rattle.xmas_elf.specs.declared.sections.section_header.SectionHeader.{SectionHeader}
use Rattle.elf_c.specs.Records.{record_in, name_answer, range_at, text_range}
use Rattle.elf_c.specs.Status.{and_so}
use Rattle.elf_c.specs.SymbolTables.{AreSymbolsBy, AreSymbolsIn, LieWithin, symbol_count_in, symbol_name_range, symbol_among, symbol_by, table_if, table_of_section, table_with}
use Rattle.elf_c.specs.Symbols.{linked_range, symbol_record_at, symbol_record_in, table_name_range, symbol_name_at, symbol_record}
use Rattle.elf_c.specs.declared.names.Range.{Range}
use Rattle.elf_c.specs.declared.status.AnyError.{AnyError}
use Rattle.elf_c.specs.declared.status.AnyError.TheVariants.{Elf}
use Rattle.elf_c.specs.declared.symbol_tables.AnySymbols.{AnySymbols}
use Rattle.elf_c.specs.declared.symbol_tables.AnySymbols.TheVariants.{Narrow, Wide}
use Rattle.elf_c.specs.declared.symbol_tables.SymbolTable.{SymbolTable}
use Rattle.elf_c.proofs.Statuses.{error_above}
use Rattle.elf_c.proofs.StoredNames.{answer_lies, found_lies, part_within}

-- records that are decoded to the same values
module _ {A B T : Type 0} (size : ℕ) (f : List ℕ → A) (h : List ℕ → B) (v : A → T) (w : B → T) (same : (part : List ℕ) → v (f part) ≡ w (h part)) where
  first_as : (n : ℕ) (bytes : List ℕ) (index : ℕ) → record_in v (first_records size f n bytes) index ≡ record_in w (first_records size h n bytes) index
  unfolding first_records
  first_as zero bytes index = refl
  first_as (suc n) bytes zero = ap (λ x. Ok x) (same (take size bytes))
  first_as (suc n) bytes (suc i) = first_as n (drop size bytes) i

  pub found_as : (bytes : List ℕ) (index : ℕ) → record_in v (records size f bytes) index ≡ record_in w (records size h bytes) index
  unfolding records
  found_as bytes index = first_as (length bytes / size) bytes index

-- there is a record at each index below their number
pub found_below : {A T : Type 0} (value : A → T) (items : List A) (index : ℕ) → IsOk (record_in value items index) ↔ (index < length items)
found_below value [] index = (λ ok. absurd (let no : false ≡ true = ok in cc), λ below. absurd (omega (arith, below)))
found_below value (item ∷ items) zero = (λ ok. omega arith, λ below. refl)
found_below value (item ∷ items) (suc i) =
    let later = found_below value items i in (
      λ ok. (let below = later.0 ok in omega (arith, below)),
      λ below. later.1 (omega (arith, below)),
    )

-- contents that are symbols or a hash table were read from these bytes, in the layout of the class
abbrev pub IsWhole : ℕ → Bool → ℕ → Order → List ℕ → Order → List ℕ → Type 0
IsWhole size narrow class order bytes own all =
    ((class == 1) ≡ narrow) × (own ≡ order) × (all ≡ bytes) × ((length bytes % size == 0) ≡ true) × ((class == (if narrow then 1 else 2)) ≡ true)

abbrev pub AreRead : ℕ → Order → List ℕ → Content → Type 0
AreRead class order bytes (table_of symbols_32 own all) = IsWhole 16 true class order bytes own all
AreRead class order bytes (table_of symbols_64 own all) = IsWhole 24 false class order bytes own all
AreRead class order bytes (table_of dyn_symbols_32 own all) = IsWhole 16 true class order bytes own all
AreRead class order bytes (table_of dyn_symbols_64 own all) = IsWhole 24 false class order bytes own all
AreRead class order bytes (hash_table own all) = hash_table_content order bytes ≡ Ok (hash_table own all)
AreRead class order bytes _ = Unit {0}

unless_ok : (P : Content → Type 0) (rows : List (Bool × ElfError)) (content : Content) → P content → IfOk (unless rows content) P
unless_ok P [] content has = has
unless_ok P (row ∷ rows) content has = by_test row.0 (unless_ok P rows content has)
  where
    by_test : (test : Bool) → IfOk (unless rows content) P → IfOk (if test then Err row.1 else unless rows content) P
    by_test true rest = tt
    by_test false rest = rest

whole_read : (kind : TableKind) (class : ℕ) (order : Order) (bytes : List ℕ) → ((length bytes % record_size kind == 0) ≡ true → AreRead class order bytes (table_of kind order bytes)) → IfOk (whole_table kind order bytes) (AreRead class order bytes)
whole_read kind class order bytes has = by_test (length bytes % record_size kind == 0) refl
  where
    by_test : (whole : Bool) → (length bytes % record_size kind == 0) ≡ whole → IfOk (if not whole then Err NotMultiple else Ok (table_of kind order bytes)) (AreRead class order bytes)
    by_test true is = has is
    by_test false is = tt

read_by_class : (narrow wide : TableKind) (class : ℕ) (order : Order) (bytes : List ℕ)
    → ((class == 1) ≡ true → (length bytes % record_size narrow == 0) ≡ true → AreRead class order bytes (table_of narrow order bytes))
    → ((class == 1) ≡ false → (class == 2) ≡ true → (length bytes % record_size wide == 0) ≡ true → AreRead class order bytes (table_of wide order bytes))
    → IfOk (by_class narrow wide class order bytes) (AreRead class order bytes)
read_by_class narrow wide class order bytes first second = by_tests (class == 1) (class == 2) refl refl
  where
    by_tests : (one two : Bool) → (class == 1) ≡ one → (class == 2) ≡ two → IfOk (if one then whole_table narrow order bytes else (if two then whole_table wide order bytes else Err UnknownClass)) (AreRead class order bytes)
    by_tests true two is also = whole_read narrow class order bytes (first is)
    by_tests false true is also = whole_read wide class order bytes (second is also)
    by_tests false false is also = tt

hash_read : (class : ℕ) (order : Order) (bytes : List ℕ) → IfOk (hash_table_content order bytes) (AreRead class order bytes)
hash_read class order bytes = by_test (nat_lt (length bytes) 12) refl
  where
    by_test : (short : Bool) → nat_lt (length bytes) 12 ≡ short → IfOk (if short then Err ShortData else Ok (hash_table order bytes)) (AreRead class order bytes)
    by_test true is = tt
    by_test false is = ap (λ (b : Bool). if b then Err ShortData else Ok (hash_table order bytes)) is

read_by_type : (kind : ShType) (class : ℕ) (order : Order) (bytes : List ℕ) → IfOk (content_of_section kind class order bytes) (AreRead class order bytes)
read_by_type sh_type.SymTab class order bytes = read_by_class symbols_32 symbols_64 class order bytes (λ is whole. (is, refl, refl, whole, is)) (λ is also whole. (is, refl, refl, whole, also))
read_by_type sh_type.DynSym class order bytes = read_by_class dyn_symbols_32 dyn_symbols_64 class order bytes (λ is whole. (is, refl, refl, whole, is)) (λ is also whole. (is, refl, refl, whole, also))
read_by_type sh_type.InitArray class order bytes = read_by_class functions_32 functions_64 class order bytes (λ is whole. tt) (λ is also whole. tt)
read_by_type sh_type.FiniArray class order bytes = read_by_class functions_32 functions_64 class order bytes (λ is whole. tt) (λ is also whole. tt)
read_by_type sh_type.PreInitArray class order bytes = read_by_class functions_32 functions_64 class order bytes (λ is whole. tt) (λ is also whole. tt)
read_by_type sh_type.Rela class order bytes = read_by_class rela_32 rela_64 class order bytes (λ is whole. tt) (λ is also whole. tt)
read_by_type sh_type.Rel class order bytes = read_by_class rel_32 rel_64 class order bytes (λ is whole. tt) (λ is also whole. tt)
read_by_type sh_type.Dynamic class order bytes = read_by_class dynamic_32 dynamic_64 class order bytes (λ is whole. tt) (λ is also whole. tt)
read_by_type sh_type.SymTabShIndex class order bytes = unless_ok (AreRead class order bytes) ((not (length bytes % record_size section_indices == 0), NotMultiple) ∷ []) (table_of section_indices order bytes) tt
read_by_type sh_type.Group class order bytes = unless_ok (AreRead class order bytes) ((nat_lt (length bytes) 4, ShortData) ∷ (not (length (drop 4 bytes) % 4 == 0), NotMultiple) ∷ []) (group (number order 4 0 bytes) order (drop 4 bytes)) tt
read_by_type sh_type.Note class order bytes = unless_ok (AreRead class order bytes) ((class == 1, Note32) ∷ (not (class == 2), UnknownClass) ∷ (nat_lt (length bytes) 12, ShortData) ∷ []) (note_64 (note_header order (take 12 bytes)) (drop 12 bytes)) tt
read_by_type sh_type.Hash class order bytes = hash_read class order bytes
read_by_type _ class order bytes = tt

-- contents that are not empty were read from the range of their section
pub record AreReadIn (file : ElfFile) (header : SectionHeader) (content : Content) : Type 0 where
  pub bytes : List ℕ
  pub in_range : range_of file.input.now (section_fields header).offset (section_fields header).size ≡ Ok bytes
  pub are_read : AreRead (file_class file.header) (file_order file.header) bytes content

pub content_read : (file : ElfFile) (header : SectionHeader) (content : Content) → (empty ≡ content → ⊥) → section_content_of file header ≡ Ok content → AreReadIn file header content
unfolding section_content_of
content_read file header content filled is =
    let (kind, typed, answered) = went_on (section_type header) (content_in file header) content is in
    by_bytes kind (has_no_bytes kind) answered
  where
    by_content : (bytes : List ℕ) (found : Result Content ElfError) → IfOk found (AreRead (file_class file.header) (file_order file.header) bytes) → found ≡ Ok content → AreRead (file_class file.header) (file_order file.header) bytes content
    by_content bytes (Ok other) has same = let one : other ≡ content = cc in subst (AreRead (file_class file.header) (file_order file.header) bytes) one has
    by_content bytes (Err error) has same = absurd (cc)

    by_bytes : (kind : ShType) (none : Bool) → (if none then Ok empty else and_then (range_of file.input.now (section_fields header).offset (section_fields header).size) (content_of_section kind (file_class file.header) (file_order file.header))) ≡ Ok content → AreReadIn file header content
    by_bytes kind true same = let none : empty ≡ content = cc in absurd (filled none)
    by_bytes kind false same =
        let (bytes, ranged, read) = went_on (range_of file.input.now (section_fields header).offset (section_fields header).size) _ content same in record {
          bytes = bytes;
          in_range = ranged;
          are_read = by_content bytes (content_of_section kind (file_class file.header) (file_order file.header) bytes) (read_by_type kind (file_class file.header) (file_order file.header) bytes) read;
        }

pub section_read : (file : ElfFile) (header : SectionHeader) (content : Content) (count : ℕ) → section_content_of file header ≡ Ok content → symbol_count_in content ≡ Ok count → AreReadIn file header content
section_read file header content count is counted = content_read file header content filled is
  where
    no_count : symbol_count_in empty ≡ Ok count → ⊥
    no_count same = cc

    filled : empty ≡ content → ⊥
    filled none = no_count (subst (λ c. symbol_count_in c ≡ Ok count) (sym none) counted)

-- what a record of a section was read from
pub record AreOpened (file : ElfFile) (section : ℕ) (table : SymbolTable) : Type 0 where
  pub header : SectionHeader
  pub content : Content
  pub count : ℕ
  pub at : section_of file section ≡ Ok header
  pub holds : section_content_of file header ≡ Ok content
  pub counted : symbol_count_in content ≡ Ok count
  pub made : table_with file header count ≡ table
  pub read : AreReadIn file header content

pub are_opened : (file : ElfFile) (section : ℕ) (table : SymbolTable) → table_of_section file section ≡ Ok table → AreOpened file section table
are_opened file section table made = by_section (section_of file section) refl made
  where
    by_count : (header : SectionHeader) (content : Content) (count : Result ℕ AnyError) → section_of file section ≡ Ok header → section_content_of file header ≡ Ok content → symbol_count_in content ≡ count → table_if file header count ≡ Ok table → AreOpened file section table
    by_count header content (Err why) at holds counted is = absurd (cc)
    by_count header content (Ok count) at holds counted is = record {
      header = header;
      content = content;
      count = count;
      at = at;
      holds = holds;
      counted = counted;
      made = cc;
      read = section_read file header content count holds counted;
    }

    by_content : (header : SectionHeader) (content : Result Content ElfError) → section_of file section ≡ Ok header → section_content_of file header ≡ content → and_so content (λ c. table_if file header (symbol_count_in c)) ≡ Ok table → AreOpened file section table
    by_content header (Err error) at holds is = absurd (cc)
    by_content header (Ok content) at holds is = by_count header content (symbol_count_in content) at holds refl is

    by_section : (found : Result SectionHeader ElfError) → section_of file section ≡ found → and_so found (λ header. and_so (section_content_of file header) (λ c. table_if file header (symbol_count_in c))) ≡ Ok table → AreOpened file section table
    by_section (Err error) at is = absurd (cc)
    by_section (Ok header) at is = by_content header (section_content_of file header) at refl is

-- the symbol at an index of such contents
module _ {T : Type 0} (value : SymbolFields → T) (class : ℕ) (order : Order) (bytes : List ℕ) (index : ℕ) where
  abbrev narrow : Result T AnyError
  narrow = record_in (λ e. value (dyn_entry_32_fields e)) (records 16 (dyn_entry_32 order) bytes) index

  abbrev wide : Result T AnyError
  wide = record_in (λ e. value (dyn_entry_64_fields e)) (records 24 (dyn_entry_64 order) bytes) index

  among_32 : (class == 1) ≡ true → (length bytes % 16 == 0) ≡ true → symbol_among value (class == 1) order bytes index ≡ narrow
  among_32 is whole = ap (λ (b : Bool). symbol_among value b order bytes index) is ∙ ap (λ (b : Bool). if b then narrow else Err (Elf NotMultiple)) whole

  among_64 : (class == 1) ≡ false → (length bytes % 24 == 0) ≡ true → symbol_among value (class == 1) order bytes index ≡ wide
  among_64 is whole = ap (λ (b : Bool). symbol_among value b order bytes index) is ∙ ap (λ (b : Bool). if b then wide else Err (Elf NotMultiple)) whole

  pub among_read : (content : Content) (count : ℕ) → symbol_count_in content ≡ Ok count → AreRead class order bytes content → symbol_among value (class == 1) order bytes index ≡ symbol_record_at value index content
  unfolding entry_32_fields entry_64_fields dyn_entry_32_fields dyn_entry_64_fields
  among_read (table_of symbols_32 own all) count counted are = among_32 are.0 are.3
      ∙ found_as 16 (dyn_entry_32 order) (entry_32 order) (λ e. value (dyn_entry_32_fields e)) (λ e. value (entry_32_fields e)) (λ part. refl) bytes index
      ∙ ap (λ b. record_in (λ e. value (entry_32_fields e)) (records 16 (entry_32 order) b) index) (sym are.2)
      ∙ ap (λ o. record_in (λ e. value (entry_32_fields e)) (records 16 (entry_32 o) all) index) (sym are.1)
  among_read (table_of symbols_64 own all) count counted are = among_64 are.0 are.3
      ∙ found_as 24 (dyn_entry_64 order) (entry_64 order) (λ e. value (dyn_entry_64_fields e)) (λ e. value (entry_64_fields e)) (λ part. refl) bytes index
      ∙ ap (λ b. record_in (λ e. value (entry_64_fields e)) (records 24 (entry_64 order) b) index) (sym are.2)
      ∙ ap (λ o. record_in (λ e. value (entry_64_fields e)) (records 24 (entry_64 o) all) index) (sym are.1)
  among_read (table_of dyn_symbols_32 own all) count counted are = among_32 are.0 are.3
      ∙ ap (λ b. record_in (λ e. value (dyn_entry_32_fields e)) (records 16 (dyn_entry_32 order) b) index) (sym are.2)
      ∙ ap (λ o. record_in (λ e. value (dyn_entry_32_fields e)) (records 16 (dyn_entry_32 o) all) index) (sym are.1)
  among_read (table_of dyn_symbols_64 own all) count counted are = among_64 are.0 are.3
      ∙ ap (λ b. record_in (λ e. value (dyn_entry_64_fields e)) (records 24 (dyn_entry_64 order) b) index) (sym are.2)
      ∙ ap (λ o. record_in (λ e. value (dyn_entry_64_fields e)) (records 24 (dyn_entry_64 o) all) index) (sym are.1)
  among_read _ count counted are = absurd (cc)

-- the symbols by the record of a section are those of its contents, for values by the record that are those by the
-- section
opened_value : {T : Type 0} (file : ElfFile) (section : ℕ) (table : SymbolTable) (value : SymbolTable → SymbolFields → T) (wanted : SectionHeader → SymbolFields → T) → ((header : SectionHeader) (count : ℕ) (fields : SymbolFields) → value (table_with file header count) fields ≡ wanted header fields) → table_of_section file section ≡ Ok table → (index : ℕ) → symbol_by (value table) file.input.now table index ≡ and_so (section_of file section) (λ header. and_so (section_content_of file header) (symbol_record_at (wanted header) index))
opened_value file section table value wanted same made index =
    let are = are_opened file section table made in
    let own = table_with file are.header are.count in
    let narrow = file_class file.header == 1 in
    let order = file_order file.header in
    subst (λ t. symbol_by (value t) file.input.now t index ≡ and_so (section_of file section) (λ header. and_so (section_content_of file header) (symbol_record_at (wanted header) index))) are.made
    (ap (λ r. and_so r (λ bytes. symbol_among (value own) narrow order bytes index)) are.read.in_range
    ∙ ap (λ v. symbol_among v narrow order are.read.bytes index) (fun_ext (same are.header are.count))
    ∙ among_read (wanted are.header) (file_class file.header) order are.read.bytes index are.content are.count are.counted are.read.are_read
    ∙ sym (ap (λ r. and_so r (λ header. and_so (section_content_of file header) (symbol_record_at (wanted header) index))) are.at
    ∙ ap (λ r. and_so r (symbol_record_at (wanted are.header) index)) are.holds))

then_so : {A B C : Type 0} (r : Result A ElfError) (f : A → Result B ElfError) (g : B → Result C AnyError) → and_so r (λ a. and_so (f a) g) ≡ and_so (and_then r f) g
then_so (Ok value) f g = refl
then_so (Err error) f g = refl

-- the symbols are those of the section
pub opened_symbols : (file : ElfFile) (section : ℕ) (table : SymbolTable) → table_of_section file section ≡ Ok table → (index : ℕ) → symbol_by symbol_record file.input.now table index ≡ and_so (and_then (section_of file section) (section_content_of file)) (symbol_record_in index)
opened_symbols file section table made index =
    opened_value file section table (λ t. symbol_record) (λ header. symbol_record) (λ header count fields. refl) made index
    ∙ then_so (section_of file section) (section_content_of file) (symbol_record_in index)

-- the names are those of the symbols of the section
same_name : (input : List ℕ) (strings : Result Range ElfError) (name : ℕ) → (if (name_answer strings).status == 0 then name_answer (text_range input (name_answer strings).range name) else record { range = range_at 0 0; status = (name_answer strings).status }) ≡ name_answer (and_then strings (λ part. text_range input part name))
same_name input (Ok part) name = refl
same_name input (Err error) name = by_test (error_number error == 0) refl
  where
    by_test : (b : Bool) → (error_number error == 0) ≡ b → (if b then name_answer (text_range input (range_at 0 0) name) else record { range = range_at 0 0; status = error_number error }) ≡ name_answer (Err error)
    by_test true is = absurd (let above = error_above error in let none = eqb-true (error_number error) 0 is in omega (arith, above, none))
    by_test false is = refl

pub opened_names : (file : ElfFile) (section : ℕ) (table : SymbolTable) → table_of_section file section ≡ Ok table → (index : ℕ) → symbol_by (symbol_name_range file.input.now table) file.input.now table index ≡ symbol_name_at file section index
opened_names file section table made index =
    opened_value file section table (symbol_name_range file.input.now) (λ header. table_name_range file.input.now (linked_range file header))
    (λ header count fields. same_name file.input.now (linked_range file header) fields.name) made index

-- there are as many as the record says
counted_in : (index : ℕ) (content : Content) (count : ℕ) → symbol_count_in content ≡ Ok count → IsOk (symbol_record_in index content) ↔ (index < count)
counted_in index (table_of symbols_32 order bytes) count is =
    let same : length (records 16 (entry_32 order) bytes) ≡ count = cc in subst (λ n. IsOk (symbol_record_in index (table_of symbols_32 order bytes)) ↔ (index < n)) same (found_below (λ e. symbol_record (entry_32_fields e)) (records 16 (entry_32 order) bytes) index)
counted_in index (table_of symbols_64 order bytes) count is =
    let same : length (records 24 (entry_64 order) bytes) ≡ count = cc in subst (λ n. IsOk (symbol_record_in index (table_of symbols_64 order bytes)) ↔ (index < n)) same (found_below (λ e. symbol_record (entry_64_fields e)) (records 24 (entry_64 order) bytes) index)
counted_in index (table_of dyn_symbols_32 order bytes) count is =
    let same : length (records 16 (dyn_entry_32 order) bytes) ≡ count = cc in subst (λ n. IsOk (symbol_record_in index (table_of dyn_symbols_32 order bytes)) ↔ (index < n)) same (found_below (λ e. symbol_record (dyn_entry_32_fields e)) (records 16 (dyn_entry_32 order) bytes) index)
counted_in index (table_of dyn_symbols_64 order bytes) count is =
    let same : length (records 24 (dyn_entry_64 order) bytes) ≡ count = cc in subst (λ n. IsOk (symbol_record_in index (table_of dyn_symbols_64 order bytes)) ↔ (index < n)) same (found_below (λ e. symbol_record (dyn_entry_64_fields e)) (records 24 (dyn_entry_64 order) bytes) index)
counted_in index _ count is = absurd (cc)

pub opened_count : (file : ElfFile) (section : ℕ) (table : SymbolTable) → table_of_section file section ≡ Ok table → (index : ℕ) → IsOk (symbol_by symbol_record file.input.now table index) ↔ (index < table.count)
opened_count file section table made index =
    let are = are_opened file section table made in
    let there : and_so (and_then (section_of file section) (section_content_of file)) (symbol_record_in index) ≡ symbol_record_in index are.content =
    ap (λ r. and_so (and_then r (section_content_of file)) (symbol_record_in index)) are.at ∙ ap (λ r. and_so r (symbol_record_in index)) are.holds in
    subst (λ r. IsOk r ↔ (index < table.count)) (sym (opened_symbols file section table made index ∙ there))
    (subst (λ n. IsOk (symbol_record_in index are.content) ↔ (index < n)) (ap (λ t. t.count) are.made) (counted_in index are.content are.count are.counted))

-- the ranges lie in the input
pub section_within : (file : ElfFile) (section : ℕ) (table : SymbolTable) → table_of_section file section ≡ Ok table → LieWithin file.input.now table
section_within file section table made =
    let are = are_opened file section table made in
    subst (LieWithin file.input.now) are.made (
      (part_within file.input.now (section_fields are.header).offset (section_fields are.header).size are.read.bytes are.read.in_range).0,
      answer_lies file.input.now (linked_range file are.header) (found_lies file (section_of file (section_fields are.header).link)),
    )

-- the values of the symbols of a table that a record was read as
abbrev pub value_at : {T : Type 0} → (SymbolFields → T) → Result AnySymbols AnyError → ℕ → Result T AnyError
value_at value (Ok (Narrow all)) index = record_in (λ e. value (dyn_entry_32_fields e)) (table_items all) index
value_at value (Ok (Wide all)) index = record_in (λ e. value (dyn_entry_64_fields e)) (table_items all) index
value_at value (Err why) index = Err why

module _ {T : Type 0} (value : SymbolFields → T) (input : List ℕ) (table : SymbolTable) (answer : Result AnySymbols AnyError) where
  value_in : (own : Bool) (order : Order) (bytes : List ℕ) (found : Result AnySymbols AnyError) (index : ℕ) → AreSymbolsIn own order bytes found → symbol_among value own order bytes index ≡ value_at value found index
  value_in true order bytes (Ok (Narrow all)) index is =
      ap (λ (b : Bool). if b then record_in (λ e. value (dyn_entry_32_fields e)) (records 16 (dyn_entry_32 order) bytes) index else Err (Elf NotMultiple)) is.0
      ∙ ap (λ items. record_in (λ e. value (dyn_entry_32_fields e)) items index) (sym is.1)
  value_in true order bytes (Err why) index is =
      ap (λ (b : Bool). if b then record_in (λ e. value (dyn_entry_32_fields e)) (records 16 (dyn_entry_32 order) bytes) index else Err (Elf NotMultiple)) is.0
      ∙ ap (λ w. Err w) (sym is.1)
  value_in false order bytes (Ok (Wide all)) index is =
      ap (λ (b : Bool). if b then record_in (λ e. value (dyn_entry_64_fields e)) (records 24 (dyn_entry_64 order) bytes) index else Err (Elf NotMultiple)) is.0
      ∙ ap (λ items. record_in (λ e. value (dyn_entry_64_fields e)) items index) (sym is.1)
  value_in false order bytes (Err why) index is =
      ap (λ (b : Bool). if b then record_in (λ e. value (dyn_entry_64_fields e)) (records 24 (dyn_entry_64 order) bytes) index else Err (Elf NotMultiple)) is.0
      ∙ ap (λ w. Err w) (sym is.1)
  value_in true order bytes (Ok (Wide all)) index is = absurd is
  value_in false order bytes (Ok (Narrow all)) index is = absurd is

  pub symbols_value : AreSymbolsBy input table answer → (index : ℕ) → symbol_by value input table index ≡ value_at value answer index
  symbols_value is index = by_range (range_of input table.symbols.offset table.symbols.size) is
    where
      by_range : (found : Result (List ℕ) ElfError) → MatchResult found (λ bytes. AreSymbolsIn (table.class == 1) (order_of table.encoding) bytes answer) (λ error. answer ≡ Err (Elf error))
          → and_so found (λ bytes. symbol_among value (table.class == 1) (order_of table.encoding) bytes index) ≡ value_at value answer index
      by_range (Ok bytes) here = value_in (table.class == 1) (order_of table.encoding) bytes answer index here
      by_range (Err error) here = ap (λ r. value_at value r index) (sym here)

-- the symbols by the record of a section can be read
whole_if : (own : Bool) (order : Order) (bytes : List ℕ) (found : Result AnySymbols AnyError) → (length bytes % (if own then 16 else 24) == 0) ≡ true → AreSymbolsIn own order bytes found → IsOk found
whole_if own order bytes (Ok symbols) whole is = refl
whole_if true order bytes (Err why) whole is = absurd (let no : true ≡ false = sym whole ∙ is.0 in cc)
whole_if false order bytes (Err why) whole is = absurd (let no : true ≡ false = sym whole ∙ is.0 in cc)

pub opened_reads : (file : ElfFile) (section : ℕ) (table : SymbolTable) → table_of_section file section ≡ Ok table → (found : Result AnySymbols AnyError) → AreSymbolsBy file.input.now table found → IsOk found
opened_reads file section table made found is =
    let are = are_opened file section table made in
    let here = subst (λ t. AreSymbolsBy file.input.now t found) (sym are.made) is in
    let read : AreSymbolsIn (file_class file.header == 1) (file_order file.header) are.read.bytes found =
    subst (λ r. MatchResult r (λ bytes. AreSymbolsIn (file_class file.header == 1) (file_order file.header) bytes found) (λ error. found ≡ Err (Elf error))) are.read.in_range here in
    whole_if (file_class file.header == 1) (file_order file.header) are.read.bytes found (whole_of (file_class file.header) (file_order file.header) are.read.bytes are.content are.count are.counted are.read.are_read) read
  where
    by_own : (own narrow : Bool) (bytes : List ℕ) → own ≡ narrow → (length bytes % (if narrow then 16 else 24) == 0) ≡ true → (length bytes % (if own then 16 else 24) == 0) ≡ true
    by_own own narrow bytes same whole = subst (λ (b : Bool). (length bytes % (if b then 16 else 24) == 0) ≡ true) (sym same) whole

    whole_of : (class : ℕ) (order : Order) (bytes : List ℕ) (content : Content) (count : ℕ) → symbol_count_in content ≡ Ok count → AreRead class order bytes content → (length bytes % (if class == 1 then 16 else 24) == 0) ≡ true
    whole_of class order bytes (table_of symbols_32 own all) count counted are = by_own (class == 1) true bytes are.0 are.3
    whole_of class order bytes (table_of symbols_64 own all) count counted are = by_own (class == 1) false bytes are.0 are.3
    whole_of class order bytes (table_of dyn_symbols_32 own all) count counted are = by_own (class == 1) true bytes are.0 are.3
    whole_of class order bytes (table_of dyn_symbols_64 own all) count counted are = by_own (class == 1) false bytes are.0 are.3
    whole_of class order bytes _ count counted are = absurd (cc)

-- the class and the byte order are those of the file
pub same_numbers : (file : ElfFile) (section : ℕ) (table : SymbolTable) → table_of_section file section ≡ Ok table → (table.class ≡ file_class file.header) × (order_of table.encoding ≡ file_order file.header)
same_numbers file section table made = let are = are_opened file section table made in
    (sym (ap (λ t. t.class) are.made), sym (ap (λ t. order_of t.encoding) are.made))

-- the class of a file with such symbols is 1 or 2
pub class_known : (file : ElfFile) (section : ℕ) (table : SymbolTable) → table_of_section file section ≡ Ok table → (file_class file.header ≡ 1) ⊎ (file_class file.header ≡ 2)
class_known file section table made =
    let are = are_opened file section table made in
    by_content (file_class file.header) (file_order file.header) are.read.bytes are.content are.count are.counted are.read.are_read
  where
    by_content : (class : ℕ) (order : Order) (bytes : List ℕ) (content : Content) (count : ℕ) → symbol_count_in content ≡ Ok count → AreRead class order bytes content → (class ≡ 1) ⊎ (class ≡ 2)
    by_content class order bytes (table_of symbols_32 own all) count counted are = inl (eqb-true _ _ are.0)
    by_content class order bytes (table_of symbols_64 own all) count counted are = inr (eqb-true _ _ are.4)
    by_content class order bytes (table_of dyn_symbols_32 own all) count counted are = inl (eqb-true _ _ are.0)
    by_content class order bytes (table_of dyn_symbols_64 own all) count counted are = inr (eqb-true _ _ are.4)
    by_content class order bytes _ count counted are = absurd (cc)
