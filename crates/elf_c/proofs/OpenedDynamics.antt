-- The symbols by a record are those of the dynamic segment that it was read from.
use Rattle.std.proofs.Common.{◌≡◌, ◌≢◌, ◌<◌, ◌≤◌, ◌==◌, ◌+◌, ◌-◌, ◌*◌, ◌/◌, ◌%◌, ◌↔◌, ℕ, Bool, true, false, List, [], length, drop, take, Option, None, Some, Result, Ok, Err, IfOk, IsOk, eq-eqb, eqb-true, nat_lt, lit<, if◌then◌else◌, refl, sym, ap, subst, ◌∙◌, arith}
use Rattle.std.proofs.Math.Nat.{mul-div_cancel, mul-mod_left}
use Rattle.std.proofs.Math.Path.{fun_ext}
use Rattle.std.specs.Option.{ok_or}
use Rattle.elf_base.proofs.lemmas.RecordLemmas.{length-records}
use Rattle.elf_base.specs.FileHeader.{file_class, file_order}
use Rattle.elf_base.specs.FirstError.{and_then}
use Rattle.elf_base.specs.Table.{records}
use Rattle.elf_base.specs.declared.bytes.Order.{Order}
use Rattle.elf_base.specs.declared.error.ElfError.{ElfError}
use Rattle.elf_base.specs.declared.error.ElfError.TheVariants.{DataRange, NotMultiple}
use Rattle.elf_linking.proofs.LoadedBytes.{last_segment_at, part_by}
use Rattle.elf_linking.proofs.SymbolCounts.{symbol_count_once}
use Rattle.elf_linking.specs.DynamicView.{AreSymbols, IsSymbolCount, as_link_error, dynamic_entries_of, number_with}
use Rattle.elf_linking.specs.Loaded.{bytes_at_of, bytes_of_segment, segment_at_of}
use Rattle.elf_linking.specs.declared.error.LinkError.{LinkError}
use Rattle.elf_linking.specs.declared.error.LinkError.TheVariants.{NoEntry}
use Rattle.elf_records.specs.declared.dynamic.Dynamic.{Dynamic}
use Rattle.elf_linking.specs.declared.view.tags.TheConstants.{DT_SYMTAB}
use Rattle.elf_linking.specs.Segments.{segment_bytes}
use Rattle.elf_linking.specs.declared.segments.Segment.{Segment}
use Rattle.xmas_elf.specs.Ranges.{IsRange, range_of}
use Rattle.xmas_elf.specs.Symbol.{SymbolFields, dyn_entry_32, dyn_entry_32_fields, dyn_entry_64, dyn_entry_64_fields}
use Rattle.xmas_elf.specs.Types.{ElfFile}
use Rattle.elf_c.specs.Addresses.{range_at_address, range_in_segment}
use Rattle.elf_c.specs.DynamicSymbols.{AreDynamicSymbols, AreSymbolsBy, IsCountBy, IsDynamicCount, IsSegmentTable, dynamic_symbol_at, dynamic_symbol_name, linked_symbol_in, segment_table, strings_range_by, symbol_size, table_at_address, symbol_table_by, table_in_range}
use Rattle.elf_c.specs.DynamicTexts.{linked_name, range_in_strings, strings_range, string_table_range}
use Rattle.elf_c.specs.Records.{LiesIn, record_in, name_answer, range_at, text_range}
use Rattle.elf_c.specs.Status.{and_so, failure_number}
use Rattle.elf_c.specs.SymbolTables.{LieWithin, symbol_name_range, symbol_among, symbol_by}
use Rattle.elf_c.specs.Symbols.{symbol_record}
use Rattle.elf_c.specs.declared.names.Range.{Range}
use Rattle.elf_c.specs.declared.status.AnyError.{AnyError}
use Rattle.elf_c.specs.declared.status.AnyError.TheVariants.{Elf, Link}
use Rattle.elf_c.specs.declared.symbol_tables.SymbolTable.{SymbolTable}
use Rattle.elf_c.proofs.GivenRanges.{address_lies}
use Rattle.elf_c.proofs.OpenedSymbols.{found_below}
use Rattle.elf_c.proofs.Statuses.{failure_above}
use Rattle.elf_c.proofs.StoredNames.{in_range_of, part_within}

-- the data of a segment are bytes of the file
data_kept : (file : ElfFile) (segment : Segment) (kept : List ℕ) → segment_bytes file segment ≡ Ok kept → segment.file_size ≢ 0 → IsRange file.input.now segment.offset segment.file_size kept
data_kept file segment kept is filled = by_size (segment.file_size == 0) refl is
  where
    by_range : (short : Bool) → (if short then Err DataRange else Ok (take segment.file_size (drop segment.offset file.input.now))) ≡ Ok kept → nat_lt (length file.input.now) (segment.offset + segment.file_size) ≡ short
        → range_of file.input.now segment.offset segment.file_size ≡ Ok kept → IsRange file.input.now segment.offset segment.file_size kept
    by_range true same some whole = absurd (cc)
    by_range false same some whole =
        let both = part_within file.input.now segment.offset segment.file_size kept whole in
        let taken : kept ≡ take segment.file_size (drop segment.offset file.input.now) = cc in
        record { within = both.0; bytes_are = taken; count_is = both.1 }

    by_size : (none : Bool) → (segment.file_size == 0) ≡ none → (if none then Ok [] else range_of file.input.now segment.offset segment.file_size) ≡ Ok kept → IsRange file.input.now segment.offset segment.file_size kept
    by_size true none same = absurd (filled (eqb-true segment.file_size 0 none))
    by_size false some same = by_range (nat_lt (length file.input.now) (segment.offset + segment.file_size)) same refl same

-- the bytes at an address are those of their range
record AreAt (file : ElfFile) (address count : ℕ) (range : Range) : Type 0 where
  pub bytes : List ℕ
  pub at : bytes_at_of file address count ≡ Ok bytes
  pub in_range : range_of file.input.now range.offset range.size ≡ Ok bytes
  pub long : length bytes ≡ count

are_at : (file : ElfFile) (address count : ℕ) (range : Range) → range_at_address file address count ≡ Ok range → AreAt file address count range
unfolding bytes_at_of
are_at file address count range is = by_segment (segment_at_of file address count) refl is
  where
    -- the bytes at the place in the file are those of the segment; no bytes are anywhere
    by_size : (segment : Segment) (kept : List ℕ) (empty : Bool) → segment_at_of file address count ≡ Some segment → segment_bytes file segment ≡ Ok kept → (segment.file_size == 0) ≡ empty → take count (drop ((if empty then 0 else segment.offset) + (address - segment.address)) file.input.now) ≡ take count (drop (address - segment.address) kept)
    by_size segment kept true at kept_are test =
        let start = address - segment.address in
        let holds = (last_segment_at file address count segment at).holds in
        let size : segment.file_size ≡ 0 = eqb-true _ _ test in
        let none : count ≡ 0 = (let begins = holds.begins in let ends = holds.ends in omega (arith, begins, ends, size)) in
        ap (λ n. take n (drop (0 + start) file.input.now)) none ∙ sym (ap (λ n. take n (drop start kept)) none)
    by_size segment kept false at kept_are test =
        let start = address - segment.address in
        let holds = (last_segment_at file address count segment at).holds in
        let within : start + count ≤ segment.file_size = (let begins = holds.begins in let ends = holds.ends in omega (arith, begins, ends)) in
        sym (part_by file.input.now kept segment.offset segment.file_size start count (data_kept file segment kept kept_are) within)

    by_data : (segment : Segment) (found : Result (List ℕ) ElfError) → segment_at_of file address count ≡ Some segment → segment_bytes file segment ≡ found → and_so (and_then found (λ _. Ok (range_at (if segment.file_size == 0 then 0 else segment.offset) segment.file_size))) (λ part. Ok (range_at (part.offset + (address - segment.address)) count)) ≡ Ok range → AreAt file address count range
    by_data segment (Err error) at kept_are same = absurd (cc)
    by_data segment (Ok kept) at kept_are same =
        let input = file.input.now in
        let start = address - segment.address in
        let place = (if segment.file_size == 0 then 0 else segment.offset) + start in
        let own : range_at place count ≡ range = cc in
        let lies : LiesIn input range = subst (λ (r : Result Range AnyError). IfOk r (LiesIn input)) is (address_lies file address count) in
        let fits : place + count ≤ length input = subst (LiesIn input) (sym own) lies in
        let in_place : range_of input place count ≡ Ok (take count (drop start kept)) = in_range_of input place count fits
        ∙ ap (λ b. Ok b) (by_size segment kept (segment.file_size == 0) at kept_are refl) in record {
          bytes = take count (drop start kept);
          at = ap (bytes_of_segment file address (take count)) at ∙ ap (λ read. and_then (as_link_error read) (λ bytes. Ok (take count (drop start bytes)))) kept_are;
          in_range = subst (λ r. range_of input r.offset r.size ≡ Ok (take count (drop start kept))) own in_place;
          long = (part_within input place count (take count (drop start kept)) in_place).1;
        }

    by_segment : (found : Option Segment) → segment_at_of file address count ≡ found → range_in_segment file address count found ≡ Ok range → AreAt file address count range
    by_segment None at same = absurd (cc)
    by_segment (Some segment) at same = by_data segment (segment_bytes file segment) at refl same

-- the symbol at an index of bytes that are a number of symbols
as_whole : {T : Type 0} (value : SymbolFields → T) (order : Order) (bytes : List ℕ) (count index : ℕ) (narrow : Bool) → length bytes ≡ count * (if narrow then 16 else 24) → symbol_among value narrow order bytes index
    ≡ (if narrow then record_in (λ e. value (dyn_entry_32_fields e)) (records 16 (dyn_entry_32 order) bytes) index
    else record_in (λ e. value (dyn_entry_64_fields e)) (records 24 (dyn_entry_64 order) bytes) index)
as_whole value order bytes count index true long =
    ap (λ (b : Bool). if b then record_in (λ e. value (dyn_entry_32_fields e)) (records 16 (dyn_entry_32 order) bytes) index else Err (Elf NotMultiple)) (eq-eqb _ _ (ap (λ n. n % 16) long ∙ mul-mod_left count 16))
as_whole value order bytes count index false long =
    ap (λ (b : Bool). if b then record_in (λ e. value (dyn_entry_64_fields e)) (records 24 (dyn_entry_64 order) bytes) index else Err (Elf NotMultiple)) (eq-eqb _ _ (ap (λ n. n % 24) long ∙ mul-mod_left count 24))

-- there are as many symbols as the bytes are long
counted_in : (order : Order) (bytes : List ℕ) (count index : ℕ) (narrow : Bool) → length bytes ≡ count * (if narrow then 16 else 24) → IsOk (if narrow then record_in (λ e. symbol_record (dyn_entry_32_fields e)) (records 16 (dyn_entry_32 order) bytes) index
    else record_in (λ e. symbol_record (dyn_entry_64_fields e)) (records 24 (dyn_entry_64 order) bytes) index) ↔ (index < count)
counted_in order bytes count index true long =
    let number : length (records 16 (dyn_entry_32 order) bytes) ≡ count = length-records 16 (dyn_entry_32 order) bytes ∙ ap (λ n. n / 16) long ∙ mul-div_cancel count (lit< tt) in
    subst (λ n. IsOk (record_in (λ e. symbol_record (dyn_entry_32_fields e)) (records 16 (dyn_entry_32 order) bytes) index) ↔ (index < n)) number (found_below (λ e. symbol_record (dyn_entry_32_fields e)) (records 16 (dyn_entry_32 order) bytes) index)
counted_in order bytes count index false long =
    let number : length (records 24 (dyn_entry_64 order) bytes) ≡ count = length-records 24 (dyn_entry_64 order) bytes ∙ ap (λ n. n / 24) long ∙ mul-div_cancel count (lit< tt) in
    subst (λ n. IsOk (record_in (λ e. symbol_record (dyn_entry_64_fields e)) (records 24 (dyn_entry_64 order) bytes) index) ↔ (index < n)) number (found_below (λ e. symbol_record (dyn_entry_64_fields e)) (records 24 (dyn_entry_64 order) bytes) index)

-- the string table of a record has the names that the dynamic segment has
same_name : (input : List ℕ) (strings : Result Range AnyError) (place : ℕ) → (if (linked_name strings).status == 0 then name_answer (text_range input (linked_name strings).range place) else record { range = range_at 0 0; status = (linked_name strings).status }) ≡ linked_name (range_in_strings input strings place)
same_name input (Ok part) place = by_text (text_range input part place)
  where
    by_text : (text : Result Range ElfError) → name_answer text ≡ linked_name (and_so text (λ range. Ok range))
    by_text (Ok range) = refl
    by_text (Err error) = refl
same_name input (Err why) place = by_test (failure_number why == 0) refl
  where
    by_test : (none : Bool) → (failure_number why == 0) ≡ none → (if none then name_answer (text_range input (range_at 0 0) place) else record { range = range_at 0 0; status = failure_number why }) ≡ linked_name (Err why)
    by_test true is = absurd (let above = failure_above why in let none = eqb-true (failure_number why) 0 is in omega (arith, above, none))
    by_test false is = refl

-- a number of symbols of the entries, which lie in a range
pub record AreOpened (file : ElfFile) (table : SymbolTable) : Type 0 where
  pub entries : List (Dynamic ℕ)
  pub count : ℕ
  pub range : Range
  pub bytes : List ℕ
  pub entries_are : dynamic_entries_of file ≡ Ok entries
  pub counted : IsSymbolCount file entries (Ok count)
  pub made : table ≡ segment_table file (strings_range file entries) count range
  pub in_range : range_of file.input.now range.offset range.size ≡ Ok bytes
  pub long : length bytes ≡ count * symbol_size file
  pub only : (other : Result (List ℕ) LinkError) → AreDynamicSymbols file other → other ≡ Ok bytes

pub are_opened : (file : ElfFile) (table : SymbolTable) → IsSegmentTable file (Ok table) → AreOpened file table
are_opened file table is = by_entries (dynamic_entries_of file) refl is.0 is.1 is.2
  where
    only_one : (entries : List (Dynamic ℕ)) (count address : ℕ) (bytes : List ℕ) → dynamic_entries_of file ≡ Ok entries → IsSymbolCount file entries (Ok count) → number_with DT_SYMTAB entries ≡ Some address → bytes_at_of file address (count * symbol_size file) ≡ Ok bytes → (other : Result (List ℕ) LinkError) → AreDynamicSymbols file other → other ≡ Ok bytes
    only_one entries count address bytes at counted addressed there other are =
        let here : AreSymbols file entries (symbol_size file) other = subst (λ found. AreSymbolsBy file found other) at are in
        here.bytes_are
        ∙ ap (λ c. and_then c (λ many. and_then (ok_or (number_with DT_SYMTAB entries) NoEntry) (λ address. bytes_at_of file address (many * symbol_size file)))) (symbol_count_once file entries here.count (Ok count) here.counted counted)
        ∙ ap (λ place. and_then (ok_or place NoEntry) (λ address. bytes_at_of file address (count * symbol_size file))) addressed
        ∙ there

    by_range : (entries : List (Dynamic ℕ)) (count address : ℕ) (range : Result Range AnyError) → dynamic_entries_of file ≡ Ok entries → IsSymbolCount file entries (Ok count) → number_with DT_SYMTAB entries ≡ Some address → range_at_address file address (count * symbol_size file) ≡ range → Ok table ≡ table_in_range file (strings_range file entries) count range → AreOpened file table
    by_range entries count address (Err why) at counted addressed ranged made = absurd (cc)
    by_range entries count address (Ok range) at counted addressed ranged made =
        let there = are_at file address (count * symbol_size file) range ranged in
        let own : table ≡ segment_table file (strings_range file entries) count range = cc in record {
          entries = entries;
          count = count;
          range = range;
          bytes = there.bytes;
          entries_are = at;
          counted = counted;
          made = own;
          in_range = there.in_range;
          long = there.long;
          only = only_one entries count address there.bytes at counted addressed there.at;
        }

    by_address : (entries : List (Dynamic ℕ)) (count : ℕ) (address : Option ℕ) → dynamic_entries_of file ≡ Ok entries → IsSymbolCount file entries (Ok count) → number_with DT_SYMTAB entries ≡ address → Ok table ≡ table_at_address file (strings_range file entries) (Ok count) address → AreOpened file table
    by_address entries count None at counted addressed made = absurd (cc)
    by_address entries count (Some address) at counted addressed made = by_range entries count address (range_at_address file address (count * symbol_size file)) at counted addressed refl made

    by_count : (entries : List (Dynamic ℕ)) (count : Result ℕ LinkError) → dynamic_entries_of file ≡ Ok entries → IsSymbolCount file entries count → Ok table ≡ table_at_address file (strings_range file entries) count (number_with DT_SYMTAB entries) → AreOpened file table
    by_count entries (Err error) at counted made = absurd (cc)
    by_count entries (Ok count) at counted made = by_address entries count (number_with DT_SYMTAB entries) at counted refl made

    by_entries : (found : Result (List (Dynamic ℕ)) LinkError) → dynamic_entries_of file ≡ found → (count : Result ℕ LinkError) → IsCountBy file found count → Ok table ≡ symbol_table_by file found count → AreOpened file table
    by_entries (Err error) at count counted made = absurd (cc)
    by_entries (Ok entries) at count counted made = by_count entries count at counted made

-- the values by the record
opened_value : {T : Type 0} (file : ElfFile) (table : SymbolTable) (value : SymbolTable → SymbolFields → T) (wanted : SymbolFields → T) (are : AreOpened file table) (index : ℕ) → ((fields : SymbolFields) → value (segment_table file (strings_range file are.entries) are.count are.range) fields ≡ wanted fields) → symbol_by (value table) file.input.now table index ≡ linked_symbol_in wanted file are.bytes index
opened_value file table value wanted are index same =
    let own = segment_table file (strings_range file are.entries) are.count are.range in
    subst (λ t. symbol_by (value t) file.input.now t index ≡ linked_symbol_in wanted file are.bytes index) (sym are.made)
    (ap (λ r. and_so r (λ bytes. symbol_among (value own) (file_class file.header == 1) (file_order file.header) bytes index)) are.in_range
    ∙ ap (λ v. symbol_among v (file_class file.header == 1) (file_order file.header) are.bytes index) (fun_ext same)
    ∙ as_whole wanted (file_order file.header) are.bytes are.count index (file_class file.header == 1) are.long)

-- the symbols, their names and their number are those of the dynamic segment
pub opened_symbols : (file : ElfFile) (table : SymbolTable) → IsSegmentTable file (Ok table) → (bytes : Result (List ℕ) LinkError) → AreDynamicSymbols file bytes → (index : ℕ) → symbol_by symbol_record file.input.now table index ≡ dynamic_symbol_at symbol_record file bytes index
opened_symbols file table is bytes are index =
    let opened = are_opened file table is in
    opened_value file table (λ t. symbol_record) symbol_record opened index (λ fields. refl)
    ∙ sym (ap (λ found. dynamic_symbol_at symbol_record file found index) (opened.only bytes are))

pub opened_names : (file : ElfFile) (table : SymbolTable) → IsSegmentTable file (Ok table) → (bytes : Result (List ℕ) LinkError) → AreDynamicSymbols file bytes → (index : ℕ) → symbol_by (symbol_name_range file.input.now table) file.input.now table index ≡ dynamic_symbol_at (dynamic_symbol_name file) file bytes index
opened_names file table is bytes are index =
    let opened = are_opened file table is in
    opened_value file table (symbol_name_range file.input.now) (dynamic_symbol_name file) opened index
    (λ fields. same_name file.input.now (strings_range file opened.entries) fields.name
    ∙ ap (λ found. linked_name (range_in_strings file.input.now (strings_range_by file found) fields.name)) (sym opened.entries_are))
    ∙ sym (ap (λ found. dynamic_symbol_at (dynamic_symbol_name file) file found index) (opened.only bytes are))

pub opened_number : (file : ElfFile) (table : SymbolTable) → IsSegmentTable file (Ok table) → IsDynamicCount file (Ok table.count)
opened_number file table is =
    let opened = are_opened file table is in
    subst (λ n. IsDynamicCount file (Ok n)) (sym (ap (λ t. t.count) opened.made))
    (subst (λ found. IsCountBy file found (Ok opened.count)) (sym opened.entries_are) opened.counted)

pub opened_count : (file : ElfFile) (table : SymbolTable) → IsSegmentTable file (Ok table) → (index : ℕ) → IsOk (symbol_by symbol_record file.input.now table index) ↔ (index < table.count)
opened_count file table is index =
    let opened = are_opened file table is in
    subst (λ r. IsOk r ↔ (index < table.count)) (sym (opened_value file table (λ t. symbol_record) symbol_record opened index (λ fields. refl)))
    (subst (λ n. IsOk (linked_symbol_in symbol_record file opened.bytes index) ↔ (index < n)) (sym (ap (λ t. t.count) opened.made))
    (counted_in (file_order file.header) opened.bytes opened.count index (file_class file.header == 1) opened.long))

linked_lies : (input : List ℕ) (found : Result Range AnyError) → IfOk found (LiesIn input) → LiesIn input (linked_name found).range
linked_lies input (Ok range) lies = lies
linked_lies input (Err why) lies = let none : 0 + 0 ≤ length input = omega arith in none

-- the ranges lie in the input
pub segment_within : (file : ElfFile) (table : SymbolTable) → IsSegmentTable file (Ok table) → LieWithin file.input.now table
segment_within file table is =
    let opened = are_opened file table is in
    subst (LieWithin file.input.now) (sym opened.made) (
      (part_within file.input.now opened.range.offset opened.range.size opened.bytes opened.in_range).0,
      linked_lies file.input.now (strings_range file opened.entries) (strings_lie _ _),
    )
  where
    strings_lie : (address size : Option ℕ) → IfOk (string_table_range file address size) (LiesIn file.input.now)
    strings_lie (Some address) (Some size) = address_lies file address size
    strings_lie (Some address) None = tt
    strings_lie None size = tt

-- the result by the entries of the file
pub no_entries : (file : ElfFile) (error : LinkError) → dynamic_entries_of file ≡ Err error → IsSegmentTable file (Err (Link error))
no_entries file error is = subst (λ found. (count : Result ℕ LinkError) × IsCountBy file found count × (Err (Link error) ≡ symbol_table_by file found count)) (sym is) (Err error, refl, refl)

pub of_entries : (file : ElfFile) (entries : List (Dynamic ℕ)) (count : Result ℕ LinkError) (answer : Result SymbolTable AnyError) → dynamic_entries_of file ≡ Ok entries → IsSymbolCount file entries count → answer ≡ table_at_address file (strings_range file entries) count (number_with DT_SYMTAB entries) → IsSegmentTable file answer
of_entries file entries count answer is counted made = subst (λ found. (other : Result ℕ LinkError) × IsCountBy file found other × (answer ≡ symbol_table_by file found other)) (sym is) (count, counted, made)
