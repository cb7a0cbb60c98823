-- The hash table and the symbols of a record are those of the section that it was read from.
use Rattle.std.proofs.Common.{◌≡◌, ◌<◌, ◌≤◌, ◌+◌, ◌==◌, ◌⊎◌, inl, inr, ℕ, Bool, true, false, List, length, Result, Ok, Err, IsOk, MatchResult, if◌then◌else◌, le-ltb, refl, sym, ap, subst, ◌∙◌}
use Rattle.std.proofs.lemmas.Bool.{lt-ltb}
use Rattle.elf_base.specs.FileHeader.{class_of, file_class, file_order, order_of}
use Rattle.elf_base.specs.FirstError.{and_then}
use Rattle.elf_base.specs.declared.bytes.Order.{Order}
use Rattle.elf_base.specs.declared.error.ElfError.{ElfError}
use Rattle.elf_base.specs.declared.error.ElfError.TheVariants.{ShortData}
use Rattle.elf_linking.specs.DynamicView.{as_link_error}
use Rattle.elf_linking.specs.Layouts.{gnu_table_of}
use Rattle.elf_linking.specs.LinkedSections.{gnu_hash_in}
use Rattle.elf_linking.specs.declared.any_table.AnyTable.{AnyTable}
use Rattle.elf_linking.specs.declared.any_table.AnyTable.TheVariants as any_table
use Rattle.elf_linking.specs.declared.error.LinkError.{LinkError}
use Rattle.elf_linking.specs.declared.sections.TheConstants.{SHT_GNU_HASH}
use Rattle.xmas_elf.specs.Content.{Content, empty, hash_table, hash_table_content}
use Rattle.xmas_elf.specs.HashTable.{hash_data, hash_order}
use Rattle.xmas_elf.specs.Ranges.{range_of}
use Rattle.xmas_elf.specs.SectionContent.{section_content_of}
use Rattle.xmas_elf.specs.SectionData.{section_data_of}
use Rattle.xmas_elf.specs.SectionHeader.{section_fields, section_of}
use Rattle.xmas_elf.specs.Types.{ElfFile, HashTable, SectionHeader}
use Rattle.elf_c.specs.HashTables.{ArePartsBy, AreTogether, IsGnuTableRecord, IsSysvTable, IsTableIn, LieWithinBy, class_by, gnu_range, hash_range, opened_of, opened_with, sysv_range, whole_range}
use Rattle.elf_c.specs.Status.{and_so}
use Rattle.elf_c.specs.SymbolTables.{symbol_by, table_of_section}
use Rattle.elf_c.specs.Symbols.{linked_content, symbol_record_in, symbol_record}
use Rattle.elf_c.specs.declared.hash_tables.HashParts.{HashParts}
use Rattle.elf_c.specs.declared.hash_tables.OpenedTable.{OpenedTable}
use Rattle.elf_c.specs.declared.names.Range.{Range}
use Rattle.elf_c.specs.declared.status.AnyError.{AnyError}
use Rattle.elf_c.specs.declared.status.AnyError.TheVariants.{Elf, Link}
use Rattle.elf_c.specs.declared.symbol_tables.AnySymbols.{AnySymbols}
use Rattle.elf_c.specs.declared.symbol_tables.SymbolTable.{SymbolTable}
use Rattle.elf_c.proofs.OpenedSymbols.{class_known, content_read, opened_reads, opened_symbols, same_numbers, section_within}
use Rattle.elf_c.proofs.StoredNames.{data_in, in_range_of, part_within}

-- bytes are a hash table of the ELF standard if there are enough of them
pub sysv_accepted : (order : Order) (bytes : List ℕ) (table : HashTable) → 12 ≤ length bytes → hash_data table ≡ bytes → hash_order table ≡ order → IsSysvTable (hash_table_content order bytes) (Ok (any_table.Sysv table))
sysv_accepted order bytes table long same ordered =
    subst (λ (b : Bool). IsSysvTable (if b then Err ShortData else Ok (hash_table order bytes)) (Ok (any_table.Sysv table))) (sym (le-ltb (length bytes) 12 long)) (ordered, same)

pub sysv_failed : (order : Order) (bytes : List ℕ) (error : ElfError) → length bytes < 12 → error ≡ ShortData → IsSysvTable (hash_table_content order bytes) (Err (Elf error))
sysv_failed order bytes error short is =
    subst (λ (b : Bool). IsSysvTable (if b then Err ShortData else Ok (hash_table order bytes)) (Err (Elf error))) (sym (lt-ltb (length bytes) 12 short)) (ap Elf is)

-- the range of a hash table that was found in a section: its bytes are read as one
record IsRead (file : ElfFile) (header : SectionHeader) (range : Range) : Type 0 where
  pub whole : whole_range header ≡ range
  pub bytes : List ℕ
  pub in_range : range_of file.input.now (section_fields header).offset (section_fields header).size ≡ Ok bytes
  pub reads : (one : Result AnyTable AnyError) → IsTableIn ((section_fields header).type_ == SHT_GNU_HASH) (class_of (file_class file.header)) (file_order file.header) bytes one → IsOk one

hash_read : (file : ElfFile) (header : SectionHeader) (range : Range) → hash_range file header ≡ Ok range → IsRead file header range
hash_read file header range is = by_type ((section_fields header).type_ == SHT_GNU_HASH) refl is
  where
    sysv_reads : (order : Order) (bytes : List ℕ) (one : Result AnyTable AnyError) → IsSysvTable (Ok (hash_table order bytes)) one → IsOk one
    sysv_reads order bytes (Ok table) reads = refl
    sysv_reads order bytes (Err why) reads = absurd reads

    gnu_reads : (bytes : List ℕ) (one : Result AnyTable AnyError) → gnu_table_of (class_of (file_class file.header)) (file_order file.header) bytes ≡ Ok tt → IsGnuTableRecord (class_of (file_class file.header)) (file_order file.header) bytes one → IsOk one
    gnu_reads bytes (Ok table) passes reads = refl
    gnu_reads bytes (Err (Link error)) passes reads = absurd (cc)
    gnu_reads bytes (Err (Elf error)) passes reads = absurd reads
    gnu_reads bytes (Err _) passes reads = absurd reads

    filled : (order : Order) (bytes : List ℕ) → empty ≡ hash_table order bytes → ⊥
    filled order bytes none = cc

    by_content : (found : Result Content ElfError) → ((section_fields header).type_ == SHT_GNU_HASH) ≡ false → section_content_of file header ≡ found → and_so found (sysv_range header) ≡ Ok range → IsRead file header range
    by_content (Ok (hash_table order bytes)) other at same =
        let read = content_read file header (hash_table order bytes) (filled order bytes) at in record {
          whole = cc;
          bytes = read.bytes;
          in_range = read.in_range;
          reads = λ one reads. sysv_reads order bytes one (subst (λ r. IsSysvTable r one) read.are_read
              (subst (λ (b : Bool). IsTableIn b (class_of (file_class file.header)) (file_order file.header) read.bytes one) other reads));
        }
    by_content (Ok _) other at same = absurd (cc)
    by_content (Err error) other at same = absurd (cc)

    by_check : (bytes : List ℕ) (check : Result (Unit {0}) LinkError) → ((section_fields header).type_ == SHT_GNU_HASH) ≡ true → section_data_of file header ≡ Ok bytes → gnu_table_of (class_of (file_class file.header)) (file_order file.header) bytes ≡ check → gnu_range header (and_then check (λ _. Ok bytes)) ≡ Ok range → IsRead file header range
    by_check bytes (Err error) gnu at tested same = absurd (cc)
    by_check bytes (Ok tt) gnu at tested same = record {
      whole = cc;
      bytes = bytes;
      in_range = data_in file header bytes at;
      reads = λ one reads. gnu_reads bytes one tested (subst (λ (b : Bool). IsTableIn b (class_of (file_class file.header)) (file_order file.header) bytes one) gnu reads);
    }

    by_data : (found : Result (List ℕ) ElfError) → ((section_fields header).type_ == SHT_GNU_HASH) ≡ true → section_data_of file header ≡ found → gnu_range header (and_then (as_link_error found) (λ bytes. and_then (gnu_table_of (class_of (file_class file.header)) (file_order file.header) bytes) (λ _. Ok bytes))) ≡ Ok range → IsRead file header range
    by_data (Err error) gnu at same = absurd (cc)
    by_data (Ok bytes) gnu at same = by_check bytes (gnu_table_of (class_of (file_class file.header)) (file_order file.header) bytes) gnu at refl same

    by_type : (gnu : Bool) → ((section_fields header).type_ == SHT_GNU_HASH) ≡ gnu → (if gnu then gnu_range header (gnu_hash_in file header) else and_so (section_content_of file header) (sysv_range header)) ≡ Ok range → IsRead file header range
    by_type true gnu same = by_data (section_data_of file header) gnu refl same
    by_type false other same = by_content (section_content_of file header) other refl same

-- what a record was read from
record AreOpened (file : ElfFile) (index : ℕ) (opened : OpenedTable) : Type 0 where
  pub header : SectionHeader
  pub at : section_of file index ≡ Ok header
  pub range : Range
  pub read : IsRead file header range
  pub symbols : SymbolTable
  pub linked : table_of_section file (section_fields header).link ≡ Ok symbols
  pub made : opened_with header range symbols ≡ opened

are_opened : (file : ElfFile) (index : ℕ) (opened : OpenedTable) → opened_of file index ≡ Ok opened → AreOpened file index opened
are_opened file index opened is = by_header (section_of file index) refl is
  where
    by_symbols : (header : SectionHeader) (range : Range) (symbols : Result SymbolTable AnyError) → section_of file index ≡ Ok header → hash_range file header ≡ Ok range → table_of_section file (section_fields header).link ≡ symbols → and_then symbols (λ one. Ok (opened_with header range one)) ≡ Ok opened → AreOpened file index opened
    by_symbols header range (Err why) at ranged linked same = absurd (cc)
    by_symbols header range (Ok symbols) at ranged linked same =
        record { header = header; at = at; range = range; read = hash_read file header range ranged; symbols = symbols; linked = linked; made = cc }

    by_range : (header : SectionHeader) (range : Result Range AnyError) → section_of file index ≡ Ok header → hash_range file header ≡ range → and_then range (λ one. and_then (table_of_section file (section_fields header).link) (λ symbols. Ok (opened_with header one symbols))) ≡ Ok opened → AreOpened file index opened
    by_range header (Err why) at ranged same = absurd (cc)
    by_range header (Ok range) at ranged same = by_symbols header range (table_of_section file (section_fields header).link) at ranged refl same

    by_header : (found : Result SectionHeader ElfError) → section_of file index ≡ found → and_so found (λ header. and_then (hash_range file header) (λ one. and_then (table_of_section file (section_fields header).link) (λ symbols. Ok (opened_with header one symbols)))) ≡ Ok opened → AreOpened file index opened
    by_header (Err error) at same = absurd (cc)
    by_header (Ok header) at same = by_range header (hash_range file header) at refl same

-- the class of a number that is 1 or 2
same_class : (n : ℕ) → (n ≡ 1) ⊎ (n ≡ 2) → class_by n ≡ class_of n
same_class n (inl one) = subst (λ k. class_by k ≡ class_of k) (sym one) refl
same_class n (inr two) = subst (λ k. class_by k ≡ class_of k) (sym two) refl

module _ (file : ElfFile) (index : ℕ) (opened : OpenedTable) (is : opened_of file index ≡ Ok opened) where
  -- the ranges lie in the input
  pub tables_within : LieWithinBy file.input.now opened
  tables_within = let are = are_opened file index opened is in
      subst (LieWithinBy file.input.now) are.made (
        subst (λ r. r.offset + r.size ≤ length file.input.now) are.read.whole (part_within file.input.now (section_fields are.header).offset (section_fields are.header).size are.read.bytes are.read.in_range).0,
        section_within file (section_fields are.header).link are.symbols are.linked,
      )

  -- the symbols are those of the section that the table's section links to
  pub tables_symbols : (i : ℕ) → symbol_by symbol_record file.input.now opened.symbols i ≡ and_so (linked_content file index) (symbol_record_in i)
  tables_symbols i = let are = are_opened file index opened is in
      subst (λ o. symbol_by symbol_record file.input.now o.symbols i ≡ and_so (linked_content file index) (symbol_record_in i)) are.made
      (opened_symbols file (section_fields are.header).link are.symbols are.linked i
      ∙ sym (ap (λ r. and_so (and_then r (λ header. and_then (section_of file (section_fields header).link) (section_content_of file))) (symbol_record_in i)) are.at))

  -- the ranges are read
  pub tables_read : (found : Result HashParts AnyError) → ArePartsBy file.input.now opened found → IsOk found
  tables_read found parts = let are = are_opened file index opened is in
      by_record are (subst (λ o. ArePartsBy file.input.now o found) (sym are.made) parts)
    where
      all_read : (table : Result AnyTable AnyError) (symbols : Result AnySymbols AnyError) (strings : Result (List ℕ) ElfError) → IsOk table → IsOk symbols → IsOk strings → AreTogether table symbols strings found → IsOk found
      all_read (Ok table) (Ok symbols) (Ok strings) one two three together = by_found found together
        where
          by_found : (r : Result HashParts AnyError) → AreTogether (Ok table) (Ok symbols) (Ok strings) r → IsOk r
          by_found (Ok all) here = refl
          by_found (Err why) here = absurd here
      all_read (Err why) symbols strings one two three together = absurd (let no : false ≡ true = one in cc)
      all_read (Ok table) (Err why) strings one two three together = absurd (let no : false ≡ true = two in cc)
      all_read (Ok table) (Ok symbols) (Err error) one two three together = absurd (let no : false ≡ true = three in cc)

      by_bytes : (are : AreOpened file index opened) (there : ArePartsBy file.input.now (opened_with are.header are.range are.symbols) found) → IsTableIn ((section_fields are.header).type_ == SHT_GNU_HASH) (class_of (file_class file.header)) (file_order file.header) are.read.bytes there.table
      by_bytes are there =
          let numbers = same_numbers file (section_fields are.header).link are.symbols are.linked in
          let gnu = (section_fields are.header).type_ == SHT_GNU_HASH in
          let here = subst (λ (r : Range). MatchResult (range_of file.input.now r.offset r.size) (λ bytes. IsTableIn gnu (class_by are.symbols.class) (order_of are.symbols.encoding) bytes there.table) (λ error. there.table ≡ Err (Elf error))) (sym are.read.whole) there.is_table in
          let read : IsTableIn gnu (class_by are.symbols.class) (order_of are.symbols.encoding) are.read.bytes there.table =
          subst (λ r. MatchResult r (λ bytes. IsTableIn gnu (class_by are.symbols.class) (order_of are.symbols.encoding) bytes there.table) (λ error. there.table ≡ Err (Elf error))) are.read.in_range here in
          subst (λ c. IsTableIn gnu c (file_order file.header) are.read.bytes there.table) (ap class_by numbers.0 ∙ same_class (file_class file.header) (class_known file (section_fields are.header).link are.symbols are.linked))
          (subst (λ o. IsTableIn gnu (class_by are.symbols.class) o are.read.bytes there.table) numbers.1 read)

      by_record : (are : AreOpened file index opened) → ArePartsBy file.input.now (opened_with are.header are.range are.symbols) found → IsOk found
      by_record are there = all_read there.table there.symbols (range_of file.input.now are.symbols.strings.offset are.symbols.strings.size) table_ok
          (opened_reads file (section_fields are.header).link are.symbols are.linked there.symbols there.are_symbols)
          (subst IsOk (sym (in_range_of file.input.now are.symbols.strings.offset are.symbols.strings.size (section_within file (section_fields are.header).link are.symbols are.linked).1)) refl)
          there.together
        where
          table_ok : IsOk there.table
          table_ok = are.read.reads there.table (by_bytes are there)
