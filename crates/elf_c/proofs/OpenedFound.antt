-- The symbol that a search finds is that of the record of the dynamic segment.
use Rattle.std.proofs.Common.{◌≡◌, ◌==◌, ℕ, Bool, true, false, List, Option, None, Some, Result, Ok, Err, if◌then◌else◌, refl, sym, ap, subst, ◌∙◌}
use Rattle.std.proofs.lemmas.Str.{IsUtf8-from_is_utf8, is_utf8-from_IsUtf8}
use Rattle.std.specs.Prelude.{slice_get}
use Rattle.std.specs.Str.{is_utf8}
use Rattle.elf_base.specs.FileHeader.{file_class, file_order}
use Rattle.elf_base.specs.Table.{records}
use Rattle.elf_linking.proofs.lemmas.Objects.{class_symbols}
use Rattle.elf_linking.specs.AnyTable.{LooksWhereBy}
use Rattle.elf_linking.specs.DynamicView.{AreSymbols, as_link_error, dynamic_entries_of}
use Rattle.elf_linking.specs.Find.{DynamicSymbols, IsAsked, IsDefaultBy, IsFound, IsShown, Seeks, accepted, faulty, asked_first, none_shown, one_shown, otherwise, two_shown}
use Rattle.elf_linking.specs.GnuHash as gnu
use Rattle.elf_linking.specs.VersionTables.{result_map}
use Rattle.elf_linking.specs.declared.any_table.AnyTable.{AnyTable}
use Rattle.elf_linking.specs.declared.any_table.AnyTable.TheVariants.{Gnu, Sysv}
use Rattle.elf_linking.specs.declared.error.LinkError.{LinkError}
use Rattle.elf_linking.specs.declared.find.Use.TheVariants.{Any}
use Rattle.elf_linking.specs.declared.find.Wanted.{Wanted}
use Rattle.elf_linking.specs.declared.gnu_hash.GnuHashTable.{GnuHashTable}
use Rattle.elf_records.specs.declared.dynamic.Dynamic.{Dynamic}
use Rattle.xmas_elf.specs.HashTable as gabi
use Rattle.xmas_elf.specs.Symbol.{dyn_entry_32, dyn_entry_32_fields, dyn_entry_64, dyn_entry_64_fields}
use Rattle.xmas_elf.specs.Types.{ElfError, ElfFile, HashTable}
use Rattle.elf_c.specs.DynamicSymbols.{AreDynamicSymbols, AreSymbolsBy, IsSegmentTable}
use Rattle.elf_c.specs.FoundSymbols.{IsByClass, IsFoundBy, IsFoundSymbol, IsSearched, found_answer, found_symbol, no_symbol_record, failed, searched, serving_symbol}
use Rattle.elf_c.specs.LookUps.{IfUtf8}
use Rattle.elf_linking.specs.Serves.{serves_others}
use Rattle.elf_c.specs.Records.{record_in, record_or_none}
use Rattle.elf_c.specs.SymbolTables.{symbol_by}
use Rattle.elf_c.specs.Symbols.{symbol_record}
use Rattle.elf_c.specs.declared.found_symbols.FoundSymbol.{FoundSymbol}
use Rattle.elf_c.specs.declared.status.AnyError.{AnyError}
use Rattle.elf_c.specs.declared.symbol_tables.SymbolTable.{SymbolTable}
use Rattle.elf_c.proofs.OpenedDynamics.{opened_symbols}

-- what a look-up finds is one of the symbols
module _ {E : Type 0} (P : ℕ × E → Type 0) (at : ℕ × E) where
  in_chain : (table : HashTable) (symbols : List E) (i n : ℕ) (a : Result (Option (ℕ × E)) ElfError) → gabi.Stops P (gabi.chains_of table symbols) i a n → a ≡ Ok (Some at) → slice_get symbols at.0 ≡ Some at.1
  in_chain table symbols _ _ _ gabi.at_end is = absurd (cc)
  in_chain table symbols _ _ _ (gabi.past_chains i above past) is = absurd (cc)
  in_chain table symbols _ _ _ (gabi.past_symbols i above within absent) is = absurd (cc)
  in_chain table symbols _ _ _ (gabi.found i e stands holds) is =
      let same : (i, e) ≡ at = cc in subst (λ (p : ℕ × E). slice_get symbols p.0 ≡ Some p.1) same stands.symbol
  in_chain table symbols _ _ _ (gabi.failed i e error stands misses fails) is = absurd (cc)

  by_chain : (table : HashTable) (symbols : List E) (start : Option (Result ℕ ElfError)) (n : ℕ) (a : Result (Option (ℕ × E)) ElfError) → gabi.LooksFrom P (gabi.chains_of table symbols) start a n → a ≡ Ok (Some at) → slice_get symbols at.0 ≡ Some at.1
  by_chain table symbols _ _ _ gabi.no_bucket is = absurd (cc)
  by_chain table symbols _ _ _ (gabi.bad_bucket error) is = absurd (cc)
  by_chain table symbols _ _ _ (gabi.reaches first last n more a comes none stop) is = in_chain table symbols last more a stop is
  by_chain table symbols _ _ _ (gabi.endless first n never) is = absurd (cc)

  in_run : (h : ℕ) (table : GnuHashTable) (symbols : List E) (i n : ℕ) (a : Result (Option (ℕ × E)) LinkError) → gnu.GnuStops P h table symbols i a n → a ≡ Ok (Some at) → slice_get symbols at.0 ≡ Some at.1
  in_run h table symbols i _ _ (gnu.found e hit) is =
      let same : (i, e) ≡ at = cc in subst (λ (p : ℕ × E). slice_get symbols p.0 ≡ Some p.1) same hit.symbol
  in_run h table symbols i _ _ (gnu.ended there ends none) is = absurd (cc)
  in_run h table symbols i _ _ (gnu.failed error lacks) is = absurd (cc)

  by_run : (table : GnuHashTable) (symbols : List E) (name : List ℕ) (n : ℕ) (a : Result (Option (ℕ × E)) LinkError) → gnu.GnuLooksWhere P table symbols name a n → a ≡ Ok (Some at) → slice_get symbols at.0 ≡ Some at.1
  by_run table symbols name _ _ (gnu.no_run none) is = absurd (cc)
  by_run table symbols name _ _ (gnu.too_early from starts early) is = absurd (cc)
  by_run table symbols name _ _ (gnu.goes from n a starts begins looks) is = in_run _ table symbols looks.last looks.here a looks.stop is

  linked_is : (found : Result (Option (ℕ × E)) ElfError) → Ok (Some at) ≡ as_link_error found → found ≡ Ok (Some at)
  linked_is (Ok other) is = let same : Some at ≡ other = cc in ap (λ o. Ok o) (sym same)
  linked_is (Err error) is = absurd (cc)

  pub by_table : (table : AnyTable) (symbols : List E) (name : List ℕ) (n : ℕ) → LooksWhereBy P table symbols name (Ok (Some at)) n → slice_get symbols at.0 ≡ Some at.1
  by_table (Sysv table) symbols name n looks = by_chain table symbols (gabi.start_of table name) n looks.0 looks.1 (linked_is looks.0 looks.2)
  by_table (Gnu table) symbols name n looks = by_run table symbols name n (Ok (Some at)) looks refl

-- what a search finds is one of the symbols
module _ {E : Type 0} (file : DynamicSymbols E) (name : List ℕ) (at : ℕ × E) where
  abbrev Stands : ℕ × E → Type 0
  Stands found = slice_get file.symbols.items found.0 ≡ Some found.1

  is_one : (one : ℕ × E) → Stands one → Some at ≡ Some one → Stands at
  is_one one stands is = let same : one ≡ at = cc in subst Stands same stands

  default_stands : (wanted : Wanted) (found : Option (ℕ × E)) → IsDefaultBy (λ P. Seeks P file name) (IsShown file name wanted Any) found → found ≡ Some at → Stands at
  default_stands wanted _ (none_shown none) is = absurd (cc)
  default_stands wanted _ (one_shown one some none) is =
      is_one one (by_table (IsShown file name wanted Any None) one file.table file.symbols.items name some.0 some.1) (sym is)
  default_stands wanted _ (two_shown one other some more) is = absurd (cc)

  first_stands : (one : ℕ × E) (version : Result Bool LinkError) → Stands one → Ok (Some at) ≡ result_map (λ _. Some one) version → Stands at
  first_stands one (Ok b) stands is = is_one one stands (cc)
  first_stands one (Err error) stands is = absurd (cc)

  found_stands : (wanted : Wanted) (answer : Result (Option (ℕ × E)) LinkError) → IsFound file name wanted Any answer → answer ≡ Ok (Some at) → Stands at
  found_stands wanted _ (asked_first one answer seeks is) same =
      first_stands one (accepted file.versions wanted one.0) (by_table (IsAsked file name wanted Any) one file.table file.symbols.items name seeks.0 seeks.1) (sym same ∙ is)
  found_stands wanted _ (faulty error seeks) same = absurd (cc)
  found_stands wanted _ (otherwise found seeks default) same = default_stands wanted found default (cc)

-- the numbers of what was found are those of the symbol at its index
found_there : {E : Type 0} (all : DynamicSymbols E) (name version : List ℕ) (said : FoundSymbol) → IsSearched all name version (Ok said) → said.found ≡ 1 → record_in (λ e. symbol_record (all.symbols.fields e)) all.symbols.items said.index ≡ Ok said.symbol
found_there {E} all name version said is one = by_found is.found is.is_found is.numbers
  where
    by_serving : (at : ℕ × E) → slice_get all.symbols.items at.0 ≡ Some at.1 → (serves : Bool) → said ≡ (if serves then record { symbol = symbol_record (all.symbols.fields at.1); found = 1; index = at.0 } else no_symbol_record) → record_in (λ e. symbol_record (all.symbols.fields e)) all.symbols.items said.index ≡ Ok said.symbol
    by_serving at stands true same =
        subst (λ s. record_in (λ e. symbol_record (all.symbols.fields e)) all.symbols.items s.index ≡ Ok s.symbol) (sym same)
        (ap (record_or_none (λ e. symbol_record (all.symbols.fields e))) stands)
    by_serving at stands false same = absurd (let none : said.found ≡ 0 = ap (λ s. s.found) same in cc)

    by_found : (found : Result (Option (ℕ × E)) LinkError) → IsFound all name is.wanted Any found → Ok said ≡ found_answer all.symbols.fields found → record_in (λ e. symbol_record (all.symbols.fields e)) all.symbols.items said.index ≡ Ok said.symbol
    by_found (Err error) finds numbers = absurd (cc)
    by_found (Ok None) finds numbers = absurd (let same : said ≡ found_symbol all.symbols.fields None = cc in let none : said.found ≡ 0 = ap (λ s. s.found) same in cc)
    by_found (Ok (Some at)) finds numbers =
        let same : said ≡ serving_symbol at.0 (all.symbols.fields at.1) = cc in
        let stands = found_stands all name at is.wanted (Ok (Some at)) finds refl in
        by_serving at stands (serves_others (all.symbols.fields at.1)) same

module _ (file : ElfFile) (table : SymbolTable) (made : IsSegmentTable file (Ok table)) (said : FoundSymbol) (one : said.found ≡ 1) where
  -- by the bytes of the symbols
  by_bytes : (entries : List (Dynamic ℕ)) (bytes : List ℕ) (narrow : Bool) → (file_class file.header == 1) ≡ narrow → dynamic_entries_of file ≡ Ok entries → AreSymbols file entries (if narrow then 16 else 24) (Ok bytes)
      → (if narrow then record_in (λ e. symbol_record (dyn_entry_32_fields e)) (records 16 (dyn_entry_32 (file_order file.header)) bytes) said.index
      else record_in (λ e. symbol_record (dyn_entry_64_fields e)) (records 24 (dyn_entry_64 (file_order file.header)) bytes) said.index) ≡ Ok said.symbol
      → symbol_by symbol_record file.input.now table said.index ≡ Ok said.symbol
  by_bytes entries bytes narrow class at are found =
      let here : AreDynamicSymbols file (Ok bytes) = subst (λ r. AreSymbolsBy file r (Ok bytes)) (sym at) (subst (λ (b : Bool). AreSymbols file entries (if b then 16 else 24) (Ok bytes)) (sym class) are) in
      opened_symbols file table made (Ok bytes) here said.index
      ∙ subst (λ (b : Bool). (if b then record_in (λ e. symbol_record (dyn_entry_32_fields e)) (records 16 (dyn_entry_32 (file_order file.header)) bytes) said.index
      else record_in (λ e. symbol_record (dyn_entry_64_fields e)) (records 24 (dyn_entry_64 (file_order file.header)) bytes) said.index) ≡ Ok said.symbol) (sym class) found

  by_class : (name version : List ℕ) (narrow : Bool) → (file_class file.header == 1) ≡ narrow → (answer : Result FoundSymbol AnyError) → answer ≡ Ok said → IsByClass narrow file name version answer → symbol_by symbol_record file.input.now table said.index ≡ Ok said.symbol
  by_class name version true class _ is (failed error why) = absurd (cc)
  by_class name version true class _ is (searched all answer are finds) =
      let found = found_there all name version said (subst (IsSearched all name version) is finds) one in
      by_bytes are.symbols.entries are.symbols.bytes true class are.symbols.entries_are (class_symbols _ _ file are.symbols.entries are.symbols.bytes are.symbols.bytes_are)
      (subst (λ symbols. record_in (λ e. symbol_record (symbols.fields e)) symbols.items said.index ≡ Ok said.symbol) are.symbols.symbols_are found)
  by_class name version false class _ is (failed error why) = absurd (cc)
  by_class name version false class _ is (searched all answer are finds) =
      let found = found_there all name version said (subst (IsSearched all name version) is finds) one in
      by_bytes are.symbols.entries are.symbols.bytes false class are.symbols.entries_are (class_symbols _ _ file are.symbols.entries are.symbols.bytes are.symbols.bytes_are)
      (subst (λ symbols. record_in (λ e. symbol_record (symbols.fields e)) symbols.items said.index ≡ Ok said.symbol) are.symbols.symbols_are found)

-- a name that is no text finds nothing
pub if_text : {A : Type 0} (P : List ℕ → Result A AnyError → Type 0) (name : List ℕ) (value : A) → IfUtf8 P name (Ok value) → P name (Ok value)
if_text P name value is = by_test (is_utf8 name) refl
  where
    by_test : (b : Bool) → is_utf8 name ≡ b → P name (Ok value)
    by_test true test = is.0 (IsUtf8-from_is_utf8 name test)
    by_test false test = absurd (let wrong = is.1 (λ utf8. let right = is_utf8-from_IsUtf8 name utf8 in cc) in cc)

pub opened_found : (file : ElfFile) (table : SymbolTable) → IsSegmentTable file (Ok table) → (name version : List ℕ) (said : FoundSymbol) → IsFoundBy file name version (Ok said) → said.found ≡ 1 → symbol_by symbol_record file.input.now table said.index ≡ Ok said.symbol
opened_found file table made name version said is one =
    by_class file table made said one name version (file_class file.header == 1) refl (Ok said) refl
    (if_text (IsFoundSymbol file name) version said (if_text (λ text answer. IfUtf8 (IsFoundSymbol file text) version answer) name said is))
