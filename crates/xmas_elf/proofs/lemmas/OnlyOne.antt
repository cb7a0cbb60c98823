-- At most one value has each of these properties: the one that is computed, which the clause `exact` of a call names.
use Rattle.std.proofs.Common.{◌≡◌, ◌+◌, ◌*◌, ◌%◌, ◌==◌, ℕ, Bool, true, false, inl, inr, nat_le, nat_lt, List, length, codes, Some, Result, Ok, Err, Bor, refl, sym, ap, ◌∙◌, arith}
use Rattle.std.proofs.lemmas.Bool.{eq-eqb, le-ltb, lt-leb, ne_eqb}
use Rattle.elf_base.proofs.Texts.{bytes-ended}
use Rattle.elf_base.proofs.lemmas.TextLemmas.{is-text_of, lent_texts}
use Rattle.elf_base.specs.Text.{TextIfUtf8, lent_text}
use Rattle.elf_base.specs.TextCompared.{TextCompared}
use Rattle.elf_records.specs.SectionNumbers.{is_sh_type}
use Rattle.elf_records.specs.declared.sections.ShType.TheVariants.{Null}
use Rattle.xmas_elf.specs.NameTable.{HasName, HasNameBytes, IsFirstNamed, IsNameAt, IsNameBytesAt, IsNameTable, NameCompared, name_bytes_of, name_of, name_table_of, section_named, shstr_bytes_of, shstr_of}
use Rattle.xmas_elf.specs.Prelude.{ElfError, ElfFile, SectionHeader}
use Rattle.xmas_elf.specs.SectionData.{HasSectionData, IsDataNamed, IsSectionData, section_data_of}
use Rattle.xmas_elf.specs.SectionHeader.{section_by_u16, section_fields, section_of}
use Rattle.xmas_elf.specs.StringTables.{IsDynString, IsDynstr, IsString, IsStrtab, dyn_string_of, dynstr_of, string_of, strtab_of}
use Rattle.xmas_elf.specs.Symbol.{SymbolFields}
use Rattle.xmas_elf.specs.SymbolName.{IsSymbolString, symbol_string_of}
use Rattle.xmas_elf.specs.SymbolSection.{IsIndexTable, IsSectionIndex, IsWideIndex, index_table_of, symbol_section_of, wide_index_of}
use Rattle.xmas_elf.proofs.FirstNamed.{is-name_table, name_table-is}
use Rattle.xmas_elf.proofs.NamedSections as named

-- the text, and the bytes, at an index of the name table
pub is-shstr_of : (file : ElfFile) (index : ℕ) (name : List ℕ) → IsNameAt file index name → shstr_of file index ≡ Ok name
is-shstr_of = named.is-shstr_of

pub is-shstr_bytes_of : (file : ElfFile) (index : ℕ) (name : List ℕ) → IsNameBytesAt file index name → shstr_bytes_of file index ≡ Ok name
unfolding shstr_bytes_of
is-shstr_bytes_of file index name at =
    let table : name_table_of file ≡ Ok at.table = is-name_table file at.table at.in_table in
    rw table (bytes-ended at.table index name at.ended)

-- the name of a section, and its bytes
pub is-name_of : (file : ElfFile) (section : SectionHeader) (name : List ℕ) → HasName file section name → name_of file section ≡ Ok name
is-name_of = named.has_name-name_of

pub is-name_bytes_of : (file : ElfFile) (section : SectionHeader) (name : List ℕ) → HasNameBytes file section name → name_bytes_of file section ≡ Ok name
unfolding name_bytes_of
is-name_bytes_of file section name has =
    let typed = has.typed in
    let other : is_sh_type Null has.kind ≡ false = named.null_test has.kind has.not_null in
    rw (typed, other) (is-shstr_bytes_of file (section_fields section).name name has.named)

-- such a name is the bytes that a call returns for it, if these are UTF-8
pub texts_at : (file : ElfFile) (index : ℕ) (r : Result (Bor (List ℕ)) ElfError) → shstr_of file index ≡ lent_text r → TextIfUtf8 (IsNameAt file index) r
texts_at file index r as_text = lent_texts (IsNameAt file index) (shstr_of file index) r as_text (named.shstr_of-is file index) (is-shstr_of file index)

pub section_texts : (file : ElfFile) (section : SectionHeader) (r : Result (Bor (List ℕ)) ElfError) → name_of file section ≡ lent_text r → TextIfUtf8 (HasName file section) r
section_texts file section r as_text = lent_texts (HasName file section) (name_of file section) r as_text (named.name_of-has_name file section) (is-name_of file section)

-- the first section with a name
pub is-section_named : (file : ElfFile) (name : List ℕ) (index : ℕ) (section : SectionHeader) → IsFirstNamed file name index section → section_named file name ≡ Some section
is-section_named = named.first_named-is

-- the data of a section, and of the first section with a name
pub is-section_data_of : (file : ElfFile) (section : SectionHeader) (bytes : List ℕ) → HasSectionData file section → IsSectionData file section bytes → section_data_of file section ≡ Ok bytes
unfolding section_data_of
is-section_data_of file section bytes has is =
    let typed = has.typed in
    let other : is_sh_type Null has.kind ≡ false = named.null_test has.kind has.not_null in
    let within : nat_lt (length file.input.now) ((section_fields section).offset + (section_fields section).size) ≡ false = le-ltb (length file.input.now) ((section_fields section).offset + (section_fields section).size) has.within in
    rw (typed, other, within) (ap Ok (sym is.bytes_are))

pub is-data_named : (file : ElfFile) (name bytes : List ℕ) → (is : IsDataNamed file name bytes) → (section_named file name ≡ Some is.section) × (section_data_of file is.section ≡ Ok bytes)
is-data_named file name bytes is =
    (named.first_named-is file name is.index is.section is.first, is-section_data_of file is.section bytes is.there is.is_data)

-- the string tables of symbols, and their texts
pub is-strtab_of : (file : ElfFile) (table : List ℕ) → IsStrtab file table → strtab_of file ≡ Ok table
unfolding strtab_of
is-strtab_of file table is =
    let (found, bytes_are) = is-data_named file (codes ".strtab") table is.named in
    let typed = is.typed in
    rw (found, typed) bytes_are

pub is-dynstr_of : (file : ElfFile) (table : List ℕ) → IsDynstr file table → dynstr_of file ≡ Ok table
unfolding dynstr_of
is-dynstr_of file table is = let (found, bytes_are) = is-data_named file (codes ".dynstr") table is in rw found bytes_are

pub is-string_of : (file : ElfFile) (index : ℕ) (text : List ℕ) → IsString file index text → string_of file index ≡ Ok text
unfolding string_of
is-string_of file index text is = let table = is-strtab_of file is.table is.in_table in rw table (is-text_of is.table index text is.is_text)

pub is-dyn_string_of : (file : ElfFile) (index : ℕ) (text : List ℕ) → IsDynString file index text → dyn_string_of file index ≡ Ok text
unfolding dyn_string_of
is-dyn_string_of file index text is = let table = is-dynstr_of file is.table is.in_table in rw table (is-text_of is.table index text is.is_text)

pub is-symbol_string_of : (dynamic : Bool) (file : ElfFile) (index : ℕ) (text : List ℕ) → IsSymbolString dynamic file index text → symbol_string_of dynamic file index ≡ Ok text
is-symbol_string_of true = is-dyn_string_of
is-symbol_string_of false = is-string_of

-- the index of a symbol's section, and the header of that section
pub is-index_table_of : (file : ElfFile) (table : List ℕ) → IsIndexTable file table → index_table_of file ≡ Ok table
unfolding index_table_of
is-index_table_of file table is =
    let (found, bytes_are) = is-data_named file (codes ".symtab_shndx") table is.named in
    let typed = is.typed in
    rw (found, typed) bytes_are

pub is-wide_index_of : (file : ElfFile) (self_index index : ℕ) → IsWideIndex file self_index index → wide_index_of file self_index ≡ Ok index
unfolding wide_index_of
is-wide_index_of file self_index index is =
    let table = is-index_table_of file is.table is.in_table in
    let whole : (length is.table % 4 == 0) ≡ true = eq-eqb (length is.table % 4) 0 is.whole in
    let below : nat_le (length is.table) (self_index * 4) ≡ false = lt-leb (length is.table) (self_index * 4) is.below in
    rw (table, whole, below) (ap Ok (sym is.word))

pub is-symbol_section_of : (file : ElfFile) (symbol : SymbolFields) (self_index index : ℕ) → IsSectionIndex file symbol self_index index → symbol_section_of file symbol self_index ≡ section_of file index
unfolding symbol_section_of section_by_u16
is-symbol_section_of file symbol self_index index is = elim is.is [
  | inl (low, own) ↦
      let none : (symbol.shndx == 0) ≡ false = ne_eqb symbol.shndx 0 (λ zero. is.defined (own ∙ zero)) in
      let absolute : (symbol.shndx == 0xfff1) ≡ false = ne_eqb symbol.shndx 0xfff1 (λ same. omega (arith, low, same)) in
      let common : (symbol.shndx == 0xfff2) ≡ false = ne_eqb symbol.shndx 0xfff2 (λ same. omega (arith, low, same)) in
      let narrow : (symbol.shndx == 0xffff) ≡ false = ne_eqb symbol.shndx 0xffff (λ same. omega (arith, low, same)) in
      let usual : nat_le 0xff00 symbol.shndx ≡ false = lt-leb 0xff00 symbol.shndx low in
      rw (none, absolute, common, narrow, usual) (ap (section_of file) (sym own))
  | inr (reserved, wide) ↦
      let word = is-wide_index_of file self_index index wide in
      let some : (index == 0) ≡ false = ne_eqb index 0 is.defined in
      rw (reserved, word, some) refl
]

-- what a comparison with a name says where there is a name table, and where there is none
pub compared_in : (file : ElfFile) (index : ℕ) (name : List ℕ) (answer : Bool) (count : ℕ) (table : List ℕ) → NameCompared (name_table_of file) index name answer count → IsNameTable file table → TextCompared table index name answer count
compared_in file index name answer count table compared is = let found = is-name_table file table is in rw found at compared

pub none_compared : (file : ElfFile) (index : ℕ) (name : List ℕ) (answer : Bool) (count : ℕ) → NameCompared (name_table_of file) index name answer count → ((table : List ℕ) → ¬ IsNameTable file table) → count ≡ 0
none_compared file index name answer count compared none = go (name_table_of file) refl compared
  where
    go : (found : Result (List ℕ) ElfError) → name_table_of file ≡ found → NameCompared found index name answer count → count ≡ 0
    go (Ok table) is _ = absurd (none table (name_table-is file table is))
    go (Err error) is (_, zero) = zero
