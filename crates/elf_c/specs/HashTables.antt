-- The hash table of a section with its symbols, found once: the record of an opening call, and what its ranges
-- contain (gABI, "Hash Table"; the convention of GNU binutils and glibc: sections of type 0x6ffffff6, SHT_GNU_HASH;
-- sh_link of both is the index of the symbol table, and sh_link of that one is the index of the string table).
use Rattle.std.specs.Prelude.{◌≡◌, ℕ, ◌==◌, Bool, true, false, List, Result, Ok, Err, IsOkAnd, MatchResult, if◌then◌else◌}
use Rattle.elf_base.specs.FileHeader.{order_of}
use Rattle.elf_base.specs.FirstError.{and_then}
use Rattle.elf_base.specs.declared.bytes.Order.{Order}
use Rattle.elf_base.specs.declared.error.ElfError.{ElfError}
use Rattle.elf_base.specs.declared.header.numbers.Class.{Class}
use Rattle.elf_base.specs.declared.header.numbers.Class.TheVariants.{SixtyFour, ThirtyTwo}
use Rattle.elf_linking.specs.GnuHash.{gnu_class, gnu_data, gnu_order}
use Rattle.elf_linking.specs.Layouts.{gnu_table_of}
use Rattle.elf_linking.specs.LinkedSections.{gnu_hash_in}
use Rattle.elf_linking.specs.declared.any_table.AnyTable.{AnyTable}
use Rattle.elf_linking.specs.declared.any_table.AnyTable.TheVariants as any_table
use Rattle.elf_linking.specs.declared.error.LinkError.{LinkError}
use Rattle.elf_linking.specs.declared.sections.TheConstants.{SHT_GNU_HASH}
use Rattle.xmas_elf.specs.Content.{Content, hash_table, hash_table_content}
use Rattle.xmas_elf.specs.HashTable.{hash_data, hash_order}
use Rattle.xmas_elf.specs.Ranges.{range_of}
use Rattle.xmas_elf.specs.SectionContent.{section_content_of}
use Rattle.xmas_elf.specs.SectionHeader.{section_fields, section_of}
use Rattle.xmas_elf.specs.Types.{ElfFile, SectionHeader}
use Rattle.elf_c.specs.Records.{LiesIn, range_at}
use Rattle.elf_c.specs.Status.{and_so}
use Rattle.elf_c.specs.SymbolTables.{AreSymbolsBy, LieWithin, table_of_section}
use Rattle.elf_c.specs.declared.hash_tables.HashParts.{HashParts}
use Rattle.elf_c.specs.declared.hash_tables.OpenedTable.{OpenedTable}
use Rattle.elf_c.specs.declared.names.Range.{Range}
use Rattle.elf_c.specs.declared.status.AnyError.{AnyError}
use Rattle.elf_c.specs.declared.status.AnyError.TheVariants.{Elf, Link, OtherData}
use Rattle.elf_c.specs.declared.symbol_tables.AnySymbols.{AnySymbols}
use Rattle.elf_c.specs.declared.symbol_tables.SymbolTable.{SymbolTable}

-- the range of a section's data by its header
abbrev pub whole_range : SectionHeader → Range
whole_range header = range_at (section_fields header).offset (section_fields header).size

-- that range, if the contents of the section are a hash table of the ELF standard
abbrev pub sysv_range : SectionHeader → Content → Result Range AnyError
sysv_range header (hash_table order bytes) = Ok (whole_range header)
sysv_range header _ = Err OtherData

-- that range, if the data of the section are a GNU hash table
abbrev pub gnu_range : SectionHeader → Result (List ℕ) LinkError → Result Range AnyError
gnu_range header (Ok bytes) = Ok (whole_range header)
gnu_range header (Err error) = Err (Link error)

-- the range of the hash table in a section, or why there is none
abbrev pub hash_range : ElfFile → SectionHeader → Result Range AnyError
hash_range file header = if (section_fields header).type_ == SHT_GNU_HASH
    then gnu_range header (gnu_hash_in file header)
    else and_so (section_content_of file header) (sysv_range header)

-- the record of a hash table in a range and of its symbols; its kind is the type of the section
abbrev pub opened_with : SectionHeader → Range → SymbolTable → OpenedTable
opened_with header range symbols =
    record { table = range; symbols = symbols; kind = (section_fields header).type_ }

-- the record of the hash table in the section at an index, and of the symbols of the section that it links to
abbrev pub opened_of : ElfFile → ℕ → Result OpenedTable AnyError
opened_of file section = and_so (section_of file section) (λ header.
    and_then (hash_range file header) (λ range.
    and_then (table_of_section file (section_fields header).link) (λ symbols. Ok (opened_with header range symbols))))

-- the ranges of a record lie in the input
abbrev pub LieWithinBy : List ℕ → OpenedTable → Type 0
LieWithinBy input opened = LiesIn input opened.table × LieWithin input opened.symbols

-- the class of a number: 1 for class 32, any other number for class 64
abbrev pub class_by : ℕ → Class
class_by n = if n == 1 then ThirtyTwo else SixtyFour

-- the result is the hash table of the ELF standard with these contents, or the error
abbrev pub IsSysvTable : Result Content ElfError → Result AnyTable AnyError → Type 0
IsSysvTable (Ok (hash_table order bytes)) (Ok (any_table.Sysv table)) =
    (hash_order table ≡ order) × (hash_data table ≡ bytes)
IsSysvTable (Err error) (Err why) = why ≡ Elf error
IsSysvTable _ _ = ⊥

-- the result is the GNU hash table in bytes, or the error if they are none
abbrev pub IsGnuTableRecord : Class → Order → List ℕ → Result AnyTable AnyError → Type 0
IsGnuTableRecord class order bytes (Ok (any_table.Gnu table)) =
    (gnu_data table ≡ bytes) × (gnu_class table ≡ class) × (gnu_order table ≡ order)
IsGnuTableRecord class order bytes (Err (Link error)) = gnu_table_of class order bytes ≡ Err error
IsGnuTableRecord class order bytes _ = ⊥

-- the result is the hash table in bytes, GNU's or else that of the ELF standard, or the error
abbrev pub IsTableIn : Bool → Class → Order → List ℕ → Result AnyTable AnyError → Type 0
IsTableIn true class order bytes = IsGnuTableRecord class order bytes
IsTableIn false class order bytes = IsSysvTable (hash_table_content order bytes)

-- the result is the hash table in the range of a record, of the kind of the record, or the error
abbrev pub IsTableBy : List ℕ → OpenedTable → Result AnyTable AnyError → Type 0
IsTableBy input opened answer = MatchResult (range_of input opened.table.offset opened.table.size)
    (λ bytes. IsTableIn (opened.kind == SHT_GNU_HASH) (class_by opened.symbols.class)
    (order_of opened.symbols.encoding) bytes answer)
    (λ error. answer ≡ Err (Elf error))

-- the result is a hash table, its symbols and their string table, or the first error
abbrev pub AreTogether : Result AnyTable AnyError → Result AnySymbols AnyError → Result (List ℕ) ElfError → Result HashParts AnyError → Type 0
AreTogether (Ok table) (Ok symbols) (Ok strings) answer =
    IsOkAnd answer (λ parts. (parts.table ≡ table) × (parts.symbols ≡ symbols) × (parts.strings.now ≡ strings))
AreTogether (Err why) _ _ answer = answer ≡ Err why
AreTogether _ (Err why) _ answer = answer ≡ Err why
AreTogether _ _ (Err error) answer = answer ≡ Err (Elf error)

-- the result is what the ranges of a record contain, or the first error
pub record ArePartsBy (input : List ℕ) (opened : OpenedTable) (answer : Result HashParts AnyError) : Type 0 where
  pub table : Result AnyTable AnyError
  pub symbols : Result AnySymbols AnyError
  pub is_table : IsTableBy input opened table
  pub are_symbols : AreSymbolsBy input opened.symbols symbols
  pub together : AreTogether table symbols (range_of input opened.symbols.strings.offset opened.symbols.strings.size) answer
