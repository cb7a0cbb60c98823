-- Every public type, constant and error of the crate and of the two below it, for import by other crates:
-- `Types.{ElfFile}`. Enums called `Type` are renamed by their subject, such as `SymbolType`. Variants of
-- other enums than errors are in the `TheVariants` of their type. `P32` and `P64` are numbers: write `ℕ` for
-- them in a clause. `SymbolTable` is imported from its module. `tools/pages/api.py --check` compares these names
-- with the sources.
pub use Rattle.xmas_elf.specs.Prelude.{Order, Table, TableIter, ElfError, Header, HeaderPt1, HeaderPt2, HeaderPt2_, Class, Class_, Data, Data_, Machine, Machine_, OsAbi, OsAbi_, HeaderType, HeaderType_, Version, Version_, Dynamic, Tag, Tag_, Flags, SegmentType, SegmentType_, ShType, ShType_, NoteHeader, Rel, Rela, Binding, Binding_, SymbolType, SymbolType_, Visibility, Visibility_}
pub use Rattle.elf_base.specs.declared.error.ElfError.TheVariants.{BadAlign, BadMagic, BucketIndex, ChainIndex, ChainSum, ClassMismatch, DataRange, EntryPointRange, ExpectedShIndex, HashCycle, HashData, HashMissing, HeaderSize, InvalidBinding, InvalidClass, InvalidPhType, InvalidPtr, InvalidShType, InvalidSymbolType, InvalidTag, InvalidValue, NoClass, NoDataFormat, NoDynstr, NoMagic, NoProgramHeaders, NoShIndex, NoStrtab, NoVersion, NotMultiple, Note32, NoteDesc, NoteName, NullData, NullName, PhSizeMismatch, PhTableRange, ReservedIndex, ReservedSymbolIndex, ShLibUsed, ShTableRange, ShortData, ShortHeaders, ShortPart1, ShortProgramHeader, ShortSectionHeader, ShortSectionOffset, SmallEntry, StrtabType, SymbolIndex, TextEnd, TextStart, TextUtf8, UnknownClass, WideIndex}
pub use Rattle.elf_base.specs.declared.header.TheConstants.{MAGIC}
pub use Rattle.elf_records.specs.declared.dynamic.TheConstants.{FLAG_1_CONFALT, FLAG_1_DIRECT, FLAG_1_DISPRELDNE, FLAG_1_DISPRELPND, FLAG_1_EDITED, FLAG_1_ENDFILTEE, FLAG_1_GLOBAL, FLAG_1_GLOBAUDIT, FLAG_1_GROUP, FLAG_1_IGNMULDEF, FLAG_1_INITFIRST, FLAG_1_INTERPOSE, FLAG_1_LOADFLTR, FLAG_1_NODEFLIB, FLAG_1_NODELETE, FLAG_1_NODIRECT, FLAG_1_NODUMP, FLAG_1_NOHDR, FLAG_1_NOKSYMS, FLAG_1_NOOPEN, FLAG_1_NORELOC, FLAG_1_NOW, FLAG_1_ORIGIN, FLAG_1_PIE, FLAG_1_SINGLETON, FLAG_1_STUB, FLAG_1_SYMINTPOSE, FLAG_1_TRANS, FLAG_BIND_NOW, FLAG_ORIGIN, FLAG_STATIC_TLS, FLAG_SYMBOLIC, FLAG_TEXTREL}
pub use Rattle.elf_records.specs.declared.program.TheConstants.{FLAG_MASKOS, FLAG_MASKPROC, FLAG_R, FLAG_W, FLAG_X, TYPE_GNU_EH_FRAME, TYPE_GNU_PROPERTY, TYPE_GNU_RELRO, TYPE_GNU_STACK, TYPE_HIOS, TYPE_HIPROC, TYPE_LOOS, TYPE_LOPROC}
pub use Rattle.elf_records.specs.declared.sections.TheConstants.{GRP_COMDAT, GRP_MASKOS, GRP_MASKPROC, SHF_ALLOC, SHF_COMPRESSED, SHF_EXECINSTR, SHF_GROUP, SHF_INFO_LINK, SHF_LINK_ORDER, SHF_MASKOS, SHF_MASKPROC, SHF_MERGE, SHF_OS_NONCONFORMING, SHF_STRINGS, SHF_TLS, SHF_WRITE, SHN_ABS, SHN_COMMON, SHN_HIOS, SHN_HIPROC, SHN_HIRESERVE, SHN_LOOS, SHN_LOPROC, SHN_LORESERVE, SHN_UNDEF, SHN_XINDEX, SHT_HIOS, SHT_HIPROC, SHT_HIUSER, SHT_LOOS, SHT_LOPROC, SHT_LOUSER}
pub use Rattle.elf_records.specs.declared.symbol_table.TheConstants.{BINDING_GNU_UNIQUE, TYPE_GNU_IFUNC}
use Rattle.std.specs.Prelude.{ℕ}
use Rattle.xmas_elf.specs.Prelude.{ElfFile as the_ElfFile, HashTable as the_HashTable, ProgramIter as the_ProgramIter, SegmentData as the_SegmentData, ProgramHeader as the_ProgramHeader, ProgramHeader32 as the_ProgramHeader32, ProgramHeader64 as the_ProgramHeader64, ReportFault as the_ReportFault, SectionIter as the_SectionIter, SectionData as the_SectionData, SectionHeader_ as the_SectionHeader_, SectionHeader as the_SectionHeader, SectionStrings as the_SectionStrings, DynEntry32 as the_DynEntry32, DynEntry64 as the_DynEntry64, Entry32 as the_Entry32, Entry64 as the_Entry64}
use Rattle.xmas_elf.specs.declared.sections.table.SectionTable.{SectionTable as the_SectionTable}
use Rattle.xmas_elf.specs.declared.sections.table.SectionTableIter.{SectionTableIter as the_SectionTableIter}
use Rattle.xmas_elf.specs.declared.program.table.ProgramTable.{ProgramTable as the_ProgramTable}
use Rattle.xmas_elf.specs.declared.program.table.ProgramTableIter.{ProgramTableIter as the_ProgramTableIter}
use Rattle.xmas_elf.specs.declared.report.hash.HashVerdict.{HashVerdict as the_HashVerdict}
use Rattle.xmas_elf.specs.declared.extensions.TheConstants.{NT_GNU_BUILD_ID as the_NT_GNU_BUILD_ID}

-- the constant of this crate
abbrev pub NT_GNU_BUILD_ID : ℕ
NT_GNU_BUILD_ID = the_NT_GNU_BUILD_ID

-- an ELF file: its bytes and its header
abbrev pub ElfFile : Type 0
ElfFile = the_ElfFile

-- a hash table of the ELF standard
abbrev pub HashTable : Type 0
HashTable = the_HashTable

-- the verdict on the hash table of a file in the report; it has no Rust path
abbrev pub HashVerdict : Type 0
HashVerdict = the_HashVerdict

-- an iterator over program headers
abbrev pub ProgramIter : Type 0
ProgramIter = the_ProgramIter

-- the program header table of a file
abbrev pub ProgramTable : Type 0
ProgramTable = the_ProgramTable

-- an iterator over the program header table
abbrev pub ProgramTableIter : Type 0
ProgramTableIter = the_ProgramTableIter

-- the data of a segment, by its type
abbrev pub SegmentData : Type 0
SegmentData = the_SegmentData

-- a program header of either class
abbrev pub ProgramHeader : Type 0
ProgramHeader = the_ProgramHeader

-- a program header of class 32
abbrev pub ProgramHeader32 : Type 0
ProgramHeader32 = the_ProgramHeader32

-- a program header of class 64
abbrev pub ProgramHeader64 : Type 0
ProgramHeader64 = the_ProgramHeader64

-- why a report was not written
abbrev pub ReportFault : Type 0
ReportFault = the_ReportFault

-- an iterator over section headers
abbrev pub SectionIter : Type 0
SectionIter = the_SectionIter

-- the section header table of a file
abbrev pub SectionTable : Type 0
SectionTable = the_SectionTable

-- an iterator over the section header table
abbrev pub SectionTableIter : Type 0
SectionTableIter = the_SectionTableIter

-- the data of a section, by its type
abbrev pub SectionData : Type 0
SectionData = the_SectionData

-- a section header with addresses of a type
abbrev pub SectionHeader_ : Type 0 → Type 0
SectionHeader_ P = the_SectionHeader_ P

-- a section header of either class
abbrev pub SectionHeader : Type 0
SectionHeader = the_SectionHeader

-- an iterator over the texts of a string table
abbrev pub SectionStrings : Type 0
SectionStrings = the_SectionStrings

-- a symbol for dynamic linking of class 32
abbrev pub DynEntry32 : Type 0
DynEntry32 = the_DynEntry32

-- a symbol for dynamic linking of class 64
abbrev pub DynEntry64 : Type 0
DynEntry64 = the_DynEntry64

-- a symbol of class 32
abbrev pub Entry32 : Type 0
Entry32 = the_Entry32

-- a symbol of class 64
abbrev pub Entry64 : Type 0
Entry64 = the_Entry64
