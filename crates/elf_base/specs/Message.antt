-- The number of each error, which never changes, and its text (this project's own; the words of the Rust crate
-- where it has them).
use Rattle.std.specs.Prelude.{ℕ, List, codes}
use Rattle.elf_base.specs.declared.error.ElfError.{ElfError}
use Rattle.elf_base.specs.declared.error.ElfError.TheVariants.{ShortPart1, NoMagic, InvalidClass, ShortHeaders, ReservedIndex, ShortSectionHeader, UnknownClass, SmallEntry, NoProgramHeaders, ShortProgramHeader, InvalidShType, NullName, ShortSectionOffset, TextStart, TextEnd, TextUtf8, NullData, DataRange, NotMultiple, ShortData, Note32, NoteName, NoteDesc, NoStrtab, StrtabType, NoDynstr, InvalidPhType, InvalidTag, InvalidValue, InvalidPtr, InvalidBinding, InvalidSymbolType, ReservedSymbolIndex, NoShIndex, ExpectedShIndex, SymbolIndex, WideIndex, BadMagic, HeaderSize, NoClass, ClassMismatch, NoVersion, NoDataFormat, PhTableRange, ShTableRange, PhSizeMismatch, EntryPointRange, ShLibUsed, BadAlign, BucketIndex, ChainIndex, ChainSum, HashData, HashCycle, HashMissing}

-- the number and the text of an error
abbrev pub row_of : ElfError → ℕ × List ℕ
row_of ShortPart1 = (1, codes "File is shorter than the first ELF header part")
row_of NoMagic = (2, codes "Did not find ELF magic number")
row_of InvalidClass = (3, codes "Invalid ELF class")
row_of ShortHeaders = (4, codes "File is shorter than ELF headers")
row_of ReservedIndex = (5, codes "Attempt to get section for a reserved index")
row_of ShortSectionHeader = (6, codes "File is shorter than section header offset")
row_of UnknownClass = (7, codes "Unknown ELF class")
row_of SmallEntry = (8, codes "Entry size is smaller than the record")
row_of NoProgramHeaders = (9, codes "There are no program headers in this file")
row_of ShortProgramHeader = (10, codes "File is shorter than program header offset")
row_of InvalidShType = (11, codes "Invalid sh type")
row_of NullName = (12, codes "Attempt to get name of null section")
row_of ShortSectionOffset = (13, codes "File is shorter than section offset")
row_of TextStart = (14, codes "Text starts past the end of its data")
row_of TextEnd = (15, codes "Text has no terminating zero")
row_of TextUtf8 = (16, codes "Text is not valid UTF-8")
row_of NullData = (17, codes "Attempt to get data of a null header")
row_of DataRange = (18, codes "Data is out of range")
row_of NotMultiple = (19, codes "Data is not a whole number of records")
row_of ShortData = (20, codes "Data is too short")
row_of Note32 = (21, codes "32-bit binaries not implemented")
row_of NoteName = (22, codes "Note name does not match its size")
row_of NoteDesc = (23, codes "Note description is out of range")
row_of NoStrtab = (24, codes "no .strtab section")
row_of StrtabType = (25, codes "expected .strtab to be StrTab")
row_of NoDynstr = (26, codes "no .dynstr section")
row_of InvalidPhType = (27, codes "Invalid type")
row_of InvalidTag = (28, codes "Invalid tag value")
row_of InvalidValue = (29, codes "Invalid value")
row_of InvalidPtr = (30, codes "Invalid ptr")
row_of InvalidBinding = (31, codes "Invalid value for binding")
row_of InvalidSymbolType = (32, codes "Invalid value for type")
row_of ReservedSymbolIndex = (33, codes "Reserved section header index")
row_of NoShIndex = (34, codes "no .symtab_shndx section")
row_of ExpectedShIndex = (35, codes "Expected SymTabShIndex")
row_of SymbolIndex = (36, codes "Symbol index is out of range")
row_of WideIndex = (37, codes "Section index does not fit in 16 bits")
row_of BadMagic = (38, codes "bad magic number")
row_of HeaderSize = (39, codes "header_size does not match size of header")
row_of NoClass = (40, codes "No class")
row_of ClassMismatch = (41, codes "Mismatch between specified and actual class")
row_of NoVersion = (42, codes "no version")
row_of NoDataFormat = (43, codes "no data format")
row_of PhTableRange = (44, codes "program header table out of range")
row_of ShTableRange = (45, codes "section header table out of range")
row_of PhSizeMismatch = (46, codes "program header size mismatch")
row_of EntryPointRange = (47, codes "entry point out of range")
row_of ShLibUsed = (48, codes "Shouldn't use ShLib")
row_of BadAlign = (49, codes "Invalid combination of virtual_addr, offset, and align")
row_of BucketIndex = (50, codes "Bucket index is out of range")
row_of ChainIndex = (51, codes "Chain index is out of range")
row_of ChainSum = (52, codes "Chain position does not fit in 32 bits")
row_of HashData = (53, codes "Hash table data is too short")
row_of HashCycle = (54, codes "Hash chain never ends")
row_of HashMissing = (55, codes "Symbol is missing from the hash table")

-- the number of an error
abbrev pub error_number : ElfError → ℕ
error_number error = (row_of error).0

-- the message of an error
abbrev pub message_of : ElfError → List ℕ
message_of error = (row_of error).1
