pub use Rattle.elf_base.specs.Number
pub use Rattle.elf_base.specs.FirstError
pub use Rattle.elf_base.specs.Message
pub use Rattle.elf_base.specs.FileHeader
pub use Rattle.elf_base.specs.Printed
pub use Rattle.elf_base.specs.HeaderText
pub use Rattle.elf_base.specs.Lent
pub use Rattle.elf_base.specs.Text
pub use Rattle.elf_base.specs.TextCompared
pub use Rattle.elf_base.specs.Table
pub use Rattle.elf_records.specs.SectionNumbers
pub use Rattle.elf_records.specs.ProgramNumbers
pub use Rattle.elf_records.specs.SymbolNumbers
pub use Rattle.elf_records.specs.HashNumber
pub use Rattle.elf_records.specs.Relocations
pub use Rattle.elf_records.specs.Dynamic
pub use Rattle.elf_records.specs.Note
-- the variants of these types are in their `TheVariants`; import the types and constants themselves from
-- `Types`, where `DynamicTag` is `Tag`
pub use Rattle.elf_base.specs.declared.error.ElfError
pub use Rattle.elf_base.specs.declared.bytes.Order
pub use Rattle.elf_base.specs.declared.header.Header
pub use Rattle.elf_base.specs.declared.header.HeaderPt1
pub use Rattle.elf_base.specs.declared.header.HeaderPt2
pub use Rattle.elf_base.specs.declared.header.HeaderPt2_
pub use Rattle.elf_base.specs.declared.header.numbers.Class
pub use Rattle.elf_base.specs.declared.header.numbers.Data
pub use Rattle.elf_base.specs.declared.header.numbers.Version
pub use Rattle.elf_base.specs.declared.header.numbers.OsAbi
pub use Rattle.elf_base.specs.declared.header.numbers.Type as HeaderType
pub use Rattle.elf_base.specs.declared.header.numbers.Machine
pub use Rattle.elf_records.specs.declared.sections.ShType
pub use Rattle.elf_records.specs.declared.sections.note.NoteHeader
pub use Rattle.elf_records.specs.declared.program.Type as SegmentType
pub use Rattle.elf_records.specs.declared.program.Flags
pub use Rattle.elf_records.specs.declared.symbol_table.Binding
pub use Rattle.elf_records.specs.declared.symbol_table.Type as SymbolType
pub use Rattle.elf_records.specs.declared.symbol_table.Visibility
pub use Rattle.elf_records.specs.declared.dynamic.Tag as DynamicTag
-- the definitions of this crate
pub mod Prelude
pub mod First
pub mod HeaderTable
pub mod SectionHeader
pub mod SectionTable
pub mod Ranges
pub mod SectionData
pub mod Symbol
pub mod HashTable
pub mod ChainLinks
pub mod Symbols
pub mod SymbolTable
pub mod Counted
pub mod Content
pub mod SectionContent
pub mod Strings
pub mod NameTable
pub mod StringTables
pub mod SymbolName
pub mod NamedSymbols
pub mod SymbolSection
pub mod SymbolText
pub mod SectionText
pub mod ProgramHeader
pub mod SymbolRange
pub mod ProgramTable
pub mod SegmentContent
pub mod Shapes
pub mod ProgramText
pub mod Checks
pub mod BuildId
pub mod Link
pub mod Place
pub mod ReportHash
pub mod Report
pub mod Types
