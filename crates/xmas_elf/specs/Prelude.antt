-- The types and errors that the definitions and proofs of this crate use, whatever module declares them.
pub use Rattle.elf_base.specs.declared.bytes.Order.{Order}
pub use Rattle.elf_base.specs.declared.bytes.table.Table.{Table}
pub use Rattle.elf_base.specs.declared.bytes.table.TableIter.{TableIter}
pub use Rattle.elf_base.specs.declared.error.ElfError.{ElfError}
pub use Rattle.elf_base.specs.declared.header.Header.{Header}
pub use Rattle.elf_base.specs.declared.header.HeaderPt1.{HeaderPt1}
pub use Rattle.elf_base.specs.declared.header.HeaderPt2.{HeaderPt2}
pub use Rattle.elf_base.specs.declared.header.HeaderPt2_.{HeaderPt2_}
pub use Rattle.elf_base.specs.declared.header.numbers.Class.{Class}
pub use Rattle.elf_base.specs.declared.header.numbers.Class_.{Class_}
pub use Rattle.elf_base.specs.declared.header.numbers.Data.{Data}
pub use Rattle.elf_base.specs.declared.header.numbers.Data_.{Data_}
pub use Rattle.elf_base.specs.declared.header.numbers.Machine.{Machine}
pub use Rattle.elf_base.specs.declared.header.numbers.Machine_.{Machine_}
pub use Rattle.elf_base.specs.declared.header.numbers.OsAbi.{OsAbi}
pub use Rattle.elf_base.specs.declared.header.numbers.OsAbi_.{OsAbi_}
pub use Rattle.elf_base.specs.declared.header.numbers.Type.{«Type» as HeaderType}
pub use Rattle.elf_base.specs.declared.header.numbers.Type_.{Type_ as HeaderType_}
pub use Rattle.elf_base.specs.declared.header.numbers.Version.{Version}
pub use Rattle.elf_base.specs.declared.header.numbers.Version_.{Version_}
pub use Rattle.elf_records.specs.declared.dynamic.Dynamic.{Dynamic}
pub use Rattle.elf_records.specs.declared.dynamic.Tag.{Tag}
pub use Rattle.elf_records.specs.declared.dynamic.Tag_.{Tag_}
pub use Rattle.elf_records.specs.declared.program.Flags.{Flags}
pub use Rattle.elf_records.specs.declared.program.Type.{«Type» as SegmentType}
pub use Rattle.elf_records.specs.declared.program.Type_.{Type_ as SegmentType_}
pub use Rattle.elf_records.specs.declared.sections.ShType.{ShType}
pub use Rattle.elf_records.specs.declared.sections.ShType_.{ShType_}
pub use Rattle.elf_records.specs.declared.sections.note.NoteHeader.{NoteHeader}
pub use Rattle.elf_records.specs.declared.sections.relocations.Rel.{Rel}
pub use Rattle.elf_records.specs.declared.sections.relocations.Rela.{Rela}
pub use Rattle.elf_records.specs.declared.symbol_table.Binding.{Binding}
pub use Rattle.elf_records.specs.declared.symbol_table.Binding_.{Binding_}
pub use Rattle.elf_records.specs.declared.symbol_table.Type.{«Type» as SymbolType}
pub use Rattle.elf_records.specs.declared.symbol_table.Type_.{Type_ as SymbolType_}
pub use Rattle.elf_records.specs.declared.symbol_table.Visibility.{Visibility}
pub use Rattle.elf_records.specs.declared.symbol_table.Visibility_.{Visibility_}
pub use Rattle.xmas_elf.specs.declared.ElfFile.{ElfFile}
pub use Rattle.xmas_elf.specs.declared.hash.HashTable.{HashTable}
pub use Rattle.xmas_elf.specs.declared.program.ProgramIter.{ProgramIter}
pub use Rattle.xmas_elf.specs.declared.program.content.SegmentData.{SegmentData}
pub use Rattle.xmas_elf.specs.declared.program.program_header.ProgramHeader.{ProgramHeader}
pub use Rattle.xmas_elf.specs.declared.program.program_header.ProgramHeader32.{ProgramHeader32}
pub use Rattle.xmas_elf.specs.declared.program.program_header.ProgramHeader64.{ProgramHeader64}
pub use Rattle.xmas_elf.specs.declared.report.ReportFault.{ReportFault}
pub use Rattle.xmas_elf.specs.declared.sections.SectionIter.{SectionIter}
pub use Rattle.xmas_elf.specs.declared.sections.content.SectionData.{SectionData}
pub use Rattle.xmas_elf.specs.declared.sections.section_header.SectionHeader_.{SectionHeader_}
pub use Rattle.xmas_elf.specs.declared.sections.section_header.SectionHeader.{SectionHeader}
pub use Rattle.xmas_elf.specs.declared.sections.strings.SectionStrings.{SectionStrings}
pub use Rattle.xmas_elf.specs.declared.symbol_table.entries.DynEntry32.{DynEntry32}
pub use Rattle.xmas_elf.specs.declared.symbol_table.entries.DynEntry64.{DynEntry64}
pub use Rattle.xmas_elf.specs.declared.symbol_table.entries.Entry32.{Entry32}
pub use Rattle.xmas_elf.specs.declared.symbol_table.entries.Entry64.{Entry64}
