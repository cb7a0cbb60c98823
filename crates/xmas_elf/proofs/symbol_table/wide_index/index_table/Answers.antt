use Rattle.std.proofs.Common.{◌≡◌, Ok, Some, sym, codes, arith}
use Rattle.elf_records.specs.declared.sections.ShType.TheVariants.{SymTabShIndex}
use Rattle.xmas_elf.specs.NameTable.{section_named}
use Rattle.xmas_elf.specs.SectionHeader.{section_type}
use Rattle.xmas_elf.specs.SymbolSection.{index_table_of}
use Rattle.xmas_elf.proofs.StringTables.{typed_data}
use Rattle.xmas_elf.proofs.symbol_table.wide_index.index_table.Goals as goal

pub returns-in-Ok-SymTabShIndex : goal.returns-in-Ok-SymTabShIndex
unfolding index_table_of
returns-in-Ok-SymTabShIndex c =
    let file = c.args.file.now in
    let section = c.in-Some.section in
    let found : section_named file (codes ".symtab_shndx") ≡ Some section = sym c.in-Some.ensures.exact in
    let typed : section_type section ≡ Ok SymTabShIndex = let answer = c.get_type.ensures in let is = c.in-Ok-SymTabShIndex.is in let kind = c.in-Ok-SymTabShIndex.field-0-is in cc in
    let lent = c.raw_data.ensures in
    record {
      table = typed_data file (codes ".symtab_shndx") SymTabShIndex section c.raw_data.result typed c.in-Some.ensures.found lent.readable lent.range;
      exact = rw (found, typed) lent.exact;
    }

pub returns-in_default-get_type-clause-exact : goal.returns-in_default-get_type-clause-exact
unfolding index_table_of
returns-in_default-get_type-clause-exact c =
    let found : section_named c.args.file.now (codes ".symtab_shndx") ≡ Some c.in-Some.section = sym c.in-Some.ensures.exact in
    let typed = c.get_type.ensures in
    rw found (grind arith)
