use Rattle.std.proofs.Common.{◌≡◌, subst}
use Rattle.xmas_elf.specs.NameTable.{FindsNamed, section_named}
use Rattle.xmas_elf.proofs.FirstNamed.{found_named, missing_named}
use Rattle.xmas_elf.proofs.ElfFile.find_section_by_name.Goals as goal

pub returns : goal.returns
returns c =
    let file = c.args.self.now in
    let name = c.args.name.now in
    let found = c.find_by_name.result in
    let list = subst (λ f. FindsNamed f name found) c.section_table.ensures.file c.find_by_name.ensures.list in
    record {
      list = list;
      found = found_named file name found list;
      missing = missing_named file name found list;
      exact = subst (λ f. found ≡ section_named f name) c.section_table.ensures.file c.find_by_name.ensures.exact;
    }
