use Rattle.std.proofs.Common.{refl}
use Rattle.xmas_elf.specs.NameTable.{IsNameTable, name_table_of}
use Rattle.xmas_elf.proofs.FirstNamed.{kept, name_table-is}
use Rattle.xmas_elf.proofs.sections.table.SectionTable.name_table.Goals as goal

pub returns : goal.returns
returns c =
    let table = c.args.self.now in
    let file = table.file.now in
    let (has, is) = kept (IsNameTable file) (name_table_of file) table.names (name_table-is file) table.named table.nameless in
    record { table = has; same = refl; exact = is }
