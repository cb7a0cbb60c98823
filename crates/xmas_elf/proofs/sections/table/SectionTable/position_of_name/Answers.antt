use Rattle.xmas_elf.proofs.FirstNamed.{is-name_table}
use Rattle.xmas_elf.proofs.sections.table.SectionTable.position_of_name.Goals as goal

pub returns-in_default : goal.returns-in_default
returns-in_default c = λ k d low high has.
    (let table = is-name_table c.args.self.now.file.now has.named.table has.named.in_table in let none = c.in_default.ensures.exact in cc)
