use Rattle.xmas_elf.proofs.FirstNamed.{is-name_table, name_at}
use Rattle.xmas_elf.proofs.ElfFile.shstr_is.Goals as goal

pub returns-in-Ok-clause-is : goal.returns-in-Ok-clause-is
returns-in-Ok-clause-is c =
    let (at, named) = name_at c.args.self.now c.args.index c.in-Ok.names.now c.args.name.now c.in-Ok.ensures.exact in
    (λ yes. named (c.text_is.ensures.is.0 yes), λ is. c.text_is.ensures.is.1 (at is))

pub returns-in-Err-clause-is : goal.returns-in-Err-clause-is
returns-in-Err-clause-is c =
    (λ no. cc, λ named. absurd (let table = is-name_table c.args.self.now named.table named.in_table in let none = c.in-Err.ensures.exact in cc))
