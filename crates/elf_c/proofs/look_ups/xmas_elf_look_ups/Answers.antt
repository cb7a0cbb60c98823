use Rattle.elf_c.proofs.Answering.{answered_so}
use Rattle.elf_c.proofs.LookedUp.{answers_found}
use Rattle.elf_c.proofs.look_ups.xmas_elf_look_ups.Goals as goal

pub returns-clause-exact : goal.returns-clause-exact
returns-clause-exact c = answered_so _ _ _ _ _ _
    (λ name answer says. (λ utf8. (c.parts_by.result, c.parts_by.ensures, says.0 utf8), says.1)) c.look_ups.ensures

pub returns-clause-found : goal.returns-clause-found
returns-clause-found c = answers_found c.args.input.now c.args.table.now c.args.names.now c.args.ranges.now c.args.out.now c.look_ups.new.out
    (answered_so _ _ _ _ _ _ (λ name answer says. (λ utf8. (c.parts_by.result, c.parts_by.ensures, says.0 utf8), says.1)) c.look_ups.ensures)
