use Rattle.xmas_elf.proofs.lemmas.ChainOnce.{looks_once}
use Rattle.xmas_elf.proofs.lemmas.Traversals.{cycle_is_endless, endless_looks}
use Rattle.elf_callers.proofs.callers.lookups.lookup_anywhere.Goals as goal

pub returns-clause-answer : goal.returns-clause-answer
returns-clause-answer g c = c.lookup.ensures.answer c.requires.decides

pub returns-clause-cycle : goal.returns-clause-cycle
returns-clause-cycle g c =
    let answer = c.lookup.ensures.answer c.requires.decides in (
      λ e. cycle_is_endless _ c.args.table.now _ c.args.name.now _ answer.0 answer.1 e,
      λ endless. (looks_once _ _ _ _ _ _ _ answer.1 (endless_looks _ c.args.table.now _ c.args.name.now endless)).0,
    )
