use Rattle.program_debug.proofs.check_symbols.Goals as goal

pub returns-in-Ok : goal.returns-in-Ok
returns-in-Ok c = (c.in-Some._index, c.in-Some.ensures)
