use Rattle.elfload.proofs.print_plan.Goals as goal

pub returns-in-Err-clause-fault : goal.returns-in-Err-clause-fault
returns-in-Err-clause-fault g c = (c.in-Err.stop, c.in-Err.ensures, c.fault_of.ensures)
