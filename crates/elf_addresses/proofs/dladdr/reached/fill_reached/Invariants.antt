use Rattle.elf_addresses.proofs.Reached.{Passed}
use Rattle.elf_addresses.proofs.dladdr.reached.fill_reached.Given as goal

abbrev pub invariant-loop-index : goal.invariant-loop-index
invariant-loop-index l = Passed l.table l.words l.index l.first
