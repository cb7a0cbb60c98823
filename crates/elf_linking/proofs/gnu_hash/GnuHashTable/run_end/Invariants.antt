use Rattle.elf_linking.specs.GnuCount.{GoesTo}
use Rattle.elf_linking.proofs.gnu_hash.GnuHashTable.run_end.Given as goal

abbrev pub invariant-loop-index : goal.invariant-loop-index
invariant-loop-index l = GoesTo l.self l.from l.index
