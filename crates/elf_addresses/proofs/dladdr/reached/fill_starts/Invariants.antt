use Rattle.elf_addresses.specs.Reached.{AreStarts}
use Rattle.elf_addresses.proofs.dladdr.reached.fill_starts.Given as goal

abbrev pub invariant-loop-bucket : goal.invariant-loop-bucket
invariant-loop-bucket l = AreStarts l.table l.bucket l.words
