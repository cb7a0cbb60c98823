use Rattle.elf_linking.proofs.GnuCounts.{LastRunBelow}
use Rattle.elf_linking.proofs.gnu_hash.GnuHashTable.last_run.Given as goal

abbrev pub invariant-loop-bucket : goal.invariant-loop-bucket
invariant-loop-bucket l = LastRunBelow l.self l.bucket l.greatest
