use Rattle.elf_linking.specs.Entries.{entries_left}
use Rattle.elf_linking.proofs.LastNumbers.{AreNoted}
use Rattle.elf_linking.proofs.view.last_numbers.last_numbers.Given as goal

-- the numbers noted so far are right
abbrev pub invariant-loop-entry : goal.invariant-loop-entry
invariant-loop-entry l = AreNoted l.numbers (entries_left l.entry-iterator) (entries_left l.initial.entries)
