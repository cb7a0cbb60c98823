use Rattle.std.proofs.Common.{◌≡◌, length}
use Rattle.elf_linking.specs.DynamicView.{entries_left}
use Rattle.elf_search.specs.Names.{names_left}
use Rattle.elf_search.proofs.names.NeededNamesIterator.next.Given as goal

abbrev pub invariant-loop-entry : goal.invariant-loop-entry
invariant-loop-entry l = names_left l.self ≡ names_left l.initial.self

abbrev pub decreases-loop-entry : goal.decreases-loop-entry
decreases-loop-entry l = length (entries_left l.self.entries)
