use Rattle.std.proofs.Common.{◌≡◌, length}
use Rattle.elf_linking.specs.DynamicView.{entries_left}
use Rattle.elf_c.specs.SearchFiles.{needed_rows}
use Rattle.elf_c.proofs.search_files.NeededListSequence.next.Given as goal

abbrev pub invariant-loop-entry : goal.invariant-loop-entry
invariant-loop-entry l = (l.self.input ≡ l.initial.self.input) × (l.self.strings ≡ l.initial.self.strings)
    × (needed_rows l.self.input.now l.self.strings (entries_left l.self.entries)
    ≡ needed_rows l.self.input.now l.self.strings (entries_left l.initial.self.entries))

abbrev pub decreases-loop-entry : goal.decreases-loop-entry
decreases-loop-entry l = length (entries_left l.self.entries)
