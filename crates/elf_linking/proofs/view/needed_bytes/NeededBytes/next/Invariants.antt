use Rattle.std.proofs.Common.{◌≡◌, length}
use Rattle.elf_linking.specs.DynamicView.{entries_left, needed_bytes_left, needed_table, first_with}
use Rattle.elf_linking.specs.declared.view.tags.TheConstants.{DT_NEEDED}
use Rattle.elf_linking.proofs.view.needed_bytes.NeededBytes.next.Given as goal

abbrev pub invariant-loop-entry : goal.invariant-loop-entry
invariant-loop-entry l = (needed_bytes_left l.self ≡ needed_bytes_left l.initial.self)
    × (first_with DT_NEEDED (entries_left l.self.entries) ≡ first_with DT_NEEDED (entries_left l.initial.self.entries))
    × (needed_table l.self ≡ needed_table l.initial.self)

abbrev pub decreases-loop-entry : goal.decreases-loop-entry
decreases-loop-entry l = length (entries_left l.self.entries)
