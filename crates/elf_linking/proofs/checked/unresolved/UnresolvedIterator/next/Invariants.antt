use Rattle.std.proofs.Common.{◌≡◌, length}
use Rattle.elf_linking.specs.CheckedBindings.{checked_left, checked_objects, unresolved_left}
use Rattle.elf_linking.proofs.checked.unresolved.UnresolvedIterator.next.Given as goal

-- what is left is what was left, in the same scope
abbrev pub invariant-loop-item : goal.invariant-loop-item
invariant-loop-item g l = (unresolved_left l.self ≡ unresolved_left l.initial.self)
    × (checked_objects l.self.bindings ≡ checked_objects l.initial.self.bindings)

abbrev pub decreases-loop-item : goal.decreases-loop-item
decreases-loop-item g l = length (checked_left l.self.bindings)
