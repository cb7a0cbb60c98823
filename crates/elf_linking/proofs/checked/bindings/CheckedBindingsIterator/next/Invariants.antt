use Rattle.std.proofs.Common.{◌≡◌, ◌-◌, length}
use Rattle.elf_linking.specs.CheckedBindings.{checked_left, checked_objects}
use Rattle.elf_linking.proofs.checked.bindings.CheckedBindingsIterator.next.Given as goal

-- what is left is what was left, in the same scope
abbrev pub invariant-loop-reference : goal.invariant-loop-reference
invariant-loop-reference g l = (checked_left l.self ≡ checked_left l.initial.self)
    × (checked_objects l.self ≡ checked_objects l.initial.self)

abbrev pub decreases-loop-reference : goal.decreases-loop-reference
decreases-loop-reference g l = length (checked_objects l.self) - l.self.next
