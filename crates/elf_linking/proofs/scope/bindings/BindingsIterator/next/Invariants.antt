use Rattle.std.proofs.Common.{◌≡◌, ◌-◌, length}
use Rattle.elf_linking.specs.Bindings.{bindings_left, bindings_objects}
use Rattle.elf_linking.proofs.scope.bindings.BindingsIterator.next.Given as goal

-- what is left is what was left, in the same scope
abbrev pub invariant-loop-reference : goal.invariant-loop-reference
invariant-loop-reference g l = (bindings_left l.self ≡ bindings_left l.initial.self)
    × (bindings_objects l.self ≡ bindings_objects l.initial.self)

abbrev pub decreases-loop-reference : goal.decreases-loop-reference
decreases-loop-reference g l = length (bindings_objects l.self) - l.self.next
