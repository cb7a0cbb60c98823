use Rattle.std.proofs.Common.{◌≡◌, ◌≤◌, ◌^◌}
use Rattle.elf_linking.specs.References.{count_with, references_left}
use Rattle.elf_linking.proofs.view.symbols.count_with.Given as goal

-- the references that are left come to the same count
abbrev pub invariant-loop-reference : goal.invariant-loop-reference
invariant-loop-reference l = (count_with l.reached (references_left l.reference-iterator) ≡ count_with l.count (references_left l.references))
    × (l.reached ≤ 2 ^ 32)
