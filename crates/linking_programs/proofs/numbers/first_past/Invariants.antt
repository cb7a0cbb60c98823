use Rattle.elf_linking.specs.DynamicObject.{object_versions}
use Rattle.elf_linking.specs.Versions.{version_tables}
use Rattle.linking_programs.specs.Numbers.{AreKnown}
use Rattle.linking_programs.proofs.numbers.first_past.Given as goal

-- no symbol so far has a number past the others
abbrev pub invariant-loop-place : goal.invariant-loop-place
invariant-loop-place g l = AreKnown (version_tables (object_versions l.fn.object)) l.place
