use Rattle.elf_loading.specs.CheckedLoads.{AreCheckedBefore}
use Rattle.elf_loading.proofs.checked.check_objects.Given as goal

-- the objects so far passed their checks
abbrev pub invariant-loop-place : goal.invariant-loop-place
invariant-loop-place g l = AreCheckedBefore g.E.Entry.fields l.fn.objects l.place
