use Rattle.std.proofs.Common.{◌≡◌, length}
use Rattle.elf_c.specs.LoadObjects.{AreFirstMade, IsPlanFor}
use Rattle.elf_c.specs.declared.load_objects.TheConstants.{MOST_OBJECTS}
use Rattle.elf_c.proofs.load_objects.plans_of.Given as goal

-- the plans of the first objects are made
abbrev pub invariant-loop-index : goal.invariant-loop-index
invariant-loop-index g l = record {
  long : length l.plans ≡ MOST_OBJECTS;
  first : AreFirstMade (IsPlanFor l.page l.limit) l.objects l.index l.plans;
}
