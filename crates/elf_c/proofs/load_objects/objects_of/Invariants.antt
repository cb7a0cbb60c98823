use Rattle.std.proofs.Common.{◌≡◌, length}
use Rattle.elf_c.specs.LoadObjects.{AreFirstMade, IsObjectOf}
use Rattle.elf_c.specs.declared.load_objects.TheConstants.{MOST_OBJECTS}
use Rattle.elf_c.proofs.load_objects.objects_of.Given as goal

-- the objects of the first files are read
abbrev pub invariant-loop-index : goal.invariant-loop-index
invariant-loop-index g l = record {
  long : length l.objects ≡ MOST_OBJECTS;
  first : AreFirstMade (IsObjectOf g.E.LinkedSymbol.CLASS g.E.Record.SIZE) l.loads l.index l.objects;
}
