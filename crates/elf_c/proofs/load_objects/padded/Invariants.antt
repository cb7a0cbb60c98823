use Rattle.elf_c.specs.LoadObjects.{ArePadded}
use Rattle.elf_c.proofs.load_objects.padded.Given as goal

abbrev pub invariant-loop-index : goal.invariant-loop-index
invariant-loop-index l = ArePadded l.loads l.all l.index
