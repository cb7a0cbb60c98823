use Rattle.std.proofs.Common.{◌≡◌, length}
use Rattle.elf_c.specs.LoadObjects.{AreFirstMade}
use Rattle.elf_c.specs.declared.load_objects.TheConstants.{MOST_OBJECTS}
use Rattle.elf_c.proofs.SearchPaths.{IsAsker}
use Rattle.elf_c.proofs.search_paths.chain_of.Given as goal

-- what the first objects say is in its places
abbrev pub invariant-loop-index : goal.invariant-loop-index
invariant-loop-index l = record {
  long : length l.chain ≡ MOST_OBJECTS;
  first : AreFirstMade IsAsker l.askers l.index l.chain;
}
