use Rattle.std.proofs.Common.{◌≡◌, ◌≤◌, ◌+◌, ◌-◌, length}
use Rattle.elf_loading.specs.LoadScope.{loaded_objects, loaded_plans}
use Rattle.elf_c.specs.LoadAll.{AreRelocated, begin_at}
use Rattle.elf_c.proofs.load_all.relocate_each.Given as goal

-- the last objects are relocated
abbrev pub invariant-loop-done : goal.invariant-loop-done
invariant-loop-done g l = record {
  begin_is : l.begin ≡ begin_at (loaded_plans l.planned).now (length (loaded_plans l.planned).now - l.done);
  size : length l.memory ≡ length l.fn.memory;
  made : AreRelocated g.E.Entry.fields (loaded_objects l.planned) (loaded_plans l.planned) l.when l.places l.fn.memory (length (loaded_plans l.planned).now - l.done) l.memory l.left;
}
