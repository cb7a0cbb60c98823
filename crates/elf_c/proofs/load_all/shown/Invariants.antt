use Rattle.std.proofs.Common.{◌≡◌, ◌<◌, ◌≤◌, ◌+◌, ◌-◌, length, drop}
use Rattle.elf_c.specs.LoadAll.{begin_at, total_size}
use Rattle.elf_c.proofs.LoadAll.{AreShownTo}
use Rattle.elf_c.specs.declared.load_objects.TheConstants.{MOST_OBJECTS}
use Rattle.elf_c.proofs.load_all.shown.Given as goal

-- the images before an index are shown, and the rest is that of the others
abbrev pub invariant-loop-index : goal.invariant-loop-index
invariant-loop-index l = record {
  long : length l.images ≡ MOST_OBJECTS;
  above : l.of < l.index;
  order : begin_at l.plans (l.of + 1) ≤ begin_at l.plans l.index;
  sum : begin_at l.plans l.index + length l.rest ≡ total_size l.plans;
  here : l.rest ≡ drop (begin_at l.plans l.index - begin_at l.plans (l.of + 1)) l.behind;
  set : AreShownTo l.plans l.of l.behind l.index l.images;
}
