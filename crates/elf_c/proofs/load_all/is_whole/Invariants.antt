use Rattle.std.proofs.Common.{◌≡◌, ◌+◌}
use Rattle.elf_c.specs.LoadAll.{begin_at}
use Rattle.elf_c.proofs.load_all.is_whole.Given as goal

-- what is left for the images from an index on
abbrev pub invariant-loop-index : goal.invariant-loop-index
invariant-loop-index l = l.rest + begin_at l.plans l.index ≡ l.memory
