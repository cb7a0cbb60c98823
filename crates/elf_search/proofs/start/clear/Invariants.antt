use Rattle.std.proofs.Common.{◌≡◌, ℕ, ◌<◌, get_or}
use Rattle.elf_search.proofs.start.clear.Given as goal

abbrev pub invariant-loop-cursor : goal.invariant-loop-cursor
invariant-loop-cursor l = (k : ℕ) → k < l.cursor-index → get_or l.cursors k 0 ≡ 4294967295
