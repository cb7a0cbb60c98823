use Rattle.std.proofs.Common.{◌-◌, length}
use Rattle.elf_addresses.proofs.Keys.{SortedTo}
use Rattle.elf_addresses.proofs.index.keys.sort_runs.Given as goal

abbrev pub invariant-loop-start : goal.invariant-loop-start
invariant-loop-start g l =
    SortedTo (g.C.Claims.claim_of l.claims) (g.C.Claims.range_of l.claims) l.keys l.fn.words l.words l.start

abbrev pub decreases-loop-start : goal.decreases-loop-start
decreases-loop-start g l = length l.words - l.start
