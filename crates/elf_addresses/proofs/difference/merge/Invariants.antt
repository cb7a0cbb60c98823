use Rattle.std.proofs.Common.{◌≡◌, ◌≤◌, ◌-◌, ◌+◌, length, take}
use Rattle.elf_addresses.proofs.Merging.{Merged}
use Rattle.elf_addresses.proofs.difference.merge.Given as goal

-- the parts so far are merged
abbrev pub invariant-parts : goal.invariant-parts
invariant-parts l =
    Merged l.old l.new l.first l.second (take l.count l.changes)
    × (l.count ≤ length l.changes)
    × (length l.changes ≡ length l.fn.changes)

-- fewer parts are left
abbrev pub decreases-parts : goal.decreases-parts
decreases-parts l = (length l.old - l.first) + (length l.new - l.second)
