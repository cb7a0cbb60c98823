use Rattle.std.proofs.Common.{◌≡◌, ◌≤◌, ◌-◌, ◌+◌, length, map, take}
use Rattle.std.specs.List.{All}
use Rattle.elf_addresses.proofs.Merging.{Merged}
use Rattle.elf_c.specs.SizeChanges.{IsOwnRow, change_at, sized}
use Rattle.elf_c.proofs.size_changes.merge.Given as goal

-- the parts so far are merged, and each row so far is that of its change
abbrev pub invariant-parts : goal.invariant-parts
invariant-parts l =
    Merged (map sized l.old) (map sized l.new) l.first l.second (map (change_at l.old l.new l.none) (take l.count l.rows))
    × All (IsOwnRow l.old l.new l.none) (take l.count l.rows)
    × (l.count ≤ length l.rows)
    × (length l.rows ≡ length l.fn.rows)

-- fewer parts are left
abbrev pub decreases-parts : goal.decreases-parts
decreases-parts l = (length l.old - l.first) + (length l.new - l.second)
