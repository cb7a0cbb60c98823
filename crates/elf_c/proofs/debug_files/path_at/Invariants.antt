use Rattle.std.proofs.Common.{◌≡◌, length, slice_get}
use Rattle.elf_debug.specs.Paths.{paths_left}
use Rattle.elf_c.proofs.debug_files.path_at.Given as goal

-- the path at the index is among those that are left
abbrev pub invariant-ways : goal.invariant-ways
invariant-ways l = slice_get (paths_left l.rest) l.left ≡ slice_get (paths_left l.fn.paths) l.fn.index

-- fewer paths are left
abbrev pub decreases-ways : goal.decreases-ways
decreases-ways l = length (paths_left l.rest)
