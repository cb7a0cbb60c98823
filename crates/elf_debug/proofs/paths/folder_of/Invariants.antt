use Rattle.std.proofs.Common.{◌≡◌, length}
use Rattle.elf_debug.specs.Paths.{folder_of}
use Rattle.elf_debug.proofs.paths.folder_of.Given as goal

abbrev pub invariant-loop-last : goal.invariant-loop-last
invariant-loop-last l = folder_of l.rest ≡ folder_of l.path

abbrev pub decreases-loop-last : goal.decreases-loop-last
decreases-loop-last l = length l.rest
