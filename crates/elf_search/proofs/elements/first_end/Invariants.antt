use Rattle.std.proofs.Common.{◌≡◌, ◌+◌, length}
use Rattle.elf_search.specs.Elements.{first_end}
use Rattle.elf_search.proofs.elements.first_end.Given as goal

abbrev pub invariant-loop-byte : goal.invariant-loop-byte
invariant-loop-byte l = (l.count + first_end l.separators l.rest ≡ first_end l.separators l.text)
    × (l.count + length l.rest ≡ length l.text)

abbrev pub decreases-loop-byte : goal.decreases-loop-byte
decreases-loop-byte l = length l.rest
