use Rattle.std.proofs.Common.{◌≡◌, length}
use Rattle.elf_search.specs.Tokens.{is_known, values_of}
use Rattle.elf_search.proofs.tokens.is_known.Given as goal

abbrev pub invariant-loop-byte : goal.invariant-loop-byte
invariant-loop-byte l = is_known (values_of l.values) l.rest ≡ is_known (values_of l.values) l.text

abbrev pub decreases-loop-byte : goal.decreases-loop-byte
decreases-loop-byte l = length l.rest
