use Rattle.std.proofs.Common.{◌≡◌}
use Rattle.elf_search.specs.Paths.{are_slashes}
use Rattle.elf_search.specs.Tokens.{expanded_left}
use Rattle.elf_search.proofs.paths.are_slashes.Given as goal

abbrev pub invariant-loop-byte : goal.invariant-loop-byte
invariant-loop-byte l = are_slashes (expanded_left l.byte-iterator) ≡ are_slashes (expanded_left l.bytes)
