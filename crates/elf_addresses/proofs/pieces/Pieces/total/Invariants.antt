use Rattle.std.proofs.Common.{◌≡◌, ◌+◌}
use Rattle.elf_addresses.specs.Pieces.{bytes_left}
use Rattle.elf_addresses.proofs.pieces.Pieces.total.Given as goal

abbrev pub invariant-loop-piece : goal.invariant-loop-piece
invariant-loop-piece l = l.sum + bytes_left l.piece-iterator ≡ bytes_left l.initial.piece-iterator
