use Rattle.std.proofs.Common.{◌≡◌, ◌≤◌}
use Rattle.elf_addresses.specs.Pieces.{pieces_file, pieces_place}
use Rattle.address_tests.proofs.callers.piece_at.Given as goal

-- the pieces so far are before the byte
abbrev pub invariant-loop-piece : goal.invariant-loop-piece
invariant-loop-piece l = (pieces_file l.piece-iterator ≡ l.file) × (pieces_place l.piece-iterator ≤ l.offset)
