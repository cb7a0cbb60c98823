use Rattle.elf_addresses.specs.Pieces.{pieces_file}
use Rattle.elfsize.proofs.Runs.{AreRunsTo}
use Rattle.elfsize.proofs.parts.runs_of.Given as goal

-- the runs of the pieces so far
abbrev pub invariant-loop-piece : goal.invariant-loop-piece
invariant-loop-piece l = AreRunsTo (pieces_file l.fn.pieces) l.piece-iterator l.runs.items
