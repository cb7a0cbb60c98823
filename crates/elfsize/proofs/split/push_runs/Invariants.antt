use Rattle.elf_addresses.specs.SymbolPieces.{piece_claims, symbol_limit, symbol_place}
use Rattle.elfsize.proofs.SplitRuns.{AreInnerTo}
use Rattle.elfsize.proofs.split.push_runs.Given as goal

-- the runs of the pieces so far
abbrev pub invariant-loop-piece : goal.invariant-loop-piece
invariant-loop-piece g l =
    let all = l.fn.pieces in
    AreInnerTo g.E.Entry.fields (piece_claims g.E.Entry.fields all) l.fn.index (symbol_place all) (symbol_limit all) l.piece-iterator l.fn.runs.items l.runs.items
