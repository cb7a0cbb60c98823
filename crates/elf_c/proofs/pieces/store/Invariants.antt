use Rattle.std.proofs.Common.{◌≡◌, ◌≤◌, ◌+◌, length, map}
use Rattle.elf_c.specs.Pieces.{IsRows}
use Rattle.elf_c.proofs.pieces.store.Given as goal

abbrev pub invariant-loop-piece : goal.invariant-loop-piece
invariant-loop-piece g l =
    let turns = goal.iterator-loop-piece g in
    (turns.can_next l.piece-iterator)
    × (turns.is_finite l.piece-iterator)
    × (l.count + turns.remaining l.piece-iterator ≤ turns.remaining l.initial.piece-iterator)
    × (l.count ≡ length l.yielded)
    × IsRows (map g.I.Item.Stored.numbers_of l.yielded) l.first l.initial.out l.out
