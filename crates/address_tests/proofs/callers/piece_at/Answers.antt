use Rattle.std.proofs.Common.{◌≡◌, ◌≤◌, subst, arith}
use Rattle.elf_addresses.specs.Pieces.{IsPiece, pieces_place}
use Rattle.address_tests.proofs.callers.piece_at.Goals as goal

pub returns-then-offset-piece : goal.returns-then-offset-piece
returns-then-offset-piece c =
    let piece = c.in-Some.piece in
    let step = c.in-Some.ensures.steps in
    let begins : piece.begin ≡ pieces_place c.loop-piece.piece-iterator = step.1.0 in
    let place : pieces_place c.loop-piece.piece-iterator ≤ c.args.offset = c.loop-piece.invariant.1 in
    let from : piece.begin ≤ c.args.offset = omega arith in
    let is_piece : IsPiece c.args.file.now piece = subst (λ f. IsPiece f piece) c.loop-piece.invariant.0 step.1.2 in
    (from, c.if-offset-piece.true, is_piece.same c.args.offset from c.if-offset-piece.true)
