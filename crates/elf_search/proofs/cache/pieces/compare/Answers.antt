use Rattle.std.proofs.Common.{◌≡◌, ◌∙◌, true, false, sym, arith}
use Rattle.std.proofs.lemmas.Bool.{both_ways}
use Rattle.std.proofs.lemmas.Grind.{common_steps}
use Rattle.elf_search.proofs.NamePieces.{order_ended, order_first, order_next, shorter_rest}
use Rattle.elf_search.proofs.cache.pieces.compare.Goals as goal

pub returns-then-not-is_equal : goal.returns-then-not-is_equal
returns-then-not-is_equal c =
    let differ : c.is_equal.result ≡ false = first_of (cc, grind (arith, common_steps)) in
    c.compare_pieces-order.ensures ∙ sym (c.loop-rest.invariant ∙ order_first _ _ _ _ _ _ c.first_piece-piece.ensures c.first_piece-other_piece.ensures (λ same. both_ways c.is_equal.result differ (c.is_equal.ensures.1 (c.compare_pieces-order.ensures ∙ same))))

pub returns-then-is_end : goal.returns-then-is_end
returns-then-is_end c =
    c.compare_pieces-order.ensures ∙ sym (c.loop-rest.invariant ∙ order_ended _ _ _ _ _ _ c.first_piece-piece.ensures c.first_piece-other_piece.ensures (c.is_end.ensures.0 c.if-is_end.true))

pub loop-rest-smaller : goal.loop-rest-smaller
loop-rest-smaller c = shorter_rest _ _ _ c.first_piece-piece.ensures (λ end. both_ways c.is_end.result c.if-is_end.false (c.is_end.ensures.1 end))

pub loop-rest-preserved : goal.loop-rest-preserved
loop-rest-preserved c =
    let same : c.is_equal.result ≡ true = first_of (cc, grind (arith, common_steps)) in
    c.loop-rest.invariant ∙ order_next _ _ _ _ _ _ c.first_piece-piece.ensures c.first_piece-other_piece.ensures (sym c.compare_pieces-order.ensures ∙ c.is_equal.ensures.0 same) (λ end. both_ways c.is_end.result c.if-is_end.false (c.is_end.ensures.1 end))
