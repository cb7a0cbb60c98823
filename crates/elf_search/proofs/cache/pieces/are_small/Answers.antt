use Rattle.std.proofs.Common.{◌≡◌, ◌∙◌, true, false, sym, arith}
use Rattle.std.proofs.lemmas.Bool.{both_ways}
use Rattle.std.proofs.lemmas.Grind.{common_steps}
use Rattle.elf_search.proofs.NamePieces.{large_first, shorter_rest, small_ended, small_next}
use Rattle.elf_search.proofs.cache.pieces.are_small.Goals as goal

pub returns-then-is_end : goal.returns-then-is_end
returns-then-is_end c = sym (c.loop-others.invariant ∙ small_ended _ _ _ c.first_piece-piece.ensures (c.is_end.ensures.0 c.if-is_end.true))

pub returns-then-not-is_small : goal.returns-then-not-is_small
returns-then-not-is_small c =
    let large : c.is_small.result ≡ false = first_of (cc, grind (arith, common_steps)) in
    sym (c.loop-others.invariant ∙ large_first _ _ _ c.first_piece-piece.ensures (sym c.is_small.ensures ∙ large))

pub loop-others-smaller : goal.loop-others-smaller
loop-others-smaller c = shorter_rest _ _ _ c.first_piece-piece.ensures (λ end. both_ways c.is_end.result c.if-is_end.false (c.is_end.ensures.1 end))

pub loop-others-preserved : goal.loop-others-preserved
loop-others-preserved c =
    let small : c.is_small.result ≡ true = first_of (cc, grind (arith, common_steps)) in
    c.loop-others.invariant ∙ small_next _ _ _ c.first_piece-piece.ensures (sym c.is_small.ensures ∙ small) (λ end. both_ways c.is_end.result c.if-is_end.false (c.is_end.ensures.1 end))
