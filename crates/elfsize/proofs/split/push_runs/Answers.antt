use Rattle.elfsize.proofs.SplitRuns.{all_inner, inner_step, none_inner}
use Rattle.elfsize.proofs.split.push_runs.Goals as goal

pub loop-piece-init : goal.loop-piece-init
loop-piece-init g c = rw c.into_iter-piece-iterator.ensures.into_iter_gives (none_inner g.E.Entry.fields c.args.index c.args.pieces c.args.runs.now.items)

pub loop-piece-preserved : goal.loop-piece-preserved
loop-piece-preserved g c =
    rw c.in_ok-push_one.ensures (inner_step g.E.Entry.fields _ c.args.index _ _ c.loop-piece.piece-iterator c.next.new.self c.in-Some.piece c.symbol_run.result c.args.runs.now.items c.loop-piece.runs.items
    c.in-Some.ensures.steps c.symbol_run.ensures.value c.symbol_run.ensures.small c.loop-piece.invariant)

pub returns : goal.returns
returns g c =
    all_inner g.E.Entry.fields _ c.args.index _ _ c.loop-piece.piece-iterator c.next.new.self c.args.runs.now.items c.loop-piece.runs.items
    c.in-None.ensures.steps c.loop-piece.invariant
