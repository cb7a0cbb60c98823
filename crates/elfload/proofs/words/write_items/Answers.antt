use Rattle.std.proofs.Common.{rules}
use Rattle.elfload.proofs.WordLines.{lines_begin, lines_end, lines_more, lines_stop}
use Rattle.elfload.proofs.words.write_items.Goals as goal
use Rattle.program_ends.proofs.Ends.{stop_so}

pub loop-item-init : goal.loop-item-init
loop-item-init g c = lines_begin g.E.Entry.fields c.args.place c.args.words _ _ (search rules)

pub loop-item-preserved : goal.loop-item-preserved
loop-item-preserved g c =
    let step = c.in-Some.ensures.steps in
    lines_more g.E.Entry.fields c.args.place c.args.words c.loop-item.item-iterator c.next.new.self c.in-Some.item _ _ c.loop-item.invariant step.0 step.2 _ step.1 c.in-Ok.ensures.0 c.in-Ok.ensures.1

pub returns : goal.returns
returns g c = lines_end g.E.Entry.fields c.args.place c.args.words c.loop-item.item-iterator _ _ (search rules) c.loop-item.invariant

pub returns-in-Err : goal.returns-in-Err
returns-in-Err g c =
    let step = c.in-Some.ensures.steps in
    stop_so _ _ _ _ _ _ c.in-Err.stop (λ failed told. (told.0, lines_stop g.E.Entry.fields c.args.place c.args.words c.loop-item.item-iterator c.next.new.self c.in-Some.item _ _ c.loop-item.invariant step.0 step.2 failed.error told.1))
    (λ written. written) (λ never. never) c.in-Err.ensures
