use Rattle.std.proofs.Common.{rules, ◌∙◌}
use Rattle.elfload.proofs.StartValues.{set_begin, set_end, set_more, set_stop}
use Rattle.elfload.proofs.arrays.set_words.Goals as goal
use Rattle.program_ends.proofs.Ends.{stop_so}

pub loop-item-init : goal.loop-item-init
loop-item-init g c = set_begin g.E.Entry.fields c.args.slots.now c.args.words c.args.before.items _ (search rules)

pub set_word-requires-clause-all : goal.set_word-requires-clause-all
set_word-requires-clause-all g c = c.loop-item.invariant.all ∙ c.requires.all

pub loop-item-preserved : goal.loop-item-preserved
loop-item-preserved g c =
    let step = c.in-Some.ensures.steps in
    set_more g.E.Entry.fields c.args.slots.now c.args.words c.args.before.items c.loop-item.item-iterator c.next.new.self c.in-Some.item c.loop-item.values.items c.loop-item.invariant step.0 step.2 c.in-Ok.after.items step.1 c.in-Ok.ensures.0 c.in-Ok.ensures.1 c.in-Ok.ensures.2

pub returns : goal.returns
returns g c = set_end g.E.Entry.fields c.args.slots.now c.args.words c.args.before.items c.loop-item.item-iterator c.loop-item.values.items (search rules) c.loop-item.invariant

pub returns-in-Err : goal.returns-in-Err
returns-in-Err g c =
    let step = c.in-Some.ensures.steps in
    stop_so _ _ _ _ _ _ c.in-Err.stop (λ failed told. (told.0, set_stop g.E.Entry.fields c.args.slots.now c.args.words c.args.before.items c.loop-item.item-iterator c.next.new.self c.in-Some.item c.loop-item.values.items c.loop-item.invariant step.0 step.2 failed.error told.1))
    (λ never. never) (λ never. never) c.in-Err.ensures
