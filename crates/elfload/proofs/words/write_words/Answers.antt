use Rattle.elfload.specs.Words.{IsAskedText}
use Rattle.elfload.proofs.Texts.{none_written, one_more}
use Rattle.elfload.proofs.words.write_words.Goals as goal
use Rattle.program_ends.proofs.Ends.{stop_so}

pub loop-of-init : goal.loop-of-init
loop-of-init g c = none_written (IsAskedText g.E.Entry.fields c.args.form c.args.when c.args.inputs.now c.args.objects.now) _

pub loop-of-preserved : goal.loop-of-preserved
loop-of-preserved g c =
    one_more (IsAskedText g.E.Entry.fields c.args.form c.args.when c.args.inputs.now c.args.objects.now) c.args.objects.now c.loop-of.of _ _ _ c.loop-of.invariant c.in-Ok.ensures

pub returns-in-Err : goal.returns-in-Err
returns-in-Err g c = stop_so _ _ _ _ _ _ c.in-Err.stop (λ failed told. record { of = c.loop-of.of; path_is = told.0; error_is = told.1 })
    (λ written. written) (λ never. never) c.in-Err.ensures
