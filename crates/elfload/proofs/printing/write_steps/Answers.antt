use Rattle.std.proofs.Common.{ap, ◌∙◌}
use Rattle.std.specs.List.{flat_map}
use Rattle.elfload.specs.Starts.{start_line}
use Rattle.elfload.proofs.StartParts.{written_so}
use Rattle.elfload.proofs.printing.write_steps.Goals as goal
use Rattle.program_ends.proofs.Ends.{stop_so}

pub returns-in-Ok : goal.returns-in-Ok
returns-in-Ok g c = written_so g.W.Write.contents _ _ _ _ _ _ c.write_buffered.result
    (λ text is. record { starts = c.in-Ok.starts.items; starts_are = c.in-Ok.ensures; text_is = is ∙ ap (flat_map (start_line c.args.form)) c.deref.ensures.value })
    (λ failed never. absurd never) c.write_buffered.ensures

pub returns-in-Err : goal.returns-in-Err
returns-in-Err g c = stop_so _ _ _ _ _ _ c.in-Err.stop (λ failed why. why) (λ never. absurd never) (λ short. short) c.in-Err.ensures
