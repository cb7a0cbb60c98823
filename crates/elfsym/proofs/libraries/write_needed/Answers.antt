use Rattle.std.proofs.Common.{[], ◌++◌, rules}
use Rattle.std.proofs.KnownBytes.{Appends-nil, Appends-trans}
use Rattle.elfsym.proofs.LibraryLines.{all_lines, no_line_so_far, one_more_line}
use Rattle.elfsym.proofs.Stops.{stop_at_name}
use Rattle.elfsym.proofs.libraries.write_needed.Goals as goal

pub loop-name-init : goal.loop-name-init
loop-name-init g c = ([], no_line_so_far c.args.form _ _ (search rules), Appends-nil _)

pub loop-name-preserved : goal.loop-name-preserved
loop-name-preserved g c =
    let (text, so_far, grown) = c.loop-name.invariant in
    let (line, is_line, more) = c.in-Ok.ensures in (
      text ++ line,
      one_more_line c.args.form _ _ _ _ text line c.in-Some.ensures.steps is_line so_far,
      Appends-trans _ _ _ _ _ grown more,
    )

pub returns : goal.returns
returns g c =
    let (text, so_far, grown) = c.loop-name.invariant in
    (text, all_lines c.args.form _ _ text (search rules) so_far, grown)

pub returns-in-Err : goal.returns-in-Err
returns-in-Err g c =
    let (text, so_far, grown) = c.loop-name.invariant in
    stop_at_name c.args.form _ _ _ _ text c.in-Err.stop c.in-Some.ensures.steps so_far c.in-Err.ensures
