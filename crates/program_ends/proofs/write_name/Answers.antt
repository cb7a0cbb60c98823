use Rattle.std.proofs.Common.{◌≡◌, ◌++◌, take, get_or, None, Some, sym, ap, ◌∙◌, subst, arith}
use Rattle.std.proofs.KnownBytes.{Appends-trans}
use Rattle.std.proofs.lemmas.Result.{on_ok_weaker}
use Rattle.std.specs.Char.{is_ascii_control}
use Rattle.std.specs.Io.KnownBytes.{Appends}
use Rattle.program_ends.specs.Names.{escaped, escaped_byte}
use Rattle.program_ends.proofs.Names.{control_below, control_byte, plain_byte}
use Rattle.program_ends.proofs.Runs.{first_found, one_more}
use Rattle.program_ends.proofs.write_name.Goals as goal

pub overflow_add-rest : goal.overflow_add-rest
overflow_add-rest g c =
    let first = first_found is_ascii_control escaped_byte plain_byte c.runs.rest.now (Some c.in-Some.place) c.in-Some.ensures.value in
    let small = control_below (get_or c.runs.rest.now c.in-Some.place 0) first.picked in
    omega (arith, small)

pub runs-preserved : goal.runs-preserved
runs-preserved g c =
    let (text, so_far, grown) = c.runs.invariant in
    let rest = c.runs.rest.now in
    let place = c.in-Some.place in
    let first = first_found is_ascii_control escaped_byte plain_byte rest (Some place) c.in-Some.ensures.value in
    let written = control_byte _ first.picked in (
      (text ++ take place rest) ++ escaped_byte (get_or rest place 0),
      one_more is_ascii_control escaped_byte plain_byte c.args.name.now rest text place first so_far,
      Appends-trans _ _ _ _ _ (Appends-trans _ _ _ _ _ grown c.in_ok-write_all.ensures.bytes)
          (subst (Appends _ _) (sym written) c.in_ok-write_all-2.ensures.bytes),
    )

pub returns : goal.returns
returns g c =
    let (text, so_far, grown) = c.runs.invariant in
    let plain = first_found is_ascii_control escaped_byte plain_byte c.runs.rest.now None c.in_default.ensures.value in
    let whole : text ++ c.runs.rest.now ≡ escaped c.args.name.now = ap (λ rest. text ++ rest) (sym plain) ∙ so_far in
    on_ok_weaker c.write_all-2.result (λ last. subst (Appends (g.W.Write.contents c.args.out.now) (g.W.Write.contents c.write_all-2.new.self)) whole (Appends-trans _ _ _ _ _ grown last)) c.write_all-2.ensures.bytes
