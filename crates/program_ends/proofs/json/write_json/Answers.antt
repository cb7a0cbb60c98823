use Rattle.std.proofs.Common.{subst}
use Rattle.std.proofs.KnownBytes.{Appends-trans}
use Rattle.std.proofs.lemmas.Result.{on_ok_weaker}
use Rattle.std.specs.Io.KnownBytes.{Appends}
use Rattle.program_ends.specs.Json.{json_member}
use Rattle.program_ends.proofs.JsonTexts.{all_members, one_member}
use Rattle.program_ends.proofs.json.write_json.Goals as goal

pub loop-member-preserved : goal.loop-member-preserved
loop-member-preserved g c =
    let (text, so_far, grown) = c.loop-member.invariant in (
      _,
      one_member json_member c.args.members.now c.loop-member.member-index text _ c.loop-member.between.now _ c.loop-member-test.true so_far,
      Appends-trans _ _ _ _ _ (Appends-trans _ _ _ _ _ grown c.in_ok-write_all-2.ensures.bytes) c.in_ok-write_member.ensures,
    )

pub returns : goal.returns
returns g c =
    let (text, so_far, grown) = c.loop-member.invariant in
    let whole = all_members json_member c.args.members.now c.loop-member.member-index text _ c.loop-member.between.now c.loop-member-test.false so_far in
    on_ok_weaker c.write_all-2.result
    (λ last. Appends-trans _ _ _ _ _ (subst (Appends (g.W.Write.contents c.args.out.now) (g.W.Write.contents c.loop-member.out)) whole grown) last) c.write_all-2.ensures.bytes
