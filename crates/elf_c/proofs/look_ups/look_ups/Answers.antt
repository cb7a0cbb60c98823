use Rattle.std.proofs.Common.{◌<◌, length, arith}
use Rattle.std.proofs.lemmas.Option.{slice_get-get_or}
use Rattle.elf_c.proofs.Answering.{all_answered, none_yet, one_more}
use Rattle.elf_c.proofs.look_ups.look_ups.Goals as goal

pub loop-place-init : goal.loop-place-init
loop-place-init c = none_yet _ _ _ _

pub loop-place-preserved : goal.loop-place-preserved
loop-place-preserved c =
    let room : c.loop-place.place < length c.loop-place.out = (let long = c.loop-place.invariant.long in omega arith) in
    let ranged : c.loop-place.place < length c.args.ranges.now = omega arith in
    one_more _ _ _ _ _ _ _ _ _ room (slice_get-get_or _ _ _ ranged) c.look_up_at.ensures c.of.ensures c.loop-place.invariant

pub returns : goal.returns
returns c = all_answered _ _ _ _ _ _ (λ k in_ranges in_old. omega (arith, in_ranges, in_old)) (omega arith) c.loop-place.invariant
