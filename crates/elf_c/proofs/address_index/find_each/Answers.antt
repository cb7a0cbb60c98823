use Rattle.std.proofs.Common.{◌<◌, length, arith}
use Rattle.std.proofs.lemmas.Option.{slice_get-get_or}
use Rattle.elf_c.proofs.Storing.{all_stored, none_yet, one_more}
use Rattle.elf_c.proofs.address_index.find_each.Goals as goal

pub loop-place-init : goal.loop-place-init
loop-place-init g c = none_yet _ _ _

pub loop-place-preserved : goal.loop-place-preserved
loop-place-preserved g c =
    let room : c.loop-place.place < length c.loop-place.out = (let long = c.loop-place.invariant.long in omega arith) in
    let there : c.loop-place.place < length c.args.addresses.now = omega arith in
    one_more _ _ _ _ _ _ _ room (slice_get-get_or _ _ _ there) c.find_one.ensures c.loop-place.invariant

pub returns : goal.returns
returns g c = all_stored _ _ _ _ _ (λ k in_addresses in_old. omega (arith, in_addresses, in_old)) (omega arith) c.loop-place.invariant
