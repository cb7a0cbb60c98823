use Rattle.std.proofs.Common.{◌≡◌, ◌<◌, ◌+◌, Some, length, slice_get, sym, take, ◌∙◌, arith}
use Rattle.std.proofs.lemmas.List.{length-set, length-take-le, take_more_set}
use Rattle.elf_addresses.specs.Differences.{change_of}
use Rattle.elf_addresses.proofs.Merging.{merged_end, merged_room, merged_step}
use Rattle.elf_addresses.proofs.difference.merge.Goals as goal

pub parts-preserved : goal.parts-preserved
parts-preserved c =
    let (so_far, within, same) = c.parts.invariant in
    let olds = c.args.old.now in
    let news = c.args.new.now in
    let changes = c.parts.changes in
    let count = c.parts.count in
    let change = c.in-Some.change in
    let found : change_of (slice_get olds c.parts.first) (slice_get news c.parts.second) ≡ Some change = sym c.in-Some.ensures in
    let room = merged_room olds news c.requires.old_sorted c.requires.new_sorted c.parts.first c.parts.second (take count changes) so_far change found in
    let counted : length (take count changes) ≡ count = length-take-le count changes within in
    let below : count < length changes = omega (arith, room, counted, same, c.requires.room) in
    let step = merged_step olds news c.requires.old_sorted c.requires.new_sorted c.parts.first c.parts.second (take count changes) so_far change found in
    let kept = length-set changes count change in (
      rw (c.old_count-first.ensures, c.new_count-second.ensures, take_more_set changes count change below) step,
      omega (arith, below, kept),
      kept ∙ same,
    )

pub returns-clause-merged : goal.returns-clause-merged
returns-clause-merged c =
    let (so_far, within, same) = c.parts.invariant in
    merged_end c.args.old.now c.args.new.now c.requires.old_sorted c.requires.new_sorted c.parts.first c.parts.second (take c.parts.count c.parts.changes) so_far (sym c.in_default.ensures)
