use Rattle.std.proofs.Common.{◌≡◌, ◌<◌, ◌+◌, [], ◌∷◌, ◌++◌, Some, length, map, slice_get, ap, subst, sym, take, ◌∙◌, arith}
use Rattle.std.proofs.lemmas.List.{length-map, length-set, length-take-le, map-append, take_more_set}
use Rattle.std.proofs.lemmas.List.Elements.{All-append, All-cons, All-nil}
use Rattle.std.specs.List.{All}
use Rattle.elf_addresses.specs.Differences.{change_of}
use Rattle.elf_addresses.proofs.Merging.{merged_end, merged_room, merged_step}
use Rattle.elf_c.specs.SizeChanges.{IsOwnRow, IsRow, change_at, row_of, sized}
use Rattle.elf_c.proofs.SizeRows.{own_row}
use Rattle.elf_c.proofs.size_changes.merge.Goals as goal

pub parts-preserved : goal.parts-preserved
parts-preserved c =
    let (so_far, own_so_far, within, same) = c.parts.invariant in
    let old = c.args.old.now in
    let new = c.args.new.now in
    let none = c.args.none in
    let first = c.parts.first in
    let second = c.parts.second in
    let rows = c.parts.rows in
    let count = c.parts.count in
    let at = change_at old new none in
    let change = c.in-Some.change in
    let done = map at (take count rows) in
    let found : change_of (slice_get (map sized old) first) (slice_get (map sized new) second) ≡ Some change = sym c.in-Some.ensures in
    let room = merged_room (map sized old) (map sized new) c.requires.old_sorted c.requires.new_sorted first second done so_far change found in
    let counted : length done ≡ count = length-map (take count rows) at ∙ length-take-le count rows within in
    let olds = length-map old sized in
    let news = length-map new sized in
    let below : count < length rows = omega (arith, room, counted, same, olds, news, c.requires.room) in
    let step = merged_step (map sized old) (map sized new) c.requires.old_sorted c.requires.new_sorted first second done so_far change found in
    let own = own_row old new none first second change found in
    let row = row_of change first second in
    let taken = take_more_set rows count row below in
    let more : map at (take count rows ++ row ∷ []) ≡ done ++ change ∷ [] = map-append at (take count rows) (row ∷ []) ∙ ap (λ x. done ++ x ∷ []) own.0 in
    let all = All-append (IsOwnRow old new none) (take count rows) (row ∷ []) own_so_far
    (All-cons (IsOwnRow old new none) row [] (subst (λ x. IsRow old new x row) (sym own.0) own.1) (All-nil (IsOwnRow old new none))) in
    let kept = length-set rows count row in (
      rw (c.old_count-first.ensures, c.new_count-second.ensures, c.row_of.ensures, taken, more) step,
      rw (c.row_of.ensures, taken) all,
      rw c.row_of.ensures (omega (arith, below, kept)),
      rw c.row_of.ensures (kept ∙ same),
    )

pub returns-clause-merged : goal.returns-clause-merged
returns-clause-merged c =
    let (so_far, own_so_far, within, same) = c.parts.invariant in
    merged_end (map sized c.args.old.now) (map sized c.args.new.now) c.requires.old_sorted c.requires.new_sorted c.parts.first c.parts.second _ so_far (sym c.in_default.ensures)
