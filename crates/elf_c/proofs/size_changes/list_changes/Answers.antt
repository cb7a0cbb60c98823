use Rattle.std.proofs.Common.{◌≡◌, length, map, subst, sym, take, ◌∙◌, IsPermutation, arith}
use Rattle.std.proofs.lemmas.List.{length-append, length-take-le, take_at}
use Rattle.std.proofs.lemmas.List.Sorted.{All-permutation, IsPermutation-map, length_permutation}
use Rattle.std.specs.List.{All, AllZip}
use Rattle.elf_addresses.specs.Differences.{change_order}
use Rattle.elf_addresses.proofs.Merging.{are_differences}
use Rattle.elf_c.specs.SizeChanges.{IsOwnRow, IsRow, change_at, sized}
use Rattle.elf_c.proofs.SizeRows.{each_row, sorted_keys}
use Rattle.elf_c.proofs.size_changes.list_changes.Goals as goal

pub returns : goal.returns
returns c =
    let old = c.args.old.now in
    let new = c.args.new.now in
    let olds = c.sort_parts.new.parts in
    let news = c.sort_parts-2.new.parts in
    let none = c.no_part-none.result in
    let count = c.merge-count.result in
    let front = take count c.merge-count.new.rows in
    let found = c.sort_rows.new.rows in
    let at = change_at olds news none in
    let moved : IsPermutation front found = subst (λ l. IsPermutation l found) c.split_at_mut-found.ensures.front c.sort_rows.ensures.moved in
    let long : length found ≡ count = length_permutation front found moved ∙ length-take-le count c.merge-count.new.rows c.merge-count.ensures.within in
    let rest = c.split_at_mut-found.result.1.now in
    let whole = length-append found rest in
    let own = All-permutation (IsOwnRow olds news none) front found moved c.merge-count.ensures.rows in (
      omega (arith, c.in-Some.ensures, c.if-count-rows.true),
      record {
        old_moved = c.sort_parts.ensures.moved;
        new_moved = c.sort_parts-2.ensures.moved;
        changes = map at found;
        are_changes = are_differences (map sized old) (map sized new) (map sized olds) (map sized news) (map at front) (map at found)
            (IsPermutation-map sized old olds c.sort_parts.ensures.moved) (IsPermutation-map sized new news c.sort_parts-2.ensures.moved)
            c.sort_parts.ensures.sorted c.sort_parts-2.ensures.sorted c.merge-count.ensures.merged (IsPermutation-map at front found moved)
            (sorted_keys at change_order found c.sort_rows.ensures.sorted);
        each = subst (λ l. AllZip (IsRow olds news) (map at found) l) (sym (take_at found rest count long)) (each_row olds news none found own);
        within = omega (arith, long, whole);
      },
    )
