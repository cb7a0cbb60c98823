use Rattle.std.proofs.Common.{sym, subst}
use Rattle.elf_addresses.specs.Differences.{AreMerged}
use Rattle.elf_addresses.proofs.Merging.{are_differences}
use Rattle.elf_addresses.proofs.difference.differences.Goals as goal

pub returns-clause-found : goal.returns-clause-found
returns-clause-found c =
    let olds = c.sort_parts.new.parts in
    let news = c.sort_parts-2.new.parts in
    let merged = subst (AreMerged olds news) (sym c.split_at_mut-found.ensures.front) c.merge-count.ensures.merged in
    are_differences c.args.old.now c.args.new.now olds news _ c.sort_changes.new.changes c.sort_parts.ensures.moved c.sort_parts-2.ensures.moved c.sort_parts.ensures.sorted c.sort_parts-2.ensures.sorted merged c.sort_changes.ensures.moved c.sort_changes.ensures.sorted

pub returns-clause-olds : goal.returns-clause-olds
returns-clause-olds c = (c.sort_parts.ensures.moved, c.sort_parts.ensures.sorted)

pub returns-clause-news : goal.returns-clause-news
returns-clause-news c = (c.sort_parts-2.ensures.moved, c.sort_parts-2.ensures.sorted)
