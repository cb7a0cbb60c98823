use Rattle.std.proofs.Common.{rules, is_lt}
use Rattle.std.proofs.lemmas.Fn.{always_returns_same}
use Rattle.elf_c.specs.SizeChanges.{row_change_order}
use Rattle.elf_c.specs.declared.size_changes.SizeChange.{SizeChange}
use Rattle.elf_c.proofs.SizeRows.{rows_weak}
use Rattle.elf_c.proofs.size_changes.sort_rows.Goals as goal

pub returns-clause-sorted : goal.returns-clause-sorted
returns-clause-sorted c =
    let old = c.args.old.now in
    let new = c.args.new.now in
    c.sort_unstable_by.ensures.sorted (λ (x : SizeChange) (y : SizeChange). is_lt (row_change_order old new c.args.none x y)) (rows_weak old new c.args.none) (always_returns_same _ _ _ (λ a r f' k. search rules))
