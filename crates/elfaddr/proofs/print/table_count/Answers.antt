use Rattle.std.proofs.Common.{Ok, subst}
use Rattle.std.proofs.lemmas.Result.{err_from_is_err_and}
use Rattle.elf_linking.specs.AnyTable.{IsLinkedTable}
use Rattle.elf_linking.specs.DynamicView.{view_entries}
use Rattle.elfaddr.specs.Tables.{by_chains, by_runs, no_table, no_view}
use Rattle.elfaddr.proofs.print.table_count.Goals as goal

pub returns-in_err-view : goal.returns-in_err-view
returns-in_err-view c =
    let p = err_from_is_err_and c.from_residual.result c.from_residual.ensures.1 in
    rw (p.1, p.2) (no_view _ c.in_err-view.ensures.exact)

pub returns-in_err-table : goal.returns-in_err-table
returns-in_err-table c =
    let p = err_from_is_err_and c.from_residual-in_err-table.result c.from_residual-in_err-table.ensures.1 in
    rw (p.1, p.2) (no_table (view_entries c.in_ok-view.view) _ c.in_ok-view.ensures.exact.0 c.in_err-table.ensures)

pub returns-in-Gnu : goal.returns-in-Gnu
returns-in-Gnu c =
    let entries = view_entries c.in_ok-view.view in
    let linked = subst (λ t. IsLinkedTable c.args.file.now entries (Ok t)) c.in-Gnu.is c.in_ok-table.ensures in
    by_runs entries c.in-Gnu.table c.symbol_count.result c.in_ok-view.ensures.exact.0 linked c.symbol_count.ensures.exact

pub returns-in-Sysv : goal.returns-in-Sysv
returns-in-Sysv c =
    let entries = view_entries c.in_ok-view.view in
    let linked = subst (λ t. IsLinkedTable c.args.file.now entries (Ok t)) c.in-Sysv.is c.in_ok-table.ensures in
    rw (c.from.ensures, c.chain_count.ensures) (by_chains entries c.in-Sysv.table c.in_ok-view.ensures.exact.0 linked)
