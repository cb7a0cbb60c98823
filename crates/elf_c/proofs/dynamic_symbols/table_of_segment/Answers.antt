use Rattle.std.proofs.Common.{Ok, Err, refl}
use Rattle.std.proofs.lemmas.Result.{err_from_is_err_and}
use Rattle.elf_linking.specs.DynamicView.{view_entries}
use Rattle.elf_c.proofs.OpenedDynamics.{no_entries, of_entries}
use Rattle.elf_c.proofs.dynamic_symbols.table_of_segment.Goals as goal

pub returns-in_err-view : goal.returns-in_err-view
returns-in_err-view c =
    let p = err_from_is_err_and c.from_residual.result c.from_residual.ensures.1 in
    rw (p.1, p.2) (no_entries c.args.file.now _ c.in_err-view.ensures.exact)

pub returns : goal.returns
returns c = of_entries c.args.file.now (view_entries c.in_ok-view.view) (Ok c.in_ok-count.count) c.table_of_view.result
    c.in_ok-view.ensures.exact.0 c.in_ok-count.ensures.exact c.table_of_view.ensures

pub returns-in_err-count : goal.returns-in_err-count
returns-in_err-count c =
    let p = err_from_is_err_and c.from_residual-in_err-count.result c.from_residual-in_err-count.ensures.1 in
    rw (p.1, p.2) (of_entries c.args.file.now (view_entries c.in_ok-view.view) (Err _) _
    c.in_ok-view.ensures.exact.0 c.in_err-count.ensures.exact refl)
