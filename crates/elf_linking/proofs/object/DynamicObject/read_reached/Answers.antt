use Rattle.std.proofs.lemmas.Result.{err_from_is_err_and}
use Rattle.elf_linking.specs.DynamicObject.{no_count, no_view}
use Rattle.elf_linking.specs.DynamicView.{view_entries}
use Rattle.elf_linking.proofs.DynamicObjects.{reached}
use Rattle.elf_linking.proofs.object.DynamicObject.read_reached.Goals as goal

pub returns-in_err-view : goal.returns-in_err-view
returns-in_err-view g c =
    let p = err_from_is_err_and c.from_residual.result c.from_residual.ensures.1 in
    rw (p.1, p.2) (no_view _ c.in_err-view.ensures.exact)

pub returns-in_err-count : goal.returns-in_err-count
returns-in_err-count g c =
    let p = err_from_is_err_and c.from_residual-in_err-count.result c.from_residual-in_err-count.ensures.1 in
    rw (p.1, p.2) (no_count (view_entries c.in_ok-view.view) _ c.in_ok-view.ensures.exact.0 c.in_err-count.ensures.exact)

pub returns : goal.returns
returns g c =
    reached _ _ c.args.file.now (view_entries c.in_ok-view.view) c.in_ok-count.count c.read_counted.result c.in_ok-view.ensures.exact.0 c.in_ok-count.ensures.exact c.read_counted.ensures
