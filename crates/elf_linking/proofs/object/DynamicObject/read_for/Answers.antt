use Rattle.std.proofs.Common.{sym, ◌∙◌}
use Rattle.std.proofs.lemmas.Result.{err_from_is_err_and}
use Rattle.elf_base.specs.Table.{table_data}
use Rattle.elf_linking.specs.DynamicObject.{no_entries, no_strings, no_symbols, no_table, no_versions}
use Rattle.elf_linking.specs.DynamicView.{view_entries}
use Rattle.elf_linking.proofs.DynamicObjects.{versions_by}
use Rattle.elf_linking.proofs.object.DynamicObject.read_for.Goals as goal

pub returns-in_err-view : goal.returns-in_err-view
returns-in_err-view g c =
    let p = err_from_is_err_and c.from_residual.result c.from_residual.ensures.1 in
    rw (p.1, p.2) (no_entries _ c.in_err-view.ensures.exact)

pub returns-in_err-table : goal.returns-in_err-table
returns-in_err-table g c =
    let p = err_from_is_err_and c.from_residual-in_err-table.result c.from_residual-in_err-table.ensures.1 in
    rw (p.1, p.2) (no_table (view_entries c.in_ok-view.view) _ c.in_ok-view.ensures.exact.0 c.in_err-table.ensures)

pub returns-in_err-symbols : goal.returns-in_err-symbols
returns-in_err-symbols g c =
    let p = err_from_is_err_and c.from_residual-in_err-symbols.result c.from_residual-in_err-symbols.ensures.1 in
    rw (p.1, p.2) (no_symbols (view_entries c.in_ok-view.view) c.in_ok-table.table _ c.in_ok-view.ensures.exact.0 c.in_ok-table.ensures c.in_err-symbols.ensures.exact)

pub returns-in_err-strings : goal.returns-in_err-strings
returns-in_err-strings g c =
    let p = err_from_is_err_and c.from_residual-in_err-strings.result c.from_residual-in_err-strings.ensures.1 in
    rw (p.1, p.2) (no_strings (view_entries c.in_ok-view.view) c.in_ok-table.table (table_data c.in_ok-symbols.symbols) _ c.in_ok-view.ensures.exact.0 c.in_ok-table.ensures c.in_ok-symbols.ensures.exact.0
    (sym c.in_ok-view.ensures.exact.1 ∙ sym c.in_err-strings.ensures.value))

pub returns-in_err-versions : goal.returns-in_err-versions
returns-in_err-versions g c =
    let p = err_from_is_err_and c.from_residual-in_err-versions.result c.from_residual-in_err-versions.ensures.1 in
    rw (p.1, p.2) (no_versions (view_entries c.in_ok-view.view) c.in_ok-table.table (table_data c.in_ok-symbols.symbols) c.in_ok-strings.strings.now _ c.in_ok-view.ensures.exact.0 c.in_ok-table.ensures
    c.in_ok-symbols.ensures.exact.0
    (sym c.in_ok-view.ensures.exact.1 ∙ sym c.in_ok-strings.ensures.value)
    (versions_by c.args.file.now (view_entries c.in_ok-view.view) _ c.in_ok-strings.strings.now c.len.result _ (table_data c.in_ok-symbols.symbols) _ (sym c.in_ok-strings.ensures.value) g.met.E.Record.size_above_zero c.len.ensures.whole c.in_err-versions.ensures))
