use Rattle.std.proofs.Common.{sym}
use Rattle.std.proofs.lemmas.Result.{err_from_is_err_and}
use Rattle.elf_base.specs.Table.{table_data}
use Rattle.elf_linking.specs.DynamicView.{no_names, no_records}
use Rattle.elf_linking.proofs.view.dynamic.DynamicView.symbols.Goals as goal

pub returns-in_err-symbols-clause-exact : goal.returns-in_err-symbols-clause-exact
returns-in_err-symbols-clause-exact g c =
    let p = err_from_is_err_and c.from_residual.result c.from_residual.ensures.1 in
    rw (p.1, p.2) (no_records _ c.in_err-symbols.ensures.exact)

pub returns-in_err-strings-clause-exact : goal.returns-in_err-strings-clause-exact
returns-in_err-strings-clause-exact g c =
    let p = err_from_is_err_and c.from_residual-in_err-strings.result c.from_residual-in_err-strings.ensures.1 in
    rw (p.1, p.2) (no_names (table_data c.in_ok-symbols.symbols) _ c.in_ok-symbols.ensures.exact.0 (sym c.in_err-strings.ensures.value))
