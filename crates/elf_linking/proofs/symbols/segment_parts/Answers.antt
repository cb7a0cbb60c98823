use Rattle.std.proofs.Common.{◌∙◌}
use Rattle.std.proofs.lemmas.Result.{err_from_is_err_and}
use Rattle.elf_linking.specs.DynamicView.{view_entries}
use Rattle.elf_linking.specs.FileSymbols.{unread}
use Rattle.elf_linking.proofs.SegmentSymbols.{all_read, no_bytes, no_count, no_strings}
use Rattle.elf_linking.proofs.symbols.segment_parts.Goals as goal

pub returns-in_err-view-clause-exact : goal.returns-in_err-view-clause-exact
returns-in_err-view-clause-exact c =
    let p = err_from_is_err_and c.from_residual.result c.from_residual.ensures.1 in
    rw (p.1, p.2) (unread _ c.in_err-view.ensures.exact)

pub returns-in_err-count-clause-exact : goal.returns-in_err-count-clause-exact
returns-in_err-count-clause-exact c =
    let p = err_from_is_err_and c.from_residual-in_err-count.result c.from_residual-in_err-count.ensures.1 in
    rw (p.1, p.2) (no_count c.args.file.now c.args.size (view_entries c.in_ok-view.view) c.in_ok-view.ensures.exact.0 _ c.in_err-count.ensures.exact)

pub returns-in_err-bytes-clause-exact : goal.returns-in_err-bytes-clause-exact
returns-in_err-bytes-clause-exact c =
    let p = err_from_is_err_and c.from_residual-in_err-bytes.result c.from_residual-in_err-bytes.ensures.1 in
    rw (p.1, p.2) (no_bytes c.args.file.now c.args.size (view_entries c.in_ok-view.view) c.in_ok-view.ensures.exact.0 c.in_ok-count.count c.in_ok-count.ensures.exact _ c.in_err-bytes.ensures.exact)

pub returns-in_err-strings-clause-exact : goal.returns-in_err-strings-clause-exact
returns-in_err-strings-clause-exact c =
    let p = err_from_is_err_and c.from_residual-in_err-strings.result c.from_residual-in_err-strings.ensures.1 in
    rw (p.1, p.2) (no_strings c.args.file.now c.args.size (view_entries c.in_ok-view.view) c.in_ok-view.ensures.exact.0 c.in_ok-count.count c.in_ok-count.ensures.exact c.in_ok-bytes.bytes.now _ c.in_ok-bytes.ensures.exact
    (c.in_err-strings.ensures.value ∙ c.in_ok-view.ensures.exact.1))

pub returns-clause-exact : goal.returns-clause-exact
returns-clause-exact c =
    all_read c.args.file.now c.args.size (view_entries c.in_ok-view.view) c.in_ok-view.ensures.exact.0 c.in_ok-count.count c.in_ok-count.ensures.exact c.in_ok-bytes.bytes.now c.in_ok-strings.field-0.now c.in_ok-bytes.ensures.exact
    (c.in_ok-strings.ensures.value ∙ c.in_ok-view.ensures.exact.1)
