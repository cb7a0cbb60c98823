use Rattle.std.proofs.Common.{Some, sym}
use Rattle.std.proofs.lemmas.Result.{err_from_is_err_and}
use Rattle.elf_addresses.proofs.lemmas.ObjectStrings.{strings_of_object}
use Rattle.elfaddr.specs.Tables.{no_count, no_object}
use Rattle.elfaddr.proofs.print.object_with_strings.Goals as goal

pub returns-in_err-count : goal.returns-in_err-count
returns-in_err-count g c =
    let p = err_from_is_err_and c.from_residual.result c.from_residual.ensures.1 in
    rw (p.1, p.2) (no_count c.in_err-count.ensures)

pub returns-in_err-object : goal.returns-in_err-object
returns-in_err-object g c =
    let p = err_from_is_err_and c.from_residual-in_err-object.result c.from_residual-in_err-object.ensures.1 in
    rw (p.1, p.2) (no_object c.in_ok-count.count c.in_ok-count.ensures c.in_err-object.ensures)

pub unreachable-requires : goal.unreachable-requires
unreachable-requires g c =
    let exact = c.in_default.ensures.exact in
    let strings = strings_of_object (Some c.in_ok-count.count) g.D.LinkedSymbol.CLASS g.D.Record.SIZE c.args.file.now c.in_ok-object.object c.in_ok-object.ensures in
    cc

pub returns : goal.returns
returns g c = (
  record { count = c.in_ok-count.count; counted = c.in_ok-count.ensures; is_object = c.in_ok-object.ensures },
  sym c.in-Ok.ensures.exact,
)
