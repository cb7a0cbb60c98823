use Rattle.elfaddr.specs.Asked.{FromDynamic, from_dynamic, kind, parts_in}
use Rattle.elf_linking.specs.DynamicObject.{IsObjectError}
use Rattle.elfaddr.proofs.AskedParts.{dynamic_parts}
use Rattle.elfaddr.proofs.Printed.{printed_by}
use Rattle.elfaddr.proofs.print.print_dynamic.Goals as goal

pub returns-in-Ok : goal.returns-in-Ok
returns-in-Ok g c =
    let file = c.args.file.now in
    let class = g.D.LinkedSymbol.CLASS in
    let symbols = c.in-Ok.symbols in
    let of_type = kind g.D.Record.SIZE g.D.Record.value g.D.Entry.fields in
    printed_by g.W.Write.contents c.args.path c.args.form c.args.addresses.now _ file (FromDynamic class of_type file) (IsObjectError class g.D.Record.SIZE file) _ _ c.print_symbols.result
    (from_dynamic (parts_in symbols) (dynamic_parts class g.D.Entry.fields file symbols c.in-Ok.ensures)) c.print_symbols.ensures
