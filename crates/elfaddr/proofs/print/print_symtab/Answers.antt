use Rattle.elfaddr.specs.Asked.{FromFile, kind}
use Rattle.elf_addresses.specs.OfFile.{HasNoSymbols}
use Rattle.elfaddr.proofs.AskedParts.{from_file}
use Rattle.elfaddr.proofs.Printed.{printed_by}
use Rattle.elfaddr.proofs.print.print_symtab.Goals as goal

pub returns-in-Ok : goal.returns-in-Ok
returns-in-Ok g c =
    let file = c.args.file.now in
    let class = g.D.LinkedSymbol.CLASS in
    let of_type = kind g.D.Record.SIZE g.D.Record.value g.D.Entry.fields in
    printed_by g.W.Write.contents c.args.path c.args.form c.args.addresses.now _ file (FromFile class of_type file) (HasNoSymbols class g.D.Record.SIZE file) _ _ c.print_symbols.result
    (from_file class g.D.Entry.fields file c.in-Ok.symbols c.in-Ok.ensures) c.print_symbols.ensures
