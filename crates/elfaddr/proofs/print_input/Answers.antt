use Rattle.std.proofs.Common.{refl}
use Rattle.elfaddr.specs.Ends.{no_header}
use Rattle.elfaddr.proofs.Printed.{printed_input}
use Rattle.elfaddr.proofs.print_input.Goals as goal

pub returns-in-Ok : goal.returns-in-Ok
returns-in-Ok g c =
    printed_input g.W.Write.contents c.args.path c.args.form c.args.addresses.now _ c.args.source c.args.input c.in-Ok.file c.print_file.result c.in-Ok.ensures.input c.in-Ok.ensures.header c.print_file.ensures

pub returns-in-Err : goal.returns-in-Err
returns-in-Err g c = (refl, no_header c.in-Err.error c.in-Err.ensures.failed)
