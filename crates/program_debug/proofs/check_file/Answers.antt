use Rattle.std.proofs.Common.{sym}
use Rattle.std.proofs.lemmas.Result.{on_ok_weaker}
use Rattle.program_debug.proofs.check_file.Goals as goal

pub returns-in-Ok : goal.returns-in-Ok
returns-in-Ok c = on_ok_weaker c.check_symbols.result (λ has. record {
  how = c.args.how;
  passes = sym c.in-Ok.ensures;
  symtab = has;
}) c.check_symbols.ensures
