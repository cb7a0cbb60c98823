use Rattle.std.proofs.Common.{ap}
use Rattle.std.proofs.lemmas.Result.{on_ok_weaker}
use Rattle.program_debug.proofs.check.Goals as goal

pub returns-in-Ok : goal.returns-in-Ok
returns-in-Ok c = on_ok_weaker c.check_file.result (λ agrees. record {
  debug = c.in-Ok.debug;
  bytes_are = ap (λ input. input.now) c.in-Ok.ensures.input;
  header_is = c.in-Ok.ensures.header;
  agrees = agrees;
}) c.check_file.ensures
