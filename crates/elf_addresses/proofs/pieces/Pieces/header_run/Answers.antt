use Rattle.std.proofs.Common.{MatchOption, subst}
use Rattle.elf_addresses.specs.Owner.{OutsideHeaders}
use Rattle.elf_addresses.specs.Runs.{IsRun}
use Rattle.elf_addresses.proofs.pieces.Pieces.header_run.Goals as goal

pub returns : goal.returns
returns c = subst (λ f. MatchOption c.run.result (OutsideHeaders f c.args.byte) (λ run. IsRun f c.args.byte run.1 run.0)) c.args.self.now.one_file c.run.ensures
