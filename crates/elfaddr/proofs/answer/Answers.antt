use Rattle.elfaddr.proofs.Named.{accepted_so}
use Rattle.elfaddr.proofs.answer.Goals as goal

pub returns-in-Ok-clause-accepted : goal.returns-in-Ok-clause-accepted
returns-in-Ok-clause-accepted g c =
    accepted_so g.R.Read.remaining c.args.file c.args.options c.args.addresses.now _ _ c.in-Ok.ensures.written
