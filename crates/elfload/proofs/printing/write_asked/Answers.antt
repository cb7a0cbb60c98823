use Rattle.elfload.proofs.StartParts.{written_so}
use Rattle.elfload.proofs.printing.write_asked.Goals as goal

pub returns-in-Some : goal.returns-in-Some
returns-in-Some g c = rw (c.in-Some.is) c.write_steps.ensures

pub returns-in-None : goal.returns-in-None
returns-in-None g c = rw (c.in-None.is)
    (written_so g.W.Write.contents _ _ _ _ _ _ c.write_buffered.result (λ text is. is) (λ failed why. why) c.write_buffered.ensures)
