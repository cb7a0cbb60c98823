use Rattle.std.proofs.Common.{◌≡◌, inr, ◌∙◌}
use Rattle.elfload.proofs.run_together.Goals as goal

pub returns-clause-good : goal.returns-clause-good
returns-clause-good g c = λ zero.
    let kept : c.run-status.result ≡ 0 = c.with_references.ensures.kept zero in
    record {
      loaded = c.run-status.ensures.loaded kept;
      checked = c.run-status.ensures.checked kept;
      known = inr (c.with_references.ensures.known zero);
      found = λ now. inr (c.with_references.ensures.found zero (c.is_now.ensures ∙ now));
    }
