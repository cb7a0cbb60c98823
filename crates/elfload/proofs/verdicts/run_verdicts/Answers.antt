use Rattle.std.proofs.Common.{◌<◌, ◌∙◌, length, subst, sym, arith}
use Rattle.std.specs.Prelude.{IsTrue}
use Rattle.elfload.specs.Verdicts.{mapped}
use Rattle.elfload.proofs.Quiet.{quiet_closed, quiet_open}
use Rattle.elfload.proofs.Statuses.{one_more, status_open, whole}
use Rattle.elfload.proofs.verdicts.run_verdicts.Goals as goal

pub loop-input-init : goal.loop-input-init
loop-input-init g c = mapped (λ i below. absurd (omega (arith, below)))

pub loop-input-preserved : goal.loop-input-preserved
loop-input-preserved g c =
    let inputs = c.args.inputs.now in
    let below : c.loop-input.input-index < length inputs = omega (arith, c.loop-input-test.true) in
    one_more c.args.by c.args.page inputs c.loop-input.input-index c.input-item.result below c.input-item.is c.deref.result.now c.write_verdict-ended.result c.loop-input.status c.first_fault-status.result
    c.deref.ensures.value c.write_verdict-ended.ensures.end
    (λ zero_is. c.first_fault-status.ensures.none zero_is ∙ c.quiet_status_of-own.ensures
    ∙ quiet_open c.write_verdict-ended.result c.is_closed.result (λ same. c.is_shut.ensures.no c.if-is_shut.false (c.quiet_status_of-own.ensures ∙ same))) c.first_fault-status.ensures.kept c.loop-input.invariant

pub returns-clause-status : goal.returns-clause-status
returns-clause-status g c =
    λ other. whole c.args.by c.args.page c.args.inputs.now c.loop-input.input-index c.loop-input.status (λ i below. omega (arith, below, c.loop-input-test.false)) c.loop-input.invariant

pub returns-clause-closed : goal.returns-clause-closed
returns-clause-closed g c = λ is. absurd (status_open c.args.by c.args.page c.args.inputs.now c.loop-input.input-index c.loop-input.status c.loop-input.invariant is)

pub returns-then-is_shut-clause-closed : goal.returns-then-is_shut-clause-closed
returns-then-is_shut-clause-closed g c =
    λ is. subst IsTrue c.is_closed.ensures (quiet_closed c.write_verdict-ended.result c.is_closed.result (sym c.quiet_status_of-own.ensures ∙ is))
