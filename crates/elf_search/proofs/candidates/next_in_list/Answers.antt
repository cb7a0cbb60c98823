use Rattle.std.proofs.Common.{◌≡◌, ◌∙◌, None, arith, rules, sym}
use Rattle.std.proofs.lemmas.Grind.{common_steps}
use Rattle.std.specs.Prelude.{slice_get}
use Rattle.elf_search.specs.Candidates.{candidate_at}
use Rattle.elf_search.specs.Lists.{candidate_parts, elements_in, list_parts}
use Rattle.elf_search.proofs.ListSteps.{step_end, step_last, step_more, step_some}
use Rattle.elf_search.proofs.candidates.next_in_list.Goals as goal

pub returns-in_err-element : goal.returns-in_err-element
returns-in_err-element c =
    let none : slice_get (elements_in (list_parts c.args.list.now)) c.loop-element.place.element ≡ None = sym c.in_err-element.ensures.bytes in
    rw c.from_residual.ensures (sym c.loop-element.invariant ∙ step_end (list_parts c.args.list.now) c.loop-element.place none)

pub returns-in-Some : goal.returns-in-Some
returns-in-Some c =
    sym c.loop-element.invariant ∙ step_some (list_parts c.args.list.now) c.loop-element.place c.in_ok-element.element.bytes.now (candidate_parts c.in-Some.candidate) (sym c.in_ok-element.ensures.bytes) (sym c.in-Some.ensures.value)

pub returns-then-element : goal.returns-then-element
returns-then-element c =
    let none : candidate_at (list_parts c.args.list.now) c.in_ok-element.element.bytes.now c.loop-element.place.element c.loop-element.place.subdirectory ≡ None = first_of (search rules, cc (c.in_default.ensures.value), cc (c.candidate_at.ensures.value, c.in_default.is), grind (arith, common_steps)) in
    sym c.loop-element.invariant ∙ step_last (list_parts c.args.list.now) c.loop-element.place c.in_ok-element.element.bytes.now (sym c.in_ok-element.ensures.bytes) none (c.in_ok-element.ensures.last c.if-element.true)

pub loop-element-preserved : goal.loop-element-preserved
loop-element-preserved c =
    let none : candidate_at (list_parts c.args.list.now) c.in_ok-element.element.bytes.now c.loop-element.place.element c.loop-element.place.subdirectory ≡ None = first_of (search rules, cc (c.in_default.ensures.value), cc (c.candidate_at.ensures.value, c.in_default.is), grind (arith, common_steps)) in
    sym (step_more (list_parts c.args.list.now) c.loop-element.place c.in_ok-element.element.bytes.now (sym c.in_ok-element.ensures.bytes) none) ∙ c.loop-element.invariant
