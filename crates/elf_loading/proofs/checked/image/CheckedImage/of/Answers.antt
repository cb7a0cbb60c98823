-- The object and the plan are those at the index, and the words passed.
use Rattle.std.proofs.Common.{slice_get, sym, ap, ◌∙◌, subst}
use Rattle.std.proofs.Math.Logic.{∥∥₁_map}
use Rattle.std.specs.Prelude.{IfOk}
use Rattle.elf_loading.specs.ImageWords.{AreWritten, MatchBoth}
use Rattle.elf_loading.specs.LoadScope.{loaded_objects, loaded_plans}
use Rattle.elf_loading.proofs.CheckedImages.{at_index, known_by, once_in}
use Rattle.elf_loading.proofs.ImageChecks.{lent_item}
use Rattle.elf_loading.proofs.checked.image.CheckedImage.of.Goals as goal

pub invariant_of-result : goal.invariant_of-result
invariant_of-result g c =
    let loads = c.args.scope.now.loads in
    let fields = g.E.Entry.fields in
    let own_is = ap (λ lent. slice_get lent.now c.args.index) (sym c.objects.ensures) ∙ lent_item c.objects.result.now c.args.index c.get.result c.in-Some.own c.get.ensures.lookup c.in-Some.is in
    let plan_is = ap (λ lent. slice_get lent.now c.args.index) (sym c.plans.ensures) ∙ lent_item c.plans.result.now c.args.index c.get-2.result c.in-Some-get.plan c.get-2.ensures.lookup c.in-Some-get.is in
    let passes = subst (λ result. IfOk result (λ done. MatchBoth (slice_get (loaded_objects loads).now c.args.index) (slice_get (loaded_plans loads).now c.args.index) ⊥
    (AreWritten g.E.Record.SIZE fields (loaded_objects loads).now c.args.index))) c.in-Ok.is c.check_image.ensures.passes in
    ∥∥₁_map c.args.scope.now.good (λ good.
    known_by g.E.Record.SIZE fields (loaded_objects loads).now (loaded_plans loads).now c.args.index c.in-Some.own.now c.in-Some-get.plan.now good own_is plan_is passes)

pub returns-in-Ok-clause-value : goal.returns-in-Ok-clause-value
returns-in-Ok-clause-value g c =
    let loads = c.args.scope.now.loads in
    let own_is = ap (λ lent. slice_get lent.now c.args.index) (sym c.objects.ensures) ∙ lent_item c.objects.result.now c.args.index c.get.result c.in-Some.own c.get.ensures.lookup c.in-Some.is in
    let plan_is = ap (λ lent. slice_get lent.now c.args.index) (sym c.plans.ensures) ∙ lent_item c.plans.result.now c.args.index c.get-2.result c.in-Some-get.plan c.get-2.ensures.lookup c.in-Some-get.is in
    at_index g.E.Entry.fields (loaded_objects loads).now (loaded_plans loads).now c.args.index c.in-Some.own.now c.in-Some-get.plan.now own_is plan_is

pub returns-in-Ok-clause-apart : goal.returns-in-Ok-clause-apart
returns-in-Ok-clause-apart g c =
    let loads = c.args.scope.now.loads in
    let fields = g.E.Entry.fields in
    let own_is = ap (λ lent. slice_get lent.now c.args.index) (sym c.objects.ensures) ∙ lent_item c.objects.result.now c.args.index c.get.result c.in-Some.own c.get.ensures.lookup c.in-Some.is in
    let plan_is = ap (λ lent. slice_get lent.now c.args.index) (sym c.plans.ensures) ∙ lent_item c.plans.result.now c.args.index c.get-2.result c.in-Some-get.plan c.get-2.ensures.lookup c.in-Some-get.is in
    let passes = subst (λ result. IfOk result (λ done. MatchBoth (slice_get (loaded_objects loads).now c.args.index) (slice_get (loaded_plans loads).now c.args.index) ⊥
    (AreWritten g.E.Record.SIZE fields (loaded_objects loads).now c.args.index))) c.in-Ok.is c.check_image.ensures.passes in
    once_in fields (loaded_objects loads).now (loaded_plans loads).now c.args.index c.in-Some.own.now c.in-Some-get.plan.now
    (∥∥₁_map c.args.scope.now.good (λ good.
    known_by g.E.Record.SIZE fields (loaded_objects loads).now (loaded_plans loads).now c.args.index c.in-Some.own.now c.in-Some-get.plan.now good own_is plan_is passes))
