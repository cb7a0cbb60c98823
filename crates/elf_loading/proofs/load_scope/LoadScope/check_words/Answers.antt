use Rattle.std.proofs.Common.{◌≡◌, ◌*◌, Err, length, slice_get, sym, ap, ◌∙◌}
use Rattle.elf_linking.specs.Scope.{scope_objects}
use Rattle.elf_linking.specs.declared.error.LinkError.TheVariants.{ObjectIndex}
use Rattle.elf_loading.specs.ImageWords.{IsOwnCheck}
use Rattle.elf_loading.specs.WordErrors.{error_alone}
use Rattle.elf_loading.specs.declared.error.LoadError.TheVariants.{Link}
use Rattle.elf_loading.proofs.ImageChecks.{both_at, lent_item}
use Rattle.elf_loading.proofs.ImagePasses.{image_passes}
use Rattle.elf_loading.proofs.WordErrors.{image_error}
use Rattle.elf_loading.proofs.load_scope.LoadScope.check_words.Goals as goal

pub returns-clause-exact : goal.returns-clause-exact
returns-clause-exact g c =
    let loads = c.args.self.now in
    let objects = (scope_objects loads.scope).now in
    let result = error_alone c.check_own.result in
    both_at objects loads.plans.now c.args.of (result ≡ Err (Link ObjectIndex))
    (λ own plan. IsOwnCheck g.E.Record.SIZE g.E.Entry.fields objects c.args.of own plan (8 * length c.args.marks.now) result)
    c.in-Some.own.now c.in-Some-get.plan.now
    (ap (λ lent. slice_get lent.now c.args.of) (sym c.objects.ensures) ∙ lent_item c.objects.result.now c.args.of c.get.result c.in-Some.own c.get.ensures.lookup c.in-Some.is)
    (lent_item loads.plans.now c.args.of c.get-2.result c.in-Some-get.plan c.get-2.ensures.lookup c.in-Some-get.is) c.check_own.ensures.check

pub returns-clause-passes : goal.returns-clause-passes
returns-clause-passes g c =
    let loads = c.args.self.now in
    image_passes g.E.Record.SIZE g.E.Entry.fields (scope_objects loads.scope).now c.args.of (8 * length c.args.marks.now) loads.plans.now (error_alone c.check_own.result) (returns-clause-exact g c)

pub returns-clause-first : goal.returns-clause-first
returns-clause-first g c =
    let loads = c.args.self.now in
    image_error g.E.Record.SIZE g.E.Entry.fields (scope_objects loads.scope).now c.args.of c.in-Some.own.now c.in-Some-get.plan.now (8 * length c.args.marks.now) loads.plans.now
    (ap (λ lent. slice_get lent.now c.args.of) (sym c.objects.ensures) ∙ lent_item c.objects.result.now c.args.of c.get.result c.in-Some.own c.get.ensures.lookup c.in-Some.is)
    (lent_item loads.plans.now c.args.of c.get-2.result c.in-Some-get.plan c.get-2.ensures.lookup c.in-Some-get.is) c.check_own.result c.check_own.ensures.first
