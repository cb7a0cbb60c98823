use Rattle.std.proofs.Common.{rules, ◌≡◌, ◌+◌, length, get_or, nat_le, nat_lt, sym, ap, subst, ◌∙◌, arith}
use Rattle.std.proofs.lemmas.Bool.{and_parts, ltb-true}
use Rattle.std.specs.List.{list_all}
use Rattle.elf_loading.specs.LoadCheck.{fits_below, load_end, load_start}
use Rattle.elf_loading.specs.Loads.{loads_left}
use Rattle.elf_loading.specs.Plan.{plan_file, plan_loads}
use Rattle.elf_loading.specs.Spans.{first_start, last_end}
use Rattle.elf_loading.proofs.Follows.{none_below}
use Rattle.elf_loading.proofs.FileChecks.{passes_apart, passes_fit}
use Rattle.elf_loading.proofs.Filled.{AreBetween, all_between, first_between, none_filled, one_filled, zero_at}
use Rattle.elf_loading.proofs.Lists.{fits_rest}
use Rattle.elf_loading.proofs.plan.LoadPlan.fill.Goals as goal

pub loop-load-init : goal.loop-load-init
loop-load-init c =
    let plan = c.args.self.now in
    let loads = plan_loads plan in
    let rest_is : loads_left c.into_iter-load-iterator.result ≡ loads = search rules in
    let passes = plan.checked in
    let between = all_between plan.page plan.paged loads (passes_apart (plan_file plan) plan.page plan.limit plan.end passes) in record {
      len = c.fill.ensures.len;
      fit = ap (list_all (fits_below plan.page plan.limit)) rest_is ∙ passes_fit (plan_file plan) plan.page plan.limit plan.end passes;
      between = subst (λ rest. AreBetween plan.page (first_start plan.page loads) (last_end plan.page 0 loads) rest) (sym rest_is) between;
      filled = λ i. none_filled plan.input.now plan.page c.args.by (first_start plan.page loads + i) loads _ _ rest_is
          (ap (λ items. get_or items i 0) (c.fill.ensures.after (λ y is. is)) ∙ zero_at _ i);
    }

pub fill_load-requires-clause-ends : goal.fill_load-requires-clause-ends
fill_load-requires-clause-ends c =
    let plan = c.args.self.now in
    let loads = plan_loads plan in
    let first = first_between plan.page plan.paged (first_start plan.page loads) (last_end plan.page 0 loads) c.in-Some.load _ _ c.in-Some.ensures.steps c.loop-load.invariant.between in
    let start_is : c.span-span.result.start ≡ first_start plan.page loads = ap (λ span. span.start) c.span-span.ensures.value in
    let end_is : c.span-span.result.end ≡ last_end plan.page 0 loads = ap (λ span. span.end) c.span-span.ensures.value in
    omega (arith, first.ends, c.span-span.ensures.order, c.loop-load.invariant.len, c.if-image-span.false, start_is, end_is)

pub loop-load-preserved : goal.loop-load-preserved
loop-load-preserved c =
    let plan = c.args.self.now in
    let loads = plan_loads plan in
    let load = c.in-Some.load in
    let start = first_start plan.page loads in
    let first = first_between plan.page plan.paged start (last_end plan.page 0 loads) load _ _ c.in-Some.ensures.steps c.loop-load.invariant.between in
    let start_is : c.span-span.result.start ≡ start = ap (λ span. span.start) c.span-span.ensures.value in record {
      len = c.fill_load.ensures.len ∙ c.loop-load.invariant.len;
      fit = fits_rest plan.page plan.limit _ _ load c.in-Some.ensures.steps c.loop-load.invariant.fit;
      between = first.rest;
      filled = λ i. one_filled plan.input.now plan.page c.args.by (start + i) load _ _ _ _ _ c.in-Some.ensures.steps
          (λ holds. none_below plan.page plan.limit (length plan.input.now) c.args.by (start + i) plan.paged (load_end plan.page load) _ first.after
          (ltb-true _ _ (and_parts (nat_le (load_start plan.page load) (start + i)) (nat_lt (start + i) (load_end plan.page load)) holds).1))
          (rw start_is at (c.fill_load.ensures.bytes i)) (c.loop-load.invariant.filled i);
    }
