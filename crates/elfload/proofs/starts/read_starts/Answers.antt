use Rattle.std.proofs.Common.{rules, ◌≡◌, ◌<◌, ◌+◌, ◌++◌, ◌∷◌, [], length, take, get_or, sym, ap, subst, ◌∙◌, arith}
use Rattle.std.specs.Prelude.{⊤}
use Rattle.std.specs.List.{AllZip}
use Rattle.std.proofs.lemmas.List.{take_all, take_more}
use Rattle.std.proofs.lemmas.Option.{slice_get-get_or}
use Rattle.elfload.specs.Starts.{AreStartsOf, IsGroup}
use Rattle.elfload.specs.declared.steps.Part.TheVariants.{Preinit}
use Rattle.elfload.proofs.starts.read_starts.Goals as goal
use Rattle.program_ends.proofs.Ends.{stop_so}
use Rattle.elfload.proofs.WordLines.{flat_map_more}
use Rattle.program_ends.proofs.LineLists.{zip_one_more}

pub loop-index-init : goal.loop-index-init
loop-index-init g c = ([], tt, search rules)

pub loop-index-preserved : goal.loop-index-preserved
loop-index-preserved g c =
    let steps = c.args.steps.now in
    let index = c.loop-index.index in
    let step = get_or steps index (record { part = Preinit; of = 0 }) in
    let group = c.in-Ok.group.items in
    let (groups, each, so_far) = c.loop-index.invariant in
    let Is = IsGroup g.E.Entry.fields c.args.inputs.now c.args.objects.now in
    let below : index < length steps = omega (arith, c.loop-index-test.true) in
    let longer : take (index + 1) steps ≡ take index steps ++ (step ∷ []) =
    take_more steps index (record { part = Preinit; of = 0 }) below in (
      groups ++ (group ∷ []),
      subst (λ xs. AllZip Is xs (groups ++ (group ∷ []))) (sym longer) (zip_one_more Is (take index steps) groups step group each c.in-Ok.ensures),
      c.in-Some.ensures ∙ ap (λ those. c.loop-index.starts.items ++ those) c.deref.ensures.value ∙ ap (λ those. those ++ group) so_far ∙ sym (flat_map_more (λ one. one) groups group),
    )

pub returns-in-Err : goal.returns-in-Err
returns-in-Err g c =
    let steps = c.args.steps.now in
    let index = c.loop-index.index in
    let step = get_or steps index (record { part = Preinit; of = 0 }) in
    let below : index < length steps = omega (arith, c.loop-index-test.true) in
    stop_so _ _ ⊥ ⊥ ⊤ ⊤ c.in-Err.stop (λ failed why. record { index = index; step_of = step; step_is = slice_get-get_or steps index (record { part = Preinit; of = 0 }) below; error_is = why })
    (λ never. never) (λ short. short) c.in-Err.ensures

pub returns : goal.returns
returns g c =
    let steps = c.args.steps.now in
    let starts = c.loop-index.starts.items in
    subst (λ those. AreStartsOf g.E.Entry.fields c.args.inputs.now c.args.objects.now those starts)
    (take_all c.loop-index.index steps (omega (arith, c.loop-index-test.false))) c.loop-index.invariant
