use Rattle.std.proofs.Common.{rules, ◌≡◌, ◌<◌, ◌≤◌, ◌+◌, ◌++◌, ◌∷◌, [], length, map, take, ap, sym, ◌∙◌, arith, below_more}
use Rattle.std.proofs.lemmas.List.{map-append, take_all, take_more}
use Rattle.elf_linking.specs.Exports.{object_parts}
use Rattle.linking_programs.specs.Checks.{IsPassedAt}
use Rattle.linking_programs.proofs.Checks.{check_stops, map_within, passed_at}
use Rattle.elf_linking.specs.DynamicObject.{object_dynamic_symbols}
use Rattle.linking_programs.proofs.checked.checked_objects.Goals as goal

pub loop-index-preserved : goal.loop-index-preserved
loop-index-preserved g c =
    let fields = g.E.Entry.fields in
    let objects = c.args.objects.now in
    let index = c.loop-index.index in
    let object = c.index-objects-index.result in
    let below : index < length objects = omega (arith, c.loop-index-test.true) in
    let pushed : c.push.new.self.items ≡ c.loop-index.checked.items ++ (object_parts fields object ∷ []) = search rules in
    let longer : take (index + 1) objects ≡ take index objects ++ (object ∷ []) =
    take_more objects index object below ∙ ap (λ x. take index objects ++ (x ∷ [])) (sym c.index-objects-index.is) in (
      below_more (IsPassedAt fields objects) index c.loop-index.invariant.0
          (passed_at fields objects index object below c.index-objects-index.is (search rules)),
      pushed ∙ ap (λ xs. xs ++ (object_parts fields object ∷ [])) c.loop-index.invariant.1 ∙ sym (ap (map (object_parts fields)) longer ∙ map-append (object_parts fields) (take index objects) (object ∷ [])),
    )

pub returns : goal.returns
returns g c =
    let objects = c.args.objects.now in
    let fields = g.E.Entry.fields in
    let past : length objects ≤ c.loop-index.index = omega (arith, c.loop-index-test.false) in (
      (λ i file is. c.loop-index.invariant.0 i (let below : i < length objects = map_within (object_dynamic_symbols fields) objects i file is in omega (arith, below, past)) file is),
      c.loop-index.invariant.1 ∙ ap (map (object_parts fields)) (take_all c.loop-index.index objects past),
    )

pub returns-in-Err : goal.returns-in-Err
returns-in-Err g c =
    let objects = c.args.objects.now in
    let index = c.loop-index.index in
    let below : index < length objects = omega (arith, c.loop-index-test.true) in
    check_stops g.E.Entry.fields c.args.inputs.now objects index c.index-objects-index.result c.in-Err.error _ below
    c.index-objects-index.is c.loop-index.invariant.0 c.in-Err.ensures.exact c.failure_at.ensures
