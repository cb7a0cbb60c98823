use Rattle.std.proofs.Common.{rules, ◌<◌, List, ℕ, length, subst, arith}
use Rattle.elfload.specs.Files.{AreDynamic, AreStatic}
use Rattle.linking_programs.specs.declared.Input.{Input}
use Rattle.linking_programs.proofs.Objects.{at_index}
use Rattle.elfload.proofs.Objects.{all_below, one_more_if}
use Rattle.elfload.proofs.files.has_dynamic.Goals as goal

pub loop-input-preserved : goal.loop-input-preserved
loop-input-preserved c =
    let inputs = c.args.inputs.now in
    let index = c.loop-input.input-index in
    let below : index < length inputs = omega (arith, c.loop-input-test.true) in
    one_more_if (λ (input : Input). AreStatic input.bytes.items) inputs index c.input-item.result below c.input-item.is (λ (u : Unit {0}). c.loop-input.invariant)
    (λ (u : Unit {0}). subst (λ (bytes : List ℕ). AreStatic bytes) c.deref.ensures.value (c.is_dynamic.ensures.no (search rules))) tt

pub returns-then-is_dynamic-clause-yes : goal.returns-then-is_dynamic-clause-yes
returns-then-is_dynamic-clause-yes c = λ holds. record {
  index = c.loop-input.input-index;
  is_dynamic =
      let inputs = c.args.inputs.now in
      let below : c.loop-input.input-index < length inputs = omega (arith, c.loop-input-test.true) in
      at_index (λ (input : Input). AreDynamic input.bytes.items) inputs c.loop-input.input-index c.input-item.result below c.input-item.is
      (subst (λ (bytes : List ℕ). AreDynamic bytes) c.deref.ensures.value (c.is_dynamic.ensures.yes (search rules)));
}

pub returns-clause-no : goal.returns-clause-no
returns-clause-no c =
    let inputs = c.args.inputs.now in
    λ none. all_below (λ (input : Input). AreStatic input.bytes.items) inputs (λ i below. c.loop-input.invariant i (omega (arith, below, c.loop-input-test.false)))
