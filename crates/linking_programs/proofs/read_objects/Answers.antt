use Rattle.std.proofs.Common.{rules, ◌≡◌, ◌<◌, ◌+◌, ◌++◌, ◌∷◌, [], List, ℕ, length, take, sym, ap, subst, ◌∙◌, arith}
use Rattle.std.proofs.lemmas.List.{length_push, take_more}
use Rattle.elf_linking.specs.DynamicObject.{IsObjectErrorOf, IsObjectOfBytes}
use Rattle.linking_programs.specs.Files.{AreObjectsOf}
use Rattle.linking_programs.specs.declared.Input.{Input}
use Rattle.program_ends.proofs.LineLists.{zip_one_more}
use Rattle.linking_programs.proofs.Objects.{input_stops}
use Rattle.linking_programs.proofs.read_objects.Goals as goal

pub loop-input-preserved : goal.loop-input-preserved
loop-input-preserved g c =
    let C = g.E.LinkedSymbol.CLASS in
    let S = g.E.Record.SIZE in
    let inputs = c.args.inputs.now in
    let index = c.loop-input.input-index in
    let item = c.input-item.result in
    let done = c.loop-input.objects.items in
    let object = c.in-Ok.object in
    let below : index < length inputs = omega (arith, c.loop-input-test.true) in
    let pushed : c.push.new.self.items ≡ done ++ (object ∷ []) = search rules in
    let longer : take (index + 1) inputs ≡ take index inputs ++ (item ∷ []) =
    take_more inputs index item below ∙ ap (λ x. take index inputs ++ (x ∷ [])) (sym c.input-item.is) in
    let own : IsObjectOfBytes C S item.bytes.items object = subst (λ (bytes : List ℕ). IsObjectOfBytes C S bytes object) c.deref.ensures.value c.in-Ok.ensures.exact in
    let all = zip_one_more (λ (input : Input) one. IsObjectOfBytes C S input.bytes.items one) (take index inputs) done item object c.loop-input.invariant.0 own in (
      subst (λ (xs : List Input). AreObjectsOf C S xs c.push.new.self.items) (sym longer) (subst (λ ys. AreObjectsOf C S (take index inputs ++ (item ∷ [])) ys) (sym pushed) all),
      ap length pushed ∙ length_push done object ∙ ap (λ n. n + 1) c.loop-input.invariant.1,
    )

pub returns-in-Err-clause-failed : goal.returns-in-Err-clause-failed
returns-in-Err-clause-failed g c =
    let C = g.E.LinkedSymbol.CLASS in
    let S = g.E.Record.SIZE in
    let inputs = c.args.inputs.now in
    let index = c.loop-input.input-index in
    let item = c.input-item.result in
    let below : index < length inputs = omega (arith, c.loop-input-test.true) in
    let why : IsObjectErrorOf C S item.bytes.items c.in-Err.error = subst (λ (bytes : List ℕ). IsObjectErrorOf C S bytes c.in-Err.error) c.deref.ensures.value c.in-Err.ensures.exact in
    input_stops _ C S inputs index item c.loop-input.objects.items c.in-Err.error _ below c.input-item.is c.loop-input.invariant.0 why c.failure.ensures
