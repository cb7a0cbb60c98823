use Rattle.std.proofs.Common.{rules, ◌≡◌, ◌<◌, ◌≤◌, ◌+◌, ◌++◌, ◌∷◌, [], List, ℕ, length, take, sym, ap, subst, ◌∙◌, arith}
use Rattle.std.proofs.lemmas.List.{take_all, take_more}
use Rattle.elf_linking.specs.Exports.{ObjectParts}
use Rattle.elfsym.specs.Scope.{AreScopeObjects, IsScopeObject, IsUnreadObject, by_memory}
use Rattle.elfsym.proofs.Scopes.{unread_at}
use Rattle.elfsym.proofs.scope.checked_objects.Goals as goal
use Rattle.linking_programs.specs.declared.Input.{Input}
use Rattle.program_ends.proofs.LineLists.{zip_one_more}

pub loop-input-preserved : goal.loop-input-preserved
loop-input-preserved g c =
    let Is = IsScopeObject g.E.Record g.E.Entry.fields g.E.LinkedSymbol.CLASS g.E.Record.SIZE in
    let inputs = c.args.inputs.now in
    let index = c.loop-input.input-index in
    let item = c.input-item.result in
    let done = c.loop-input.objects.items in
    let object = c.in-Ok.object in
    let below : index < length inputs = omega (arith, c.loop-input-test.true) in
    let pushed : c.push.new.self.items ≡ done ++ (object ∷ []) = search rules in
    let longer : take (index + 1) inputs ≡ take index inputs ++ (item ∷ []) =
    take_more inputs index item below ∙ ap (λ x. take index inputs ++ (x ∷ [])) (sym c.input-item.is) in
    let own : Is item.bytes.items object = subst (λ (bytes : List ℕ). Is bytes object) c.deref.ensures.value c.in-Ok.ensures in
    let all = zip_one_more (λ (input : Input) parts. Is input.bytes.items parts) (take index inputs) done item object c.loop-input.invariant.each own in
    let Are = AreScopeObjects g.E.Record g.E.Entry.fields g.E.LinkedSymbol.CLASS g.E.Record.SIZE in
    subst (λ (xs : List Input). Are xs c.push.new.self.items) (sym longer) (subst (λ ys. Are (take index inputs ++ (item ∷ [])) ys) (sym pushed) (record { each = all }))

pub loop-input-init : goal.loop-input-init
loop-input-init g c = subst (λ (objects : List ObjectParts). AreScopeObjects g.E.Record g.E.Entry.fields g.E.LinkedSymbol.CLASS g.E.Record.SIZE [] objects) (sym (let none : c.new-objects.result.items ≡ [] = search rules in none)) (record { each = tt })

pub returns-then-is_err : goal.returns-then-is_err
returns-then-is_err g c = by_memory

pub returns : goal.returns
returns g c =
    let Are = AreScopeObjects g.E.Record g.E.Entry.fields g.E.LinkedSymbol.CLASS g.E.Record.SIZE in
    let past : length c.args.inputs.now ≤ c.loop-input.input-index = omega (arith, c.loop-input-test.false) in
    subst (λ (xs : List Input). Are xs c.loop-input.objects.items) (take_all c.loop-input.input-index c.args.inputs.now past) c.loop-input.invariant

pub returns-in-Err : goal.returns-in-Err
returns-in-Err g c =
    let C = g.E.LinkedSymbol.CLASS in
    let S = g.E.Record.SIZE in
    let inputs = c.args.inputs.now in
    let index = c.loop-input.input-index in
    let item = c.input-item.result in
    let below : index < length inputs = omega (arith, c.loop-input-test.true) in
    unread_at g.E.Record g.E.Entry.fields C S inputs index item c.loop-input.objects.items c.in-Err.error below c.input-item.is c.loop-input.invariant
    (subst (λ (bytes : List ℕ). IsUnreadObject g.E.Record g.E.Entry.fields C S bytes c.in-Err.error) c.deref.ensures.value c.in-Err.ensures)
