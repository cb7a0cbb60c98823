use Rattle.std.proofs.Common.{◌≡◌, ◌<◌, List, length, None, Some, sym, ap, ◌∙◌, arith}
use Rattle.elf_linking.specs.CheckedScope.{bound_fields}
use Rattle.elf_linking.specs.Exports.{ObjectParts}
use Rattle.elf_linking.proofs.CheckedScopes.{Given, from_first, none_here, some_here}
use Rattle.elf_linking.proofs.checked.scope.CheckedScope.first_given.Goals as goal

pub returns-in-Some : goal.returns-in-Some
returns-in-Some g c =
    let fields = g.E.Entry.fields in
    let bound = c.in-Some.bound in
    let below : c.loop-place.place < length c.args.self.now = omega (arith, ap (λ (all : List ObjectParts). length all) c.self.view_is) in
    let gave : Given c.args.name.now c.args.wanted.now c.args.use_ c.args.self.now c.loop-place.place ≡ bound_fields fields (Some bound) = sym c.given.ensures ∙ ap (bound_fields fields) c.in-Some.is in
    sym (sym (from_first c.args.name.now c.args.wanted.now c.args.use_ c.args.self.now) ∙ c.loop-place.invariant
    ∙ some_here c.args.name.now c.args.wanted.now c.args.use_ c.args.self.now c.loop-place.place (record { object = bound.object; index = bound.index; symbol = fields bound.symbol }) below gave)

pub loop-place-preserved : goal.loop-place-preserved
loop-place-preserved g c =
    let fields = g.E.Entry.fields in
    let below : c.loop-place.place < length c.args.self.now = omega (arith, ap (λ (all : List ObjectParts). length all) c.self.view_is) in
    let none : Given c.args.name.now c.args.wanted.now c.args.use_ c.args.self.now c.loop-place.place ≡ None = sym c.given.ensures ∙ ap (bound_fields fields) c.in-None.is in
    c.loop-place.invariant ∙ none_here c.args.name.now c.args.wanted.now c.args.use_ c.args.self.now c.loop-place.place below none
