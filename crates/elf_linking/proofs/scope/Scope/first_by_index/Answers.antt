use Rattle.std.proofs.Common.{false, length, Ok, ap, ◌∙◌, arith}
use Rattle.elf_linking.specs.Find.{IsFound}
use Rattle.elf_linking.specs.Scope.{GivesAt, nowhere, scope_objects}
use Rattle.elf_linking.proofs.Scopes.{first_error, first_some}
use Rattle.elf_linking.proofs.scope.Scope.first_by_index.Goals as goal

pub returns-in-Ok-Some : goal.returns-in-Ok-Some
returns-in-Ok-Some g c =
    let objects = (scope_objects c.args.self.now).now in
    first_some (GivesAt IsFound g.E.Entry.fields objects c.args.name.now c.args.wanted.now c.args.use_) (length objects) c.args.from false c.loop-place.place (omega arith) c.loop-place.invariant c.given.result c.given.ensures (c.in-Ok-Some.index, c.in-Ok-Some.symbol) (c.in-Ok-Some.is ∙ ap (λ x. Ok x) c.in-Ok-Some.field-0-is)

pub returns-in-Err : goal.returns-in-Err
returns-in-Err g c =
    let objects = (scope_objects c.args.self.now).now in
    first_error (GivesAt IsFound g.E.Entry.fields objects c.args.name.now c.args.wanted.now c.args.use_) (length objects) c.args.from false c.loop-place.place (omega arith) c.loop-place.invariant c.given.result c.given.ensures c.in-Err.error c.in-Err.is

pub returns : goal.returns
returns g c = nowhere (λ i below. c.loop-place.invariant i (omega arith))
