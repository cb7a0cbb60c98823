use Rattle.std.proofs.Common.{rules, true, length, Ok, ap, subst, ◌∙◌}
use Rattle.elf_linking.specs.Find.{IsFound}
use Rattle.elf_linking.specs.Scope.{GivesAt, scope_objects}
use Rattle.elf_linking.proofs.Scopes.{after_own, first_error, first_some, none_before}
use Rattle.elf_linking.proofs.scope.Scope.first_with_own.Goals as goal

pub returns-in-Ok-Some : goal.returns-in-Ok-Some
returns-in-Ok-Some g c =
    let objects = (scope_objects c.args.self.now).now in
    let gives = GivesAt IsFound g.E.Entry.fields objects c.args.name.now c.args.wanted.now c.args.use_ in
    first_some gives (length objects) c.args.from true c.args.from (search rules) (none_before gives (length objects) c.args.from) c.given.result c.given.ensures (c.in-Ok-Some.index, c.in-Ok-Some.symbol) (c.in-Ok-Some.is ∙ ap (λ x. Ok x) c.in-Ok-Some.field-0-is)

pub returns-in-Err : goal.returns-in-Err
returns-in-Err g c =
    let objects = (scope_objects c.args.self.now).now in
    let gives = GivesAt IsFound g.E.Entry.fields objects c.args.name.now c.args.wanted.now c.args.use_ in
    first_error gives (length objects) c.args.from true c.args.from (search rules) (none_before gives (length objects) c.args.from) c.given.result c.given.ensures c.in-Err.error c.in-Err.is

pub returns-in-Ok-None : goal.returns-in-Ok-None
returns-in-Ok-None g c =
    let objects = (scope_objects c.args.self.now).now in
    let gives = GivesAt IsFound g.E.Entry.fields objects c.args.name.now c.args.wanted.now c.args.use_ in
    after_own gives (length objects) c.args.from (subst (gives c.args.from) (c.in-Ok-None.is ∙ ap (λ x. Ok x) c.in-Ok-None.field-0-is) c.given.ensures) c.first_by_index.result c.first_by_index.ensures
