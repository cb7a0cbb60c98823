use Rattle.std.proofs.Common.{length, subst}
use Rattle.elf_linking.specs.Find.{IsFound}
use Rattle.elf_linking.specs.Scope.{GivesAt, IsFirstGiven, scope_objects}
use Rattle.elf_linking.proofs.Bindings.{bound_right}
use Rattle.elf_linking.proofs.Scopes.{item_is, some_match}
use Rattle.elf_linking.proofs.scope.Scope.find_bytes.Goals as goal

pub returns-clause-answer : goal.returns-clause-answer
returns-clause-answer g c =
    let objects = (scope_objects c.args.self.now).now in
    let there = item_is objects c.args.from c.get.result c.in-Some.asking c.get.ensures.lookup c.in-Some.is in
    some_match _ _ _ _ there (subst (λ s. IsFirstGiven (GivesAt IsFound g.E.Entry.fields objects c.args.name.now c.args.wanted.now c.args.use_) (length objects) s c.args.from c.first_bound.result) c.is_symbolic.ensures c.first_bound.ensures)

pub returns-clause-good : goal.returns-clause-good
returns-clause-good g c = λ good below.
    bound_right g.E.Entry.fields (scope_objects c.args.self.now).now c.args.from good below c.args.name.now c.args.wanted.now c.args.use_ c.first_bound.result (returns-clause-answer g c)
