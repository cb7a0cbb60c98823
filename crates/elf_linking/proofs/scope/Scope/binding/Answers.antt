use Rattle.std.proofs.Common.{refl}
use Rattle.elf_linking.specs.Scope.{asked_of, asked_parts, scope_objects}
use Rattle.elf_linking.proofs.Bindings.{answers_alone, err_match, ok_match, reference_right}
use Rattle.elf_linking.proofs.Scopes.{item_is, some_match}
use Rattle.elf_linking.proofs.scope.Scope.binding.Goals as goal

pub returns-in-Ok-clause-answer : goal.returns-in-Ok-clause-answer
returns-in-Ok-clause-answer g c =
    let objects = (scope_objects c.args.self.now).now in
    let there = item_is objects c.args.from c.get.result c.in-Some.asking c.get.ensures.lookup c.in-Some.is in
    some_match _ _ _ _ there (ok_match asked_parts _ _ c.asked.result (asked_of g.E.Entry.fields c.in-Some.asking.now c.args.reference.now) c.asked.ensures c.in-Ok.asked c.in-Ok.is (answers_alone g.E.Entry.fields objects c.args.from c.args.reference.now.symbol c.in-Ok.asked c.answer-bound.result c.answer-bound.ensures.answer))

pub returns-in-Ok-clause-good : goal.returns-in-Ok-clause-good
returns-in-Ok-clause-good g c = λ good named.
    reference_right g.E.Entry.fields (scope_objects c.args.self.now).now c.args.from c.args.reference.now good named c.answer-bound.result (returns-in-Ok-clause-answer g c)

pub returns-in-Err-clause-answer : goal.returns-in-Err-clause-answer
returns-in-Err-clause-answer g c =
    let objects = (scope_objects c.args.self.now).now in
    let there = item_is objects c.args.from c.get.result c.in-Some.asking c.get.ensures.lookup c.in-Some.is in
    some_match _ _ _ _ there (err_match asked_parts _ _ c.asked.result (asked_of g.E.Entry.fields c.in-Some.asking.now c.args.reference.now) c.asked.ensures c.in-Err.error c.in-Err.is refl)

pub returns-in-Err-clause-good : goal.returns-in-Err-clause-good
returns-in-Err-clause-good g c = λ good named.
    reference_right g.E.Entry.fields (scope_objects c.args.self.now).now c.args.from c.args.reference.now good named _ (returns-in-Err-clause-answer g c)
