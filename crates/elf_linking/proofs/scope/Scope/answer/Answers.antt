use Rattle.std.proofs.Common.{rules}
use Rattle.elf_linking.specs.Scope.{IsBoundFor, IsBound, scope_objects}
use Rattle.elf_linking.proofs.Bindings.{asked_right}
use Rattle.elf_linking.proofs.scope.Scope.answer.Goals as goal

pub returns-in-Look-default-default-default-Some-clause-good : goal.returns-in-Look-default-default-default-Some-clause-good
returns-in-Look-default-default-default-Some-clause-good g c = λ good below.
    let objects = (scope_objects c.args.self.now).now in
    let answers : IsBoundFor (IsBound g.E.Entry.fields objects c.args.from) c.args.from c.args.index c.args.asked.now c.protected.result = search rules in
    asked_right g.E.Entry.fields objects c.args.from good below c.args.index c.args.asked.now c.protected.result answers
