use Rattle.std.proofs.Common.{Some, None, rules}
use Rattle.elf_linking.specs.DynamicObject.{other_class}
use Rattle.elf_linking.specs.DynamicView.{view_entries}
use Rattle.elf_linking.proofs.DynamicObjects.{counted, of_class}
use Rattle.elf_linking.proofs.object.DynamicObject.symbols_of_class.Goals as goal

pub returns-then-raw-CLASS-clause-exact : goal.returns-then-raw-CLASS-clause-exact
returns-then-raw-CLASS-clause-exact g c = other_class (search rules)

pub returns-in-None-clause-exact : goal.returns-in-None-clause-exact
returns-in-None-clause-exact g c =
    rw c.in-None.is (of_class None _ _ c.args.file.now (view_entries c.args.view.now) c.records.result (search rules) c.records.ensures.exact)

pub returns-in-Some-clause-exact : goal.returns-in-Some-clause-exact
returns-in-Some-clause-exact g c =
    let many = c.in-Some.count in
    rw c.in-Some.is (of_class (Some many) _ _ c.args.file.now (view_entries c.args.view.now) c.counted_records.result (search rules)
    (counted many _ c.args.file.now (view_entries c.args.view.now) c.counted_records.result c.counted_records.ensures.exact))
