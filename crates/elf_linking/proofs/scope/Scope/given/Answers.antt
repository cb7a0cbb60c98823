use Rattle.std.proofs.Common.{rules, ◌≡◌, false, Ok, sym, ap, ◌∙◌}
use Rattle.std.specs.Prelude.{option_map}
use Rattle.elf_linking.specs.DynamicObject.{object_dynamic_symbols}
use Rattle.elf_linking.specs.Find.{IsFound}
use Rattle.elf_linking.specs.Scope.{is_passed_over, scope_objects}
use Rattle.elf_linking.specs.Serves.{if_serving}
use Rattle.elf_linking.specs.VersionTables.{result_map}
use Rattle.elf_linking.proofs.Scopes.{gives_at, item_is}
use Rattle.elf_linking.proofs.scope.Scope.given.Goals as goal

pub returns-in-Ok : goal.returns-in-Ok
returns-in-Ok g c =
    let objects = (scope_objects c.args.self.now).now in
    let there = ap (option_map (object_dynamic_symbols g.E.Entry.fields)) (item_is objects c.args.place c.get.result c.in-Some.object c.get.ensures.lookup c.in-Some.is) in
    let not : is_passed_over c.args.use_ c.args.place ≡ false = search rules in
    gives_at IsFound g.E.Entry.fields objects c.args.name.now c.args.wanted.now c.args.use_ c.args.place not (object_dynamic_symbols g.E.Entry.fields c.in-Some.object.now) there c.find_hashed.result _ (ap (λ x. Ok x) c.if_serving.ensures ∙ sym (ap (result_map (if_serving g.E.Entry.fields)) c.in-Ok.is)) c.find_hashed.ensures

pub returns-in-Err : goal.returns-in-Err
returns-in-Err g c =
    let objects = (scope_objects c.args.self.now).now in
    let there = ap (option_map (object_dynamic_symbols g.E.Entry.fields)) (item_is objects c.args.place c.get.result c.in-Some.object c.get.ensures.lookup c.in-Some.is) in
    let not : is_passed_over c.args.use_ c.args.place ≡ false = search rules in
    gives_at IsFound g.E.Entry.fields objects c.args.name.now c.args.wanted.now c.args.use_ c.args.place not (object_dynamic_symbols g.E.Entry.fields c.in-Some.object.now) there c.find_hashed.result _ (sym (ap (result_map (if_serving g.E.Entry.fields)) c.in-Err.is)) c.find_hashed.ensures
