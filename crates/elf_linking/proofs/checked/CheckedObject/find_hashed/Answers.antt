-- The search has no error by the invariant, and what it finds is what the exports say.
use Rattle.std.proofs.Common.{subst}
use Rattle.elf_linking.specs.DynamicObject.{object_dynamic_symbols}
use Rattle.elf_linking.specs.Find.{IsFound}
use Rattle.elf_linking.proofs.ExportFinds.{finds_plain, never_fails}
use Rattle.elf_linking.proofs.checked.CheckedObject.find_hashed.Goals as goal

pub unreachable-requires : goal.unreachable-requires
unreachable-requires g c =
    let file = object_dynamic_symbols g.E.Entry.fields c.self.inside.object in
    never_fails file c.self.invariant c.args.name.now c.args.wanted.now c.args.use_ c.in-Err.field-0
    (subst (IsFound file c.args.name.now c.args.wanted.now c.args.use_) c.in-Err.is c.find_hashed.ensures)

pub returns : goal.returns
returns g c =
    let file = object_dynamic_symbols g.E.Entry.fields c.self.inside.object in
    let plain = finds_plain file c.self.invariant c.args.name.now c.args.wanted.now c.args.use_ c.in-Ok.found
    (subst (IsFound file c.args.name.now c.args.wanted.now c.args.use_) c.in-Ok.is c.find_hashed.ensures) in
    rw (← c.self.view_is) plain
