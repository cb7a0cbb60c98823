use Rattle.std.proofs.Common.{Ok, Err, sym, ap, ◌∙◌}
use Rattle.elf_linking.specs.DynamicObject.{object_dynamic_symbols}
use Rattle.elf_linking.specs.Scope.{asked_parts}
use Rattle.elf_linking.specs.VersionTables.{result_map}
use Rattle.elf_linking.proofs.ExportAsks.{asked_plain, readable_by}
use Rattle.elf_linking.proofs.checked.CheckedObject.asked.Goals as goal

pub returns-in-Ok : goal.returns-in-Ok
returns-in-Ok g c =
    let fields = g.E.Entry.fields in
    let object = c.self.inside.object in
    let plain = asked_plain fields object (readable_by (object_dynamic_symbols fields object) c.self.invariant) c.args.reference.now (Ok c.in-Ok.asked)
    (ap (result_map asked_parts) (sym c.in-Ok.is) ∙ c.asked.ensures) in
    rw (← c.self.view_is) plain

pub returns-in-Err : goal.returns-in-Err
returns-in-Err g c =
    let fields = g.E.Entry.fields in
    let object = c.self.inside.object in
    let plain = asked_plain fields object (readable_by (object_dynamic_symbols fields object) c.self.invariant) c.args.reference.now (Err c.in-Err.field-0)
    (ap (result_map asked_parts) (sym c.in-Err.is) ∙ c.asked.ensures) in
    rw (← c.self.view_is) plain
