use Rattle.std.proofs.Common.{refl}
use Rattle.elf_linking.specs.DynamicObject.{object_dynamic_symbols}
use Rattle.elf_linking.proofs.ExportLists.{are_exports}
use Rattle.elf_linking.proofs.checked.CheckedObject.of.Goals as goal

pub returns-clause-exports : goal.returns-clause-exports
returns-clause-exports g c = are_exports (object_dynamic_symbols g.E.Entry.fields c.args.object) (c.in_ok-check.ensures.accepts.0 refl)
