use Rattle.std.specs.Prelude.{map}
use Rattle.elf_linking.specs.CheckedBindings.{checked_left}
use Rattle.elf_linking.specs.Exports.{object_parts}
use Rattle.elfbind.proofs.Items.{AreLinesSoFar}
use Rattle.elfbind.proofs.bindings.write_bindings.Given as goal

-- the lines of the items so far
abbrev pub invariant-loop-item : goal.invariant-loop-item
invariant-loop-item g l = AreLinesSoFar l.fn.inputs (map (object_parts g.E.Entry.fields) l.fn.objects) l.fn.style
    (checked_left l.item-iterator) l.missing (g.W.Write.contents l.fn.out) (g.W.Write.contents l.out)
