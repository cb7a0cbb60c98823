use Rattle.elfsize.proofs.Compared.{pair_ends}
use Rattle.elfsize.proofs.changes.DifferenceOutput.write_to.Goals as goal

pub returns : goal.returns
returns g c =
    let sides = c.args.self.now in
    pair_ends sides.form sides.old.now sides.new.now c.in-Ok.old_parts.items c.in-Ok-parts_of.new_parts.items c.deref_mut.result.now c.deref_mut-2.result.now c.in-Ok-kinds_of.kinds
    c.in-Ok.ensures c.in-Ok-parts_of.ensures c.deref_mut.ensures.value c.deref_mut-2.ensures.value c.in-Ok-kinds_of.ensures c.write_changes.result _ _ c.write_changes.ensures
