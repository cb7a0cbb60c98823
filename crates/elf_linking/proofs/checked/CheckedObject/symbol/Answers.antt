use Rattle.std.proofs.Common.{sym, ap, ◌∙◌}
use Rattle.std.specs.Prelude.{option_map}
use Rattle.elf_linking.proofs.lemmas.CheckedParts.{fields_by_parts}
use Rattle.elf_linking.proofs.checked.CheckedObject.symbol.Goals as goal

pub returns : goal.returns
returns g c =
    let fields = g.E.Entry.fields in
    let object = c.self.inside.object in
    let plain = ap (option_map fields) c.symbol.ensures ∙ sym (fields_by_parts fields object c.args.index) in
    rw (← c.self.view_is) plain
