use Rattle.std.proofs.Common.{ap, sym, ◌∙◌}
use Rattle.std.specs.Result.{result_ok}
use Rattle.elf_base.specs.Text.{bytes_up_to_zero_of}
use Rattle.elf_linking.specs.DynamicObject.{object_strings, object_symbols}
use Rattle.elf_linking.proofs.DynamicObjects.{name_at}
use Rattle.elf_linking.proofs.object.DynamicObject.name.Goals as goal

pub returns-in-Some-clause-text : goal.returns-in-Some-clause-text
returns-in-Some-clause-text g c =
    name_at (object_symbols g.E.Entry.fields c.args.self.now).text c.in-Some.symbol _ (object_strings c.args.self.now).now _ c.text_by.result c.in-Some.ensures (ap (λ place. result_ok (bytes_up_to_zero_of (object_strings c.args.self.now).now place)) (sym (c.from.ensures ∙ c.name.ensures))) c.text_by.ensures
