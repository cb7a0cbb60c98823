use Rattle.elf_linking.specs.DynamicView.{entries_left}
use Rattle.elf_c.proofs.StoredNames.{stored_texts_lie}
use Rattle.elf_c.proofs.dynamic_texts.fill_texts.Goals as goal

pub returns-clause-within : goal.returns-clause-within
returns-clause-within c = stored_texts_lie c.args.tag c.args.file.now.input.now c.strings_of.result (entries_left c.entries.result)
    c.args.first c.args.out.now c.fill_in_order.result c.fill_in_order.new.out c.fill_in_order.ensures
