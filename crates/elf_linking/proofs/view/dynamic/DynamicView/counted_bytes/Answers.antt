use Rattle.elf_linking.proofs.ViewTables.{whole_at}
use Rattle.elf_linking.proofs.view.dynamic.DynamicView.counted_bytes.Goals as goal

pub returns-in-Some-clause-whole : goal.returns-in-Some-clause-whole
returns-in-Some-clause-whole c = whole_at c.args.file.now c.in-Some.address c.args.count c.args.size c.requires.above _ c.bytes_at.ensures.found
