use Rattle.elf_base.proofs.lemmas.RecordLemmas.{records-at}
use Rattle.elf_base.proofs.bytes.table.Table.iter.Goals as goal

pub returns-clause-each : goal.returns-clause-each
returns-clause-each g c d i below =
    records-at g.T.Record.SIZE (g.T.Record.value c.args.self.now.order) c.args.self.now.bytes.now i d below
