use Rattle.std.proofs.Common.{◌/◌, length, ap, sym, ◌∙◌}
use Rattle.elf_base.proofs.lemmas.RecordLemmas.{length-records}
use Rattle.elf_base.proofs.bytes.table.Table.len.Goals as goal

pub returns-clause-items : goal.returns-clause-items
returns-clause-items g c =
    let bytes = c.args.self.now.bytes.now in
    ap (λ n. length bytes / n) c.SIZE.ensures
    ∙ sym (length-records g.T.Record.SIZE (g.T.Record.value c.args.self.now.order) bytes)
