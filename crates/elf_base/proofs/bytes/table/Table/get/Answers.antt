use Rattle.std.proofs.Common.{◌≡◌, ◌+◌, ◌-◌, ◌*◌, Some, drop, take, ap, sym, ◌∙◌, arith}
use Rattle.elf_base.specs.Table.{record_at}
use Rattle.elf_base.proofs.lemmas.RecordLemmas.{slice_get-records}
use Rattle.elf_base.proofs.bytes.table.Table.get.Goals as goal

pub returns-clause-item : goal.returns-clause-item
returns-clause-item g c =
    let size = g.T.Record.SIZE in
    let value = g.T.Record.value c.args.self.now.order in
    let bytes = c.args.self.now.bytes.now in
    let index = c.args.index in
    let width : index * c.SIZE.result + c.SIZE-2.result - index * c.SIZE.result ≡ size = omega (arith, c.SIZE-2.ensures) in
    let decoded : c.decode.result ≡ record_at size value bytes index =
    c.decode.ensures ∙ ap (λ n. value (take n (drop (index * c.SIZE.result) bytes))) width
    ∙ ap (λ s. value (take size (drop (index * s) bytes))) c.SIZE.ensures in
    ap Some decoded ∙ sym (slice_get-records size value bytes index (omega (arith, c.if-index-len.false, c.len.ensures.items)))
