use Rattle.std.proofs.Common.{◌≡◌, ◌-◌, ◌∷◌, length, drop, take, refl, sym, ap, ◌∙◌, arith, zero-mul}
use Rattle.elf_base.specs.Table.{records}
use Rattle.elf_base.proofs.lemmas.RecordLemmas.{records-none, records-split}
use Rattle.elf_base.proofs.bytes.table.Table.split_first.Goals as goal

pub returns-in_err-first : goal.returns-in_err-first
returns-in_err-first g c =
    let size = g.T.Record.SIZE in
    let h = c.in_err-first.ensures.value in
    rw c.from_residual.ensures (records-none size (g.T.Record.value c.args.self.now.order) c.args.self.now.bytes.now (omega (arith, h, zero-mul size)))

pub returns : goal.returns
returns g c =
    let size = g.T.Record.SIZE in
    let value = g.T.Record.value c.args.self.now.order in
    let bytes = c.args.self.now.bytes.now in
    let h = c.in_ok-first.ensures.value in
    let first : c.in_ok-first.first ≡ value (take size bytes) = h.1 ∙ ap (λ n. value (take size (drop n bytes))) (zero-mul size) in
    let all = records-split size value bytes g.met.T.Record.size_above_zero c.args.self.now.whole (omega (arith, h.0, zero-mul size)) in
    (refl, rw c.SIZE.ensures (all ∙ ap (λ x. x ∷ records size value (take (length bytes - size) (drop size bytes))) (sym first)))
