use Rattle.std.proofs.Common.{◌≡◌, ◌<◌, ◌∙◌, length, refl, ap, arith}
use Rattle.std.proofs.lemmas.List.{take_all}
use Rattle.elfload.specs.Starts.{numbered}
use Rattle.elfload.proofs.StartValues.{one_numbered}
use Rattle.elf_loading.specs.declared.value.Value.TheVariants.{Unchanged}
use Rattle.elfload.proofs.starts.number_all.Goals as goal

pub loop-index-preserved : goal.loop-index-preserved
loop-index-preserved g c =
    let values = c.args.values.now in
    let index = c.loop-index.index in
    let below : index < length values = omega (arith, c.loop-index-test.true) in
    one_numbered c.args.other.path c.args.other.step values index Unchanged _ c.loop-index.starts.items c.in-Ok.more.items below refl c.loop-index.invariant c.in-Ok.ensures

pub returns : goal.returns
returns g c =
    let values = c.args.values.now in
    c.loop-index.invariant ∙ ap (numbered c.args.other.path c.args.other.step 0) (take_all c.loop-index.index values (omega (arith, c.loop-index-test.false)))
