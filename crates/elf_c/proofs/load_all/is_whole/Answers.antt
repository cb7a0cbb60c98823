use Rattle.std.proofs.Common.{◌≡◌, length, refl, arith}
use Rattle.std.proofs.lemmas.Option.{slice_get_read}
use Rattle.elf_c.proofs.LoadAll.{begin_none, not_whole, whole_step}
use Rattle.elf_c.proofs.load_all.is_whole.Goals as goal

pub loop-index-init : goal.loop-index-init
loop-index-init c = let none = begin_none c.args.plans.now in omega (arith, none)

pub returns-then-size-rest : goal.returns-then-size-rest
returns-then-size-rest c =
    let there = slice_get_read c.args.plans.now (length c.args.plans.now) c.loop-index.index c.index-plans-index.result refl c.loop-index-test.true c.index-plans-index.is in (
      λ is. absurd (cc),
      λ same. absurd (not_whole c.args.plans.now c.loop-index.index c.loop-index.rest c.args.memory c.size_of-size.result c.index-plans-index.result there c.loop-index.invariant c.size_of-size.ensures (omega (arith, c.if-size-rest.true)) same),
    )

pub loop-index-preserved : goal.loop-index-preserved
loop-index-preserved c =
    let there = slice_get_read c.args.plans.now (length c.args.plans.now) c.loop-index.index c.index-plans-index.result refl c.loop-index-test.true c.index-plans-index.is in
    whole_step c.args.plans.now c.loop-index.index c.loop-index.rest c.args.memory c.size_of-size.result c.index-plans-index.result there c.loop-index.invariant c.size_of-size.ensures (omega (arith, c.if-size-rest.false))
