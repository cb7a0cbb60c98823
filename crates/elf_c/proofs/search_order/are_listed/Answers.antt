use Rattle.std.proofs.Common.{rules}
use Rattle.std.proofs.lemmas.Option.{slice_get-get_or}
use Rattle.elf_search.specs.Order.{edges_of}
use Rattle.elf_c.proofs.SearchOrder.{listed_more}
use Rattle.elf_c.proofs.search_order.are_listed.Goals as goal

pub loop-number-preserved : goal.loop-number-preserved
loop-number-preserved c = listed_more (edges_of c.args.order.now) c.args.dependencies.now c.loop-number.number _
    (slice_get-get_or c.args.dependencies.now c.loop-number.number _ c.loop-number-test.true) (c.is_listed.ensures (search rules)) c.loop-number.invariant
