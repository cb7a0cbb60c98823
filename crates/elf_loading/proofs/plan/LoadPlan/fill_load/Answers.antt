use Rattle.std.proofs.Common.{◌∙◌, arith}
use Rattle.elf_loading.proofs.Filled.{load_filled, places}
use Rattle.elf_loading.proofs.plan.LoadPlan.fill_load.Goals as goal

pub overflow_sub-mapped : goal.overflow_sub-mapped
overflow_sub-mapped c =
    let plan = c.args.self.now in
    let all = places plan.page plan.limit c.args.load.now plan.paged c.requires.fits c.args.by in
    omega (arith, all.maps, c.requires.begins, c.mapped_end.ensures)

pub copy_file-requires-clause-order : goal.copy_file-requires-clause-order
copy_file-requires-clause-order c =
    let plan = c.args.self.now in
    let all = places plan.page plan.limit c.args.load.now plan.paged c.requires.fits c.args.by in
    omega (arith, all.maps, c.down.ensures, c.mapped_end.ensures)

pub copy_file-requires-clause-within : goal.copy_file-requires-clause-within
copy_file-requires-clause-within c =
    let plan = c.args.self.now in
    let all = places plan.page plan.limit c.args.load.now plan.paged c.requires.fits c.args.by in
    omega (arith, all.mapped, c.requires.ends, c.mapped_end.ensures)

pub overflow_add-zeros : goal.overflow_add-zeros
overflow_add-zeros c =
    let plan = c.args.self.now in
    let all = places plan.page plan.limit c.args.load.now plan.paged c.requires.fits c.args.by in
    omega (arith, all.zeros, all.zeroed, all.limited)

pub overflow_sub-zeros : goal.overflow_sub-zeros
overflow_sub-zeros c =
    let plan = c.args.self.now in
    let all = places plan.page plan.limit c.args.load.now plan.paged c.requires.fits c.args.by in
    omega (arith, all.starts, c.requires.begins)

pub overflow_sub-end : goal.overflow_sub-end
overflow_sub-end c =
    let plan = c.args.self.now in
    let all = places plan.page plan.limit c.args.load.now plan.paged c.requires.fits c.args.by in
    omega (arith, all.starts, all.zeros, c.requires.begins, c.zeroed_end.ensures)

pub clear-requires-clause-order : goal.clear-requires-clause-order
clear-requires-clause-order c =
    let plan = c.args.self.now in
    let all = places plan.page plan.limit c.args.load.now plan.paged c.requires.fits c.args.by in
    omega (arith, all.zeros, c.zeroed_end.ensures)

pub clear-requires-clause-within : goal.clear-requires-clause-within
clear-requires-clause-within c =
    let plan = c.args.self.now in
    let all = places plan.page plan.limit c.args.load.now plan.paged c.requires.fits c.args.by in
    omega (arith, all.zeroed, c.requires.ends, c.zeroed_end.ensures, c.copy_file.ensures.len)

pub returns-clause-bytes : goal.returns-clause-bytes
returns-clause-bytes c = λ i.
    let plan = c.args.self.now in
    let filled = load_filled plan.page plan.limit c.args.by c.args.load.now plan.input.now c.args.base i plan.paged c.requires.fits c.requires.begins _ (λ holds. c.requires.zeros i holds) in
    c.clear.ensures.bytes i ∙ rw (c.copy_file.ensures.bytes i, c.down.ensures, c.down-offset.ensures, c.mapped_end.ensures, c.zeroed_end.ensures) filled
