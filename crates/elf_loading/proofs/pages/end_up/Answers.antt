use Rattle.std.proofs.Common.{◌+◌, arith}
use Rattle.elf_loading.proofs.Rounded.{down_le}
use Rattle.elf_loading.proofs.pages.end_up.Goals as goal

pub overflow_add-result : goal.overflow_add-result
overflow_add-result c =
    let least = down_le c.args.page (c.args.start + c.args.size) in
    let last = c.end_down-last.ensures in
    let page = c.from-3.ensures in
    omega (arith, least, last, page)
