use Rattle.std.proofs.Common.{arith}
use Rattle.elf_c.proofs.search_order.write_both.Goals as goal

pub returns-in-Ok : goal.returns-in-Ok
returns-in-Ok c =
    let count = c.requires.count in
    let room = c.requires.room in record {
      order = c.args.order.now;
      same_count = count;
      found = c.requires.listed;
      plain = c.requires.plain;
      numbers = λ needed k below. c.write_list.ensures (c.requires.plain needed).plain k (omega (arith, below, count)) (omega (arith, below, room));
      starts_are = c.in-Ok.ensures.starts;
    }
