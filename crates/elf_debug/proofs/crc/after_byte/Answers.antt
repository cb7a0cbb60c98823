use Rattle.elf_debug.proofs.Remainders.{by_table}
use Rattle.elf_debug.proofs.crc.after_byte.Goals as goal

pub returns : goal.returns
returns c = rw c.from.ensures (by_table c.args.remainder c.args.byte c.table_entry.result c.ranges.byte.fits (rw c.from.ensures at c.table_entry.ensures))
