use Rattle.elf_debug.proofs.Remainders.{table_is}
use Rattle.elf_debug.proofs.crc.table_entry.Goals as goal

pub returns : goal.returns
returns c = table_is c.args.byte c.ranges.byte.fits
