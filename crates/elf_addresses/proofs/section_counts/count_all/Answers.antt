use Rattle.std.proofs.Common.{length, refl}
use Rattle.elf_addresses.proofs.SectionCountings.{none_counted}
use Rattle.elf_addresses.proofs.section_counts.count_all.Goals as goal

pub loop-index-init : goal.loop-index-init
loop-index-init g c = (rw c.requires.none (none_counted g.E.Entry.fields c.args.symbols.now (length c.args.counts.now)), refl)
