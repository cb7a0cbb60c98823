use Rattle.std.proofs.Common.{◌≡◌, length}
use Rattle.elf_addresses.specs.SectionCounts.{AreCounts}
use Rattle.elf_addresses.proofs.section_counts.count_all.Given as goal

-- the symbols so far are counted
abbrev pub invariant-loop-index : goal.invariant-loop-index
invariant-loop-index g l = AreCounts g.E.Entry.fields l.symbols l.index l.counts × (length l.counts ≡ length l.fn.counts)
