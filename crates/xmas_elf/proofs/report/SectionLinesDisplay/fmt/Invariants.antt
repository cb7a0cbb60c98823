use Rattle.xmas_elf.specs.SectionHeader.{section_rest}
use Rattle.xmas_elf.specs.Report.{section_line, section_lines}
use Rattle.xmas_elf.proofs.ReportLines.{LinesSoFar}
use Rattle.xmas_elf.proofs.report.SectionLinesDisplay.fmt.Given as goal

abbrev pub invariant-loop-section : goal.invariant-loop-section
invariant-loop-section g l = let file = l.fn.self.0.now in
    LinesSoFar g.W.Write.write_str_gives (section_line file) (section_lines file) l.initial.f l.index (section_rest l.section-iterator) l.f
