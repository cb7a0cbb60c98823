use Rattle.std.proofs.Common.{rules}
use Rattle.xmas_elf.specs.Report.{section_line, section_lines}
use Rattle.xmas_elf.proofs.ReportLines.{next_line}
use Rattle.xmas_elf.proofs.report.SectionLinesDisplay.fmt.Goals as goal

pub loop-section-preserved : goal.loop-section-preserved
loop-section-preserved g c =
    let file = c.args.self.now.0.now in
    next_line _ (section_line file) (section_lines file) _ _ _ c.loop-section.index _ _ c.in-Some.section c.in-Some.ensures.steps (λ plain. search rules) c.loop-section.invariant
