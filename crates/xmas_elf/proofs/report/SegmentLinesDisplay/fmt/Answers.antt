use Rattle.std.proofs.Common.{rules}
use Rattle.xmas_elf.specs.Report.{segment_line, segment_lines}
use Rattle.xmas_elf.proofs.ReportLines.{next_line}
use Rattle.xmas_elf.proofs.report.SegmentLinesDisplay.fmt.Goals as goal

pub loop-program-preserved : goal.loop-program-preserved
loop-program-preserved g c =
    let file = c.args.self.now.0.now in
    next_line _ (segment_line file) (segment_lines file) _ _ _ c.loop-program.index _ _ c.in-Some.program c.in-Some.ensures.steps (λ plain. search rules) c.loop-program.invariant
