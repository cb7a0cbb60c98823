use Rattle.xmas_elf.specs.ProgramHeader.{program_rest}
use Rattle.xmas_elf.specs.Report.{segment_line, segment_lines}
use Rattle.xmas_elf.proofs.ReportLines.{LinesSoFar}
use Rattle.xmas_elf.proofs.report.SegmentLinesDisplay.fmt.Given as goal

abbrev pub invariant-loop-program : goal.invariant-loop-program
invariant-loop-program g l = let file = l.fn.self.0.now in
    LinesSoFar g.W.Write.write_str_gives (segment_line file) (segment_lines file) l.initial.f l.index (program_rest l.program-iterator) l.f
