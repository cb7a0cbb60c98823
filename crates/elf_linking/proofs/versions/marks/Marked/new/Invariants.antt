use Rattle.std.proofs.Common.{◌-◌, length}
use Rattle.elf_linking.proofs.Marking.{Marking}
use Rattle.elf_linking.proofs.versions.marks.Marked.new.Given as goal

-- the marks of the definitions so far are right
abbrev pub invariant-loop-passed : goal.invariant-loop-passed
invariant-loop-passed l = Marking l.records.order l.records.bytes.now (length l.records.bytes.now) l.place (length l.records.bytes.now - l.passed) l.marks
