use Rattle.std.proofs.Common.{◌≡◌, ◌-◌}
use Rattle.elf_linking.specs.Relr.{marked, marks, marks_left, word_size}
use Rattle.elf_linking.proofs.relr.Relr.next_marked.Given as goal

abbrev pub invariant-loop-count : goal.invariant-loop-count
invariant-loop-count l = record {
  same : l.self ≡ l.initial.self;
  left : marks_left l.initial.self ≡ (let size = word_size l.self.words in
      marked size l.self.base l.self.bitmap l.count (marks size - l.count));
}
