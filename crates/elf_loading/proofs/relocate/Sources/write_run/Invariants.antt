use Rattle.std.proofs.Common.{◌≡◌, length}
use Rattle.elf_loading.specs.InOrder.{first_left, records_left}
use Rattle.elf_loading.specs.RelativeWords.{IsWrittenSoFar}
use Rattle.elf_loading.proofs.relocate.Sources.write_run.Given as goal

-- the words of the records so far are written
abbrev pub invariant-loop-count : goal.invariant-loop-count
invariant-loop-count g l = record {
  len : length l.image ≡ length l.fn.image;
  so_far : IsWrittenSoFar g.E.Entry.fields l.fn.self l.fn.words.own.now l.fn.words.lazy (records_left l.fn.words.order.records) l.fn.image (first_left l.records l.records.at) l.image 0 l.count;
}

abbrev pub decreases-loop-count : goal.decreases-loop-count
decreases-loop-count g l = length (first_left l.records l.records.at)
