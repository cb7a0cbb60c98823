use Rattle.std.specs.Prelude.{IfSome, length}
use Rattle.elf_loading.specs.Relocate.{AreWordsFor}
use Rattle.elf_loading.specs.WordsLeft.{HasWordOf, relocations_left}
use Rattle.elf_loading.proofs.Written.{SoFar}
use Rattle.elf_loading.proofs.relocate.Sources.write_words.Given as goal

-- the words so far are written
abbrev pub invariant-loop-relocation : goal.invariant-loop-relocation
invariant-loop-relocation g l = record {
  words : AreWordsFor l.fn.self.objects.now l.fn.own l.fn.self.of l.lazy l.words;
  so_far : SoFar g.E.Entry.fields l.fn.self l.fn.own l.lazy (relocations_left l.fn.words) l.fn.image (relocations_left l.words) l.image l.count l.index;
  last : IfSome l.last (HasWordOf g.E.Entry.fields l.words);
}

abbrev pub decreases-loop-relocation : goal.decreases-loop-relocation
decreases-loop-relocation g l = length (relocations_left l.words)
