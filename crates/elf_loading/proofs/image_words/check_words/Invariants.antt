use Rattle.std.proofs.Common.{◌≡◌, length}
use Rattle.std.specs.Prelude.{IfSome}
use Rattle.elf_loading.specs.ImageWords.{IsKnown}
use Rattle.elf_loading.specs.Plan.{plan_loads}
use Rattle.elf_loading.specs.WordsLeft.{HasWordOf, relocations_left}
use Rattle.elf_loading.proofs.ImageChecks.{AreCheckedSoFar}
use Rattle.elf_loading.proofs.image_words.check_words.Given as goal

-- the words so far are checked, and have marks
abbrev pub invariant-loop-relocation : goal.invariant-loop-relocation
invariant-loop-relocation g l = record {
  len : length l.marks ≡ length l.fn.marks;
  so_far : AreCheckedSoFar g.E.Entry.fields (plan_loads l.room.plan.now) l.room.text l.room.tables l.room.start l.fn.words l.words l.marks l.index;
  last : IfSome l.last (HasWordOf g.E.Entry.fields l.words);
  holder : IfSome l.holder (IsKnown (plan_loads l.room.plan.now) l.room.tables);
}

abbrev pub decreases-loop-relocation : goal.decreases-loop-relocation
decreases-loop-relocation g l = length (relocations_left l.words)
