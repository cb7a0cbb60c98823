use Rattle.std.proofs.Common.{◌≡◌, ◌||◌, ℕ, length}
use Rattle.elf_loading.specs.ImageWords.{is_marked, some_marked}
use Rattle.elf_loading.proofs.Marks.{is_between}
use Rattle.elf_loading.proofs.image_words.mark_each.Given as goal

-- the marks before the place are set, and one of them was if `was` says so
abbrev pub invariant-loop-place : goal.invariant-loop-place
invariant-loop-place l = record {
  len : length l.marks ≡ length l.fn.marks;
  was : l.was ≡ some_marked l.fn.marks l.start l.place;
  set : (i : ℕ) → is_marked l.marks i ≡ (is_between l.start l.place i || is_marked l.fn.marks i);
}
