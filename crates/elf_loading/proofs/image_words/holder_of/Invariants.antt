use Rattle.std.proofs.Common.{◌≡◌}
use Rattle.std.specs.List.{find}
use Rattle.elf_loading.specs.ImageWords.{holds_word}
use Rattle.elf_loading.specs.Loads.{loads_left}
use Rattle.elf_loading.specs.Plan.{plan_loads}
use Rattle.elf_loading.proofs.image_words.holder_of.Given as goal

abbrev pub invariant-loop-load : goal.invariant-loop-load
invariant-loop-load l = find (holds_word l.word) (loads_left l.load-iterator) ≡ find (holds_word l.word) (plan_loads l.plan)
