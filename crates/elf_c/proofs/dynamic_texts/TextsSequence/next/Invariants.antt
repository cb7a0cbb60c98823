use Rattle.std.proofs.Common.{◌≡◌, length}
use Rattle.elf_linking.specs.DynamicView.{entries_left}
use Rattle.elf_c.specs.DynamicTexts.{texts_with}
use Rattle.elf_c.proofs.dynamic_texts.TextsSequence.next.Given as goal

abbrev pub invariant-loop-entry : goal.invariant-loop-entry
invariant-loop-entry l = (l.self.tag ≡ l.initial.self.tag) × (l.self.input ≡ l.initial.self.input)
    × (l.self.strings ≡ l.initial.self.strings)
    × (texts_with l.self.tag l.self.input.now l.self.strings (entries_left l.self.entries)
    ≡ texts_with l.self.tag l.self.input.now l.self.strings (entries_left l.initial.self.entries))

abbrev pub decreases-loop-entry : goal.decreases-loop-entry
decreases-loop-entry l = length (entries_left l.self.entries)
