use Rattle.std.proofs.Common.{◌≡◌, [], ◌∷◌, ap, ◌∙◌, rules}
use Rattle.elf_linking.specs.Relr.{marks_left, address_after, word_size, words_left}
use Rattle.elf_linking.proofs.RelrItems.{taken_up}
use Rattle.elf_linking.proofs.relr.RelrIterator.next.Goals as goal

pub loop-address-preserved : goal.loop-address-preserved
loop-address-preserved c =
    let old = c.loop-address.self in
    let size = word_size c.next.new.self in
    let place = c.next_marked.new.self.place in
    let bare : marks_left old ≡ [] = search rules in
    let begins : words_left old.words ≡ c.in_ok-word.word ∷ words_left c.next.new.self = search rules in
    let same : size ≡ word_size old.words = search rules in
    let there : place ≡ old.place = search rules in
    taken_up (word_size old.words) size old.place place c.after-self-in-loop-address.result c.in_ok-word.word (marks_left old) (words_left old.words) (words_left c.next.new.self) _ c.loop-address.invariant bare begins c.if-word-eq0.false same there
    (c.after-self-in-loop-address.ensures ∙ ap (address_after size place) c.marks.ensures)
