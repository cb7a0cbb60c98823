use Rattle.std.proofs.Common.{rules, ◌≡◌, Some}
use Rattle.elf_linking.specs.References.{file_machine}
use Rattle.elf_linking.specs.RelocationTypes.{relative_of}
use Rattle.elf_loading.specs.RelativeWords.{relative_word}
use Rattle.elf_loading.specs.WordsLeft.{words_objects}
use Rattle.elf_loading.proofs.Written.{relative_has}
use Rattle.elf_loading.proofs.words.Words.quick_item.Goals as goal

pub returns-in-Some-clause-word : goal.returns-in-Some-clause-word
returns-in-Some-clause-word g c =
    let words = c.args.self.now in
    let is : relative_word words.of (relative_of (file_machine words.file)) c.args.relocation ≡ Some c.in-Some.word = search rules in
    relative_has g.E.Entry.fields words.file words.own.now words.of words.lazy c.args.relocation c.in-Some.word is (words_objects words).now
