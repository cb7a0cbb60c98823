use Rattle.std.proofs.Common.{◌≡◌, Some, None, Ok, refl, sym, ap, ◌∙◌}
use Rattle.elf_linking.specs.References.{file_machine}
use Rattle.elf_linking.specs.RelocationTypes.{relative_of}
use Rattle.elf_loading.specs.RelativeWords.{relative_word}
use Rattle.elf_loading.specs.WordsLeft.{words_objects}
use Rattle.elf_loading.proofs.Written.{relative_has}
use Rattle.elf_loading.proofs.image_words.check_next.Goals as goal

pub returns-in-Some-clause-item : goal.returns-in-Some-clause-item
returns-in-Some-clause-item g c =
    let words = c.args.words.now in
    let relocation = c.args.relocation in
    let is : relative_word words.of (relative_of (file_machine words.file)) relocation ≡ Some c.in-Some.word =
    ap (λ row. relative_word words.of row relocation) (sym {b = relative_of (file_machine words.file)} c.requires.relative) ∙ sym c.relative_word.ensures ∙ c.in-Some.is in record {
      item = record { relocation = relocation; bound = Ok None; word = Ok c.in-Some.word };
      relocation_is = refl;
      has_word = relative_has g.E.Entry.fields words.file words.own.now words.of words.lazy relocation c.in-Some.word is (words_objects words).now;
      checked = c.check_word.ensures.exact;
    }
