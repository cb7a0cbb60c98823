use Rattle.std.proofs.Common.{◌≡◌, ℕ, ◌+◌, Some, Ok, slice_index, refl, sym, ap, ◌∙◌, subst}
use Rattle.std.specs.Prelude.{IfOk}
use Rattle.elf_linking.specs.DynamicObject.{object_file}
use Rattle.elf_linking.specs.References.{file_machine}
use Rattle.elf_linking.specs.RelocationTypes.{relative_of}
use Rattle.elf_loading.specs.RelativeWords.{relative_word}
use Rattle.elf_loading.specs.Relocate.{word_byte}
use Rattle.elf_loading.proofs.Written.{relative_written}
use Rattle.elf_loading.proofs.relocate.Sources.write_next.Goals as goal

pub returns-in-Some-clause-item : goal.returns-in-Some-clause-item
returns-in-Some-clause-item g c =
    let sources = c.args.self.now in
    let words = c.args.words.now in
    let relocation = c.args.relocation in
    let is : relative_word sources.of (relative_of (file_machine (object_file words.own.now))) relocation ≡ Some c.in-Some.word =
    ap (λ file. relative_word sources.of (relative_of (file_machine file)) relocation) (sym {b = object_file words.own.now} c.requires.words.file_is)
    ∙ ap (λ kinds. relative_word sources.of kinds relocation) (sym {b = relative_of (file_machine words.file)} c.requires.relative) ∙ sym c.relative_word.ensures ∙ c.in-Some.is in
    relative_written g.E.Entry.fields words.own.now sources.of words.lazy relocation c.in-Some.word is sources c.args.image.now c.write_word.new.image c.write_word.result refl
    c.write_word.ensures.result
    (subst (λ start. IfOk c.write_word.result (λ lacks. (i : ℕ) → slice_index c.write_word.new.image i ≡ word_byte sources (start + i) (Ok c.in-Some.word) (slice_index c.args.image.now i))) c.requires.start c.write_word.ensures.bytes)
    c.write_word.ensures.same
