use Rattle.std.proofs.Common.{◌≡◌, ℕ, ◌+◌, slice_index, subst}
use Rattle.std.specs.Prelude.{IfOk}
use Rattle.elf_loading.specs.Relocate.{word_byte}
use Rattle.elf_loading.proofs.Written.{has_word}
use Rattle.elf_loading.proofs.relocate.Sources.write_other.Goals as goal

pub returns-clause-item : goal.returns-clause-item
returns-clause-item g c =
    let sources = c.args.self.now in
    let words = c.args.words.now in
    let item = c.item_after-item.result in record {
      item = item;
      relocation_is = c.item_after-item.ensures.relocation;
      has_word = has_word sources.objects.now words.own.now sources.of words.lazy g.E.Entry.fields words item c.requires.words c.item_after-item.ensures.word;
      result_is = c.write_item.ensures.result;
      bytes = subst (λ start. IfOk c.write_item.result (λ lacks. (i : ℕ) → slice_index c.write_item.new.image i ≡ word_byte sources (start + i) item.word (slice_index c.args.image.now i))) c.requires.start c.write_item.ensures.bytes;
      same = c.write_item.ensures.same;
    }
