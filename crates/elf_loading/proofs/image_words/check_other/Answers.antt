use Rattle.std.proofs.Common.{sym, ap, subst}
use Rattle.elf_loading.specs.ImageWords.{IsWordCheck, check_word}
use Rattle.elf_loading.specs.Plan.{plan_loads}
use Rattle.elf_loading.proofs.image_words.check_other.Goals as goal

pub returns-in-Ok-clause-item : goal.returns-in-Ok-clause-item
returns-in-Ok-clause-item g c =
    let room = c.args.room.now in record {
      item = c.item_after-item.result;
      relocation_is = c.item_after-item.ensures.relocation;
      has_word = c.item_after-item.ensures.word;
      checked = subst (λ word. IsWordCheck (plan_loads room.plan.now) room.text room.tables room.start word c.args.marks.now c.check_word.new.marks c.check_word.result) (sym c.in-Ok.is) c.check_word.ensures.exact;
    }

pub returns-in-Err-clause-item : goal.returns-in-Err-clause-item
returns-in-Err-clause-item g c =
    let room = c.args.room.now in record {
      item = c.item_after-item.result;
      relocation_is = c.item_after-item.ensures.relocation;
      has_word = c.item_after-item.ensures.word;
      checked = λ before marks. ap (check_word (plan_loads room.plan.now) room.text room.tables before) c.in-Err.is;
    }
