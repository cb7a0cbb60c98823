use Rattle.elf_loading.proofs.Marks.{byte_set}
use Rattle.elf_loading.proofs.image_words.mark_byte.Goals as goal

pub returns-clause-set : goal.returns-clause-set
returns-clause-set c = λ i. byte_set c.args.marks.now c.args.start c.requires.whole c.requires.room i
