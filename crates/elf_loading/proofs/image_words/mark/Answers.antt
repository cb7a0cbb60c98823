use Rattle.elf_loading.proofs.Marks.{one_marked}
use Rattle.elf_loading.proofs.image_words.mark.Goals as goal

pub returns-clause-set : goal.returns-clause-set
returns-clause-set c = λ i. one_marked c.args.marks.now c.args.index c.requires i
