use Rattle.elf_loading.proofs.SlotWords.{symbol_held}
use Rattle.elf_loading.proofs.checked.image.CheckedImage.read_word.Goals as goal

pub returns-clause-slot : goal.returns-clause-slot
returns-clause-slot g c places others has = symbol_held c.args.self.now places others c.args.memory.now c.args.address c.word_at.result c.word_at.ensures has
