use Rattle.elf_c.proofs.load_images.xmas_elf_check_image.Goals as goal

pub returns : goal.returns
returns c = let exact = rw c.page_of.ensures.value at c.check-answer.ensures in (c.check-answer.result, exact, c.give_or_fail.ensures)
