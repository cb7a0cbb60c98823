use Rattle.std.proofs.Common.{arith, rules}
use Rattle.elf_c.specs.LoadImages.{relocates_narrow, relocates_wide}
use Rattle.elf_c.proofs.load_images.relocate.Goals as goal

pub returns-then-is_first_narrow-clause-exact : goal.returns-then-is_first_narrow-clause-exact
returns-then-is_first_narrow-clause-exact c = relocates_narrow (search (arith, rules)) (search rules) c.relocate_objects.ensures.exact

pub returns-else-is_first_narrow-clause-exact : goal.returns-else-is_first_narrow-clause-exact
returns-else-is_first_narrow-clause-exact c = relocates_wide (search (arith, rules)) (search rules) c.relocate_objects-else-is_first_narrow.ensures.exact
