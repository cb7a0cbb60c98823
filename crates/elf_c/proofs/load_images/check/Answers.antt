use Rattle.std.proofs.Common.{arith, rules}
use Rattle.elf_c.specs.LoadImages.{checks_narrow, checks_wide}
use Rattle.elf_c.proofs.load_images.check.Goals as goal

pub returns-then-is_first_narrow : goal.returns-then-is_first_narrow
returns-then-is_first_narrow c = checks_narrow (search (arith, rules)) (search rules) c.check_objects.ensures

pub returns-else-is_first_narrow : goal.returns-else-is_first_narrow
returns-else-is_first_narrow c = checks_wide (search (arith, rules)) (search rules) c.check_objects-else-is_first_narrow.ensures
