use Rattle.std.proofs.Common.{arith, rules}
use Rattle.elf_c.specs.LoadAll.{all_narrow, all_wide}
use Rattle.elf_c.proofs.load_all.relocate_all.Goals as goal

pub returns-then-is_first_narrow-clause-exact : goal.returns-then-is_first_narrow-clause-exact
returns-then-is_first_narrow-clause-exact c = all_narrow (search (arith, rules)) (search rules) c.relocate_objects.ensures.exact

pub returns-else-is_first_narrow-clause-exact : goal.returns-else-is_first_narrow-clause-exact
returns-else-is_first_narrow-clause-exact c = all_wide (search (arith, rules)) (search rules) c.relocate_objects-else-is_first_narrow.ensures.exact
