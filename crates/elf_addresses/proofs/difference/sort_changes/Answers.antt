use Rattle.std.proofs.Common.{rules, is_lt}
use Rattle.std.proofs.lemmas.Fn.{always_returns_same}
use Rattle.elf_addresses.specs.Differences.{change_order}
use Rattle.elf_addresses.specs.declared.difference.Change.{Change}
use Rattle.elf_addresses.proofs.Merging.{change_weak}
use Rattle.elf_addresses.proofs.difference.sort_changes.Goals as goal

pub returns-clause-sorted : goal.returns-clause-sorted
returns-clause-sorted c =
    c.sort_unstable_by.ensures.sorted (λ (x : Change) (y : Change). is_lt (change_order x y)) change_weak (always_returns_same _ _ _ (λ a r f' k. search rules))
