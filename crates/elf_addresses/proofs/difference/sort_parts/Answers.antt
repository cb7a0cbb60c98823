use Rattle.std.proofs.Common.{rules, is_lt}
use Rattle.std.proofs.lemmas.Fn.{always_returns_same}
use Rattle.elf_addresses.specs.Differences.{part_order}
use Rattle.elf_addresses.specs.declared.difference.SizedPart.{SizedPart}
use Rattle.elf_addresses.proofs.Merging.{part_weak}
use Rattle.elf_addresses.proofs.difference.sort_parts.Goals as goal

pub returns-clause-sorted : goal.returns-clause-sorted
returns-clause-sorted c =
    c.sort_unstable_by.ensures.sorted (λ (x : SizedPart) (y : SizedPart). is_lt (part_order x y)) part_weak (always_returns_same _ _ _ (λ a r f' k. search rules))
