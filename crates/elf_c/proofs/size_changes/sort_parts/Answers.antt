use Rattle.std.proofs.Common.{rules, is_lt}
use Rattle.std.proofs.lemmas.Fn.{always_returns_same}
use Rattle.elf_addresses.specs.Differences.{part_order}
use Rattle.elf_c.specs.SizeChanges.{sized}
use Rattle.elf_c.specs.declared.size_changes.SizePart.{SizePart}
use Rattle.elf_c.proofs.SizeRows.{given_weak, sorted_keys}
use Rattle.elf_c.proofs.size_changes.sort_parts.Goals as goal

pub returns-clause-sorted : goal.returns-clause-sorted
returns-clause-sorted c = sorted_keys sized part_order _
    (c.sort_unstable_by.ensures.sorted (λ (x : SizePart) (y : SizePart). is_lt (part_order (sized x) (sized y))) given_weak (always_returns_same _ _ _ (λ a r f' k. search rules)))
