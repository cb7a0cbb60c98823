use Rattle.std.proofs.Common.{◌≡◌}
use Rattle.std.specs.List.{last_or}
use Rattle.elf_linking.specs.Entries.{entries_left, number_with, pairs_of, until_null}
use Rattle.elf_linking.proofs.LastNumbers.{numbers_with}
use Rattle.elf_linking.proofs.view.last_numbers.last_number.Given as goal

-- the last number of the remaining entries, or else the one found so far, is the last of all entries
abbrev pub invariant-loop-entry : goal.invariant-loop-entry
invariant-loop-entry l = last_or l.found (numbers_with l.tag (entries_left l.entry-iterator)) ≡ number_with l.tag (until_null (pairs_of l.pairs))
