use Rattle.std.proofs.Common.{◌≡◌}
use Rattle.elf_linking.specs.VersionTables.{have_told_parts, need_places, places_left, records_data}
use Rattle.elf_linking.proofs.versions.check.have_told_parts.Given as goal

-- what holds of the remaining needs holds of all
abbrev pub invariant-loop-item : goal.invariant-loop-item
invariant-loop-item l = have_told_parts (records_data l.records) (places_left (records_data l.records) 12 l.needs)
    ≡ have_told_parts (records_data l.records) (need_places (records_data l.records))

abbrev pub decreases-loop-item : goal.decreases-loop-item
decreases-loop-item l = l.needs.left
