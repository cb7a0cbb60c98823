use Rattle.std.proofs.Common.{◌≡◌, ◌<◌, ◌^◌, length, ap, subst, sym, rules}
use Rattle.elf_linking.specs.VersionTables.{AreNeeds, VersionRecords, joined, need_at, needs_in, parts_of, places_of, records_data, result_map, room_of, within_room}
use Rattle.elf_linking.proofs.VersionItems.{needs_are, needs_fit, needs_start}
use Rattle.std.specs.Prelude.{map}
use Rattle.elf_linking.proofs.versions.needs.Needs.new.Goals as goal

-- all needs are left at the start
all_left : (records : VersionRecords) → within_room (room_of records) (joined (map (result_map (need_at records 0)) (places_of records 12 0 0)) (parts_of records (places_of records 12 0 (length records.bytes)))) ≡ needs_in records
all_left records = ap (within_room (room_of records)) (needs_start records (need_at records 0) 0 (parts_of records (places_of records 12 0 (length records.bytes))))

pub returns-clause-longest : goal.returns-clause-longest
returns-clause-longest c =
    let records = records_data c.args.records in
    subst (AreNeeds records) (sym (all_left records)) (needs_are records)

pub returns-clause-exact : goal.returns-clause-exact
returns-clause-exact c = all_left (records_data c.args.records)

pub returns-clause-fits : goal.returns-clause-fits
returns-clause-fits c =
    let records = records_data c.args.records in
    let below : length records.bytes < 2 ^ 64 = search rules in
    subst (λ items. length items < 2 ^ 64) (sym (all_left records)) (needs_fit records below)
