use Rattle.std.proofs.Common.{◌<◌, ◌^◌, length, rules, arith}
use Rattle.elf_linking.specs.VersionTables.{records_data}
use Rattle.elf_linking.proofs.VersionPlaces.{places_fit}
use Rattle.elf_linking.proofs.versions.records.Places.new.Goals as goal

pub returns-clause-fits : goal.returns-clause-fits
returns-clause-fits c =
    let records = records_data c.args.records in
    let below : length records.bytes < 2 ^ 64 = search rules in
    let few = places_fit records 12 c.args.place (length records.bytes) in
    omega (arith, few, below)
