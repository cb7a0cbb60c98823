use Rattle.std.proofs.Common.{◌<◌, ◌^◌, length, rules}
use Rattle.elf_linking.specs.VersionTables.{records_data}
use Rattle.elf_linking.proofs.VersionItems.{definitions_are, definitions_fit}
use Rattle.elf_linking.proofs.versions.definitions.Definitions.new.Goals as goal

pub returns-clause-longest : goal.returns-clause-longest
returns-clause-longest c = definitions_are (records_data c.args.records)

pub returns-clause-fits : goal.returns-clause-fits
returns-clause-fits c =
    let below : length c.args.records.bytes.now < 2 ^ 64 = search rules in
    definitions_fit (records_data c.args.records) (2 ^ 64) below
