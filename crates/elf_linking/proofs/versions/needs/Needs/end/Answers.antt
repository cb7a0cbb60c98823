use Rattle.elf_linking.specs.VersionTables.{need_at, records_data}
use Rattle.elf_linking.proofs.VersionItems.{needs_ended}
use Rattle.elf_linking.proofs.versions.needs.Needs.end.Goals as goal

pub returns-clause-ended : goal.returns-clause-ended
returns-clause-ended c =
    let iter = c.args.self.now in
    let records = records_data iter.records in
    needs_ended records (need_at records iter.file) iter.room iter.needs.place iter.parts.place
