use Rattle.std.specs.Prelude.{◌^◌, min}
use Rattle.elf_linking.specs.Versions.{named_at, version_tables}
use Rattle.elf_c.specs.Versions.{version_record}
use Rattle.elf_c.proofs.VersionRecords.{index_fits, record_there}
use Rattle.elf_c.proofs.versions.SymbolVersionsRecords.record.Goals as goal

pub returns : goal.returns
returns c = let it = c.args.self.now in
    record_there (λ index. version_record it.input.now it.tables.strings (named_at (version_tables it.tables.versions) index))
    (min it.count (2 ^ 32)) c.args.index c.version_record.result c.requires (cc)

pub overflow_cast-index : goal.overflow_cast-index
overflow_cast-index c = let fits = index_fits c.args.self.now.count c.args.index c.requires in search
