use Rattle.std.specs.List.{range_with_len}
use Rattle.std.specs.Prelude.{◌^◌, min}
use Rattle.elf_linking.specs.Versions.{named_at, version_tables}
use Rattle.elf_c.proofs.VersionRecords.{stored_versions_lie}
use Rattle.elf_c.proofs.versions.fill_versions.Goals as goal

pub returns-clause-within : goal.returns-clause-within
returns-clause-within c = let tables = c.in_ok-tables.tables in
    stored_versions_lie c.args.file.now.input.now tables.strings c.args.first c.args.out.now c.fill.result c.fill.new.out
    (named_at (version_tables tables.versions)) (range_with_len 0 (min c.in_ok-count.count (2 ^ 32))) c.fill.ensures
