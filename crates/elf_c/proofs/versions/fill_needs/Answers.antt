use Rattle.std.proofs.Common.{subst}
use Rattle.elf_linking.specs.VersionTables.{needs_left}
use Rattle.elf_linking.specs.Versions.{version_tables}
use Rattle.elf_c.proofs.VersionRecords.{needs_filled, stored_needs_lie}
use Rattle.elf_c.specs.Batch.{Fills}
use Rattle.elf_c.specs.Records.{record_in}
use Rattle.elf_c.specs.Versions.{need_items}
use Rattle.elf_c.proofs.versions.fill_needs.Goals as goal

pub returns-clause-exact : goal.returns-clause-exact
returns-clause-exact c = let tables = c.in_ok-tables.tables in
    needs_filled c.args.file.now tables.strings (version_tables tables.versions) c.args.first c.args.out.now
    c.fill_in_order.new.out c.fill_in_order.result c.in_ok-tables.ensures.0 c.in_ok-tables.ensures.1
    (subst (λ items. Fills (record_in (λ one. one) (need_items c.args.file.now.input.now tables.strings items)) c.args.first
    c.args.out.now c.fill_in_order.result c.fill_in_order.new.out) c.needs.ensures.exact c.fill_in_order.ensures)

pub returns-clause-within : goal.returns-clause-within
returns-clause-within c = stored_needs_lie c.args.file.now.input.now c.in_ok-tables.tables.strings c.args.first
    c.args.out.now c.fill_in_order.result c.fill_in_order.new.out (needs_left c.needs.result) c.fill_in_order.ensures
