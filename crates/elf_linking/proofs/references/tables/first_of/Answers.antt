use Rattle.elf_base.specs.Table.{table_data, table_order, table_rest}
use Rattle.elf_linking.proofs.ReferenceItems.{first_decoded}
use Rattle.elf_linking.proofs.references.tables.first_of.Goals as goal

pub returns-in-Some : goal.returns-in-Some
returns-in-Some g c =
    let before = table_rest c.args.rest.now in
    let after = table_rest c.next.new.self in
    first_decoded g.T.Record.SIZE g.T.Record.value g.T.Relocates.reference_of (table_order before) (table_order after) (table_data before) (table_data after)
    c.in-Some.record c.reference.result c.in-Some.ensures.steps c.reference.ensures
