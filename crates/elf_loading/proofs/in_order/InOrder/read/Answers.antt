use Rattle.std.proofs.Common.{◌∙◌, ap}
use Rattle.elf_base.specs.FileHeader.{machine_number}
use Rattle.elf_linking.specs.DynamicView.{view_entries}
use Rattle.elf_linking.specs.References.{each_left}
use Rattle.elf_linking.specs.RelocationTypes.{relative_kind}
use Rattle.elf_loading.specs.InOrder.{is_kind, relr_left}
use Rattle.elf_loading.proofs.InOrders.{in_order}
use Rattle.elf_loading.proofs.in_order.InOrder.read.Goals as goal

pub returns : goal.returns
returns c =
    in_order c.args.file.now (view_entries c.args.view.now) (relr_left c.in_ok-rest.rest) (each_left c.in_ok-tables.tables) c.records_of-records.result
    c.relative_type.result c.kept_records-kept.result c.kept_after.result c.kept_records.result c.is_kind.result
    c.in_ok-rest.ensures c.in_ok-tables.ensures.exact (c.relative_type.ensures ∙ ap relative_kind (c.raw-machine.ensures ∙ ap machine_number c.machine.ensures)) c.kept_records-kept.ensures c.records_of-records.ensures
    c.kept_after.ensures c.kept_records.ensures (c.is_kind.ensures ∙ ap (is_kind 17) c.entry.ensures)
