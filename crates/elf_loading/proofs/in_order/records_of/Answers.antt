use Rattle.std.proofs.Common.{◌≡◌, ◌∙◌, ap, sym}
use Rattle.std.specs.Prelude.{false, take, true}
use Rattle.elf_base.specs.FileHeader.{file_class, file_order}
use Rattle.elf_linking.specs.DynamicView.{view_entries}
use Rattle.elf_linking.specs.References.{references_in}
use Rattle.elf_linking.specs.TableLocations.{table_but_zero}
use Rattle.elf_linking.specs.declared.view.tags.TheConstants.{DT_RELA, DT_RELASZ}
use Rattle.elf_loading.specs.InOrder.{placed}
use Rattle.elf_loading.proofs.InOrders.{records_kept}
use Rattle.elf_loading.proofs.in_order.records_of.Goals as goal

pub returns : goal.returns
returns c = λ references is.
    let file = c.args.file.now in
    let table = table_but_zero (view_entries c.args.view.now) DT_RELA DT_RELASZ in
    let class_is : file_class file.header ≡ 2 = sym c.raw.ensures ∙ c.if-raw-ne2.false in
    ap (λ order. placed false false (take c.args.kept (references_in 8 true order c.in-Ok-new.table.bytes.now))) (c.in-Ok-new.ensures.2 ∙ c.byte_order.ensures)
    ∙ ap (λ bytes. placed false false (take c.args.kept (references_in 8 true (file_order file.header) bytes))) c.in-Ok-new.ensures.1
    ∙ records_kept file table c.in-Some-Some.start c.in-Some-Some.size c.in-Ok.bytes.now class_is
    (ap (λ one. one.start) (sym c.table_but_zero-table.ensures) ∙ c.in-Some-Some.is-0) (ap (λ one. one.size) (sym c.table_but_zero-table.ensures) ∙ c.in-Some-Some.is-1)
    (sym c.in-Ok.ensures.exact) c.in-Ok-new.ensures.0 c.args.kept references is
