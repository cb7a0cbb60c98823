use Rattle.std.proofs.Common.{Ok, sym, ap}
use Rattle.elf_base.specs.FileHeader.{file_order}
use Rattle.elf_base.specs.Number.{number}
use Rattle.elf_base.specs.FirstError.{and_then}
use Rattle.elf_linking.specs.DynamicView.{by_gnu, by_hash, no_table}
use Rattle.elf_linking.proofs.ViewTables.{count_read}
use Rattle.elf_linking.proofs.view.dynamic.DynamicView.symbol_count.Goals as goal

pub returns-in-Ok-clause-exact : goal.returns-in-Ok-clause-exact
returns-in-Ok-clause-exact c =
    by_hash c.in-Some.field-0 _ (sym c.in-Some.ensures) (count_read _ _ _ _ _ c.in-Ok.ensures.0 c.in-Ok.ensures.1 (cc))

pub returns-in-Err-clause-exact : goal.returns-in-Err-clause-exact
returns-in-Err-clause-exact c =
    by_hash c.in-Some.field-0 _ (sym c.in-Some.ensures) (sym (ap (λ r. and_then r (λ bytes. Ok (number (file_order c.args.file.now.header) 4 4 bytes))) c.in-Err.ensures))

pub returns-in-Ok-gnu_hash_table-clause-exact : goal.returns-in-Ok-gnu_hash_table-clause-exact
returns-in-Ok-gnu_hash_table-clause-exact c =
    let (bytes, class, order) = c.in-Ok-gnu_hash_table.ensures in
    by_gnu c.in-Ok-gnu_hash_table.table _ (sym c.in-None.ensures) (record { bytes_are = bytes; class_is = class; order_is = order }) c.symbol_count.ensures.exact

pub returns-in-Err-gnu_hash_table-clause-exact : goal.returns-in-Err-gnu_hash_table-clause-exact
returns-in-Err-gnu_hash_table-clause-exact c = no_table c.in-Err-gnu_hash_table.error (sym c.in-None.ensures) c.in-Err-gnu_hash_table.ensures
