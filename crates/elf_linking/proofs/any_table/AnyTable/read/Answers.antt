use Rattle.std.proofs.Common.{sym}
use Rattle.elf_linking.specs.AnyTable.{by_gnu, by_hash, no_gnu, no_hash}
use Rattle.elf_linking.proofs.any_table.AnyTable.read.Goals as goal

pub returns-in-Ok : goal.returns-in-Ok
returns-in-Ok c =
    let (bytes, class, order) = c.in-Ok.ensures in
    by_gnu c.in-Some.field-0 c.in-Ok.table (sym c.in-Some.ensures) (record { bytes_are = bytes; class_is = class; order_is = order })

pub returns-in-Err : goal.returns-in-Err
returns-in-Err c = no_gnu c.in-Some.field-0 c.in-Err.error (sym c.in-Some.ensures) c.in-Err.ensures

pub returns-in-Ok-hash_table : goal.returns-in-Ok-hash_table
returns-in-Ok-hash_table c =
    let (bytes, order) = c.in-Ok-hash_table.ensures in
    by_hash c.in-Ok-hash_table.table (sym c.in-None.ensures) bytes order

pub returns-in-Err-hash_table : goal.returns-in-Err-hash_table
returns-in-Err-hash_table c = no_hash c.in-Err-hash_table.error (sym c.in-None.ensures) c.in-Err-hash_table.ensures
