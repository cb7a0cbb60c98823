use Rattle.std.proofs.Common.{◌≡◌}
use Rattle.std.specs.List.{list_any}
use Rattle.elf_linking.specs.References.{table_left}
use Rattle.elf_loading.specs.ImageTables.{is_no_slot}
use Rattle.elf_loading.proofs.image_tables.has_no_slot.Given as goal

-- the relocations that are passed are for the procedure linkage table
abbrev pub invariant-loop-one : goal.invariant-loop-one
invariant-loop-one l = list_any (is_no_slot l.machine) (table_left l.fn.slots) ≡ list_any (is_no_slot l.machine) (table_left l.one-iterator)
