use Rattle.std.proofs.Common.{◌≡◌}
use Rattle.elf_linking.specs.References.{table_left}
use Rattle.elf_loading.specs.ImageTables.{lacks_kind}
use Rattle.elf_loading.proofs.image_tables.lacks_kind.Given as goal

-- those that are passed are of the type, and so many less are wanted
abbrev pub invariant-loop-one : goal.invariant-loop-one
invariant-loop-one l = lacks_kind l.kind l.fn.count (table_left l.fn.rest) ≡ lacks_kind l.kind l.wanted (table_left l.one-iterator)
