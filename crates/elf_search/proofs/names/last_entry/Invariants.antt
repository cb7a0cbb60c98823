use Rattle.std.proofs.Common.{◌≡◌, None}
use Rattle.elf_linking.specs.DynamicView.{entries_left, view_entries}
use Rattle.elf_search.specs.Names.{last_number}
use Rattle.elf_search.proofs.names.last_entry.Given as goal

-- the last among the entries that are left, or the last so far, is the last of all
abbrev pub invariant-loop-entry : goal.invariant-loop-entry
invariant-loop-entry l = last_number l.tag l.last (entries_left l.entry-iterator) ≡ last_number l.tag None (view_entries l.view)
