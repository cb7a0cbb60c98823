use Rattle.std.proofs.Common.{◌≡◌}
use Rattle.elf_linking.specs.Notes.{notes_left}
use Rattle.elf_linking.specs.BuildIds.{id_among}
use Rattle.elf_linking.proofs.build_ids.build_id_among.Given as goal

-- a search of the remaining notes has the result of a search of all notes
abbrev pub invariant-loop-note : goal.invariant-loop-note
invariant-loop-note l = id_among (notes_left l.note-iterator) ≡ id_among (notes_left l.fn.notes)
