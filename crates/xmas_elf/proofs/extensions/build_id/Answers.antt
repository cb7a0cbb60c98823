use Rattle.std.specs.Prelude.{codes}
use Rattle.elf_records.specs.Note.{note_name_size}
use Rattle.elf_records.proofs.lemmas.NoteParts.{is-note_name}
use Rattle.xmas_elf.proofs.extensions.build_id.Goals as goal

pub returns-in_default-clause-only : goal.returns-in_default-clause-only
returns-in_default-clause-only c id is =
    absurd (let name = is-note_name c.args.body.now (note_name_size c.args.header.now) (codes "GNU") is.name_is in let none = c.in_default.ensures.exact in cc)
