use Rattle.std.proofs.Common.{rules}
use Rattle.elf_base.specs.declared.error.ElfError.TheVariants.{NoteName}
use Rattle.elf_base.proofs.lemmas.TextLemmas.{fails_only}
use Rattle.elf_records.proofs.lemmas.NoteParts.{note_name-failed}
use Rattle.xmas_elf.specs.Note.{note_name_of, note_name_size}
use Rattle.elf_callers.proofs.callers.notes.name_failure.Goals as goal

pub returns-clause-fails : goal.returns-clause-fails
returns-clause-fails c text is other =
    let body = c.args.body.now in
    let size = note_name_size c.args.header.now in
    let failed = fails_only (note_name_of body size) c.name.result NoteName c.name.ensures.exact (note_name-failed body size NoteName (text, is, other)) in
    search rules
