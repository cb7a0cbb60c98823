use Rattle.std.proofs.Common.{◌≡◌, ℕ, true, Ok, sym, ap, ◌∙◌}
use Rattle.elf_base.specs.FileHeader.{machine_number}
use Rattle.elf_linking.specs.DynamicObject.{object_view}
use Rattle.elf_linking.specs.DynamicView.{view_entries}
use Rattle.elf_linking.specs.References.{file_machine}
use Rattle.elf_linking.specs.RelocationTypes.{row_of}
use Rattle.elf_loading.specs.Types.{Reference, Row, Word}
use Rattle.elf_loading.specs.Values.{low}
use Rattle.elf_loading.specs.Words.{and_link, is_later, slot_number, word_of}
use Rattle.elf_loading.specs.declared.value.Origin.TheVariants.{Base}
use Rattle.elf_loading.specs.declared.value.Value.TheVariants.{Sum}
use Rattle.elf_loading.proofs.words.word_of.Goals as goal

abbrev slot_by : ℕ → Reference → Row → ℕ → Word
slot_by of reference row number =
    record { address = reference.offset; width = row.width; value = Sum (Base of) (low row.width number) }

pub returns-then-is_later : goal.returns-then-is_later
returns-then-is_later g c =
    let file = c.args.file.now in
    let own = c.args.own.now in
    let relocation = c.args.relocation.now in
    let later : is_later g.E.Entry.fields file own c.args.lazy relocation ≡ true = sym c.is_later.ensures ∙ c.if-is_later.true in
    let row : c.row_of-row.result ≡ row_of (file_machine file) relocation.reference.kind =
    c.row_of-row.ensures ∙ ap (λ machine. row_of machine relocation.reference.kind) (c.raw.ensures ∙ ap machine_number c.machine.ensures) in
    c.slot_word.ensures
    ∙ ap (λ (row : Row). and_link (slot_number file (view_entries (object_view own)) row.width relocation.reference.offset) (λ number. Ok (slot_by c.args.of relocation.reference row number))) row
    ∙ sym (ap (λ later. word_of g.E.Entry.fields file own c.args.of later relocation c.args.bound.now) later)
