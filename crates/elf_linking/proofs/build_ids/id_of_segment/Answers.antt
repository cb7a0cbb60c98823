use Rattle.std.proofs.Common.{◌≡◌, ℕ, List, Ok, length, sym, ap, subst, ◌∙◌}
use Rattle.std.specs.Borrow.{Bor}
use Rattle.elf_base.specs.Lent.{LiesAt}
use Rattle.elf_linking.specs.Notes.{notes_bytes}
use Rattle.elf_linking.proofs.BuildIdSearch.{id_placed}
use Rattle.elf_linking.proofs.build_ids.id_of_segment.Goals as goal

pub returns-in-Ok : goal.returns-in-Ok
returns-in-Ok c =
    let bytes = c.in-Ok.ensures in
    let notes = c.new.ensures in
    let same : notes_bytes c.new.result ≡ c.in-Ok.bytes = notes.bytes in
    c.build_id_among.ensures
    ∙ id_placed c.args.file.now c.args.segment.now c.new.result (bytes.exact ∙ ap (λ (part : Bor (List ℕ)). Ok part.now) (sym same)) (ap (λ (part : Bor (List ℕ)). length part.now) same ∙ bytes.count)
    (λ some. subst (LiesAt c.args.file.now.input c.args.segment.now.offset) (sym same) (bytes.place some)) (notes.order ∙ c.byte_order.ensures) notes.align
