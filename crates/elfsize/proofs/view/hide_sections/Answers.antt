use Rattle.std.proofs.Common.{rules, refl, replicate, sym, ◌∙◌}
use Rattle.std.proofs.lemmas.Slice.{put_mid-paste}
use Rattle.elfsize.proofs.NoSections.{narrow, wide}
use Rattle.elfsize.proofs.view.hide_sections.Goals as goal

pub returns-then-input-eq1 : goal.returns-then-input-eq1
returns-then-input-eq1 c =
    let input = c.args.input.now in
    put_mid-paste 32 4 input c.copy_from_slice.new.self (replicate 4 0) 4 (search rules) refl refl ∙ sym (narrow input c.if-input-lt48.false c.if-input-eq1.true)

pub returns-else-input-eq1 : goal.returns-else-input-eq1
returns-else-input-eq1 c =
    let input = c.args.input.now in
    put_mid-paste 40 8 input c.copy_from_slice-else-input-eq1.new.self (replicate 8 0) 8 (search rules) refl refl ∙ sym (wide input c.if-input-lt48.false c.if-input-eq1.false)
