use Rattle.std.proofs.Common.{◌≡◌, Ok, ◌∷◌, length, take, drop, refl, subst, sym, ap, ◌∙◌, arith}
use Rattle.std.proofs.lemmas.List.{take-append-le, take_all}
use Rattle.elf_base.specs.Text.{IsText}
use Rattle.elf_base.proofs.Texts.{zero_within}
use Rattle.elf_base.proofs.bytes.text.text_range.Goals as goal

pub returns : goal.returns
returns c =
    let bytes = c.args.data.now in
    let start = c.args.start in
    let text = c.in_ok-text.text.now in
    let is = c.in_ok-text.ensures.text in
    let taken : take (length text) (drop start bytes) ≡ text =
    ap (take (length text)) is.ended.begins ∙ (take-append-le (length text) text (0 ∷ is.ended.after) (omega arith) ∙ take_all (length text) text (omega arith)) in
    record {
      text = (refl, subst (IsText bytes start) (sym taken) is);
      within = zero_within bytes start text is.ended;
      exact = c.in_ok-text.ensures.exact ∙ ap (λ t. Ok t) (sym taken);
    }
