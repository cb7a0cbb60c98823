use Rattle.std.proofs.Common.{◌≡◌, ◌+◌, length, length-drop, sym, ◌∙◌, arith}
use Rattle.std.proofs.lemmas.List.{take_all}
use Rattle.elf_base.proofs.lemmas.TextLemmas.{is-text_of}
use Rattle.xmas_elf.proofs.extensions.alternate_link.Goals as goal

pub returns-in_default-clause-only : goal.returns-in_default-clause-only
returns-in_default-clause-only c text rest is = absurd (let front = is-text_of c.args.bytes.now 0 text is.front in let none = c.in_default.ensures.exact in cc)

pub returns-clause-only : goal.returns-clause-only
returns-clause-only c text rest is =
    let same : c.in-Ok.text.now ≡ text = let front = is-text_of c.args.bytes.now 0 text is.front in let read = c.in-Ok.ensures.exact in cc in
    let others = length-drop (length text + 1) c.args.bytes.now in
    (same, rw same (take_all _ _ (omega (arith, others)) ∙ sym is.rest_is))
