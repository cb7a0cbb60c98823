use Rattle.std.proofs.Common.{[], refl, sym, ap, ◌∙◌, subst, ◌≡◌, true}
use Rattle.std.specs.Prelude.{IsOk, if◌then◌else◌}
use Rattle.std.proofs.KnownBytes.{Appends-nil}
use Rattle.elfload.specs.Words.{is_unchanged, line_text, result_text}
use Rattle.elfload.proofs.words.write_item.Goals as goal

pub returns-then-is_unchanged : goal.returns-then-is_unchanged
returns-then-is_unchanged g c =
    let kind = c.args.item.now.relocation.reference.kind in
    let none : is_unchanged c.in-Ok.word.value ≡ true = sym c.is_unchanged.ensures ∙ c.if-is_unchanged.true in (
      subst IsOk (sym c.in-Ok.is) refl,
      (
        [],
        sym (ap (result_text c.args.place kind) c.in-Ok.is
            ∙ ap (λ b. if b then [] else line_text c.args.place kind c.in-Ok.word) none),
        Appends-nil _,
      ),
    )
