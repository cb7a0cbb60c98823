use Rattle.std.proofs.Common.{refl, sym, ap, subst, ◌∙◌}
use Rattle.std.specs.Prelude.{IsOk}
use Rattle.elfload.specs.Starts.{with_word}
use Rattle.elfload.proofs.arrays.set_word.Goals as goal

pub returns-in-Ok : goal.returns-in-Ok
returns-in-Ok g c = (
  subst IsOk (sym c.in-Ok.is) refl,
  c.with_word.ensures.all,
  c.with_word.ensures.value ∙ ap (with_word c.args.slots.now c.args.values.items) (sym c.in-Ok.is),
)
