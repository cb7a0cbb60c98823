use Rattle.std.proofs.Common.{◌≡◌, Some, ap, option_map, rules, sym, ◌∙◌}
use Rattle.linking_callers.proofs.callers.find.exact_value.Goals as goal

pub returns-in-Ok-Some : goal.returns-in-Ok-Some
returns-in-Ok-Some g c =
    let value : c.value.result ≡ (g.E.Entry.fields c.in-Ok-Some.exact).value = first_of (cc, search rules) in (
      c.in-Ok-Some.field-0,
      rw (← c.exact.ensures) (c.in-Ok-Some.ensures.good c.requires.good c.requires.readable),
      ap (λ v. Some v) value ∙ sym (ap (option_map (λ at. (g.E.Entry.fields at.1).value)) c.in-Ok-Some.field-0-is),
    )

pub returns-in-Ok-None : goal.returns-in-Ok-None
returns-in-Ok-None g c = (
  c.in-Ok-None.field-0,
  rw (← c.exact.ensures) (c.in-Ok-None.ensures.good c.requires.good c.requires.readable),
  sym (ap (option_map (λ at. (g.E.Entry.fields at.1).value)) c.in-Ok-None.field-0-is),
)
