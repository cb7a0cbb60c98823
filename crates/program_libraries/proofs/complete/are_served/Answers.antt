use Rattle.std.proofs.Common.{◌≡◌, ◌∙◌, Some, None, Ok, ap, refl, sym, subst}
use Rattle.std.specs.Prelude.{IfOk}
use Rattle.program_libraries.specs.NeededNames.{IsViewOf}
use Rattle.program_libraries.proofs.complete.are_served.Goals as goal

pub returns-in-Ok-Some : goal.returns-in-Ok-Some
returns-in-Ok-Some c = λ served.
    let is : c.view_of.result ≡ Ok (Some c.in-Ok-Some.view) = c.in-Ok-Some.is ∙ ap (λ x. Ok x) c.in-Ok-Some.field-0-is in
    let seen = subst (λ r. IfOk r (IsViewOf c.args.bytes.now)) is c.view_of.ensures in
    (Some c.in-Ok-Some.view, seen, sym c.are_found.ensures ∙ served)

pub returns-in-Ok-None : goal.returns-in-Ok-None
returns-in-Ok-None c = λ served.
    let is : c.view_of.result ≡ Ok None = c.in-Ok-None.is ∙ ap (λ x. Ok x) c.in-Ok-None.field-0-is in
    let seen = subst (λ r. IfOk r (IsViewOf c.args.bytes.now)) is c.view_of.ensures in
    (None, seen, refl)
