use Rattle.std.proofs.Common.{◌≡◌, Err, Ok, Some, ap, refl, rules, sym, ◌∙◌}
use Rattle.std.proofs.lemmas.Result.{err_from_is_err_and}
use Rattle.std.specs.Prelude.{option_map}
use Rattle.elf_linking.specs.Values.{passed, unchecked}
use Rattle.elf_linking.proofs.lemmas.Newest.{found_newest}
use Rattle.elf_linking.proofs.object.DynamicObject.newest_value.Goals as goal

pub returns-in_err-check : goal.returns-in_err-check
returns-in_err-check g c =
    let p = err_from_is_err_and c.from_residual.result c.from_residual.ensures.1 in
    rw (p.1, p.2) (unchecked _ _ c.in_err-check.ensures.exact)

pub returns-in_err-found : goal.returns-in_err-found
returns-in_err-found g c =
    let p = err_from_is_err_and c.from_residual-in_err-found.result c.from_residual-in_err-found.ensures.1 in
    rw (p.1, p.2) (passed _ (Err _) _ c.in_ok-check.ensures.exact (found_newest _ _ _ c.in_err-found.ensures.answer) refl)

pub returns-in-Some : goal.returns-in-Some
returns-in-Some g c =
    let value : c.value.result ≡ (g.E.Entry.fields c.in-Some.symbol).value = first_of (cc, search rules) in
    passed _ (Ok c.in_ok-found.found) _ c.in_ok-check.ensures.exact (found_newest _ _ _ c.in_ok-found.ensures.answer)
    (ap (λ v. Ok (Some v)) value
    ∙ ap (λ at. Ok (option_map (λ p. (g.E.Entry.fields p.1).value) at)) (sym c.in-Some.is ∙ c.if_serving.ensures))

pub returns-in-None : goal.returns-in-None
returns-in-None g c =
    passed _ (Ok c.in_ok-found.found) _ c.in_ok-check.ensures.exact (found_newest _ _ _ c.in_ok-found.ensures.answer)
    (ap (λ at. Ok (option_map (λ p. (g.E.Entry.fields p.1).value) at)) (sym c.in-None.is ∙ c.if_serving.ensures))
