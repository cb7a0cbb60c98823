use Rattle.std.proofs.Common.{◌≡◌, refl, sym, ap, ◌∙◌, subst}
use Rattle.linking_programs.specs.Files.{IsOfInput}
use Rattle.linking_programs.specs.declared.Input.{Input}
use Rattle.program_ends.specs.Stops.{IsStop}
use Rattle.program_ends.specs.declared.Stop.TheVariants.{Failed}
use Rattle.linking_programs.proofs.Objects.{at_index}
use Rattle.linking_programs.proofs.failure_at.Goals as goal

pub returns : goal.returns
returns g c =
    let input = c.index-inputs-index.result in
    subst (IsStop (λ failed. IsOfInput c.args.inputs.now c.args.index failed × (failed.error ≡ c.args.error)) ⊥ ⊥)
    (sym (c.failure.ensures ∙ ap (λ (one : Input). Failed (record { path = one.path; error = c.args.error })) (sym c.index-inputs-index.is)))
    (at_index (λ (one : Input). input.path ≡ one.path) c.args.inputs.now c.args.index input c.requires c.index-inputs-index.is refl, refl)
