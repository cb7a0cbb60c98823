use Rattle.std.proofs.Common.{◌≡◌, ◌∙◌, Some, Ok, ap, subst}
use Rattle.std.specs.Prelude.{IfOk}
use Rattle.elf_linking.specs.Versions.{version_tables}
use Rattle.program_libraries.specs.NeededNames.{IsViewOf}
use Rattle.program_libraries.specs.NeededVersions.{AreAllMet, IsMet, dynamic}
use Rattle.program_libraries.proofs.needed_versions.are_needs_met.Goals as goal

pub returns-in-Ok : goal.returns-in-Ok
returns-in-Ok c = λ met.
    let view = c.in-Ok-Some.view in
    let is : c.view_of.result ≡ Ok (Some view) = c.in-Ok-Some.is ∙ ap (λ x. Ok x) c.in-Ok-Some.field-0-is in
    dynamic view (version_tables c.in-Ok.versions) (subst (λ r. IfOk r (IsViewOf c.args.bytes.now)) is c.view_of.ensures) c.in-Ok.ensures
    (subst (AreAllMet (IsMet c.args.files.now c.args.objects.now view c.args.edges.now)) c.needs.ensures.exact (c.are_all_met.ensures met))
