use Rattle.std.proofs.Common.{ap, ◌∙◌}
use Rattle.elf_linking.specs.VersionTables.{definitions_left}
use Rattle.elf_linking.specs.Versions.{name_error}
use Rattle.elf_linking.proofs.versions.Versions.check_definitions.Goals as goal

pub loop-item-init : goal.loop-item-init
loop-item-init c =
    ap (λ items. name_error (λ d. d.name) (definitions_left items)) c.into_iter-item-iterator.ensures.into_iter_gives
    ∙ ap (name_error (λ d. d.name)) c.definitions-item-items.ensures.exact
