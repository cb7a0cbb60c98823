use Rattle.std.proofs.Common.{◌≡◌, ◌∙◌, ap, arith, rules}
use Rattle.std.proofs.lemmas.Grind.{common_steps}
use Rattle.elf_linking.specs.VersionTables.{definitions_left}
use Rattle.elf_search.specs.MissingVersions.{defines}
use Rattle.elf_search.proofs.versions.defines.Goals as goal

pub loop-item-init : goal.loop-item-init
loop-item-init c =
    let same : definitions_left c.into_iter-item-iterator.result ≡ definitions_left c.definitions-item-items.result = first_of (cc, search rules, grind (arith, common_steps)) in
    ap (defines c.args.hash c.args.name.now) (same ∙ c.definitions-item-items.ensures.exact)
