use Rattle.std.proofs.Common.{ap, [], ◌∷◌, map, subst, ◌∙◌}
use Rattle.elf_linking.specs.Versions.{version_tables}
use Rattle.elf_search.specs.MissingVersions.{missing_in, provided_parts}
use Rattle.elf_c.specs.Batch.{Fills}
use Rattle.elf_c.specs.Records.{record_in}
use Rattle.elf_c.specs.SearchVersions.{missing_record}
use Rattle.elf_c.proofs.SearchVersions.{missing_filled}
use Rattle.elf_c.proofs.search_versions.fill_missing.Goals as goal

pub returns : goal.returns
returns c =
    let tables = c.in_ok-tables.tables in
    let provided = provided_parts c.in_ok-provided.provided in
    missing_filled c.args.file.now c.args.other.now c.args.name.now tables.strings (version_tables tables.versions) provided c.args.first c.args.out.now
    c.fill_in_order.new.out c.fill_in_order.result c.in_ok-tables.ensures.0 c.in_ok-provided.ensures c.in_ok-tables.ensures.1
    (subst (λ items. Fills (record_in (λ one. one) (map (missing_record c.args.file.now.input.now tables.strings) items)) c.args.first c.args.out.now c.fill_in_order.result c.fill_in_order.new.out)
    (c.missing_versions.ensures ∙ ap (missing_in (record { names = c.args.name.now ∷ []; provided = provided } ∷ [])) c.needs.ensures.exact) c.fill_in_order.ensures)
