use Rattle.std.proofs.Common.{sym, ap, ◌∙◌}
use Rattle.elf_linking.specs.BuildIds.{id_of_named}
use Rattle.elf_linking.proofs.build_ids.build_id_of_section.Goals as goal

pub returns-in-Some : goal.returns-in-Some
returns-in-Some c = c.id_of_section.ensures ∙ ap (id_of_named c.args.file.now) (sym c.in-Some.is ∙ c.find_section_by_name.ensures.exact)

pub returns-in-None : goal.returns-in-None
returns-in-None c = ap (id_of_named c.args.file.now) (sym c.in-None.is ∙ c.find_section_by_name.ensures.exact)
