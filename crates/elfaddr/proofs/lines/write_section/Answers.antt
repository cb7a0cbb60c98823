use Rattle.std.proofs.Common.{◌-◌, ap, subst, sym, ◌∙◌}
use Rattle.std.proofs.lemmas.Result.{on_ok_weaker}
use Rattle.std.specs.Prelude.{codes}
use Rattle.elf_addresses.proofs.lemmas.PartAnswers.{lent_answer}
use Rattle.elfaddr.specs.Lines.{IsSectionLine, in_section, nowhere, or_mark, place_line}
use Rattle.xmas_elf.specs.NameTable.{shstr_bytes_of}
use Rattle.xmas_elf.specs.SectionHeader.{section_fields}
use Rattle.elfaddr.proofs.lines.write_section.Goals as goal

pub returns-in-Some : goal.returns-in-Some
returns-in-Some g c =
    let form = c.args.form in
    let file = c.args.file.now in
    let text = place_line form c.args.address (codes "section") in
    let section = c.in-Some.section in
    let address = c.args.address in
    let name = c.or_mark-name.result.now in
    let bytes = shstr_bytes_of file (section_fields section).name in
    let offset = c.offset_from-offset.result in
    let name_is = c.or_mark-name.ensures ∙ ap or_mark (lent_answer bytes c.section_name.result c.section_name.ensures.exact) in
    let offset_is = c.offset_from-offset.ensures ∙ ap (λ a. address - a) c.address.ensures in
    let line : IsSectionLine form file address (text name offset) =
    subst (λ n. IsSectionLine form file address (text n offset)) (sym name_is)
    (subst (λ o. IsSectionLine form file address (text (or_mark bytes) o)) (sym offset_is) (in_section _ section c.in-Some.ensures.position c.in-Some.ensures.section)) in
    on_ok_weaker c.write_place.result (λ grown. (text name offset, line, grown)) c.write_place.ensures

pub returns-in-None : goal.returns-in-None
returns-in-None g c = on_ok_weaker c.write_nowhere.result (λ grown. (_, nowhere c.in-None.ensures.position, grown)) c.write_nowhere.ensures
