use Rattle.std.proofs.Common.{◌≡◌, false, true, sym, subst, ◌∙◌}
use Rattle.std.proofs.lemmas.Slice.Eq.{bytes_eq-Decides}
use Rattle.xmas_elf.specs.NameTable.{HasName}
use Rattle.xmas_elf.specs.SectionTable.{section_table_file}
use Rattle.xmas_elf.proofs.lemmas.OnlyOne.{is-name_of}
use Rattle.elf_c.proofs.sections.has_name.Goals as goal

pub returns-in-Ok : goal.returns-in-Ok
returns-in-Ok c = let (here, same) = bytes_eq-Decides c.in-Ok.text.now c.args.name.now in (
  λ test. subst (λ name. HasName (section_table_file c.args.table.now) c.args.section.now name) (here (sym c.eq.ensures ∙ test)) c.in-Ok.ensures.name,
  λ has. c.eq.ensures ∙ same (let one = is-name_of (section_table_file c.args.table.now) c.args.section.now c.args.name.now has in let read = c.in-Ok.ensures.exact in cc),
)

pub returns-in-Err : goal.returns-in-Err
returns-in-Err c = (
  λ test. absurd (let never : false ≡ true = test in cc),
  λ has. absurd (let one = is-name_of (section_table_file c.args.table.now) c.args.section.now c.args.name.now has in let none = c.in-Err.ensures.exact in cc),
)
