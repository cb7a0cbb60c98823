use Rattle.std.proofs.Common.{◌≡◌, Ok, ap, subst, ◌∙◌, refl, rules, arith}
use Rattle.elf_base.proofs.lemmas.TextLemmas.{if_only_part}
use Rattle.xmas_elf.specs.SectionData.{section_data_of}
use Rattle.xmas_elf.proofs.lemmas.OnlyOne.{is-data_named}
use Rattle.xmas_elf.proofs.extensions.named_data.Goals as goal

pub returns-in-Some-clause-only : goal.returns-in-Some-clause-only
returns-in-Some-clause-only c bytes is =
    let file = c.args.file.now in
    let (named, bytes_are) = is-data_named file c.args.name.now bytes is in
    let same : is.section ≡ c.in-Some.section = let found = c.in-Some.ensures.exact in cc in
    let read : section_data_of file c.in-Some.section ≡ Ok bytes = subst (λ s. section_data_of file s ≡ Ok bytes) same bytes_are in
    let lent = if_only_part (λ part. bytes ≡ part) (section_data_of file c.in-Some.section) c.raw_data.result c.raw_data.ensures.exact (λ part alike. read ∙ ap Ok alike) bytes refl in
    first_of (search rules, grind arith)

pub returns-in-None-clause-only : goal.returns-in-None-clause-only
returns-in-None-clause-only c bytes is =
    absurd (let (named, bytes_are) = is-data_named c.args.file.now c.args.name.now bytes is in let none = c.in-None.ensures.exact in cc)
