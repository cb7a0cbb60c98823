use Rattle.std.proofs.Common.{◌∙◌}
use Rattle.xmas_elf.proofs.lemmas.OnlyOne.{is-symbol_section_of}
use Rattle.elf_callers.proofs.callers.symbols.section_of_any.Goals as goal

pub returns-clause-only : goal.returns-clause-only
returns-clause-only g c index is =
    c.get_section_header.ensures.exact ∙ is-symbol_section_of c.args.file.now (g.E.Entry.fields c.args.symbol.now) c.args.place index is
