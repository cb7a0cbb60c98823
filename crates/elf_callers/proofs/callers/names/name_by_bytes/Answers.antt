use Rattle.std.proofs.Common.{Ok, ap, sym, ◌∙◌}
use Rattle.elf_base.proofs.lemmas.TextLemmas.{not_utf8-text, utf8-text}
use Rattle.elf_callers.proofs.callers.names.name_by_bytes.Goals as goal

pub returns-in-Ok-clause-exact : goal.returns-in-Ok-clause-exact
returns-in-Ok-clause-exact c =
    c.in_ok-bytes.ensures.as_text ∙ utf8-text c.in_ok-bytes.bytes.now c.in-Ok.ensures.cases.1 ∙ ap Ok (sym c.in-Ok.ensures.cases.0)

pub returns-in-Err-clause-exact : goal.returns-in-Err-clause-exact
returns-in-Err-clause-exact c = c.in_ok-bytes.ensures.as_text ∙ not_utf8-text c.in_ok-bytes.bytes.now c.in-Err.ensures.cases.0
