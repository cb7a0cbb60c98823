use Rattle.std.proofs.Common.{ap, sym, ◌∙◌}
use Rattle.std.specs.Prelude.{is_some}
use Rattle.elfload.specs.Files.{no_file, no_segment}
use Rattle.elfload.proofs.Objects.{none_of}
use Rattle.elfload.proofs.files.is_dynamic.Goals as goal

pub returns-in-Ok-clause-no : goal.returns-in-Ok-clause-no
returns-in-Ok-clause-no c = λ lacks. no_segment c.in-Ok.file (ap (λ lent. lent.now) c.in-Ok.ensures.input) c.in-Ok.ensures.header (sym c.dynamic_segment.ensures ∙ none_of c.dynamic_segment.result (sym c.is_some.ensures ∙ lacks))

pub returns-in-Ok-clause-yes : goal.returns-in-Ok-clause-yes
returns-in-Ok-clause-yes c = λ has. record {
  file = c.in-Ok.file;
  input_is = ap (λ lent. lent.now) c.in-Ok.ensures.input;
  header_is = c.in-Ok.ensures.header;
  has_segment = ap is_some (sym c.dynamic_segment.ensures) ∙ sym c.is_some.ensures ∙ has;
}

pub returns-in-Err-clause-no : goal.returns-in-Err-clause-no
returns-in-Err-clause-no c = λ lacks. no_file _ c.in-Err.ensures.failed
