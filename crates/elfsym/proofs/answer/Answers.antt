use Rattle.elfsym.specs.declared.Question.TheVariants.{Needed, Symbols}
use Rattle.elfsym.proofs.Ended.{answered}
use Rattle.elfsym.proofs.answer.Goals as goal

pub returns-in-Ok-clause-end : goal.returns-in-Ok-clause-end
returns-in-Ok-clause-end g c = answered c.args.form g.S.AsStr.text g.R.Read.remaining c.args.file c.args.question Needed _ _ c.in-Needed.is c.in-Ok.ensures.written

pub returns-in-Ok-print_lines-clause-end : goal.returns-in-Ok-print_lines-clause-end
returns-in-Ok-print_lines-clause-end g c = answered c.args.form g.S.AsStr.text g.R.Read.remaining c.args.file c.args.question (Symbols c.in-Symbols.references) _ _ c.in-Symbols.is c.in-Ok-print_lines.ensures.written
