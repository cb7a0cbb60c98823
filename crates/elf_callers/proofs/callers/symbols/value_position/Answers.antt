use Rattle.std.proofs.Common.{◌≡◌, rules, ap}
use Rattle.std.proofs.lemmas.Iterator.{IsFirst-from_position}
use Rattle.std.proofs.lemmas.Iterator.Consumers.{YieldsList-from_first}
use borrow.Author.Tests.{tests}
use Rattle.xmas_elf.specs.Table.{table_items, table_rest}
use Rattle.elf_callers.proofs.callers.symbols.value_position.Goals as goal

-- what `position` finds in a table; where the type of its symbols isn't a parameter, no answer is needed
pub returns : goal.returns
returns g c = IsFirst-from_position c.position.new.self _ _ (λ symbol. (g.E.Entry.fields symbol).value ≡ c.args.value)
    (λ symbol. ¬ ((g.E.Entry.fields symbol).value ≡ c.args.value)) c.position.ensures.ran
    (YieldsList-from_first (λ x. x) (λ s. table_items (table_rest s)) (table_items c.args.symbols.now) (ap (λ t. table_items t) c.iter.ensures.starts))
    (λ x q k. search (rules, tests)) (λ x q k. search (rules, tests))
