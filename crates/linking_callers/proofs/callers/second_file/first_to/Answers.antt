use Rattle.std.proofs.Common.{rules, refl}
use Rattle.std.proofs.lemmas.Iterator.{first_from_find}
use Rattle.std.proofs.lemmas.Iterator.Consumers.{YieldsList-from_first}
use borrow.Author.Tests.{tests}
use Rattle.elf_linking.specs.References.{references_left}
use Rattle.linking_callers.specs.SecondFile.{IsTo}
use Rattle.linking_callers.proofs.SecondFiles.{first_found}
use Rattle.linking_callers.proofs.callers.second_file.first_to.Goals as goal

pub returns : goal.returns
returns g c = first_found (IsTo g.E.Entry.fields c.args.object.now c.args.name.now) (references_left c.args.references) c.find.result
    (first_from_find c.find.new.self _ _ (λ reference. IsTo g.E.Entry.fields c.args.object.now c.args.name.now reference)
    (λ reference. ¬ IsTo g.E.Entry.fields c.args.object.now c.args.name.now reference) c.find.ensures.ran
    (YieldsList-from_first (λ x. x) references_left (references_left c.args.references) refl)
    (λ x q k. search (rules, tests)) (λ x q k. search (rules, tests)))
