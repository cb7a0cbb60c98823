use Rattle.std.proofs.Common.{◌≡◌, Ok, Some, ap, ◌∙◌, subst}
use Rattle.elf_linking.specs.GnuHash.{FindsAll}
use Rattle.xmas_elf.specs.Symbols.{IsMatch, symbols_of}
use Rattle.linking_callers.proofs.callers.symbol_that.Goals as goal

-- what is found by a good table has the name and passes
pub returns-in-Ok-Some : goal.returns-in-Ok-Some
returns-in-Ok-Some g c =
    let all = symbols_of g.E.Entry.fields g.E.Entry.text_in c.args.symbols.now c.args.file.now in
    let is : c.lookup.result ≡ Ok (Some c.in-Ok-Some.found) = c.in-Ok-Some.is ∙ ap (λ x. Ok x) c.in-Ok-Some.field-0-is in
    let finds = c.lookup.ensures.good c.requires.decides c.requires.good in
    let found = subst (λ r. FindsAll c.args.table.now all c.args.name.now (IsMatch all g.F.Fn c.args.f c.args.name.now) r) is finds in
    (found.0, found.1, found.2, found.3.0, found.3.1)
