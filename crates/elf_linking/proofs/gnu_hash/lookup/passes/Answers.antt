use Rattle.std.proofs.Common.{rules, ◌≡◌, true, refl, subst}
use Rattle.xmas_elf.specs.Symbols.{ReturnsWhere}
use Rattle.elf_linking.proofs.gnu_hash.lookup.passes.Goals as goal

-- the test has a result for a reference to the symbol
pub returns-then-has_name-clause-yes : goal.returns-then-has_name-clause-yes
returns-then-has_name-clause-yes g c = λ yes.
    let called : ReturnsWhere g.F.Fn c.args.f.now (c.args.index, c.args.entry.now) c.f.result = record { shown = c.args.entry; shows = refl; says = record { met = c.f.ensures } } in
    let same : c.f.result ≡ true = search rules in
    (c.has_name.ensures.0 c.if-has_name.true, subst (λ b. ReturnsWhere g.F.Fn c.args.f.now (c.args.index, c.args.entry.now) b) same called)

pub returns-then-has_name-clause-no : goal.returns-then-has_name-clause-no
returns-then-has_name-clause-no g c = λ not decides has.
    let called : ReturnsWhere g.F.Fn c.args.f.now (c.args.index, c.args.entry.now) c.f.result = record { shown = c.args.entry; shows = refl; says = record { met = c.f.ensures } } in
    decides has.1 (subst (λ b. ReturnsWhere g.F.Fn c.args.f.now (c.args.index, c.args.entry.now) b) not called)
