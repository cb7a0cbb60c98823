use Rattle.std.proofs.Common.{rules, ◌≡◌, true, refl, subst}
use Rattle.xmas_elf.specs.Symbols.{ReturnsWhere}
use Rattle.xmas_elf.proofs.hash.fn.HashTable.search.follow_chain.Goals as goal

-- the test has a result for a reference to the symbol
pub returns-then-has_name : goal.returns-then-has_name
returns-then-has_name g c =
    let called : ReturnsWhere g.F.Fn c.captures.f.now c.args.at.now c.f.result = record { shown = _; shows = refl; says = record { met = c.f.ensures } } in
    record {
      yes = λ yes.
          let same : c.f.result ≡ true = search rules in
          (c.has_name.ensures.0 c.if-has_name.true, subst (λ b. ReturnsWhere g.F.Fn c.captures.f.now c.args.at.now b) same called);
      no = λ not decides has. decides has.1 (subst (λ b. ReturnsWhere g.F.Fn c.captures.f.now c.args.at.now b) not called);
    }
