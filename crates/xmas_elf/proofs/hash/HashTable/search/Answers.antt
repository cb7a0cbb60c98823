use Rattle.std.proofs.Common.{◌≡◌, None, Some, Ok, Err, IsTrue, true, false, refl, sym, subst}
use Rattle.xmas_elf.specs.HashTable.{bad_bucket, no_bucket, start_of}
use Rattle.xmas_elf.specs.SymbolTable.{table_symbols}
use Rattle.xmas_elf.specs.Symbols.{IsMatchWhere, ReturnsWhere}
use Rattle.xmas_elf.proofs.ChainPaths.{chain_looks}
use Rattle.xmas_elf.proofs.hash.HashTable.search.Goals as goal

pub returns-in-None-clause-answer : goal.returns-in-None-clause-answer
returns-in-None-clause-answer g c = λ d.
    let start : start_of c.args.self.now c.args.name.now ≡ None = cc in rw start no_bucket

pub returns-clause-answer : goal.returns-clause-answer
returns-clause-answer g c = λ d.
    let start : start_of c.args.self.now c.args.name.now ≡ Some (Ok c.in-Some-Ok.first) = cc in
    let P = IsMatchWhere (table_symbols c.args.symbols.now) g.F.Fn c.args.f.now c.args.name.now in
    rw start (chain_looks _ _ _ c.in-Some-Ok.first P _ _ c.follow_chain.ensures.answer
    (λ i e is stop. (
    let yes : IsTrue true → P stop.shown.now = stop.says.met.0 in
    subst P stop.shows (yes refl)))
    (λ i e stands (fits, over) has. (
    let no : false ≡ false → (ReturnsWhere g.F.Fn c.args.f.now over.shown.now true → ReturnsWhere g.F.Fn c.args.f.now over.shown.now false → ⊥) → P over.shown.now → ⊥ = over.says.met.1 in
    let own : (i, e) ≡ over.shown.now = sym over.shows in
    no refl (subst (λ x. ReturnsWhere g.F.Fn c.args.f.now x true → ReturnsWhere g.F.Fn c.args.f.now x false → ⊥) own (d i e fits stands.symbol)) (subst P own has))))

pub returns-in-Some-Err-clause-answer : goal.returns-in-Some-Err-clause-answer
returns-in-Some-Err-clause-answer g c = λ d.
    let start : start_of c.args.self.now c.args.name.now ≡ Some (Err c.in-Some-Err.error) = cc in
    rw start (bad_bucket c.in-Some-Err.error)
