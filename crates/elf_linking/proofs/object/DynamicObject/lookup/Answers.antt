use Rattle.std.proofs.Common.{ℕ, subst}
use Rattle.elf_linking.specs.AnyTable.{FindsAllBy, IsGoodBy, LooksBy}
use Rattle.elf_linking.specs.DynamicObject.{object_table}
use Rattle.xmas_elf.specs.Symbols.{Decides, IsMatch}
use Rattle.elf_linking.proofs.object.DynamicObject.lookup.Goals as goal

pub returns-clause-answer : goal.returns-clause-answer
returns-clause-answer g c =
    let table = object_table c.args.self.now in
    subst (λ all. Decides all g.F.Fn c.args.f → (count : ℕ) × LooksBy (IsMatch all g.F.Fn c.args.f c.args.name.now) table all.items c.args.name.now c.lookup.result count)
    c.symbols.ensures.symbols c.lookup.ensures.answer

pub returns-clause-good : goal.returns-clause-good
returns-clause-good g c =
    let table = object_table c.args.self.now in
    subst (λ all. Decides all g.F.Fn c.args.f → IsGoodBy table all → FindsAllBy table all c.args.name.now (IsMatch all g.F.Fn c.args.f c.args.name.now) c.lookup.result)
    c.symbols.ensures.symbols c.lookup.ensures.good
