use Rattle.std.proofs.Common.{ℕ, subst}
use Rattle.xmas_elf.specs.HashTable.{FindsAll, IsGood, Looks}
use Rattle.xmas_elf.specs.Symbols.{Decides, IsMatch}
use Rattle.xmas_elf.proofs.hash.HashTable.lookup.Goals as goal

pub returns-clause-answer : goal.returns-clause-answer
returns-clause-answer g c =
    subst (λ all. Decides all g.F.Fn c.args.f → (count : ℕ) × Looks (IsMatch all g.F.Fn c.args.f c.args.name.now) c.args.self.now all.items c.args.name.now c.lookup_in.result count) c.new.ensures.symbols c.lookup_in.ensures.answer

pub returns-clause-good : goal.returns-clause-good
returns-clause-good g c =
    subst (λ all. Decides all g.F.Fn c.args.f → IsGood c.args.self.now all → FindsAll all c.args.name.now (IsMatch all g.F.Fn c.args.f c.args.name.now) c.lookup_in.result) c.new.ensures.symbols c.lookup_in.ensures.good
