use Rattle.std.proofs.Common.{ℕ, subst}
use Rattle.xmas_elf.specs.Symbols.{Decides, IsMatch}
use Rattle.elf_linking.specs.GnuHash.{FindsAll, IsGnuGood, Looks}
use Rattle.elf_linking.proofs.gnu_hash.GnuHashTable.lookup.Goals as goal

pub returns-clause-answer : goal.returns-clause-answer
returns-clause-answer g c =
    subst (λ all. Decides all g.F.Fn c.args.f → (count : ℕ) × Looks (IsMatch all g.F.Fn c.args.f c.args.name.now) c.args.self.now all.items c.args.name.now c.lookup_in.result count) c.new.ensures.symbols c.lookup_in.ensures.answer

pub returns-clause-good : goal.returns-clause-good
returns-clause-good g c =
    subst (λ all. Decides all g.F.Fn c.args.f → IsGnuGood c.args.self.now all → FindsAll c.args.self.now all c.args.name.now (IsMatch all g.F.Fn c.args.f c.args.name.now) c.lookup_in.result) c.new.ensures.symbols c.lookup_in.ensures.good
