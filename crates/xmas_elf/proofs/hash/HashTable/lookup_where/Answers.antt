use Rattle.std.proofs.Common.{refl}
use Rattle.xmas_elf.proofs.ChainFinds.{finds_all}
use Rattle.xmas_elf.proofs.hash.HashTable.lookup_where.Goals as goal

pub returns : goal.returns
returns g c = record {
  answer = λ d. (c.search.result.1, c.search.ensures.answer d);
  good = λ d sound. finds_all _ _ _ _ _ _ _ refl sound (c.search.ensures.answer d);
}
