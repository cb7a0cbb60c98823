use Rattle.elf_linking.proofs.Looks.{finds_all}
use Rattle.elf_linking.proofs.gnu_hash.GnuHashTable.lookup_where.Goals as goal

pub returns : goal.returns
returns g c = record {
  answer = λ d. (c.search.result.1, c.search.ensures.answer d);
  good = λ d sound. finds_all _ _ _ _ _ _ sound (c.search.ensures.answer d);
}
