use Rattle.std.proofs.Common.{arith}
use Rattle.elf_search.proofs.CacheRuns.{text_found, text_unended}
use Rattle.elf_search.proofs.cache.Cache.text_from.Goals as goal

pub returns-in-Ok : goal.returns-in-Ok
returns-in-Ok c = text_found _ _ _ c.in-Ok.ensures.exact

pub returns-in-Err : goal.returns-in-Err
returns-in-Err c = text_unended c.args.self.now.bytes.now c.args.place _ (omega arith) c.in-Err.ensures.exact
