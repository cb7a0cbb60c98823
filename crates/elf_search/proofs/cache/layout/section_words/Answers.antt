use Rattle.std.proofs.Common.{arith}
use Rattle.elf_search.proofs.CacheRuns.{within_none}
use Rattle.elf_search.proofs.cache.layout.section_words.Goals as goal

pub returns-then-bytes-from-clause-value : goal.returns-then-bytes-from-clause-value
returns-then-bytes-from-clause-value c = within_none c.args.bytes.now c.args.place c.args.count c.loop-index.index _ _ (omega arith) c.read_u32-from.ensures c.read_u32-size.ensures c.if-bytes-from.true
