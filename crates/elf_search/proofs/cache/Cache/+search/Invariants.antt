use Rattle.std.proofs.Common.{◌-◌}
use Rattle.elf_search.proofs.cache.Cache.+search.Given as goal

abbrev pub decreases-search : goal.decreases-search
decreases-search l = l.end - l.left
