use Rattle.std.proofs.Common.{◌≡◌}
use Rattle.std.specs.Prelude.{Ok}
use Rattle.elf_search.specs.Cache.{entry_check, first_error}
use Rattle.elf_search.proofs.cache.Cache.check_entries.Given as goal

abbrev pub invariant-loop-index : goal.invariant-loop-index
invariant-loop-index l = first_error (entry_check l.self) l.index ≡ Ok tt
