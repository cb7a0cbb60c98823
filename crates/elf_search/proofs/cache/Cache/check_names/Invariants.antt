use Rattle.std.proofs.Common.{◌≡◌}
use Rattle.std.specs.Prelude.{Ok}
use Rattle.elf_search.specs.Cache.{first_error, name_check}
use Rattle.elf_search.proofs.cache.Cache.check_names.Given as goal

abbrev pub invariant-loop-index : goal.invariant-loop-index
invariant-loop-index l = first_error (name_check l.self) l.index ≡ Ok tt
