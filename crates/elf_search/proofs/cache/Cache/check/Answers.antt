use Rattle.std.proofs.Common.{sym, ap, ◌∙◌}
use Rattle.std.specs.Prelude.{is_some}
use Rattle.elf_search.proofs.CacheChecks.{checked_names}
use Rattle.elf_search.proofs.cache.Cache.check.Goals as goal

pub returns-clause-names : goal.returns-clause-names
returns-clause-names c = checked_names c.args.self.now c.check_names.result (ap is_some (sym c.words_of_header.ensures.value) ∙ c.if-is_none.ensures) c.check_names.ensures
