use Rattle.std.proofs.Common.{subst}
use Rattle.elf_c.specs.SearchPaths.{FindsPath, path_bytes}
use Rattle.elf_c.proofs.search_paths.xmas_elf_cache_path.Goals as goal

pub returns : goal.returns
returns c = (
  path_bytes c.cached_path-found.result,
  subst (λ machine. FindsPath c.args.cache.now c.args.name.now machine (path_bytes c.cached_path-found.result)) c.machine_of.ensures c.cached_path-found.ensures,
  (c.fill_bytes.result, c.fill_bytes.ensures, c.give.ensures),
)
