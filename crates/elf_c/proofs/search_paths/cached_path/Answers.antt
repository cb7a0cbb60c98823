use Rattle.std.proofs.Common.{Some, None, refl, rules}
use Rattle.elf_search.specs.Cache.{looked_up}
use Rattle.elf_c.specs.SearchPaths.{IsCacheOf, looked, not_read}
use Rattle.elf_c.proofs.SearchPaths.{path_found}
use Rattle.elf_c.proofs.search_paths.cached_path.Goals as goal

pub returns-in-Err : goal.returns-in-Err
returns-in-Err c = not_read c.in-Err.error c.in-Err.ensures.exact refl

pub returns-in-Some : goal.returns-in-Some
returns-in-Some c =
    let cache = c.in-Ok.cache in
    let (entry, looks, at) = c.in-Some.ensures.value in
    let is : IsCacheOf c.args.bytes.now cache = record {
      accepted = search rules;
      same_bytes = c.in-Ok.ensures.exact.0;
      start = c.in-Ok.ensures.exact.1;
      count = c.in-Ok.ensures.exact.2;
      words = c.in-Ok.ensures.exact.3;
    } in
    looked cache entry is looks (path_found cache (Some c.in-Some.path) entry at)
    (λ good. path_found cache (Some c.in-Some.path) (looked_up cache c.args.machine.now c.args.name.now) (c.in-Some.ensures.checked good))

pub returns-in-None : goal.returns-in-None
returns-in-None c =
    let cache = c.in-Ok.cache in
    let (entry, looks, at) = c.in-None.ensures.value in
    let is : IsCacheOf c.args.bytes.now cache = record {
      accepted = search rules;
      same_bytes = c.in-Ok.ensures.exact.0;
      start = c.in-Ok.ensures.exact.1;
      count = c.in-Ok.ensures.exact.2;
      words = c.in-Ok.ensures.exact.3;
    } in
    looked cache entry is looks (path_found cache None entry at)
    (λ good. path_found cache None (looked_up cache c.args.machine.now c.args.name.now) (c.in-None.ensures.checked good))
