use Rattle.std.proofs.Common.{◌≡◌, drop, map}
use Rattle.elf_search.specs.MissingVersions.{provider_parts, provider_with}
use Rattle.elf_search.proofs.versions.provider_with.Given as goal

abbrev pub invariant-loop-place : goal.invariant-loop-place
invariant-loop-place l = provider_with l.name l.place (map provider_parts (drop l.place l.providers)) ≡ provider_with l.name 0 (map provider_parts l.providers)
