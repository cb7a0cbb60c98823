use Rattle.std.proofs.Common.{◌≡◌, drop}
use Rattle.elf_search.proofs.VersionSteps.{has_bytes}
use Rattle.elf_search.proofs.versions.has_name.Given as goal

abbrev pub invariant-loop-place : goal.invariant-loop-place
invariant-loop-place l = has_bytes l.name (drop l.place l.provider.names.now) ≡ has_bytes l.name l.provider.names.now
