use Rattle.std.proofs.Common.{◌≡◌}
use Rattle.elf_linking.proofs.CheckedScopes.{first_from}
use Rattle.elf_linking.proofs.checked.scope.CheckedScope.first_given.Given as goal

-- no object so far gives a symbol
abbrev pub invariant-loop-place : goal.invariant-loop-place
invariant-loop-place g l = first_from l.fn.name l.fn.wanted l.fn.use_ l.fn.self 0 ≡ first_from l.fn.name l.fn.wanted l.fn.use_ l.fn.self l.place
