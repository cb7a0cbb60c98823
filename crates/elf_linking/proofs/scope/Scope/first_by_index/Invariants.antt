use Rattle.std.proofs.Common.{ℕ, ◌<◌, Ok, None}
use Rattle.elf_linking.specs.Find.{IsFound}
use Rattle.elf_linking.specs.Scope.{GivesAt, scope_objects}
use Rattle.elf_linking.proofs.scope.Scope.first_by_index.Given as goal

-- no object so far gives a symbol or an error
abbrev pub invariant-loop-place : goal.invariant-loop-place
invariant-loop-place g l = (i : ℕ) → i < l.place
    → GivesAt IsFound g.E.Entry.fields (scope_objects l.fn.self).now l.fn.name l.fn.wanted l.fn.use_ i (Ok None)
