use Rattle.std.proofs.Common.{◌≡◌, ℕ, ◌<◌, map, take}
use Rattle.elf_linking.specs.Exports.{object_parts}
use Rattle.linking_programs.specs.Checks.{IsPassedAt}
use Rattle.linking_programs.proofs.checked.checked_objects.Given as goal

-- the objects so far have passed
abbrev pub invariant-loop-index : goal.invariant-loop-index
invariant-loop-index g l = ((i : ℕ) → i < l.index → IsPassedAt g.E.Entry.fields l.fn.objects i)
    × (l.checked.items ≡ map (object_parts g.E.Entry.fields) (take l.index l.fn.objects))
