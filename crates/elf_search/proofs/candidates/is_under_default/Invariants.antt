use Rattle.std.proofs.Common.{◌≡◌, ◌-◌, drop, length}
use Rattle.std.specs.List.{list_any}
use Rattle.std.specs.Prelude.{codes}
use Rattle.elf_search.specs.Candidates.{is_under, is_under_default}
use Rattle.elf_search.specs.Elements.{elements_of}
use Rattle.elf_search.proofs.candidates.is_under_default.Given as goal

abbrev pub invariant-loop-element : goal.invariant-loop-element
invariant-loop-element l = list_any (λ directory. is_under l.path directory) (drop l.index (elements_of (codes ":") l.defaults)) ≡ is_under_default l.defaults l.path

abbrev pub decreases-loop-element : goal.decreases-loop-element
decreases-loop-element l = length (elements_of (codes ":") l.defaults) - l.index
