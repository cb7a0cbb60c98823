use Rattle.std.proofs.Common.{◌≡◌, ◌-◌, length}
use Rattle.elf_search.specs.Candidates.{rest_of_list}
use Rattle.elf_search.specs.Elements.{elements_of}
use Rattle.elf_search.specs.Lists.{list_parts}
use Rattle.elf_search.proofs.candidates.next_in_list.Given as goal

abbrev pub invariant-loop-element : goal.invariant-loop-element
invariant-loop-element l = rest_of_list (list_parts l.list) l.place ≡ rest_of_list (list_parts l.list) l.initial.place

abbrev pub decreases-loop-element : goal.decreases-loop-element
decreases-loop-element l = length (elements_of l.list.separators.now l.list.text.now) - l.place.element
