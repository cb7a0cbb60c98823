use Rattle.std.proofs.Common.{◌≡◌, drop, false, take}
use Rattle.elf_search.specs.Elements.{pieces_left}
use Rattle.elf_search.specs.Lists.{elements_in, is_repeated, list_parts}
use Rattle.elf_search.proofs.lists.SearchList.is_repeated.Given as goal

-- none of the elements so far names the same directory, and the others are those of the rest
abbrev pub invariant-loop-place : goal.invariant-loop-place
invariant-loop-place l = (is_repeated (list_parts l.self) (take l._place (elements_in (list_parts l.self))) l.element ≡ false)
    × (drop l._place (elements_in (list_parts l.self)) ≡ pieces_left l.self.separators.now l.rest)
