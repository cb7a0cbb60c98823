use Rattle.std.proofs.Common.{rules, ◌≡◌, [], ◌∷◌, ap, arith, drop, None, sym, ◌∙◌}
use Rattle.elf_search.specs.Elements.{pieces_left}
use Rattle.elf_search.specs.Lists.{elements_in, list_parts}
use Rattle.elf_search.proofs.ListItems.{behind_is}
use Rattle.elf_search.proofs.ListSteps.{repeated_end, repeated_hit, repeated_more}
use Rattle.elf_search.proofs.lists.SearchList.is_repeated.Goals as goal

pub returns-in_default : goal.returns-in_default
returns-in_default c =
    let list = list_parts c.args.self.now in
    let place = c.loop-place._place in
    let none : c.loop-place.rest ≡ None = first_of (cc, search rules) in
    let empty : drop place (elements_in list) ≡ [] = c.loop-place.invariant.1 ∙ ap (pieces_left list.separators) none in
    sym (repeated_end list place c.args.element.now c.args.index empty (omega (arith, c.loop-place-test.true)) c.loop-place.invariant.0)

pub returns-then-are_same : goal.returns-then-are_same
returns-then-are_same c =
    let list = list_parts c.args.self.now in
    let place = c.loop-place._place in
    let (earlier, others) = c.split_piece.result in
    let front : drop place (elements_in list) ≡ earlier.now ∷ pieces_left list.separators others =
    c.loop-place.invariant.1 ∙ ap (pieces_left list.separators) c.in-Some.is ∙ c.split_piece.ensures in
    sym (repeated_hit list place c.args.element.now c.args.index earlier.now (pieces_left list.separators others) front c.loop-place-test.true (sym c.are_same.ensures ∙ c.if-are_same.true))

pub loop-place-preserved : goal.loop-place-preserved
loop-place-preserved c =
    let list = list_parts c.args.self.now in
    let place = c.loop-place._place in
    let (earlier, others) = c.split_piece.result in
    let front : drop place (elements_in list) ≡ earlier.now ∷ pieces_left list.separators others =
    c.loop-place.invariant.1 ∙ ap (pieces_left list.separators) c.in-Some.is ∙ c.split_piece.ensures in (
      repeated_more list place c.args.element.now earlier.now (pieces_left list.separators others) front (sym c.are_same.ensures ∙ c.if-are_same.false) c.loop-place.invariant.0,
      behind_is (elements_in list) place earlier.now (pieces_left list.separators others) front,
    )
