use Rattle.std.proofs.Common.{◌≡◌, ℕ, List, Option, None, Some, slice_get, sym, subst, arith, rules}
use Rattle.std.proofs.lemmas.Option.{get_or_from_slice_get, slice_get_cases}
use Rattle.xmas_elf.specs.First.{FindsFirst, IsFirstAt}
use Rattle.xmas_elf.specs.NameTable.{FindsNamed, HasName}
use Rattle.xmas_elf.specs.SectionHeader.{section_list}
use Rattle.xmas_elf.proofs.NamedSections.{is-section_named}
use Rattle.xmas_elf.proofs.sections.table.SectionTable.find_by_name.Goals as goal

-- the item at the first position with a property is the first with it
finds_at : {H : Type 0} (P : H → Type 0) (items : List H) (i : ℕ) (r : Option H) → r ≡ slice_get items i → IsFirstAt P items i → FindsFirst P items r
finds_at P items i None is (below, holds, none) = let some = slice_get_cases items i in grind arith
finds_at {H} P items i (Some h) is (below, holds, none) =
    let item = λ (d : H). get_or_from_slice_get items i h d (sym is) in
    (subst P (item h) (holds h), (i, below, item, none))

pub returns-in_err-position-clause-exact : goal.returns-in_err-position-clause-exact
returns-in_err-position-clause-exact c =
    let list : FindsNamed c.args.self.now.file.now c.args.name.now c.from_residual.result = search rules in
    is-section_named c.args.self.now.file.now c.args.name.now c.from_residual.result list

pub returns : goal.returns
returns c =
    let file = c.args.self.now.file.now in
    let list = finds_at (λ section. HasName file section c.args.name.now) (section_list file) c.in_ok-position.position c.get.result c.get.ensures.item c.in_ok-position.ensures in
    record { list = list; exact = is-section_named file c.args.name.now c.get.result list }
