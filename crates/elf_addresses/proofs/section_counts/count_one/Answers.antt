use Rattle.std.proofs.Common.{◌+◌, List, Option, ℕ, length, subst, sym, ap, ◌∙◌, arith}
use Rattle.elf_addresses.specs.SectionCounts.{AreCounts, counted}
use Rattle.elf_addresses.proofs.SectionCountings.{count_room, counted_length, counted_step}
use Rattle.elf_addresses.proofs.section_counts.count_one.Goals as goal

pub add_one-requires : goal.add_one-requires
add_one-requires g c = λ place less. let room = count_room g.E.Entry.fields c.args.symbols.now c.args.index c.args.counts.now c.requires.before place less in omega (arith, room)

pub returns-clause-counted : goal.returns-clause-counted
returns-clause-counted g c =
    let fields = g.E.Entry.fields in
    let symbols = c.args.symbols.now in
    let step = counted_step fields symbols c.args.index c.args.counts.now c.requires.before in
    subst (λ (counts : List ℕ). AreCounts fields symbols (c.args.index + 1) counts) (sym c.add_one.ensures)
    (subst (λ (o : Option ℕ). AreCounts fields symbols (c.args.index + 1) (counted c.args.counts.now o)) (sym c.sized_section-section.ensures) step)

pub returns-clause-same : goal.returns-clause-same
returns-clause-same g c = ap length c.add_one.ensures ∙ counted_length c.args.counts.now c.sized_section-section.result
