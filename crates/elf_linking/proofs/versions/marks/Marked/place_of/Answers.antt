use Rattle.std.proofs.Common.{◌≡◌, length, rules, sym, ◌∙◌}
use Rattle.elf_linking.specs.VersionTables.{records_data}
use Rattle.elf_linking.proofs.Marking.{mark_first, mark_whole}
use Rattle.elf_linking.proofs.versions.marks.Marked.place_of.Goals as goal

pub returns-clause-whole : goal.returns-clause-whole
returns-clause-whole c =
    let marked = c.args.self.now in
    let same : c.from.result ≡ c.mark_of-mark.result = search rules in
    mark_whole marked.records.order marked.records.bytes.now (length marked.records.bytes.now) c.args.number c.from.result marked.marks marked.right (same ∙ c.mark_of-mark.ensures) (λ none. c.if-mark-eq0.false (sym same ∙ none))

pub returns-clause-first : goal.returns-clause-first
returns-clause-first c =
    let marked = c.args.self.now in
    let same : c.from.result ≡ c.mark_of-mark.result = search rules in
    mark_first (records_data marked.records) c.args.number c.from.result marked.marks marked.right (same ∙ c.mark_of-mark.ensures) (λ none. c.if-mark-eq0.false (sym same ∙ none))
