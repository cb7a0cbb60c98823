use Rattle.std.proofs.Common.{length, false, subst}
use Rattle.elf_addresses.specs.FileClaims.{byte_count, section_claim, section_parts, section_range, section_range_at}
use Rattle.elf_addresses.specs.Owner.{ClaimBegins, TableBegins}
use Rattle.elf_addresses.specs.PartRanges.{range_index, range_within}
use Rattle.elf_addresses.specs.Runs.{IsNext}
use Rattle.elf_addresses.proofs.HeldWords.{worst_first}
use Rattle.elf_addresses.proofs.Runs.{next_of_both}
use Rattle.elf_addresses.proofs.pieces.Pieces.next_section.Goals as goal

pub next_claim-requires : goal.next_claim-requires
next_claim-requires c =
    let file = c.args.self.now.sections.file.now in
    worst_first (section_claim file) (section_range_at file) (length (section_parts file)) (λ i claim is. range_index i (section_range_at file i) claim is) (λ i claim is. range_within section_range (byte_count file) (section_parts file) i claim is) false c.args.self.now.section_words.sized.now c.args.self.now.sections_held.0

pub returns : goal.returns
returns c =
    let self = c.args.self.now in
    let tables = subst (λ f. IsNext (TableBegins f) c.args.byte c.args.limit c.next_table-table.result) self.one_file c.next_table-table.ensures in
    next_of_both (TableBegins self.sections.file.now) (ClaimBegins (section_claim self.sections.file.now)) c.args.byte c.args.limit c.next_table-table.result c.next_claim.result tables c.next_claim.ensures
