use Rattle.std.proofs.Common.{length, false, subst, sym}
use Rattle.elf_addresses.specs.FileClaims.{byte_count, segment_claim, segment_parts, segment_range, segment_range_at}
use Rattle.elf_addresses.specs.Index.{IsWorstFirst}
use Rattle.elf_addresses.specs.Owner.{ClaimBegins, SectionBegins}
use Rattle.elf_addresses.specs.PartRanges.{range_index, range_within}
use Rattle.elf_addresses.specs.Runs.{IsNext}
use Rattle.elf_addresses.proofs.HeldWords.{worst_first}
use Rattle.elf_addresses.proofs.Runs.{next_of_both}
use Rattle.elf_addresses.proofs.pieces.Pieces.next_part.Goals as goal

pub next_claim-requires : goal.next_claim-requires
next_claim-requires c =
    let self = c.args.self.now in
    let file = self.sections.file.now in
    let order = worst_first (segment_claim file) (segment_range_at file) (length (segment_parts file)) (λ i claim is. range_index i (segment_range_at file i) claim is) (λ i claim is. range_within segment_range (byte_count file) (segment_parts file) i claim is) false self.segment_words.sized.now self.segments_held.0 in
    subst (λ f. IsWorstFirst (segment_claim f) false self.segment_words.sized.now) (sym self.same_file) order

pub returns : goal.returns
returns c =
    let self = c.args.self.now in
    let file = self.sections.file.now in
    let segments = subst (λ f. IsNext (ClaimBegins (segment_claim f)) c.args.byte c.next_section-section.result c.next_claim.result) self.same_file c.next_claim.ensures in
    next_of_both (SectionBegins file) (ClaimBegins (segment_claim file)) c.args.byte c.args.limit c.next_section-section.result c.next_claim.result c.next_section-section.ensures segments
