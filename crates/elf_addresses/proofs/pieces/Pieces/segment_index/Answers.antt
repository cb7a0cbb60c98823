use Rattle.std.proofs.Common.{length, subst, sym}
use Rattle.elf_addresses.specs.FileClaims.{byte_count, segment_claim, segment_parts, segment_range, segment_range_at}
use Rattle.elf_addresses.specs.Index.{IsWellBuilt}
use Rattle.elf_addresses.specs.PartRanges.{range_index, range_within}
use Rattle.elf_addresses.proofs.HeldWords.{well_built}
use Rattle.elf_addresses.proofs.pieces.Pieces.segment_index.Goals as goal

pub returns-clause-built : goal.returns-clause-built
returns-clause-built c =
    let self = c.args.self.now in
    let file = self.sections.file.now in
    let words = self.segment_words in
    let built = well_built (segment_claim file) (segment_range_at file) (length (segment_parts file)) (λ i claim is. range_index i (segment_range_at file i) claim is) (λ i claim is. range_within segment_range (byte_count file) (segment_parts file) i claim is) words.sized.now words.begins.now words.sizes.now words.lasting.now words.starts.now self.segments_held in
    subst (λ f. IsWellBuilt (segment_claim f) (segment_range_at f) words.sized.now words.begins.now words.sizes.now words.lasting.now words.starts.now) (sym self.same_file) built
