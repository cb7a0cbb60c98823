use Rattle.elf_addresses.specs.FileClaims.{byte_count, section_claim, section_parts, section_range, section_range_at}
use Rattle.elf_addresses.specs.PartRanges.{range_index, range_within}
use Rattle.std.proofs.Common.{length}
use Rattle.elf_addresses.proofs.HeldWords.{well_built}
use Rattle.elf_addresses.proofs.pieces.Pieces.section_index.Goals as goal

pub returns-clause-built : goal.returns-clause-built
returns-clause-built c =
    let file = c.args.self.now.sections.file.now in
    well_built (section_claim file) (section_range_at file) (length (section_parts file)) (λ i claim is. range_index i (section_range_at file i) claim is) (λ i claim is. range_within section_range (byte_count file) (section_parts file) i claim is) c.args.self.now.section_words.sized.now c.args.self.now.section_words.begins.now c.args.self.now.section_words.sizes.now c.args.self.now.section_words.lasting.now c.args.self.now.section_words.starts.now c.args.self.now.sections_held
