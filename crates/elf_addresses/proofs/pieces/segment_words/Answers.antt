use Rattle.std.proofs.Common.{◌≡◌, length, subst, arith}
use Rattle.elf_addresses.specs.FileClaims.{segment_claim, segment_parts}
use Rattle.elf_addresses.specs.Index.{word_count}
use Rattle.elf_addresses.proofs.FileParts.{segment_words}
use Rattle.elf_addresses.proofs.pieces.segment_words.Goals as goal

pub returns-clause-count : goal.returns-clause-count
returns-clause-count c =
    let few = segment_words c.new.result.file.now in
    let sized = c.index_size.ensures.sized in
    let open_ones = c.index_size.ensures.open in
    let same : c.words.result ≡ word_count (segment_claim c.new.result.file.now) (length (segment_parts c.new.result.file.now)) = omega (arith, few, sized, open_ones, c.words.ensures) in
    subst (λ f. c.words.result ≡ word_count (segment_claim f) (length (segment_parts f))) c.new.ensures same

pub returns-clause-few : goal.returns-clause-few
returns-clause-few c =
    let few = segment_words c.new.result.file.now in
    omega (arith, few, c.index_size.ensures.sized, c.index_size.ensures.open, c.words.ensures)
