use Rattle.std.proofs.Common.{subst}
use Rattle.elf_addresses.specs.Claims.{IsInnermost}
use Rattle.elf_addresses.specs.FileClaims.{segment_claim}
use Rattle.elf_addresses.proofs.pieces.Pieces.innermost_segment.Goals as goal

pub returns : goal.returns
returns c = subst (λ f. IsInnermost (segment_claim f) c.args.byte c.innermost.result) c.segment_index.ensures.file (c.innermost.ensures.innermost c.segment_index.ensures.built)
