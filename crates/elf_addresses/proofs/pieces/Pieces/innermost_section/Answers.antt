use Rattle.std.proofs.Common.{subst}
use Rattle.elf_addresses.specs.Claims.{IsInnermost}
use Rattle.elf_addresses.specs.FileClaims.{section_claim}
use Rattle.elf_addresses.proofs.pieces.Pieces.innermost_section.Goals as goal

pub returns : goal.returns
returns c = subst (λ f. IsInnermost (section_claim f) c.args.byte c.innermost.result) c.section_index.ensures.file (c.innermost.ensures.innermost c.section_index.ensures.built)
