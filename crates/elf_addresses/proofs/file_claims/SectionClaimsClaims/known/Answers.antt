use Rattle.std.proofs.Common.{ap, ◌∙◌}
use Rattle.elf_addresses.specs.FileClaims.{claim_with}
use Rattle.elf_addresses.proofs.file_claims.SectionClaimsClaims.known.Goals as goal

pub returns : goal.returns
returns c = c.claim_with.ensures ∙ ap (claim_with c.args.index) c.range.ensures
