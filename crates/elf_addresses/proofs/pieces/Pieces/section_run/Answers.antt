use Rattle.std.proofs.Common.{min, ap, ◌∙◌}
use Rattle.elf_addresses.specs.Claims.{claim_end}
use Rattle.elf_addresses.proofs.Runs.{section_piece}
use Rattle.elf_addresses.proofs.pieces.Pieces.section_run.Goals as goal

pub returns : goal.returns
returns c =
    section_piece c.args.self.now.sections.file.now c.args.byte c.limit_of-limit.result c.next_section-end.result c.args.claim.now c.requires.headers c.requires.innermost
    (c.limit_of-limit.ensures ∙ ap (λ n. min n (claim_end c.args.claim.now)) c.len.ensures) c.next_section-end.ensures
