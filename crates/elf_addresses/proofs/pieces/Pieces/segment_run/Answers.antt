use Rattle.std.proofs.Common.{min, ap, ◌∙◌}
use Rattle.elf_addresses.specs.Claims.{claim_end}
use Rattle.elf_addresses.proofs.Runs.{segment_piece}
use Rattle.elf_addresses.proofs.pieces.Pieces.segment_run.Goals as goal

pub returns : goal.returns
returns c =
    segment_piece c.args.self.now.sections.file.now c.args.byte c.limit_of-limit.result c.next_part-end.result c.args.claim.now c.requires.headers c.requires.sections c.requires.innermost
    (c.limit_of-limit.ensures ∙ ap (λ n. min n (claim_end c.args.claim.now)) c.len.ensures) c.next_part-end.ensures
