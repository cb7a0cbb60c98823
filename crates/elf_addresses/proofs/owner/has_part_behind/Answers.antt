use Rattle.std.proofs.Common.{◌↔◌, ◌<◌, ℕ, IsTrue, subst}
use Rattle.elf_addresses.specs.FileClaims.{section_claim, segment_claim}
use Rattle.elf_addresses.specs.Owner.{ClaimBegins}
use Rattle.elf_addresses.proofs.Behind.{behind_any}
use Rattle.elf_addresses.proofs.owner.has_part_behind.Goals as goal

pub returns : goal.returns
returns c =
    let byte = c.args.byte in
    let sections = subst (λ f. IsTrue c.begins_behind.result ↔ ((begin : ℕ) × (byte < begin) × ClaimBegins (section_claim f) begin)) c.new-sections.ensures c.begins_behind.ensures in
    let segments = subst (λ f. IsTrue c.begins_behind-2.result ↔ ((begin : ℕ) × (byte < begin) × ClaimBegins (segment_claim f) begin)) c.new-segments.ensures c.begins_behind-2.ensures in
    rw c.any_of.ensures (behind_any c.args.headers.now.file.now byte c.has_table_behind.result c.begins_behind.result c.begins_behind-2.result c.has_table_behind.ensures sections segments)
