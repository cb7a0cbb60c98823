use Rattle.std.proofs.Common.{false, arith}
use Rattle.elf_addresses.proofs.NextClaim.{next_at, next_none}
use Rattle.elf_addresses.proofs.next.next_claim.Goals as goal

pub returns : goal.returns
returns g c =
    let claims = c.args.claims.now in
    let counted = c.count_begun-count.ensures in
    rw (c.min.ensures, c.range.ensures) (next_at (g.C.Claims.claim_of claims) (g.C.Claims.range_of claims) (λ i claim is. g.C.Claims.ranged claims i claim is) (λ i claim is. g.C.Claims.own claims i claim is) c.args.sized.now c.args.address c.args.limit c.count_begun-count.result c.requires (counted.begun false c.requires) (counted.rest false c.requires) (omega arith))

pub returns-then-count-sized : goal.returns-then-count-sized
returns-then-count-sized g c =
    let claims = c.args.claims.now in
    let counted = c.count_begun-count.ensures in
    next_none (g.C.Claims.claim_of claims) (g.C.Claims.range_of claims) (λ i claim is. g.C.Claims.ranged claims i claim is) (λ i claim is. g.C.Claims.own claims i claim is) c.args.sized.now c.args.address c.args.limit c.count_begun-count.result c.requires (counted.begun false c.requires) (omega arith)
