use Rattle.std.proofs.Common.{◌≡◌, true, false, is_some}
use Rattle.elf_addresses.proofs.Ask.{innermost_open, innermost_sized}
use Rattle.elf_addresses.specs.Index.{IsKnownIn}
use Rattle.elf_addresses.proofs.Known.{in_one, in_other}
use Rattle.elf_addresses.proofs.index.ClaimIndex.innermost_counted.Goals as goal

pub returns-then-is_some-clause-innermost : goal.returns-then-is_some-clause-innermost
returns-then-is_some-clause-innermost g c = λ wb.
    let claims = c.args.self.now.claims.now in
    let h : is_some c.reach-found.result.0 ≡ true = cc in
    innermost_sized (g.C.Claims.claim_of claims) (g.C.Claims.range_of claims) (λ i claim is. g.C.Claims.ranged claims i claim is) c.args.address c.reach-found.result.0 h (c.reach-found.ensures.foremost wb.order wb.ranges wb.blocks)

pub returns-clause-innermost : goal.returns-clause-innermost
returns-clause-innermost g c = λ wb.
    let claims = c.args.self.now.claims.now in
    let h : is_some c.reach-found.result.0 ≡ false = cc in
    innermost_open (g.C.Claims.claim_of claims) (g.C.Claims.range_of claims) (λ i claim is. g.C.Claims.ranged claims i claim is) c.args.address c.reach-found.result.0 c.over.result h (c.reach-found.ensures.foremost wb.order wb.ranges wb.blocks) (c.over.ensures.foremost wb.rest)

pub returns-then-is_some-clause-listed : goal.returns-then-is_some-clause-listed
returns-then-is_some-clause-listed g c =
    let known_of = g.C.Claims.known_of c.args.self.now.claims.now in
    in_one (IsKnownIn known_of c.args.self.now.sized.now) (IsKnownIn known_of c.args.self.now.starts.now) c.reach-found.result.0 c.reach-found.ensures.listed

pub returns-clause-listed : goal.returns-clause-listed
returns-clause-listed g c =
    let known_of = g.C.Claims.known_of c.args.self.now.claims.now in
    in_other (IsKnownIn known_of c.args.self.now.sized.now) (IsKnownIn known_of c.args.self.now.starts.now) c.over.result c.over.ensures.listed
