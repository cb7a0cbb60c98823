use Rattle.std.proofs.Common.{◌≡◌, true, false, refl, arith, below_more}
use Rattle.std.proofs.lemmas.Grind.{common_steps}
use Rattle.std.proofs.lemmas.Bool.{false≢true}
use Rattle.elf_addresses.specs.Owner.{is_claim_behind}
use Rattle.elf_addresses.proofs.Behind.{behind_at, behind_nowhere}
use Rattle.elf_addresses.proofs.owner.begins_behind.Goals as goal

pub loop-index-preserved : goal.loop-index-preserved
loop-index-preserved g c =
    let here : is_claim_behind (g.C.Claims.claim_of c.args.claims.now c.loop-index.index) c.args.byte ≡ false = first_of (cc, grind (arith, common_steps)) in
    below_more _ _ c.loop-index.invariant here

pub returns-then-is_claim_behind : goal.returns-then-is_claim_behind
returns-then-is_claim_behind g c =
    let claims = c.args.claims.now in
    let here : is_claim_behind (g.C.Claims.claim_of claims c.loop-index.index) c.args.byte ≡ true = first_of (cc, grind (arith, common_steps)) in (
      λ h. behind_at (g.C.Claims.claim_of claims) c.args.byte c.loop-index.index (λ claim is. g.C.Claims.own claims c.loop-index.index claim is) here,
      λ some. refl,
    )

pub returns : goal.returns
returns g c =
    let claims = c.args.claims.now in (
      λ h. absurd (false≢true h),
      λ some. absurd (behind_nowhere (g.C.Claims.claim_of claims) c.args.byte (g.C.Claims.count claims) (λ i claim is. g.C.Claims.within claims i claim is) (λ i less. c.loop-index.invariant i (omega arith)) some),
    )
