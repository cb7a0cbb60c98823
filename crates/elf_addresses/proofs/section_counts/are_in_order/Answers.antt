use Rattle.std.proofs.Common.{◌≡◌, true, false, refl, arith, below_more}
use Rattle.std.proofs.lemmas.Grind.{common_steps}
use Rattle.std.proofs.lemmas.Bool.{both_ways, false≢true}
use Rattle.elf_addresses.specs.Index.{in_order_at}
use Rattle.elf_addresses.proofs.section_counts.are_in_order.Goals as goal

pub returns-then-not-is_in_order_at : goal.returns-then-not-is_in_order_at
returns-then-not-is_in_order_at g c =
    let claim_of = g.C.Claims.claim_of c.args.claims.now in
    let no : in_order_at claim_of false c.args.words.now c.loop-place.place ≡ false = first_of (cc, grind (arith, common_steps)) in (
      λ h. absurd (false≢true h),
      λ all. absurd (both_ways (in_order_at claim_of false c.args.words.now c.loop-place.place) no (all c.loop-place.place (omega arith))),
    )

pub loop-place-preserved : goal.loop-place-preserved
loop-place-preserved g c =
    let claim_of = g.C.Claims.claim_of c.args.claims.now in
    let here : in_order_at claim_of false c.args.words.now c.loop-place.place ≡ true = first_of (cc, grind (arith, common_steps)) in
    below_more _ _ c.loop-place.invariant here

pub returns : goal.returns
returns g c = (λ h k less. c.loop-place.invariant k (omega arith), λ all. refl)
