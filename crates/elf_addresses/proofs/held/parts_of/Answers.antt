use Rattle.elf_addresses.proofs.HeldWords.{in_blocks, in_ranges}
use Rattle.elf_addresses.proofs.Lasting.{last_by_words}
use Rattle.elf_addresses.proofs.held.parts_of.Goals as goal

pub returns-clause-ranges : goal.returns-clause-ranges
returns-clause-ranges g c =
    let claims = c.args.claims.now in
    in_ranges (g.C.Claims.claim_of claims) (g.C.Claims.range_of claims) (g.C.Claims.count claims) (λ i claim is. g.C.Claims.own claims i claim is) (λ i claim is. g.C.Claims.within claims i claim is) _ _ _ c.fill_ranges.ensures.ranges

pub returns-clause-blocks : goal.returns-clause-blocks
returns-clause-blocks g c =
    let claims = c.args.claims.now in
    in_blocks (g.C.Claims.claim_of claims) (g.C.Claims.range_of claims) (g.C.Claims.count claims) (λ i claim is. g.C.Claims.own claims i claim is) (λ i claim is. g.C.Claims.within claims i claim is) _ _
    (last_by_words (g.C.Claims.range_of claims) c.args.words.now c.fill_ranges.new.begins c.fill_ranges.new.sizes c.fill_ranges.ensures.ranges c.fill_lasting.new.lasting c.fill_lasting.ensures)
