use Rattle.elf_addresses.proofs.HeldWords.{held}
use Rattle.elf_addresses.proofs.held.words_of.Goals as goal

pub returns : goal.returns
returns g c =
    let claims = c.args.claims.now in
    let made = held (g.C.Claims.claim_of claims) (g.C.Claims.range_of claims) (g.C.Claims.count claims) (λ i claim is. g.C.Claims.own claims i claim is) (λ i claim is. g.C.Claims.within claims i claim is) _ _ _ _ _ c.requires.built in
    rw (c.word_parts.ensures.sized, c.word_parts.ensures.lasting, c.word_parts.ensures.starts, c.number_parts.ensures.begins, c.number_parts.ensures.sizes, c.requires.sized, c.requires.open) made
