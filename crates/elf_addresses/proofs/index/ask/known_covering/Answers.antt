use Rattle.elf_addresses.proofs.Known.{known_at, known_there, no_word}
use Rattle.elf_addresses.proofs.index.ask.known_covering.Goals as goal

pub returns-in-Some-clause-listed : goal.returns-in-Some-clause-listed
returns-in-Some-clause-listed g c =
    known_at (g.C.Claims.known_of c.args.claims.now) c.args.words.now c.args.place c.in-Some.index c.known.result c.if_covers.result c.in-Some.ensures c.known.ensures c.if_covers.ensures.same

pub returns-in-Some-clause-known : goal.returns-in-Some-clause-known
returns-in-Some-clause-known g c =
    let claims = c.args.claims.now in
    known_there (g.C.Claims.known_of claims) c.args.words.now (g.C.Claims.claim_of claims) (λ i claim is. g.C.Claims.knows claims i claim is) c.args.place c.in-Some.index c.args.address c.known.result c.if_covers.result c.in-Some.ensures c.known.ensures c.if_covers.ensures.found

pub returns-in-None-clause-known : goal.returns-in-None-clause-known
returns-in-None-clause-known g c = λ claim stands covers. absurd (no_word c.args.words.now c.args.place stands.0 c.in-None.ensures)
