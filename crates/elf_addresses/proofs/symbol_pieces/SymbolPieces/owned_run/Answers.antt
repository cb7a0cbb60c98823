use Rattle.std.proofs.Common.{subst}
use Rattle.elf_addresses.specs.Owner.{ClaimBegins}
use Rattle.elf_addresses.specs.Runs.{IsNext}
use Rattle.elf_addresses.specs.SymbolPieces.{piece_claims}
use Rattle.elf_addresses.proofs.SizedRuns.{owned_run}
use Rattle.elf_addresses.proofs.symbol_pieces.SymbolPieces.owned_run.Goals as goal

pub returns : goal.returns
returns g c =
    let self = c.args.self.now in
    let claim_of = piece_claims g.E.Entry.fields self in
    owned_run claim_of self.place self.end c.next_begin-end.result c.args.claim.now c.requires.left c.requires.innermost
    (subst (λ l. IsNext (ClaimBegins claim_of) self.place l c.next_begin-end.result) c.limit_of.ensures c.next_begin-end.ensures)
