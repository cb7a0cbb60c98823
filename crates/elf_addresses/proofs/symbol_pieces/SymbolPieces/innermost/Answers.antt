use Rattle.std.proofs.Common.{◌≡◌, ◌<◌, ℕ, Some, false}
use Rattle.elf_addresses.specs.SymbolClaims.{claim_of_symbols, range_of_symbols, symbol_count}
use Rattle.elf_addresses.specs.SymbolRanges.{own_index}
use Rattle.elf_addresses.specs.declared.claim.Claim.{Claim}
use Rattle.elf_addresses.proofs.HeldWords.{are_lasting, are_ranges, worst_first}
use Rattle.elf_addresses.proofs.SizedRuns.{claim_within}
use Rattle.elf_addresses.proofs.symbol_pieces.SymbolPieces.innermost.Goals as goal

pub returns : goal.returns
returns g c =
    let claims = c.args.self.now.claims in
    let symbols = claims.symbols.now in
    let claim_of = claim_of_symbols g.E.Entry.fields symbols claims.within in
    let range_of = range_of_symbols g.E.Entry.fields symbols in
    let own : (i : ℕ) (claim : Claim) → claim_of i ≡ Some claim → claim.index ≡ i = λ i claim is. own_index g.E.Entry.fields symbols claims.within i claim is in
    let within : (i : ℕ) (claim : Claim) → claim_of i ≡ Some claim → i < symbol_count symbols = λ i claim is. claim_within g.E.Entry.fields symbols claims.within i claim is in
    c.reach.ensures.foremost (worst_first claim_of range_of (symbol_count symbols) own within false c.args.self.now.sized.now c.args.self.now.ordered) (are_ranges claim_of range_of (symbol_count symbols) own within c.args.self.now.sized.now c.args.self.now.begins.now c.args.self.now.sizes.now c.args.self.now.ranges) (are_lasting claim_of range_of (symbol_count symbols) own within c.args.self.now.sized.now c.args.self.now.lasting.now c.args.self.now.blocks)
