use Rattle.std.proofs.Common.{Some, ap, max, ◌%◌, ◌∙◌}
use Rattle.std.proofs.lemmas.Result.{on_ok_weaker}
use Rattle.elf_addresses.specs.SymbolClaims.{claim_of_symbols}
use Rattle.elf_addresses.specs.SymbolPieces.{piece_claims, symbol_limit, symbol_place}
use Rattle.elfsize.proofs.SplitRuns.{same_adds}
use Rattle.elfsize.specs.Split.{section_claims}
use Rattle.elfsize.proofs.split.push_symbols.Goals as goal

pub returns-in-Some : goal.returns-in-Some
returns-in-Some g c =
    let fields = g.E.Entry.fields in
    let pieces = c.in-Some.pieces in
    let range = c.args.range in
    let groups = c.args.groups.now in
    on_ok_weaker c.push_runs.result (λ adds.
    same_adds (piece_claims fields pieces) (section_claims fields groups.symbols.now c.args.index) c.args.index (symbol_place pieces) range.0 (symbol_limit pieces) (max range.0 range.1) _ _
    (c.in-Some.ensures.claims ∙ ap (λ symbols. claim_of_symbols fields symbols (Some (c.args.index % 0x100000000))) groups.same) c.in-Some.ensures.first c.in-Some.ensures.last adds) c.push_runs.ensures
