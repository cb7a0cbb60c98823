use Rattle.elf_addresses.specs.SymbolPieces.{piece_claims}
use Rattle.elf_addresses.proofs.SizedRuns.{free_run}
use Rattle.elf_addresses.proofs.symbol_pieces.SymbolPieces.free_run.Goals as goal

pub returns : goal.returns
returns g c =
    let self = c.args.self.now in
    free_run (piece_claims g.E.Entry.fields self) self.place self.end c.next_begin.result c.requires.left c.requires.free c.next_begin.ensures
