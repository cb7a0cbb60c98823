use Rattle.std.proofs.Common.{subst}
use Rattle.std.specs.Prelude.{MatchResult, ⊤}
use Rattle.elf_addresses.specs.SymbolClaims.{symbol_items}
use Rattle.elfaddr.specs.Lines.{AreLines, name_in}
use Rattle.elfaddr.proofs.AskedParts.{same_claims}
use Rattle.elfaddr.proofs.print.print_symbols.Goals as goal
use Rattle.program_ends.specs.Appended.{AppendsSome}
use Rattle.program_ends.specs.Ends.{IsFault}

pub returns : goal.returns
returns g c =
    let symbols = c.args.symbols.now in
    let fields = g.E.Entry.fields in
    subst (λ claim_of. MatchResult c.print_lines.result (λ back. AppendsSome (AreLines c.args.form claim_of (name_in fields (symbol_items symbols) symbols.strings.now) c.args.file.now c.args.addresses.now) (g.W.Write.contents c.args.out) (g.W.Write.contents back)) (IsFault c.args.path (λ error. ⊥) ⊤))
    (same_claims fields symbols) c.print_lines.ensures
