use Rattle.std.proofs.Common.{◌≡◌, Some, slice_get, sym, ◌∙◌, subst}
use Rattle.xmas_elf.specs.Symbols.{IsMatchWhere}
use Rattle.xmas_elf.specs.SymbolTable.{table_symbols}
use Rattle.elf_linking.proofs.gnu_hash.lookup.symbol_at.Goals as goal

pub returns-then-passes-clause-yes : goal.returns-then-passes-clause-yes
returns-then-passes-clause-yes g c = λ e one.
    let all = table_symbols c.args.symbols.now in
    let same : c.in_ok-entry.entry ≡ e = cc in
    let symbol : slice_get (table_symbols c.args.symbols.now).items c.args.index ≡ Some c.in_ok-entry.entry = sym c.get.ensures ∙ c.in_ok-entry.was in
    subst (λ x. (slice_get all.items c.args.index ≡ Some x) × IsMatchWhere all g.F.Fn c.args.f.now c.args.name.now (c.args.index, x)) same (symbol, c.passes.ensures.yes c.if-passes.true)
