use Rattle.std.proofs.Common.{arith, ◌≤◌, ◌⊎◌, inl, inr, length, sym, ◌∙◌}
use Rattle.xmas_elf.specs.HashTable.{IsFoundAt, chain_count_of, chains_of, no_chain, no_symbol, too_many}
use Rattle.xmas_elf.specs.SymbolTable.{table_symbols}
use Rattle.xmas_elf.proofs.hash.HashTable.symbol_at.Goals as goal
use Rattle.xmas_elf.proofs.hash.HashTable.symbol_at.Goals.{then-passed-chain_count-via-then-passed-chain_count, then-passed-chain_count-via-else-passed-chain_count+then-passed-symbol_count}

pub returns-then-index-chain_count : goal.returns-then-index-chain_count
returns-then-index-chain_count g c = no_chain (omega arith)

pub returns-in_default : goal.returns-in_default
returns-in_default g c = no_symbol (omega arith) (sym c.get.ensures ∙ c.in_default.is)

pub returns-then-passed-chain_count : goal.returns-then-passed-chain_count
returns-then-passed-chain_count g c =
    let stands : IsFoundAt (chains_of c.args.self.now (table_symbols c.args.symbols.now).items) c.args.index c.in-Some.entry =
    record { not_end = omega arith; below = omega arith; symbol = sym c.get.ensures ∙ c.in-Some.is } in
    let many : (chain_count_of c.args.self.now ≤ c.args.passed) ⊎ (length (table_symbols c.args.symbols.now).items ≤ c.args.passed) =
    elim c.then-passed-chain_count.branch [ then-passed-chain_count-via-then-passed-chain_count w ↦ inl (omega arith) | then-passed-chain_count-via-else-passed-chain_count+then-passed-symbol_count w ↦ inr (omega arith) ] in
    too_many c.in-Some.entry stands many

pub returns : goal.returns
returns g c = (
  record { not_end = omega arith; below = omega arith; symbol = sym c.get.ensures ∙ c.in-Some.is },
  omega arith,
  omega arith,
  omega arith,
  omega arith,
)
