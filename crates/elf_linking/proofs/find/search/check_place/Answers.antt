use Rattle.std.proofs.Common.{◌≡◌, ◌≤◌, ◌<◌, ℕ, ◌⊎◌, inl, inr, List, Some, length, slice_get, arith}
use Rattle.std.proofs.lemmas.Option.{slice_get_cases, slice_get_past}
use Rattle.xmas_elf.specs.HashTable.{chain_count_of, no_chain, no_symbol, too_many}
use Rattle.xmas_elf.specs.SymbolTable.{table_symbols}
use Rattle.elf_linking.proofs.find.search.check_place.Goals as goal
use Rattle.elf_linking.proofs.find.search.check_place.Goals.{then-passed-chain_count-via-then-passed-chain_count, then-passed-chain_count-via-else-passed-chain_count+then-passed-len}

within : {E : Type 0} (items : List E) (i : ℕ) → i < length items → (e : E) × (slice_get items i ≡ Some e)
within items i below = elim (slice_get_cases items i).1 [ inl (e, in_list, is, got) ↦ (e, is) | inr (past, none) ↦ absurd (omega arith) ]

pub returns-then-index-chain_count : goal.returns-then-index-chain_count
returns-then-index-chain_count g c = no_chain (omega arith)

pub returns-then-index-len : goal.returns-then-index-len
returns-then-index-len g c = no_symbol (omega arith) (slice_get_past (table_symbols c.args.symbols.now).items c.args.index (omega arith))

pub returns-then-passed-chain_count : goal.returns-then-passed-chain_count
returns-then-passed-chain_count g c =
    let items = (table_symbols c.args.symbols.now).items in
    let (e, symbol) = within items c.args.index (omega arith) in
    let many : (chain_count_of c.args.table.now ≤ c.args.passed) ⊎ (length (table_symbols c.args.symbols.now).items ≤ c.args.passed) =
    elim c.then-passed-chain_count.branch [ then-passed-chain_count-via-then-passed-chain_count w ↦ inl (omega arith) | then-passed-chain_count-via-else-passed-chain_count+then-passed-len w ↦ inr (omega arith) ] in
    too_many e (record { not_end = omega arith; below = omega arith; symbol = symbol }) many

pub returns : goal.returns
returns g c =
    let items = (table_symbols c.args.symbols.now).items in
    let (e, symbol) = within items c.args.index (omega arith) in
    ((e, record { not_end = omega arith; below = omega arith; symbol = symbol }), omega arith, omega arith)
