use Rattle.std.proofs.Common.{◌≡◌, ◌-◌, ◌≤◌, ◌<◌, ℕ, refl, arith}
use Rattle.elf_linking.specs.GnuHash.{HasChain, IsThere, first_symbol_of, no_symbol, no_word, symbol_end}
use Rattle.xmas_elf.specs.SymbolTable.{table_symbols}
use Rattle.elf_linking.proofs.Runs.{run_first, run_to}
use Rattle.elf_linking.proofs.Words.{chain_before, chain_end}
use Rattle.elf_linking.proofs.gnu_hash.GnuHashTable.reason.Goals as goal

pub returns-then-from-end : goal.returns-then-from-end
returns-then-from-end g c =
    let items = (table_symbols c.args.symbols.now).items in
    let past : symbol_end items ≤ c.args.from = omega arith in
    record { last = c.args.from; run = run_first c.args.self.now items c.args.from; lacks = no_symbol past }

pub returns-in-Ok : goal.returns-in-Ok
returns-in-Ok g c =
    let table = c.args.self.now in
    let items = (table_symbols c.args.symbols.now).items in
    let word : HasChain table (c.symbol_end-end.result - 1) = c.in-Ok.ensures.readable.0 refl in
    let begins : first_symbol_of table ≤ c.args.from = c.requires.begins in
    let same : c.symbol_end-end.result ≡ symbol_end items = c.symbol_end-end.ensures in
    let before : c.args.from < symbol_end items = omega arith in
    let there : (i : ℕ) → c.args.from ≤ i → i < symbol_end items → IsThere table items i =
    λ i above below. record { symbol = below; word = chain_before table i (c.symbol_end-end.result - 1) (omega arith) (omega arith) word } in
    record {
      last = symbol_end items;
      run = run_to table items c.args.from (symbol_end items) (omega arith) there c.requires.endless;
      lacks = no_symbol (omega arith);
    }

pub returns-in-Err : goal.returns-in-Err
returns-in-Err g c =
    let table = c.args.self.now in
    let items = (table_symbols c.args.symbols.now).items in
    let begins : first_symbol_of table ≤ c.args.from = c.requires.begins in
    let same : c.symbol_end-end.result ≡ symbol_end items = c.symbol_end-end.ensures in
    let before : c.args.from < symbol_end items = omega arith in
    let lacks : HasChain table (c.symbol_end-end.result - 1) → ⊥ = λ h. (let yes = c.in-Err.ensures.readable.1 h in cc) in
    let (last, above, within, out, fits) = chain_end table c.args.from (c.symbol_end-end.result - 1) begins (omega arith) lacks in
    let there : (i : ℕ) → c.args.from ≤ i → i < last → IsThere table items i =
    λ i over under. record { symbol = omega arith; word = (omega arith, fits i over under) } in
    record {
      last = last;
      run = run_to table items c.args.from last above there c.requires.endless;
      lacks = no_word (omega arith) out;
    }
