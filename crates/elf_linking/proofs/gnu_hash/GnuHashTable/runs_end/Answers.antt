use Rattle.std.proofs.Common.{◌≡◌, ◌+◌, ◌≤◌, ◌<◌, ◌%◌, ◌⊎◌, inl, inr, refl, sym, subst, arith}
use Rattle.std.proofs.lemmas.Bool.{cases_lt}
use Rattle.elf_linking.specs.GnuHash.{HasChain, IsThere, chain_word}
use Rattle.xmas_elf.specs.SymbolTable.{table_symbols}
use Rattle.elf_linking.proofs.Scans.{Scanned, scanned_end, scanned_on}
use Rattle.elf_linking.proofs.Words.{chain_before}
use Rattle.elf_linking.proofs.gnu_hash.GnuHashTable.runs_end.Goals as goal
use Rattle.elf_linking.proofs.gnu_hash.GnuHashTable.runs_end.Goals.{then-word-eq1, else-word-eq1}

pub loop-index-preserved : goal.loop-index-preserved
loop-index-preserved g c =
    let table = c.args.self.now in
    let items = (table_symbols c.args.symbols.now).items in
    let word : HasChain table c.loop-index.index = c.in-Ok.ensures.readable.0 refl in
    let there : IsThere table items c.loop-index.index = record { symbol = omega arith; word = word } in
    let same : c.in-Ok.word ≡ chain_word table c.loop-index.index = c.in-Ok.ensures.value in
    elim c.if-word-eq1.branch [
      | then-word-eq1 w ↦ subst (λ e. Scanned table items e (c.loop-index.index + 1)) (sym w.end-is) (scanned_end table items c.loop-index.end c.loop-index.index c.loop-index.invariant there (subst (λ x. x % 2 ≡ 1) same w.if-word-eq1.true))
      | else-word-eq1 w ↦ subst (λ e. Scanned table items e (c.loop-index.index + 1)) (sym w.end-is) (scanned_on table items c.loop-index.end c.loop-index.index c.loop-index.invariant there (λ ends. w.if-word-eq1.false (subst (λ x. x % 2 ≡ 1) (sym same) ends)))
    ]

pub returns-in-Err-clause-last : goal.returns-in-Err-clause-last
returns-in-Err-clause-last g c = λ i begins above there ends.
    let table = c.args.self.now in
    let go : (i < c.loop-index.index) ⊎ (c.loop-index.index ≤ i) → ⊥ =
    λ either. elim either [
      | inl before ↦ c.loop-index.invariant.last i begins above before ends
      | inr behind ↦ (let yes = c.in-Err.ensures.readable.1 (chain_before table c.loop-index.index i (omega arith) behind there.word) in cc)
    ] in
    go (cases_lt i c.loop-index.index)
