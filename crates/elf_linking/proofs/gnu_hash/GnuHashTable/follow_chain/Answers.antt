use Rattle.std.proofs.Common.{◌≡◌, ◌≤◌, ◌<◌, ◌%◌, ◌/◌, Err, refl, sym, ◌∙◌, subst, arith}
use Rattle.elf_linking.specs.GnuHash.{HasChain, IsThere, chain_of, chain_word, ended, first_symbol_of, found, failed, symbol_end}
use Rattle.xmas_elf.specs.SymbolTable.{table_symbols}
use Rattle.elf_linking.proofs.Runs.{looks_past, missed_next, run_next}
use Rattle.elf_linking.proofs.Words.{chain_failed}
use Rattle.elf_linking.proofs.gnu_hash.GnuHashTable.follow_chain.Goals as goal
use Rattle.elf_linking.proofs.gnu_hash.GnuHashTable.follow_chain.Goals.{then-word-hash+in_default, else-word-hash}

pub returns-in-Err-clause-answer : goal.returns-in-Err-clause-answer
returns-in-Err-clause-answer g c = λ d.
    let items = (table_symbols c.args.symbols.now).items in
    let ordered : c.args.from ≤ c.loop-index.index = c.loop-index.invariant.run.ordered in
    let begins : first_symbol_of c.args.self.now ≤ c.args.from = c.requires.begins in
    let below : c.loop-index.index < symbol_end items = omega arith in
    let fails : chain_of c.args.self.now c.loop-index.index ≡ Err c.in-Err.error = sym c.get_chain.ensures.exact ∙ c.in-Err.is in
    record {
      last = c.loop-index.index;
      here = 0;
      run = c.loop-index.invariant.run;
      missed = c.loop-index.invariant.missed d;
      stop = failed c.in-Err.error (chain_failed c.args.self.now items c.loop-index.index c.in-Err.error below (omega arith) fails);
      counted = omega arith;
    }

pub returns-in-Some-clause-answer : goal.returns-in-Some-clause-answer
returns-in-Some-clause-answer g c = λ d.
    let items = (table_symbols c.args.symbols.now).items in
    let word : HasChain c.args.self.now c.loop-index.index = c.in-Ok.ensures.readable.0 refl in
    let there : IsThere c.args.self.now items c.loop-index.index = record { symbol = omega arith; word = word } in
    let matched = c.in-Some.ensures.yes c.in-Some.entry refl in
    let agrees : chain_word c.args.self.now c.loop-index.index / 2 ≡ c.args.hash / 2 = subst (λ w. w / 2 ≡ c.args.hash / 2) c.in-Ok.ensures.value c.if-word-hash.true in
    record {
      last = c.loop-index.index;
      here = 1;
      run = c.loop-index.invariant.run;
      missed = c.loop-index.invariant.missed d;
      stop = found c.in-Some.entry (record { there = there; symbol = matched.0; agrees = agrees; holds = matched.1 });
      counted = omega arith;
    }

pub returns-then-word-eq1-clause-answer : goal.returns-then-word-eq1-clause-answer
returns-then-word-eq1-clause-answer g c = λ d.
    let items = (table_symbols c.args.symbols.now).items in
    let word : HasChain c.args.self.now c.loop-index.index = c.in-Ok.ensures.readable.0 refl in
    let there : IsThere c.args.self.now items c.loop-index.index = record { symbol = omega arith; word = word } in
    let same : c.in-Ok.word ≡ chain_word c.args.self.now c.loop-index.index = c.in-Ok.ensures.value in
    let ends : chain_word c.args.self.now c.loop-index.index % 2 ≡ 1 = subst (λ w. w % 2 ≡ 1) same c.if-word-eq1.true in
    record {
      last = c.loop-index.index;
      here = 1;
      run = c.loop-index.invariant.run;
      missed = c.loop-index.invariant.missed d;
      stop = ended there ends (λ e hit. elim c.if-word-hash.branch [
        | then-word-hash+in_default w ↦ w.symbol_at.ensures.no d w.in_default.is e hit.symbol hit.holds
        | else-word-hash w ↦ w.if-word-hash.false (subst (λ x. x / 2 ≡ c.args.hash / 2) (sym same) hit.agrees)
      ]);
      counted = omega arith;
    }

pub loop-index-preserved : goal.loop-index-preserved
loop-index-preserved g c =
    let items = (table_symbols c.args.symbols.now).items in
    let word : HasChain c.args.self.now c.loop-index.index = c.in-Ok.ensures.readable.0 refl in
    let there : IsThere c.args.self.now items c.loop-index.index = record { symbol = omega arith; word = word } in
    let same : c.in-Ok.word ≡ chain_word c.args.self.now c.loop-index.index = c.in-Ok.ensures.value in
    record {
      run = run_next c.args.self.now items c.args.from c.loop-index.index c.loop-index.invariant.run there (λ ends. c.if-word-eq1.false (subst (λ w. w % 2 ≡ 1) (sym same) ends));
      missed = λ d. missed_next c.args.self.now items _ c.args.hash c.args.from c.loop-index.index (c.loop-index.invariant.missed d) (λ e hit. elim c.if-word-hash.branch [
        | then-word-hash+in_default w ↦ w.symbol_at.ensures.no d w.in_default.is e hit.symbol hit.holds
        | else-word-hash w ↦ w.if-word-hash.false (subst (λ x. x / 2 ≡ c.args.hash / 2) (sym same) hit.agrees)
      ]);
    }

pub returns-clause-answer : goal.returns-clause-answer
returns-clause-answer g c = λ d.
    looks_past _ _ _ _ _ _ _ c.loop-index.invariant.run (c.loop-index.invariant.missed d) (omega arith) (λ h. omega arith) (omega arith)
