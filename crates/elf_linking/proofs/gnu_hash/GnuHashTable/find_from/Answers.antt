use Rattle.std.proofs.Common.{◌≡◌, ◌≤◌, ◌<◌, ◌%◌, ◌/◌, None, Some, Ok, Err, inl, inr, refl, sym, ◌∙◌, subst, arith}
use Rattle.elf_linking.specs.Find.{IsFound, dynamic_symbols, faulty}
use Rattle.elf_linking.specs.GnuHash.{EndsRun, HasChain, IsThere, Run, chain_of, chain_word, no_run, no_symbol, gnu_start_of, symbol_end, too_early}
use Rattle.elf_linking.specs.Kept.{GoesOn}
use Rattle.elf_linking.specs.Layouts.{gnu_hash_number}
use Rattle.elf_linking.specs.Versions.{version_list}
use Rattle.elf_linking.specs.declared.any_table.AnyTable.TheVariants.{Gnu}
use Rattle.elf_linking.specs.declared.error.LinkError.TheVariants.{ChainIndex, SymbolIndex}
use Rattle.elf_linking.specs.declared.find.kept.Kept.TheVariants.{Nothing}
use Rattle.xmas_elf.specs.SymbolTable.{table_symbols}
use Rattle.elf_linking.proofs.GnuFinds.{MissedUpTo, found_fault, found_here, found_last, goes_by, missed_none}
use Rattle.elf_linking.proofs.Kept.{Comes, comes_first, found_none}
use Rattle.elf_linking.proofs.Runs.{run_first, run_next}
use Rattle.elf_linking.proofs.Words.{chain_failed}
use Rattle.elf_linking.proofs.gnu_hash.GnuHashTable.find_from.Goals as goal
use Rattle.elf_linking.proofs.gnu_hash.GnuHashTable.find_from.Goals.{then-word-hash+in-On, else-word-hash}

pub returns-then-from-first_symbol : goal.returns-then-from-first_symbol
returns-then-from-first_symbol g c =
    let starts : gnu_start_of c.args.self.now c.args.name.now ≡ Some c.args.from = cc in
    faulty ChainIndex (0, too_early c.args.from starts (omega arith))

pub loop-index-init : goal.loop-index-init
loop-index-init g c =
    let symbols = table_symbols c.args.symbols.now in
    let versions = version_list c.args.versions.now in
    let same : c.args.from ≡ c.from-index.result = omega arith in
    record {
      run = subst (λ i. Run c.args.self.now (table_symbols c.args.symbols.now).items c.args.from i) same (run_first c.args.self.now (table_symbols c.args.symbols.now).items c.args.from);
      comes = subst (λ i. Comes (dynamic_symbols (Gnu c.args.self.now) symbols versions) c.args.name.now c.args.wanted.now c.args.use_ (MissedUpTo c.args.self.now symbols versions c.args.name.now c.args.from i) Nothing) same
          (comes_first _ _ _ _ _ (missed_none c.args.self.now symbols versions c.args.name.now c.args.from));
    }

pub returns-in-Err : goal.returns-in-Err
returns-in-Err g c =
    let items = (table_symbols c.args.symbols.now).items in
    let starts : gnu_start_of c.args.self.now c.args.name.now ≡ Some c.args.from = cc in
    let ordered : c.args.from ≤ c.loop-index.index = c.loop-index.invariant.run.ordered in
    let below : c.loop-index.index < symbol_end items = omega arith in
    let fails : chain_of c.args.self.now c.loop-index.index ≡ Err c.in-Err.error = sym c.get_chain.ensures.exact ∙ c.in-Err.is in
    found_fault _ _ _ _ _ starts (omega arith) _ c.loop-index.invariant.run _ _ _ c.loop-index.invariant.comes c.in-Err.error
    (chain_failed c.args.self.now items c.loop-index.index c.in-Err.error below (omega arith) fails)

pub returns-in-End : goal.returns-in-End
returns-in-End g c =
    let starts : gnu_start_of c.args.self.now c.args.name.now ≡ Some c.args.from = cc in
    let word : HasChain c.args.self.now c.loop-index.index = c.in-Ok.ensures.readable.0 refl in
    let there : IsThere c.args.self.now (table_symbols c.args.symbols.now).items c.loop-index.index = record { symbol = omega arith; word = word } in
    let same : c.in-Ok.word ≡ chain_word c.args.self.now c.loop-index.index = c.in-Ok.ensures.value in
    let hash : c.args.hash ≡ gnu_hash_number c.args.name.now = c.requires.hashed in
    let agrees : chain_word c.args.self.now c.loop-index.index / 2 ≡ gnu_hash_number c.args.name.now / 2 = cc in
    found_here _ _ _ _ _ starts (omega arith) _ c.loop-index.invariant.run _ _ _ c.loop-index.invariant.comes there agrees c.in-End.answer (c.in-End.ensures (Gnu c.args.self.now))

pub returns-then-word-eq1 : goal.returns-then-word-eq1
returns-then-word-eq1 g c =
    let starts : gnu_start_of c.args.self.now c.args.name.now ≡ Some c.args.from = cc in
    let word : HasChain c.args.self.now c.loop-index.index = c.in-Ok.ensures.readable.0 refl in
    let there : IsThere c.args.self.now (table_symbols c.args.symbols.now).items c.loop-index.index = record { symbol = omega arith; word = word } in
    let same : c.in-Ok.word ≡ chain_word c.args.self.now c.loop-index.index = c.in-Ok.ensures.value in
    let hash : c.args.hash ≡ gnu_hash_number c.args.name.now = c.requires.hashed in
    let loop = c.loop-index.invariant in
    let file = dynamic_symbols (Gnu c.args.self.now) (table_symbols c.args.symbols.now) (version_list c.args.versions.now) in
    let behind = goes_by c.args.self.now file.symbols file.versions _ _ starts (omega arith) _ loop.run _ _ _ loop.comes there c.in-Ok.word c.args.hash same hash c.if-word-hash.kept (elim c.if-word-hash.branch [
      | then-word-hash+in-On w ↦ inl (w.if-word-hash.true, subst (GoesOn file c.args.name.now c.args.wanted.now c.args.use_ c.loop-index.kept c.loop-index.index) (sym w.kept-is) (w.in-On.ensures (Gnu c.args.self.now)))
      | else-word-hash w ↦ inr (w.if-word-hash.false, w.kept-is)
    ]) in
    let ends : EndsRun c.args.self.now c.loop-index.index = subst (λ w. w % 2 ≡ 1) same c.if-word-eq1.true in
    subst (λ found. IsFound file c.args.name.now c.args.wanted.now c.args.use_ (Ok found)) (sym c.alone.ensures)
    (found_last _ _ _ _ _ starts (omega arith) _ loop.run _ _ _ there ends behind)

pub loop-index-preserved : goal.loop-index-preserved
loop-index-preserved g c =
    let starts : gnu_start_of c.args.self.now c.args.name.now ≡ Some c.args.from = cc in
    let word : HasChain c.args.self.now c.loop-index.index = c.in-Ok.ensures.readable.0 refl in
    let there : IsThere c.args.self.now (table_symbols c.args.symbols.now).items c.loop-index.index = record { symbol = omega arith; word = word } in
    let same : c.in-Ok.word ≡ chain_word c.args.self.now c.loop-index.index = c.in-Ok.ensures.value in
    let hash : c.args.hash ≡ gnu_hash_number c.args.name.now = c.requires.hashed in
    let loop = c.loop-index.invariant in
    let file = dynamic_symbols (Gnu c.args.self.now) (table_symbols c.args.symbols.now) (version_list c.args.versions.now) in
    let behind = goes_by c.args.self.now file.symbols file.versions _ _ starts (omega arith) _ loop.run _ _ _ loop.comes there c.in-Ok.word c.args.hash same hash c.if-word-hash.kept (elim c.if-word-hash.branch [
      | then-word-hash+in-On w ↦ inl (w.if-word-hash.true, subst (GoesOn file c.args.name.now c.args.wanted.now c.args.use_ c.loop-index.kept c.loop-index.index) (sym w.kept-is) (w.in-On.ensures (Gnu c.args.self.now)))
      | else-word-hash w ↦ inr (w.if-word-hash.false, w.kept-is)
    ]) in
    record {
      run = run_next c.args.self.now (table_symbols c.args.symbols.now).items c.args.from c.loop-index.index loop.run there (λ ends. c.if-word-eq1.false (subst (λ w. w % 2 ≡ 1) (sym same) ends));
      comes = behind;
    }

pub returns : goal.returns
returns g c =
    let starts : gnu_start_of c.args.self.now c.args.name.now ≡ Some c.args.from = cc in
    found_fault _ _ _ _ _ starts (omega arith) _ c.loop-index.invariant.run _ _ _ c.loop-index.invariant.comes SymbolIndex (no_symbol (omega arith))
