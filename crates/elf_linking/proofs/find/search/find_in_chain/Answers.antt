use Rattle.std.proofs.Common.{◌≡◌, ◌%◌, Some, Ok, Err, sym, subst, ◌∙◌, arith}
use Rattle.elf_records.specs.HashNumber.{hash_number}
use Rattle.elf_linking.specs.Find.{IsAsked, IsFound, dynamic_symbols, faulty}
use Rattle.elf_linking.specs.Versions.{version_list}
use Rattle.elf_linking.specs.declared.any_table.AnyTable.TheVariants.{Sysv}
use Rattle.elf_linking.specs.declared.error.LinkError.TheVariants.{Elf}
use Rattle.xmas_elf.specs.HashTable.{bucket_count_of, bucket_of, chain_of, chains_of, start_of, starts}
use Rattle.xmas_elf.specs.SymbolTable.{table_symbols}
use Rattle.elf_linking.proofs.SysvFinds.{found_break, found_halt, found_here, found_last, goes_behind, missed_none, seeks_bad_bucket, seeks_no_bucket}
use Rattle.elf_linking.proofs.Kept.{comes_first, found_none}
use Rattle.xmas_elf.proofs.ChainPaths.{comes_next}
use Rattle.xmas_elf.proofs.ChainStarts.{start_none, start_some}
use Rattle.elf_linking.proofs.find.search.find_in_chain.Goals as goal

pub returns-then-bucket_count-eq0 : goal.returns-then-bucket_count-eq0
returns-then-bucket_count-eq0 g c =
    let none : bucket_count_of c.args.table.now ≡ 0 = cc in
    found_none _ _ _ _ (seeks_no_bucket c.args.table.now (table_symbols c.args.symbols.now) (version_list c.args.versions.now) c.args.name.now (start_none c.args.table.now c.args.name.now none))

pub returns-in-Err : goal.returns-in-Err
returns-in-Err g c =
    let symbols = table_symbols c.args.symbols.now in
    let versions = version_list c.args.versions.now in
    let some : bucket_count_of c.args.table.now ≡ 0 → ⊥ = λ none. c.if-bucket_count-eq0.false (cc) in
    let start : start_of c.args.table.now c.args.name.now ≡ Some (bucket_of c.args.table.now (hash_number c.args.name.now % bucket_count_of c.args.table.now)) = start_some c.args.table.now c.args.name.now some in
    let hash : c.hash_of_bytes.result ≡ hash_number c.args.name.now = c.hash_of_bytes.ensures.number in
    let exact = c.get_bucket.ensures.exact in
    let failed : start_of c.args.table.now c.args.name.now ≡ Some (Err c.in-Err.error) = cc in
    faulty (Elf c.in-Err.error) (seeks_bad_bucket c.args.table.now symbols versions c.args.name.now c.in-Err.error failed
    (IsAsked (dynamic_symbols (Sysv c.args.table.now) symbols versions) c.args.name.now c.args.wanted.now c.args.use_))

pub loop-index-init : goal.loop-index-init
loop-index-init g c =
    let some : bucket_count_of c.args.table.now ≡ 0 → ⊥ = λ none. c.if-bucket_count-eq0.false (cc) in
    let start : start_of c.args.table.now c.args.name.now ≡ Some (bucket_of c.args.table.now (hash_number c.args.name.now % bucket_count_of c.args.table.now)) = start_some c.args.table.now c.args.name.now some in
    let hash : c.hash_of_bytes.result ≡ hash_number c.args.name.now = c.hash_of_bytes.ensures.number in
    let exact = c.get_bucket.ensures.exact in
    record {
      in_chains = omega arith;
      starts = cc;
      steps = starts;
      comes = comes_first _ _ _ _ _ (missed_none c.args.table.now (table_symbols c.args.symbols.now) (version_list c.args.versions.now) c.args.name.now c.in-Ok.first);
    }

pub returns-in-Err-check_place : goal.returns-in-Err-check_place
returns-in-Err-check_place g c =
    let loop = c.loop-index.invariant in
    found_halt _ _ _ _ _ loop.starts _ _ loop.steps _ _ _ loop.comes c.in-Err-check_place.halt (omega arith) c.in-Err-check_place.ensures

pub returns-in-End : goal.returns-in-End
returns-in-End g c =
    let loop = c.loop-index.invariant in
    let (d, stands) = c.in-Ok-check_place.ensures.0 in
    found_here _ _ _ _ _ loop.starts _ _ loop.steps _ _ _ loop.comes d stands c.in-End.answer (c.in-End.ensures (Sysv c.args.table.now))

pub returns-in-Err-get_chain : goal.returns-in-Err-get_chain
returns-in-Err-get_chain g c =
    let loop = c.loop-index.invariant in
    let (d, stands) = c.in-Ok-check_place.ensures.0 in
    let fails : chain_of c.args.table.now c.loop-index.index ≡ Err c.in-Err-get_chain.error = sym c.get_chain.ensures.exact ∙ c.in-Err-get_chain.is in
    found_break _ _ _ _ _ loop.starts _ _ loop.steps _ _ c.in-On.kept d stands c.in-Err-get_chain.error fails
    (goes_behind _ _ _ _ _ loop.starts _ _ loop.steps _ _ _ loop.comes d stands c.in-On.kept (c.in-On.ensures (Sysv c.args.table.now)))

pub loop-index-preserved : goal.loop-index-preserved
loop-index-preserved g c =
    let loop = c.loop-index.invariant in
    let (d, stands) = c.in-Ok-check_place.ensures.0 in
    let in_count = c.in-Ok-check_place.ensures.1 in
    let next : chain_of c.args.table.now c.loop-index.index ≡ Ok c.in-Ok-get_chain.next = sym c.get_chain.ensures.exact ∙ c.in-Ok-get_chain.is in
    record {
      in_chains = omega arith;
      starts = loop.starts;
      steps = comes_next (chains_of c.args.table.now (table_symbols c.args.symbols.now).items) _ _ _ _ loop.steps (record { entry = d; stands = stands; next = next });
      comes = goes_behind _ _ _ _ _ loop.starts _ _ loop.steps _ _ _ loop.comes d stands c.in-On.kept (c.in-On.ensures (Sysv c.args.table.now));
    }

pub returns : goal.returns
returns g c =
    let loop = c.loop-index.invariant in
    let file = dynamic_symbols (Sysv c.args.table.now) (table_symbols c.args.symbols.now) (version_list c.args.versions.now) in
    subst (λ found. IsFound file c.args.name.now c.args.wanted.now c.args.use_ (Ok found)) (sym c.alone.ensures)
    (found_last _ _ _ _ _ loop.starts _ _ loop.steps _ _ _ loop.comes c.loop-index-test.false)
