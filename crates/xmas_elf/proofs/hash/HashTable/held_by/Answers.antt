use Rattle.std.proofs.Common.{arith, ◌≡◌, Ok, sym, ◌∙◌, subst}
use Rattle.xmas_elf.specs.HashTable.{Comes, bucket_of, chains_of, starts}
use Rattle.xmas_elf.specs.SymbolTable.{table_symbols}
use Rattle.xmas_elf.proofs.ChainChecks.{bad_at_fault}
use Rattle.xmas_elf.proofs.ChainCounts.{belongs_by, picked_held}
use Rattle.xmas_elf.proofs.ChainPaths.{comes_next, picked_first, picked_next}
use Rattle.xmas_elf.proofs.hash.HashTable.held_by.Goals as goal

pub returns-in-Err : goal.returns-in-Err
returns-in-Err g c = bad_at_fault c.args.self.now _ c.args.bucket c.in-Err.error (sym c.get_bucket.ensures.exact ∙ c.in-Err.is)

pub returns-in-Err-step : goal.returns-in-Err-step
returns-in-Err-step g c =
    let at : bucket_of c.args.self.now c.args.bucket ≡ Ok c.in-Ok.first = cc in
    rw at (c.in-Err-step.ensures c.in-Ok.first c.loop-index.invariant.comes)

pub loop-index-init : goal.loop-index-init
loop-index-init g c = record { few = omega arith; comes = starts; picked = picked_first _ _ _ }

pub loop-index-preserved : goal.loop-index-preserved
loop-index-preserved g c =
    let all = table_symbols c.args.symbols.now in
    let (stands, next, within, fits) = c.in-Ok-step.ensures in
    let belongs = belongs_by c.args.self.now all c.args.bucket c.loop-index.index c.in-Ok-step.both.0 c.belongs.result stands.symbol (omega arith) c.belongs.ensures in
    record {
      few = grind arith;
      comes = comes_next _ c.in-Ok.first c.loop-index.count _ _ c.loop-index.invariant.comes (record { entry = c.in-Ok-step.both.0; stands = stands; next = next });
      picked = picked_next _ _ c.in-Ok.first c.loop-index.count c.loop-index.index c.loop-index.held _ c.belongs.result c.from-held.ensures belongs c.loop-index.invariant.comes c.loop-index.invariant.picked;
    }

pub returns : goal.returns
returns g c =
    let all = table_symbols c.args.symbols.now in
    let at : bucket_of c.args.self.now c.args.bucket ≡ Ok c.in-Ok.first = cc in
    let comes = c.loop-index.invariant.comes in (
      (c.in-Ok.first, at, subst (λ i. Comes (chains_of c.args.self.now (table_symbols c.args.symbols.now).items) c.in-Ok.first c.loop-index.count i) c.loop-index-test.false comes),
      picked_held c.args.self.now all c.args.bucket c.in-Ok.first c.loop-index.count c.loop-index.index c.loop-index.held at c.loop-index-test.false comes c.loop-index.invariant.picked,
    )
