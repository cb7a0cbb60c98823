use Rattle.std.proofs.Common.{◌≡◌, true, false, arith, refl, rules, subst, sym, ◌∙◌}
use Rattle.std.specs.Fn.{FnReturnsAt}
use Rattle.xmas_elf.specs.HashTable.{breaks, ends, halts, stops}
use Rattle.xmas_elf.proofs.ChainPaths.{followed_first, followed_next}
use Rattle.xmas_elf.proofs.hash.HashTable.follow_chain.Goals as goal

pub loop-index-init : goal.loop-index-init
loop-index-init g c = record { in_chains = omega arith; in_symbols = omega arith; followed_chain = followed_first _ _ _ }

pub returns-in-Err-clause-answer : goal.returns-in-Err-clause-answer
returns-in-Err-clause-answer g c = halts _ _ _ c.loop-index.invariant.followed_chain (omega arith) c.in-Err.ensures

pub stops-requires : goal.stops-requires
stops-requires g c = let (stands, in_chains, in_symbols, fits, small) = c.in-Ok.ensures in c.requires _ small stands.symbol

-- the result of the test for the symbol
pub returns-then-stops-clause-answer : goal.returns-then-stops-clause-answer
returns-then-stops-clause-answer g c =
    let called : FnReturnsAt g.F.Fn c.args.stops (c.loop-index.index, c.in-Ok.entry) c.stops.result = record { shown = _; shows = refl; says = record { met = c.stops.ensures } } in
    let is : c.stops.result ≡ true = search rules in
    stops _ _ _ c.loop-index.invariant.followed_chain c.in-Ok.ensures.0 (subst (λ b. FnReturnsAt g.F.Fn c.args.stops (c.loop-index.index, c.in-Ok.entry) b) is called)

pub returns-in-Err-get_chain-clause-answer : goal.returns-in-Err-get_chain-clause-answer
returns-in-Err-get_chain-clause-answer g c =
    let called : FnReturnsAt g.F.Fn c.args.stops (c.loop-index.index, c.in-Ok.entry) c.stops.result = record { shown = _; shows = refl; says = record { met = c.stops.ensures } } in
    let is : c.stops.result ≡ false = search rules in
    breaks _ _ _ _ c.loop-index.invariant.followed_chain c.in-Ok.ensures.0 (c.in-Ok.ensures.4, subst (λ b. FnReturnsAt g.F.Fn c.args.stops (c.loop-index.index, c.in-Ok.entry) b) is called) (sym c.get_chain.ensures.exact ∙ c.in-Err-get_chain.is)

pub loop-index-preserved : goal.loop-index-preserved
loop-index-preserved g c =
    let (stands, in_chains, in_symbols, fits, small) = c.in-Ok.ensures in
    let called : FnReturnsAt g.F.Fn c.args.stops (c.loop-index.index, c.in-Ok.entry) c.stops.result = record { shown = _; shows = refl; says = record { met = c.stops.ensures } } in
    let is : c.stops.result ≡ false = search rules in
    record {
      in_chains = omega arith;
      in_symbols = omega arith;
      followed_chain = followed_next _ _ _ _ _ _ c.loop-index.invariant.followed_chain
          (record { entry = c.in-Ok.entry; stands = stands; next = sym c.get_chain.ensures.exact ∙ c.in-Ok-get_chain.is })
          (small, subst (λ b. FnReturnsAt g.F.Fn c.args.stops (c.loop-index.index, c.in-Ok.entry) b) is called);
    }

pub returns-clause-answer : goal.returns-clause-answer
returns-clause-answer g c =
    let followed_chain = c.loop-index.invariant.followed_chain in
    ends _ (rw (← c.loop-index-test.false) followed_chain)
