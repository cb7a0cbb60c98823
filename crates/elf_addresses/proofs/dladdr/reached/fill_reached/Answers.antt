use Rattle.std.proofs.Common.{◌≡◌, ◌<◌, ◌+◌, true, false, length, set, arith, sym, subst, ◌∙◌}
use Rattle.std.proofs.lemmas.Bool.{false≢true}
use Rattle.std.proofs.lemmas.Grind.{common_steps}
use Rattle.elf_addresses.proofs.Reached.{Passed, passed_all, passed_end, passed_none, passed_on}
use Rattle.elf_addresses.proofs.dladdr.reached.fill_reached.Goals as goal
use Rattle.elf_addresses.proofs.dladdr.reached.fill_reached.Goals.{then-not-goes_on, else-not-goes_on}

pub loop-index-init : goal.loop-index-init
loop-index-init c = passed_none c.args.table.now _ c.fill_starts.ensures.starts

pub loop-index-preserved : goal.loop-index-preserved
loop-index-preserved c =
    let table = c.args.table.now in
    let words = c.loop-index.words in
    let index = c.loop-index.index in
    let word = c.earlier-first.result in
    let within : index < length words = first_of (omega arith, grind (arith, common_steps)) in
    elim c.if-not-goes_on.branch [
      | then-not-goes_on w ↦
          let ends : c.goes_on.result ≡ false = first_of (cc, grind (arith, common_steps)) in
          subst (λ n. Passed table (set words index word) (index + 1) n) (sym w.first-is)
          (passed_end table words index c.loop-index.first word within c.loop-index.invariant c.earlier-first.ensures (λ on. false≢true (sym ends ∙ c.goes_on.ensures.1 on)))
      | else-not-goes_on w ↦
          let on : c.goes_on.result ≡ true = first_of (cc, grind (arith, common_steps)) in
          subst (λ n. Passed table (set words index word) (index + 1) n) (sym w.first-is)
          (passed_on table words index c.loop-index.first word within c.loop-index.invariant c.earlier-first.ensures (c.goes_on.ensures.0 on))
    ]

pub returns-clause-reached : goal.returns-clause-reached
returns-clause-reached c = passed_all c.args.table.now c.loop-index.words c.loop-index.index c.loop-index.first (first_of (omega arith, grind (arith, common_steps))) c.loop-index.invariant
