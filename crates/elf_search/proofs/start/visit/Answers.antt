use Rattle.std.proofs.Common.{◌≡◌, ◌+◌, ◌<◌, ◌≤◌, false, true, length, get_or, ap, sym, ◌∙◌, arith}
use Rattle.std.proofs.lemmas.List.{length-set}
use Rattle.std.proofs.lemmas.Grind.{common_steps}
use Rattle.std.proofs.Math.ListN.{set}
use Rattle.elf_search.specs.Order.{edges_of}
use Rattle.elf_search.proofs.PlainOrders.{edges_few}
use Rattle.elf_search.proofs.Starting.{new_inside, turn_less, turn_pass, visit_begins, visit_ends, visit_passes, visit_pops, visit_pushes, visit_state}
use Rattle.elf_search.proofs.start.visit.Goals as goal

pub visit-init : goal.visit-init
visit-init c =
    visit_state (edges_of c.args.order.now) c.args.order.now.count c.args.root c.args.from c.args.cursors.now c.args.written.now c.args.root c.args.from 0 c.args.parents.now (set c.args.cursors.now c.args.root 0) c.args.written.now
    c.requires.between.0 c.requires.between.1
    (λ m0 state. visit_begins (edges_of c.args.order.now) c.args.order.now.count c.args.root m0 c.args.from c.args.parents.now c.args.cursors.now c.args.written.now c.requires.root (omega (arith, c.requires.cursors, c.requires.root)) c.requires.new state)

pub returns-then-depth-eq0 : goal.returns-then-depth-eq0
returns-then-depth-eq0 c = λ m0 state.
    let eq : c.edges-found.result.now ≡ edges_of c.args.order.now c.visit.top = c.edges-found.ensures.edges in
    let h : length (edges_of c.args.order.now c.visit.top) ≤ get_or c.visit.cursors c.visit.top 0 = omega (arith, ap length eq) in
    visit_ends (edges_of c.args.order.now) c.args.order.now.count c.args.root m0 _ c.visit.top c.visit.number c.visit.depth c.visit.parents c.visit.cursors c.visit.written (omega arith) (omega arith) h (c.visit.invariant.0 m0 state)

pub visit-preserved-then-cursor-found : goal.visit-preserved-then-cursor-found
visit-preserved-then-cursor-found c =
    let eq : c.edges-found.result.now ≡ edges_of c.args.order.now c.visit.top = c.edges-found.ensures.edges in
    let h : length (edges_of c.args.order.now c.visit.top) ≤ get_or c.visit.cursors c.visit.top 0 = omega (arith, ap length eq) in
    visit_state (edges_of c.args.order.now) c.args.order.now.count c.args.root c.args.from c.args.cursors.now c.args.written.now _ _ _ _ _ _ c.requires.between.0 c.requires.between.1
    (λ m0 state. visit_pops (edges_of c.args.order.now) c.args.order.now.count c.args.root m0 _ c.visit.top c.visit.number c.visit.depth c.visit.parents c.visit.cursors c.visit.written (omega arith) (omega arith) h (c.visit.invariant.0 m0 state))

pub visit-smaller-then-cursor-found : goal.visit-smaller-then-cursor-found
visit-smaller-then-cursor-found c =
    turn_less c.args.order.now.used _ _ _ _ (omega arith) (omega (arith, edges_few c.args.order.now (get_or c.visit.parents c.visit.top 0)))

pub visit-preserved-then-not-is_new : goal.visit-preserved-then-not-is_new
visit-preserved-then-not-is_new c =
    let old : c.is_new.result ≡ false = first_of (cc, grind (arith, common_steps)) in
    let eq : c.edges-found.result.now ≡ edges_of c.args.order.now c.visit.top = c.edges-found.ensures.edges in
    let out = rw eq at (sym c.is_new.ensures.value ∙ old) in
    let h : get_or c.visit.cursors c.visit.top 0 < length (edges_of c.args.order.now c.visit.top) = omega (arith, ap length eq) in
    let few : get_or c.visit.cursors c.visit.top 0 + 1 < 4294967295 = omega (arith, edges_few c.args.order.now c.visit.top, c.args.order.now.few_words) in
    visit_state (edges_of c.args.order.now) c.args.order.now.count c.args.root c.args.from c.args.cursors.now c.args.written.now c.visit.top c.visit.number c.visit.depth c.visit.parents (set c.visit.cursors c.visit.top (get_or c.visit.cursors c.visit.top 0 + 1)) c.visit.written c.requires.between.0 c.requires.between.1
    (λ m0 state. visit_passes (edges_of c.args.order.now) c.args.order.now.count c.args.root m0 _ c.visit.top c.visit.number c.visit.depth c.visit.parents c.visit.cursors c.visit.written (omega (arith, length-set c.args.cursors.now c.args.root 0)) h few out (c.visit.invariant.0 m0 state))

pub visit-smaller-then-not-is_new : goal.visit-smaller-then-not-is_new
visit-smaller-then-not-is_new c =
    let eq : c.edges-found.result.now ≡ edges_of c.args.order.now c.visit.top = c.edges-found.ensures.edges in
    let h : get_or c.visit.cursors c.visit.top 0 < length (edges_of c.args.order.now c.visit.top) = omega (arith, ap length eq) in
    turn_pass c.args.order.now.used _ (length (edges_of c.args.order.now c.visit.top)) c.visit.top c.visit.cursors (omega (arith, length-set c.args.cursors.now c.args.root 0)) h

pub visit-smaller : goal.visit-smaller
visit-smaller c =
    turn_less c.args.order.now.used _ _ _ _ (omega arith) (omega (arith, edges_few c.args.order.now (get_or c.edges-found.result.now (get_or c.visit.cursors c.visit.top 0) 0)))

pub visit-preserved : goal.visit-preserved
visit-preserved c =
    let new : c.is_new.result ≡ true = first_of (cc, grind (arith, common_steps)) in
    let eq : c.edges-found.result.now ≡ edges_of c.args.order.now c.visit.top = c.edges-found.ensures.edges in
    let h : get_or c.visit.cursors c.visit.top 0 < length (edges_of c.args.order.now c.visit.top) = omega (arith, ap length eq) in
    let few : get_or c.visit.cursors c.visit.top 0 + 1 < 4294967295 = omega (arith, edges_few c.args.order.now c.visit.top, c.args.order.now.few_words) in
    let inside : get_or c.edges-found.result.now (get_or c.visit.cursors c.visit.top 0) 0 < c.args.order.now.count = new_inside _ _ _ (sym c.is_new.ensures.value ∙ new) in
    visit_state (edges_of c.args.order.now) c.args.order.now.count c.args.root c.args.from c.args.cursors.now c.args.written.now _ _ _ _ _ _ c.requires.between.0 c.requires.between.1
    (λ m0 state. visit_pushes (edges_of c.args.order.now) c.args.order.now.count c.args.root m0 _ c.visit.top c.visit.number c.visit.depth c.visit.parents c.visit.cursors c.visit.written (get_or c.edges-found.result.now (get_or c.visit.cursors c.visit.top 0) 0)
    (omega (arith, length-set c.args.cursors.now c.args.root 0)) (omega (arith, inside, length-set c.args.cursors.now c.args.root 0)) (omega (arith, inside, length-set c.args.cursors.now c.args.root 0)) (ap (λ xs. get_or xs (get_or c.visit.cursors c.visit.top 0) 0) eq) h few (sym c.is_new.ensures.value ∙ new) (c.visit.invariant.0 m0 state))
