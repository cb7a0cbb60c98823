use Rattle.std.proofs.Common.{◌-◌, [], ◌∷◌, inl, inr, take, arith}
use Rattle.elf_search.specs.Order.{before_of, edges_of, last_of}
use Rattle.elf_search.specs.Starts.{Visits, back_from}
use Rattle.elf_search.proofs.Starting.{between_room, list_begins, list_ends, list_goes}
use Rattle.elf_search.proofs.start.visit_list.Goals as goal

pub loop-turn-init : goal.loop-turn-init
loop-turn-init c = (
  0 ∷ [],
  c.requires.program,
  λ m2 w2 v. list_begins (edges_of c.args.order.now) (before_of c.args.order.now) c.args.order.now.count c.args.order.now.count c.last-object.result (last_of c.args.order.now) (0 ∷ []) c.args.written.now m2 w2 c.last-object.ensures v,
)

pub loop-turn-preserved : goal.loop-turn-preserved
loop-turn-preserved c =
    let visited = c.visit_if_new-number.ensures c.loop-turn.invariant.0 c.loop-turn.invariant.1 in (
      visited.0,
      visited.1,
      list_goes (edges_of c.args.order.now) (before_of c.args.order.now) c.args.order.now.count c.loop-turn.turn c.loop-turn.object c.before-object.result c.loop-turn.invariant.0 (take c.loop-turn.number c.loop-turn.written) visited.0 _
          (λ m2 w2. Visits (edges_of c.args.order.now) c.args.order.now.count (back_from (before_of c.args.order.now) c.args.order.now.count c.args.order.now.count (last_of c.args.order.now)) (0 ∷ []) [] m2 w2)
          (omega arith) (omega arith) c.before-object.ensures c.loop-turn.invariant.2 visited.2,
    )

pub returns-clause-starts : goal.returns-clause-starts
returns-clause-starts c = record {
  marked = c.loop-turn.invariant.0;
  visits = c.loop-turn.invariant.2 _ _ (list_ends (edges_of c.args.order.now) (before_of c.args.order.now) c.args.order.now.count (c.args.order.now.count - c.loop-turn.turn) c.loop-turn.object _ _ (inl (omega arith)));
}

pub returns-clause-few : goal.returns-clause-few
returns-clause-few c = between_room _ _ _ _ c.loop-turn.invariant.1

pub returns-then-object-count-clause-starts : goal.returns-then-object-count-clause-starts
returns-then-object-count-clause-starts c = record {
  marked = c.loop-turn.invariant.0;
  visits = c.loop-turn.invariant.2 _ _ (list_ends (edges_of c.args.order.now) (before_of c.args.order.now) c.args.order.now.count (c.args.order.now.count - c.loop-turn.turn) c.loop-turn.object _ _ (inr (omega arith)));
}

pub returns-then-object-count-clause-few : goal.returns-then-object-count-clause-few
returns-then-object-count-clause-few c = between_room _ _ _ _ c.loop-turn.invariant.1
