use Rattle.std.proofs.Common.{◌≡◌, ◌<◌, ◌≤◌, ◌+◌, ◌^◌, [], ◌∷◌, ◌++◌, map, refl, sym, ap, subst, ◌∙◌, arith}
use Rattle.std.specs.Iterator.{IsFinite, Yields, size}
use Rattle.elf_c.specs.Pieces.{IsRows, put_from}
use Rattle.elf_c.proofs.ListedPieces.{nearer_end, one_longer, rows_more, rows_none}
use Rattle.elf_c.proofs.pieces.store.Goals as goal

pub loop-piece-init : goal.loop-piece-init
loop-piece-init g c =
    let same : c.into_iter-piece-iterator.result ≡ c.args.pieces = c.into_iter-piece-iterator.ensures.into_iter_gives in (
      subst (λ it. g.I.Iterator.can_next it) (sym same) c.requires.can,
      subst (λ it. IsFinite (g.I.Iterator.remaining it)) (sym same) c.requires.finite,
      omega arith,
      refl,
      rows_none _ _,
    )

pub overflow_add-count : goal.overflow_add-count
overflow_add-count g c =
    let same : c.into_iter-piece-iterator.result ≡ c.args.pieces = c.into_iter-piece-iterator.ensures.into_iter_gives in
    let few : size (g.I.Iterator.remaining c.into_iter-piece-iterator.result) < 2 ^ 64 = subst (λ it. size (g.I.Iterator.remaining it) < 2 ^ 64) (sym same) c.requires.few in
    let on = nearer_end g.I.Iterator.can_next g.I.Iterator.remaining c.loop-piece.piece-iterator c.next.new.self c.next.result c.in-Some.piece c.in-Some.is c.next.ensures.goes c.loop-piece.invariant.1 in
    let nearer : size (g.I.Iterator.remaining c.next.new.self) < size (g.I.Iterator.remaining c.loop-piece.piece-iterator) = on.2 in
    let bound : c.loop-piece.count + size (g.I.Iterator.remaining c.loop-piece.piece-iterator) ≤ size (g.I.Iterator.remaining c.into_iter-piece-iterator.result) = c.loop-piece.invariant.2 in
    omega (arith, nearer, bound, few)

pub loop-piece-preserved : goal.loop-piece-preserved
loop-piece-preserved g c =
    let before = c.loop-piece.invariant in
    let on = nearer_end g.I.Iterator.can_next g.I.Iterator.remaining c.loop-piece.piece-iterator c.next.new.self c.next.result c.in-Some.piece c.in-Some.is c.next.ensures.goes before.1 in
    let nearer : size (g.I.Iterator.remaining c.next.new.self) < size (g.I.Iterator.remaining c.loop-piece.piece-iterator) = on.2 in
    let bound : c.loop-piece.count + size (g.I.Iterator.remaining c.loop-piece.piece-iterator) ≤ size (g.I.Iterator.remaining c.into_iter-piece-iterator.result) = before.2 in
    let piece = c.in-Some.piece in
    let numbers = g.I.Item.Stored.numbers_of in
    let put : c.put.new.out ≡ put_from c.args.first c.loop-piece.count (numbers piece) c.loop-piece.out = c.put.ensures ∙ ap (λ p. put_from c.args.first c.loop-piece.count p c.loop-piece.out) c.numbers.ensures in (
      on.0,
      on.1,
      omega (arith, nearer, bound),
      one_longer c.loop-piece.yielded piece c.loop-piece.count before.3,
      subst (λ out. IsRows (map numbers (c.loop-piece.yielded ++ piece ∷ [])) c.args.first c.args.out.now out) (sym put)
          (rows_more numbers c.loop-piece.yielded c.args.first c.loop-piece.count c.args.out.now c.loop-piece.out piece before.3 before.4),
    )

pub returns : goal.returns
returns g c =
    let same : c.into_iter-piece-iterator.result ≡ c.args.pieces = c.into_iter-piece-iterator.ensures.into_iter_gives in (
      c.loop-piece.yielded,
      (
        c.next.new.self,
        (
          c.loop-piece.piece-iterator,
          subst (λ it. Yields g.I.Iterator.next_gives it c.loop-piece.yielded c.loop-piece.piece-iterator) same c.loop-piece.yielded_by,
          subst (λ r. g.I.Iterator.next_gives c.loop-piece.piece-iterator r c.next.new.self) c.in-None.is c.next.ensures.steps,
        ),
      ),
      c.loop-piece.invariant.4,
      c.loop-piece.invariant.3,
    )
