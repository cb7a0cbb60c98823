use Rattle.std.proofs.Common.{◌∙◌, arith}
use Rattle.elf_search.proofs.PlainOrders.{keeps_on, plain_goes}
use Rattle.elf_search.proofs.order.Order.next.Goals as goal

pub objects-preserved : goal.objects-preserved
objects-preserved c = (
  λ plain.
      let known = c.objects.invariant.0 plain in
      let goes = plain_goes c.objects.self c.following_object-object.new.self c.go_to.new.self c.following_object-object.result known.0 (omega arith) c.objects.self.place_in (omega arith)
      c.following_object-object.ensures.plain c.following_object-object.ensures.same c.go_to.ensures.moved c.go_to.ensures.start c.go_to.ensures.place c.go_to.ensures.end c.go_to.ensures.gone c.go_to.ensures.lists in
      (goes.0, goes.1 ∙ known.1),
  keeps_on _ _ _ _ c.objects.invariant.1 c.following_object-object.ensures.same c.go_to.ensures.lists,
)
