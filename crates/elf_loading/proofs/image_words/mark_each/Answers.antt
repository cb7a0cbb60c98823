use Rattle.std.proofs.Common.{◌≡◌, ◌==◌, ◌+◌, ◌||◌, refl, sym, ap, ◌∙◌, arith}
use Rattle.elf_loading.specs.ImageWords.{is_marked, some_marked}
use Rattle.elf_loading.proofs.Marks.{many_more, next_as_before, none_between, some_more}
use Rattle.elf_loading.proofs.image_words.mark_each.Goals as goal

pub loop-place-init : goal.loop-place-init
loop-place-init c = record { len = refl; was = refl; set = λ i. none_between c.args.start i (is_marked c.args.marks.now i) }

pub loop-place-preserved : goal.loop-place-preserved
loop-place-preserved c =
    let so_far = c.loop-place.invariant in
    let start = c.args.start in
    let place = c.loop-place.place in
    let old = c.args.marks.now in
    let marks = c.loop-place.marks in
    let index : c.from.result + c.from-in-loop-place.result ≡ start + place = omega (arith, c.from.ensures, c.from-in-loop-place.ensures) in
    let next = next_as_before start place (is_marked marks (start + place)) (is_marked old (start + place)) (so_far.set (start + place)) in record {
      len = c.mark-was.ensures.len ∙ so_far.len;
      was = ap (λ b. b || c.mark-was.result) so_far.was ∙ ap (λ b. some_marked old start place || b) (c.mark-was.ensures.was ∙ ap (is_marked marks) index ∙ next) ∙ sym (some_more old start place);
      set = λ i. many_more start place i _ (is_marked marks i) (is_marked old i) (c.mark-was.ensures.set i ∙ ap (λ k. i == k || is_marked marks i) index) (so_far.set i);
    }
