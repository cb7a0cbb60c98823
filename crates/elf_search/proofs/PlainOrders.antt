-- Lemmas on the state of a plain list.
use Rattle.std.proofs.Common.{◌≡◌, ◌⊎◌, ℕ, ◌+◌, ◌-◌, ◌<◌, ◌≤◌, Bool, true, false, List, [], length, take, drop, length-take, sym, ◌∙◌, ap, arith}
use Rattle.std.specs.Prelude.{max, min, nat_lt, if◌then◌else◌}
use Rattle.std.proofs.Math.ListN.{set}
use Rattle.elf_search.specs.LoadOrder.{end_of, start_of}
use Rattle.elf_search.specs.Order.{IsPlainOrder, KeepsLists, KeepsOthers, KeepsPlace, KeepsState, edges_of}
use Rattle.elf_search.specs.declared.order.Order.{Order}
use Rattle.elf_search.proofs.LoadOrders.{plain_add, plain_answer, plain_next}

-- the next object is gone to
pub plain_goes : (one two three : Order) (object : ℕ) → IsPlainOrder one → one.end ≤ one.place → one.place ≤ one.end → one.gone < one.count
    → (one.plain ≡ true → object ≡ min (one.current + 1) (one.count - 1)) → KeepsState one two → three.current ≡ object
    → three.start ≡ min (start_of two.objects.now object) two.used → three.place ≡ three.start
    → three.end ≡ max (min (end_of two.objects.now two.count two.used object) two.used) three.start → three.gone ≡ two.gone + 1 → KeepsLists two three
    → IsPlainOrder three × (three.place ≡ one.place)
plain_goes one two three object plain ended within more says ks here s p e g kl =
    let h = plain.plain in
    let gone = plain.gone in
    let o2 : two.objects.now ≡ one.objects.now = ks.lists.objects h in
    let u2 : two.used ≡ one.used = ks.lists.used in
    let c2 : two.count ≡ one.count = ks.lists.count in
    let h2 : two.plain ≡ true = ks.lists.plain ∙ h in
    let o3 : three.objects.now ≡ one.objects.now = kl.objects h2 ∙ o2 in
    let c3 : three.count ≡ one.count = kl.count ∙ c2 in
    let u3 : three.used ≡ one.used = kl.used ∙ u2 in
    let e3 : three.edges.now ≡ one.edges.now = kl.edges ∙ ks.lists.edges in
    let g2 : two.gone ≡ one.gone = ks.gone in
    let next : object ≡ min (one.current + 1) (one.count - 1) = says h in
    let k : object ≡ one.current + 1 = omega arith in
    let k3 : three.current ≡ one.current + 1 = here ∙ k in
    let s3 : three.start ≡ min (start_of one.objects.now (one.current + 1)) one.used = rw (k, o2, u2) at s in
    let e4 : three.end ≡ max (min (end_of one.objects.now one.count one.used (one.current + 1)) one.used) three.start = rw (k, o2, c2, u2) at e in
    let words = plain_next one.objects.now one.edges.now one.count one.used one.current one.start one.place one.end three.start three.end (omega arith) ended within s3 e4 plain.words in (
      record {
        plain = kl.plain ∙ h2;
        gone = omega arith;
        words = rw (o3, e3, c3, u3, k3, p) words.0;
      },
      p ∙ words.1,
    )

-- an entry is answered
pub plain_records : (one two : Order) (number : ℕ) → one.place < one.end → (number ≡ 4294967295) ⊎ (number < one.count)
    → two.edges.now ≡ set one.edges.now one.place number → two.place ≡ one.place + 1 → KeepsOthers one two → IsPlainOrder one → IsPlainOrder two
plain_records one two number h v e p same plain =
    let room = one.edge_room in
    let within = one.end_in in
    let words = plain_answer one.objects.now one.edges.now one.count one.used one.current one.start one.place one.end number (omega arith) v plain.words in
    record {
      plain = same.plain ∙ plain.plain;
      gone = same.gone ∙ plain.gone ∙ ap (λ k. k + 1) (sym same.current);
      words = rw (same.objects, e, same.count, same.used, same.current, same.start, p, same.end) words;
    }

-- a new object is put at the end of the list, and the entry is answered
pub plain_adds : (one two three : Order) (used : ℕ) → one.place < one.end → one.count < 4294967295 → one.used ≤ used
    → ((k : ℕ) → k < one.count → start_of two.objects.now k ≡ start_of one.objects.now k) → start_of two.objects.now one.count ≡ one.used
    → two.count ≡ one.count + 1 → two.used ≡ used → KeepsPlace one two
    → three.edges.now ≡ set two.edges.now two.place one.count → three.place ≡ two.place + 1 → KeepsOthers two three → IsPlainOrder one → IsPlainOrder three
plain_adds one two three used h few more old new c u kp e p same plain =
    let room = one.edge_room in
    let within = one.end_in in
    let inside = one.current_in in
    let words = plain_add one.objects.now two.objects.now one.edges.now one.count one.used used one.current one.start one.place one.end (omega arith) few inside more old new plain.words in
    record {
      plain = same.plain ∙ kp.plain ∙ plain.plain;
      gone = same.gone ∙ kp.gone ∙ plain.gone ∙ ap (λ k. k + 1) (sym (same.current ∙ kp.current));
      words = rw (same.objects, e, kp.edges, same.count ∙ c, same.used ∙ u, same.current ∙ kp.current, same.start ∙ kp.start, p, kp.place, same.end ∙ kp.end) words;
    }

-- what is kept over a step
pub keeps_on : (one two three four : Order) → KeepsLists one two → KeepsState two three → KeepsLists three four → KeepsLists one four
keeps_on one two three four a b c = record {
  edges = c.edges ∙ b.lists.edges ∙ a.edges;
  count = c.count ∙ b.lists.count ∙ a.count;
  used = c.used ∙ b.lists.used ∙ a.used;
  plain = c.plain ∙ b.lists.plain ∙ a.plain;
  objects = λ h. c.objects (b.lists.plain ∙ a.plain ∙ h) ∙ b.lists.objects (a.plain ∙ h) ∙ a.objects h;
}

edges_few_by : (inside : Bool) (n used : ℕ) (xs : List ℕ) → n ≤ used → length (if inside then take n xs else []) ≤ used
edges_few_by true n used xs h = rw (length-take n xs) (omega arith)
edges_few_by false n used xs h = omega arith

-- an object has no more edges than there are words of entries
pub edges_few : (order : Order) (k : ℕ) → length (edges_of order k) ≤ order.used
edges_few order k =
    let end = min (end_of order.objects.now order.count order.used k) order.used in
    let start = min (start_of order.objects.now k) end in
    edges_few_by (nat_lt k order.count) (end - start) order.used (drop start order.edges.now) (omega arith)
