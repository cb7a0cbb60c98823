use Rattle.std.proofs.Common.{rules, ◌≡◌, ◌∷◌, ◌++◌, ◌∙◌, refl, sym, ap, subst, arith}
use Rattle.std.specs.Prelude.{Some, false, is_some, length}
use Rattle.elf_linking.specs.DynamicObject.{object_file}
use Rattle.elf_linking.specs.References.{file_machine}
use Rattle.elf_linking.specs.RelocationTypes.{relative_of}
use Rattle.elf_loading.specs.InOrder.{first_left, order_left, records_left}
use Rattle.elf_loading.specs.RelativeWords.{IsWrittenSoFar}
use Rattle.elf_loading.specs.Types.{InOrder, Records}
use Rattle.elf_loading.specs.WordsLeft.{relocations_left}
use Rattle.elf_loading.proofs.InOrders.{after_records, records_first}
use Rattle.elf_loading.proofs.Written.{none_written, record_more, with_others}
use Rattle.elf_loading.proofs.relocate.Sources.write_run.Goals as goal

pub returns-then-is_some-clause-run : goal.returns-then-is_some-clause-run
returns-then-is_some-clause-run g c =
    let words = c.args.words.now in
    none_written g.E.Entry.fields c.args.self.now words.own.now words.lazy (relocations_left words) c.args.image.now _ refl

pub returns-in_default-clause-run : goal.returns-in_default-clause-run
returns-in_default-clause-run g c =
    let words = c.args.words.now in
    none_written g.E.Entry.fields c.args.self.now words.own.now words.lazy (relocations_left words) c.args.image.now _ refl

pub loop-count-init : goal.loop-count-init
loop-count-init g c = let words = c.args.words.now in record {
  len = refl;
  so_far = none_written g.E.Entry.fields c.args.self.now words.own.now words.lazy (records_left words.order.records) c.args.image.now
      (first_left c.in-Some.records c.in-Some.records.at) (ap records_left (sym c.in-Some.is));
}

pub loop-count-smaller : goal.loop-count-smaller
loop-count-smaller g c = let more = ap length c.loop-count-test.ensures.first.first in omega (arith, more)

pub loop-count-preserved : goal.loop-count-preserved
loop-count-preserved g c =
    let words = c.args.words.now in
    let relative_is : c.args.relative.now ≡ relative_of (file_machine (object_file words.own.now)) = c.requires.relative ∙ ap (λ file. relative_of (file_machine file)) c.requires.words.file_is in record {
      len = c.write_record.ensures.len ∙ c.loop-count.invariant.len;
      so_far = record_more g.E.Entry.fields c.args.self.now words.own.now words.lazy (records_left words.order.records) c.args.image.now
          c.loop-count.image c.write_record.new.image c.args.relative.now c.loop-count.records c.write_record.new.records c.loop-count.count c.saturating_add-count.result
          relative_is c.saturating_add-count.ensures c.write_record.ensures.len c.loop-count.invariant.so_far c.loop-count-test.ensures.first;
    }

pub returns-clause-run : goal.returns-clause-run
returns-clause-run g c =
    let sources = c.args.self.now in
    let words = c.args.words.now in
    let order = words.order in
    let others = after_records order in
    let none : is_some order.packed.rest ≡ false = sym c.if-is_some.ensures in
    let kept = c.loop-count-test.ensures.first in
    let later : InOrder = record { packed = order.packed; records = Some c.write_record.new.records; rela = order.rela; rel = order.rel; slots = order.slots } in
    let left_is : order_left later ≡ first_left c.loop-count.records c.loop-count.records.at ++ others = records_first later none ∙ ap (λ (records : Records). first_left records records.at ++ others) kept.0 in
    subst (λ image. IsWrittenSoFar g.E.Entry.fields sources words.own.now words.lazy (relocations_left words) c.args.image.now (order_left later) image 0 c.loop-count.count) (sym kept.1)
    (subst (λ left. IsWrittenSoFar g.E.Entry.fields sources words.own.now words.lazy (relocations_left words) c.args.image.now left c.loop-count.image 0 c.loop-count.count) (sym left_is)
    (subst (λ all. IsWrittenSoFar g.E.Entry.fields sources words.own.now words.lazy all c.args.image.now (first_left c.loop-count.records c.loop-count.records.at ++ others) c.loop-count.image 0 c.loop-count.count) (sym (records_first order none))
    (with_others g.E.Entry.fields sources words.own.now words.lazy (records_left order.records) (first_left c.loop-count.records c.loop-count.records.at) others c.args.image.now c.loop-count.image 0 c.loop-count.count c.loop-count.invariant.so_far)))
