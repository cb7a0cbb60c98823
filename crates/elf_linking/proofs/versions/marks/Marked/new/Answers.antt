use Rattle.std.proofs.Common.{◌≢◌, ◌+◌, ◌<◌, ◌≤◌, length, ◌∙◌, rules, arith}
use Rattle.elf_base.specs.Number.{number}
use Rattle.elf_linking.proofs.Marking.{marking_kept, marking_next, marking_so, marking_start}
use Rattle.elf_linking.proofs.versions.marks.Marked.new.Goals as goal

pub loop-passed-init : goal.loop-passed-init
loop-passed-init c = marking_start c.args.records.order c.args.records.bytes.now (length c.args.records.bytes.now)

pub invariant_of-result : goal.invariant_of-result
invariant_of-result c = record { right = marking_so c.args.records.order c.args.records.bytes.now (length c.args.records.bytes.now) c.loop-passed.place _ c.loop-passed.marks c.loop-passed.invariant }

pub invariant_of-result-then-u32_at-eq0 : goal.invariant_of-result-then-u32_at-eq0
invariant_of-result-then-u32_at-eq0 c =
    let whole : c.loop-passed.place + 20 ≤ length c.args.records.bytes.now = search rules in
    let below : c.loop-passed.passed < length c.args.records.bytes.now = omega arith in
    record { right = marking_kept c.args.records.order c.args.records.bytes.now (length c.args.records.bytes.now) c.loop-passed.place c.loop-passed.passed c.loop-passed.marks c.mark.new.marks c.loop-passed.invariant below whole c.mark.ensures }

pub loop-passed-preserved : goal.loop-passed-preserved
loop-passed-preserved c =
    let whole : c.loop-passed.place + 20 ≤ length c.args.records.bytes.now = search rules in
    let below : c.loop-passed.passed < length c.args.records.bytes.now = omega arith in
    let goes : number c.args.records.order 4 (c.loop-passed.place + 16) c.args.records.bytes.now ≢ 0 = λ none. c.if-u32_at-eq0.false (c.u32_at.ensures ∙ none) in
    marking_next c.args.records.order c.args.records.bytes.now (length c.args.records.bytes.now) c.loop-passed.place c.loop-passed.passed c.place_behind-place.result c.loop-passed.marks c.mark.new.marks c.loop-passed.invariant below whole goes c.place_behind-place.ensures c.mark.ensures

pub invariant_of-result-2 : goal.invariant_of-result-2
invariant_of-result-2 c = record { right = marking_so c.args.records.order c.args.records.bytes.now (length c.args.records.bytes.now) c.loop-passed.place _ c.loop-passed.marks c.loop-passed.invariant }
