use Rattle.std.proofs.Common.{◌≡◌, ◌+◌, ◌∙◌, None, arith, false, length, rules, sym, true}
use Rattle.std.proofs.lemmas.Grind.{common_steps}
use Rattle.std.specs.Prelude.{codes, slice_get}
use Rattle.elf_search.specs.Candidates.{is_under}
use Rattle.elf_search.specs.Elements.{elements_of}
use Rattle.elf_search.proofs.ListSteps.{under_end, under_hit, under_last, under_more}
use Rattle.elf_search.proofs.candidates.is_under_default.Goals as goal

pub returns-in_default : goal.returns-in_default
returns-in_default c =
    let none : slice_get (elements_of (codes ":") c.args.defaults.now) c.loop-element.index ≡ None = first_of (search rules, cc (c.in_default.ensures.bytes), cc (c.element_at.ensures.bytes, c.in_default.is), grind (arith, common_steps)) in
    sym (under_end c.args.defaults.now c.args.path.now c.loop-element.index none) ∙ c.loop-element.invariant

pub returns-then-is_under : goal.returns-then-is_under
returns-then-is_under c =
    let hit : is_under c.args.path.now c.in-Some.element.bytes.now ≡ true = first_of (cc, search rules, grind (arith, common_steps)) in
    sym (under_hit c.args.defaults.now c.args.path.now c.loop-element.index c.in-Some.element.bytes.now (sym c.in-Some.ensures.bytes) hit) ∙ c.loop-element.invariant

pub returns-then-element : goal.returns-then-element
returns-then-element c =
    let miss : is_under c.args.path.now c.in-Some.element.bytes.now ≡ false = first_of (cc, search rules, grind (arith, common_steps)) in
    let last : length (elements_of (codes ":") c.args.defaults.now) ≡ c.loop-element.index + 1 = c.in-Some.ensures.last c.if-element.true in
    sym (under_more c.args.defaults.now c.args.path.now c.loop-element.index c.in-Some.element.bytes.now (sym c.in-Some.ensures.bytes) miss ∙ under_last c.args.defaults.now c.args.path.now c.loop-element.index last) ∙ c.loop-element.invariant

pub loop-element-preserved : goal.loop-element-preserved
loop-element-preserved c =
    let miss : is_under c.args.path.now c.in-Some.element.bytes.now ≡ false = first_of (cc, search rules, grind (arith, common_steps)) in
    sym (under_more c.args.defaults.now c.args.path.now c.loop-element.index c.in-Some.element.bytes.now (sym c.in-Some.ensures.bytes) miss) ∙ c.loop-element.invariant
