use Rattle.std.proofs.Common.{◌≡◌, ◌<◌, ◌&&◌, not, length, Ok, ap, ◌∙◌, arith, slice_get}
use Rattle.std.specs.Prelude.{option_map}
use Rattle.elf_linking.specs.CheckedScope.{bound_fields}
use Rattle.elf_linking.specs.CheckedBindings.{is_weak}
use Rattle.elfbind.specs.Bindings.{line_text, path_in, shown_text, target_of}
use Rattle.elfbind.specs.declared.bindings.Target.{Target}
use Rattle.elfbind.proofs.AskedLines.{asked_error, from_within, has_line, look_line, own_line}
use Rattle.elfbind.proofs.bindings.write_item.Goals as goal
use Rattle.program_ends.proofs.Ends.{stop_so}

pub failure_at-requires-in-Err-asked : goal.failure_at-requires-in-Err-asked
failure_at-requires-in-Err-asked g c =
    let same = c.requires.same in
    let below : c.in-Ok.binding.from < length c.args.objects.now = from_within g.E.Entry.fields c.args.inputs.now c.args.objects.now c.args.style c.args.item c.in-Ok.binding c.in-Ok.is c.requires.item in
    omega (arith, same, below)

pub line_at-line-requires : goal.line_at-line-requires
line_at-line-requires g c =
    let same = c.requires.same in
    let below : c.in-Ok.binding.from < length c.args.objects.now = from_within g.E.Entry.fields c.args.inputs.now c.args.objects.now c.args.style c.args.item c.in-Ok.binding c.in-Ok.is c.requires.item in
    omega (arith, same, below)

pub returns-in-Err-asked : goal.returns-in-Err-asked
returns-in-Err-asked g c = stop_so _ _ _ _ _ _ c.failure_at-in-Err-asked.result
    (asked_error g.E.Entry.fields c.args.inputs.now c.args.objects.now c.args.style c.args.item c.in-Ok.binding c.in-Ok.is c.requires.item c.index-objects-from-2.result c.index-objects-from-2.is c.asked.result c.asked.ensures c.in-Err-asked.error c.in-Err-asked.is)
    (λ never. absurd never) (λ never. never) c.failure_at-in-Err-asked.ensures

pub returns-in-Ok-Own : goal.returns-in-Ok-Own
returns-in-Ok-Own g c = own_line g.E.Entry.fields c.args.inputs.now c.args.objects.now c.args.style c.args.item c.in-Ok.binding c.in-Ok.is c.requires.item c.index-objects-from-2.result c.index-objects-from-2.is c.asked.result c.asked.ensures c.requires.passed c.in-Ok-Own.field-0-0 (c.in-Ok-Own.is ∙ ap (λ a. Ok a) c.in-Ok-Own.field-0-is) _

pub returns-in-Ok-write_if : goal.returns-in-Ok-write_if
returns-in-Ok-write_if g c =
    let fields = g.E.Entry.fields in
    let inputs = c.args.inputs.now in
    let binding = c.in-Ok.binding in
    let look = c.in-Ok-Look in
    let line = c.line_at-line.result in
    let weak = c.is_weak-weak.result in
    let missing = c.is_missing-missing.result in
    let shown = not (c.args.style.only_missing && not missing) in
    let path = path_in (slice_get inputs binding.from) in
    let (text, text_is, grown) = c.in-Ok-write_if.ensures in
    let text_so : text ≡ shown_text shown (line_text c.args.style.form path look.name.now look.wanted weak (target_of inputs (bound_fields fields binding.bound))) =
    text_is
    ∙ ap (λ is. shown_text is (line_text c.args.style.form line.file.now line.name.now line.version.0 line.target.weak line.target.found)) c.is_shown.ensures
    ∙ ap (λ file. shown_text shown (line_text c.args.style.form file line.name.now line.version.0 line.target.weak line.target.found)) c.line_at-line.ensures.file
    ∙ ap (λ name. shown_text shown (line_text c.args.style.form path name line.version.0 line.target.weak line.target.found)) c.line_at-line.ensures.name
    ∙ ap (λ wanted. shown_text shown (line_text c.args.style.form path look.name.now wanted line.target.weak line.target.found)) c.line_at-line.ensures.version
    ∙ ap (λ (target : Target). shown_text shown (line_text c.args.style.form path look.name.now look.wanted target.weak target.found)) c.line_at-line.ensures.target
    ∙ ap (λ found. shown_text shown (line_text c.args.style.form path look.name.now look.wanted weak found)) c.target_of-found.ensures in (
      text,
      look_line fields inputs c.args.objects.now c.args.style c.args.item binding c.in-Ok.is c.requires.item c.index-objects-from-2.result c.index-objects-from-2.is c.asked.result c.asked.ensures c.requires.passed
          look.name look.wanted look.field-0-2 look.field-0-3 (look.is ∙ ap (λ a. Ok a) look.field-0-is) weak missing (c.is_weak-weak.ensures ∙ ap (λ symbol. is_weak (option_map fields symbol)) c.symbol.ensures) c.is_missing-missing.ensures text text_so,
      grown,
    )

pub returns-in-Err-write_if : goal.returns-in-Err-write_if
returns-in-Err-write_if g c = has_line g.E.Entry.fields c.args.inputs.now c.args.objects.now c.args.style c.args.item c.in-Ok.binding c.in-Ok.is c.requires.item c.index-objects-from-2.result c.index-objects-from-2.is c.asked.result c.asked.ensures c.requires.passed
    _ (c.in-Ok-Look.is ∙ ap (λ a. Ok a) c.in-Ok-Look.field-0-is)
