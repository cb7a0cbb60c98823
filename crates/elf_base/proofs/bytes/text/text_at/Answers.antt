use Rattle.std.proofs.Common.{◌-◌, length, take, drop, subst, sym}
use Rattle.elf_base.specs.declared.error.ElfError.TheVariants.{TextEnd, TextUtf8, TextStart}
use Rattle.elf_base.specs.Text.{IsText, TextError}
use Rattle.elf_base.proofs.Texts.{ends_in_zero, no_zero_from, text_of-failed, text_of-text}
use Rattle.elf_base.proofs.bytes.text.text_at.Goals as goal

pub returns-then-start-data-clause-exact : goal.returns-then-start-data-clause-exact
returns-then-start-data-clause-exact c = text_of-failed c.args.data.now c.args.start TextStart c.if-start-data.true

pub returns-in_default : goal.returns-in_default
returns-in_default c =
    let none : TextError c.args.data.now c.args.start TextEnd = (c.if-start-data.false, no_zero_from c.args.data.now c.args.start c.if-start-data.false c.in_default.ensures) in
    record { text = tt; failed = none; exact = text_of-failed c.args.data.now c.args.start TextEnd none }

pub returns-in-Ok : goal.returns-in-Ok
returns-in-Ok c =
    let bytes = c.args.data.now in
    let start = c.args.start in
    let found = c.in-Some.ensures in
    let utf8 = c.in-Ok.ensures.cases in
    let ended = ends_in_zero bytes start c.in-Some.end found.0 found.1 in
    let before : IsText bytes start (take c.in-Some.end (take (length bytes - start) (drop start bytes))) = record { utf8 = utf8.1; ended = ended } in
    let is = subst (IsText bytes start) (sym utf8.0) before in
    record { text = is; failed = tt; exact = text_of-text bytes start c.in-Ok.text.now is }

pub returns-in-Err : goal.returns-in-Err
returns-in-Err c =
    let found = c.in-Some.ensures in
    let ended = ends_in_zero c.args.data.now c.args.start c.in-Some.end found.0 found.1 in
    let not_text : TextError c.args.data.now c.args.start TextUtf8 = (_, ended, c.in-Err.ensures.cases.0) in
    record { text = tt; failed = not_text; exact = text_of-failed c.args.data.now c.args.start TextUtf8 not_text }
