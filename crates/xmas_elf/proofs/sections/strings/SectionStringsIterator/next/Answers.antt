use Rattle.std.proofs.Common.{◌≡◌, ◌≢◌, length, sym, ap, arith, eqb-true}
use Rattle.std.proofs.lemmas.Bool.{eqb-false}
use Rattle.xmas_elf.proofs.StringItems.{strings_bare, strings_last, strings_none, strings_of_next}
use Rattle.xmas_elf.proofs.sections.strings.SectionStringsIterator.next.Goals as goal

pub returns-then-is_empty-clause-steps : goal.returns-then-is_empty-clause-steps
returns-then-is_empty-clause-steps c =
    let bytes = c.args.self.now.rest.now in
    let bare : length bytes ≡ 0 = eqb-true (length bytes) _ (sym c.if-is_empty.ensures) in
    let none = strings_none bytes bare in (none, none)

pub returns-in-Ok-clause-steps : goal.returns-in-Ok-clause-steps
returns-in-Ok-clause-steps c =
    let text = c.in-Ok.text.now in
    let bare : length text ≡ 0 = eqb-true (length text) _ (sym c.if-is_empty-2.ensures) in
    let none = strings_bare c.args.self.now.rest.now text bare c.in-Ok.ensures.text in (none, none)

pub returns-in-Ok-2 : goal.returns-in-Ok-2
returns-in-Ok-2 c =
    let text = c.in-Ok.text.now in
    let some : length text ≢ 0 = eqb-false (length text) _ (sym c.if-is_empty-2.ensures) in
    let steps = strings_of_next c.args.self.now.rest.now text (λ e. some (ap length e)) c.in-Ok.ensures.text in
    record { steps = steps; goes = record { on = λ _. (tt, tt, omega (arith, ap length steps)); keeps = tt; rests = λ _. tt } }

pub returns-in-Err : goal.returns-in-Err
returns-in-Err c =
    let bytes = c.args.self.now.rest.now in
    let other : length bytes ≢ 0 = eqb-false (length bytes) _ (sym c.if-is_empty.ensures) in
    let steps = strings_last bytes c.in-Err.error (omega arith) c.in-Err.ensures.failed in
    record { steps = steps; goes = record { on = λ _. (tt, tt, omega (arith, ap length steps)); keeps = tt; rests = λ _. tt } }
