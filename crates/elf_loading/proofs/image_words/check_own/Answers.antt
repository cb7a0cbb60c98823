use Rattle.std.proofs.Common.{◌*◌, length, refl, ap, ◌∙◌, arith}
use Rattle.elf_linking.specs.DynamicView.{view_entries}
use Rattle.elf_linking.specs.Scope.{scope_objects}
use Rattle.elf_loading.specs.ImageTables.{asks_for_text}
use Rattle.elf_loading.specs.ImageWords.{not_begun}
use Rattle.elf_loading.specs.WordsLeft.{relocations_left}
use Rattle.elf_loading.proofs.ImageChecks.{enough_marks, own_checked}
use Rattle.elf_loading.proofs.WordErrors.{error_of_tables, error_of_words}
use Rattle.elf_loading.proofs.image_words.check_own.Goals as goal

pub returns-in-Err-clause-check : goal.returns-in-Err-clause-check
returns-in-Err-clause-check g c = not_begun c.in-Err.error c.in-Err.ensures refl

pub returns-in-Err-clause-first : goal.returns-in-Err-clause-first
returns-in-Err-clause-first g c = error_of_tables g.E.Record.SIZE g.E.Entry.fields (scope_objects c.args.scope).now c.args.of c.args.own.now c.args.plan.now _ c.in-Err.error c.in-Err.ensures

pub check_words-requires-clause-room : goal.check_words-requires-clause-room
check_words-requires-clause-room g c =
    let enough = enough_marks g.E.Record.SIZE c.args.own.now c.args.plan.now (8 * length c.args.marks.now) (relocations_left c.in-Ok.words) c.in-Ok.ensures.relocations_are in
    omega (arith, enough, c.clear.ensures.len)

pub check_words-requires-clause-clear : goal.check_words-requires-clause-clear
check_words-requires-clause-clear g c = c.clear.ensures.marks _

pub returns-clause-check : goal.returns-clause-check
returns-clause-check g c =
    own_checked g.E.Record.SIZE g.E.Entry.fields (scope_objects c.args.scope) c.args.of (8 * length c.args.marks.now) c.args.own.now c.args.plan.now c.requires c.in-Ok.words _ _ _ c.in-Ok.ensures
    (c.asks_for_text.ensures ∙ ap (λ view. asks_for_text (view_entries view)) c.view.ensures) c.tables_of-tables.ensures c.check_words.ensures.words

pub returns-clause-first : goal.returns-clause-first
returns-clause-first g c =
    error_of_words g.E.Record.SIZE g.E.Entry.fields (scope_objects c.args.scope) c.args.of c.args.own.now c.args.plan.now (8 * length c.args.marks.now) c.requires c.in-Ok.words _ _ _ c.in-Ok.ensures
    (c.asks_for_text.ensures ∙ ap (λ view. asks_for_text (view_entries view)) c.view.ensures) c.tables_of-tables.ensures c.check_words.ensures.first
