use Rattle.std.proofs.Common.{◌∷◌, sym, ◌∙◌, subst}
use Rattle.std.proofs.lemmas.Bool.{ne_eqb}
use Rattle.std.specs.Prelude.{IfSome}
use Rattle.elf_loading.specs.ImageWords.{IsKnown}
use Rattle.elf_loading.specs.Plan.{plan_loads}
use Rattle.elf_loading.proofs.ImageLoads.{holder_is, word_room}
use Rattle.elf_loading.proofs.ImageChecks.{passed, overlap_error, table_error}
use Rattle.elf_loading.proofs.Marks.{marks_with, taken_is}
use Rattle.elf_loading.proofs.image_words.check_word.Goals as goal

pub overflow_sub-word : goal.overflow_sub-word
overflow_sub-word c = (word_room c.args.room.now.plan.now _ _ c.args.word.now c.in-Some.found.load c.requires.start c.requires.marks (holder_is c.args.word.now (plan_loads c.args.room.now.plan.now) c.find_holder.new.holder c.in-Some.found c.find_holder.ensures.first c.in-Some.is)).0

pub mark_all-requires : goal.mark_all-requires
mark_all-requires c = (word_room c.args.room.now.plan.now _ _ c.args.word.now c.in-Some.found.load c.requires.start c.requires.marks (holder_is c.args.word.now (plan_loads c.args.room.now.plan.now) c.find_holder.new.holder c.in-Some.found c.find_holder.ensures.first c.in-Some.is)).1

pub is_in_table-requires-clause-known : goal.is_in_table-requires-clause-known
is_in_table-requires-clause-known c = subst (λ holder. IfSome holder (IsKnown (plan_loads c.args.room.now.plan.now) c.args.room.now.tables)) c.in-Some.is c.find_holder.ensures.known

pub is_in_table-requires-clause-found : goal.is_in_table-requires-clause-found
is_in_table-requires-clause-found c = holder_is c.args.word.now (plan_loads c.args.room.now.plan.now) c.find_holder.new.holder c.in-Some.found c.find_holder.ensures.first c.in-Some.is

pub returns-then-mark_all-clause-exact : goal.returns-then-mark_all-clause-exact
returns-then-mark_all-clause-exact c = λ before marks.
    let room = c.args.room.now in
    let word = c.args.word.now in
    let found = holder_is word (plan_loads room.plan.now) c.find_holder.new.holder c.in-Some.found c.find_holder.ensures.first c.in-Some.is in
    let within = word_room room.plan.now _ _ word c.in-Some.found.load c.requires.start c.requires.marks found in
    let taken = taken_is room.start word before c.args.marks.now within.0 marks within.1 in
    overlap_error (plan_loads room.plan.now) room.text room.tables before word (ne_eqb word.width 0 c.if-word-eq0.false) c.in-Some.found.load found
    (sym c.is_shut.ensures ∙ c.if-is_shut.false) (sym taken ∙ sym c.mark_all.ensures.was ∙ c.if-mark_all.true)

pub returns-then-is_in_table-clause-exact : goal.returns-then-is_in_table-clause-exact
returns-then-is_in_table-clause-exact c = λ before marks.
    let room = c.args.room.now in
    let word = c.args.word.now in
    let found = holder_is word (plan_loads room.plan.now) c.find_holder.new.holder c.in-Some.found c.find_holder.ensures.first c.in-Some.is in
    let within = word_room room.plan.now _ _ word c.in-Some.found.load c.requires.start c.requires.marks found in
    let taken = taken_is room.start word before c.args.marks.now within.0 marks within.1 in
    table_error (plan_loads room.plan.now) room.text room.tables before word (ne_eqb word.width 0 c.if-word-eq0.false) c.in-Some.found.load found
    (sym c.is_shut.ensures ∙ c.if-is_shut.false) (sym taken ∙ sym c.mark_all.ensures.was ∙ c.if-mark_all.false) (sym c.is_in_table.ensures ∙ c.if-is_in_table.true)

pub returns-clause-exact : goal.returns-clause-exact
returns-clause-exact c = λ before marks.
    let room = c.args.room.now in
    let word = c.args.word.now in
    let found = holder_is word (plan_loads room.plan.now) c.find_holder.new.holder c.in-Some.found c.find_holder.ensures.first c.in-Some.is in
    let within = word_room room.plan.now _ _ word c.in-Some.found.load c.requires.start c.requires.marks found in
    let taken = taken_is room.start word before c.args.marks.now within.0 marks within.1 in (
      word ∷ before,
      passed (plan_loads room.plan.now) room.text room.tables before word (ne_eqb word.width 0 c.if-word-eq0.false) c.in-Some.found.load found
          (sym c.is_shut.ensures ∙ c.if-is_shut.false) (sym taken ∙ sym c.mark_all.ensures.was ∙ c.if-mark_all.false) (sym c.is_in_table.ensures ∙ c.if-is_in_table.false),
      marks_with room.start word before c.args.marks.now within.0 marks c.mark_all.new.marks c.mark_all.ensures.len c.mark_all.ensures.set,
    )
