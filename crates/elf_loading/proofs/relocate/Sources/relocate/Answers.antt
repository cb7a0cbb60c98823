use Rattle.std.proofs.Common.{rules, ◌≡◌, Some, Ok, length, slice_get, sym, ap, ◌∙◌}
use Rattle.elf_linking.specs.DynamicObject.{object_view}
use Rattle.elf_linking.specs.DynamicView.{view_entries}
use Rattle.elf_linking.specs.Scope.{scope_objects}
use Rattle.elf_loading.specs.Words.{binds_lazily}
use Rattle.elf_loading.specs.WordsLeft.{relocations_left, own_relocations}
use Rattle.elf_loading.specs.WordErrors.{error_alone}
use Rattle.elf_loading.proofs.WordErrors.{error_of_written}
use Rattle.elf_loading.proofs.Written.{is_written}
use Rattle.elf_loading.proofs.relocate.Sources.relocate.Goals as goal

pub returns-in-Ok-clause-words : goal.returns-in-Ok-clause-words
returns-in-Ok-clause-words g c =
    let own = c.args.own.now in
    let there : slice_get (scope_objects c.args.scope).now c.args.self.now.of ≡ Some own = ap (λ lent. slice_get lent.now c.args.self.now.of) c.requires.scope ∙ c.requires.own in
    let are : own_relocations (Some own) ≡ Ok (relocations_left c.in-Ok.words) = ap own_relocations (sym there) ∙ c.in-Ok.ensures.exact in
    let writing = rw (c.binds_lazily.ensures, c.view.ensures) at c.write_words.ensures.words in
    is_written g.E.Entry.fields c.args.self.now own c.args.plan.now (binds_lazily (view_entries (object_view own)) c.args.when) c.args.image.now c.write_words.new.image (error_alone c.write_words.result) (relocations_left c.in-Ok.words)
    (search rules) are writing

pub returns-in-Ok-clause-first : goal.returns-in-Ok-clause-first
returns-in-Ok-clause-first g c =
    let own = c.args.own.now in
    let there : slice_get (scope_objects c.args.scope).now c.args.self.now.of ≡ Some own = ap (λ lent. slice_get lent.now c.args.self.now.of) c.requires.scope ∙ c.requires.own in
    let are : own_relocations (Some own) ≡ Ok (relocations_left c.in-Ok.words) = ap own_relocations (sym there) ∙ c.in-Ok.ensures.exact in
    let writing = rw (c.binds_lazily.ensures, c.view.ensures) at c.write_words.ensures.first in
    error_of_written g.E.Entry.fields c.args.self.now own c.args.plan.now (binds_lazily (view_entries (object_view own)) c.args.when) (length c.args.image.now) c.write_words.result (relocations_left c.in-Ok.words)
    (search rules) are writing
