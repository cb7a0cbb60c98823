use Rattle.std.proofs.Common.{◌≡◌, true, sym, ◌∙◌, subst}
use Rattle.std.specs.Prelude.{IfSome}
use Rattle.elf_loading.specs.RelativeWords.{asks_as}
use Rattle.elf_loading.specs.WordsLeft.{HasWordOf, words_objects}
use Rattle.elf_loading.proofs.Written.{bound_as}
use Rattle.elf_loading.proofs.words.Words.item_after.Goals as goal

pub item_with-requires : goal.item_with-requires
item_with-requires g c =
    let words = c.args.self.now in
    let last = c.in-Some.last in
    let has = subst (λ before. IfSome before (HasWordOf g.E.Entry.fields words)) c.in-Some.is c.requires in
    let asks : asks_as last.relocation c.args.relocation ≡ true = sym c.asks_as.ensures ∙ c.if-asks_as.true in
    bound_as g.E.Entry.fields words.file words.own.now words.lazy (words_objects words).now words.of last.bound last.relocation c.args.relocation asks has.0
