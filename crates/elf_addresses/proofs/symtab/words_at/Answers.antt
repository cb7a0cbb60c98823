use Rattle.std.proofs.Common.{IfOk, IsSomeAnd, ap, subst, sym, ◌∙◌}
use Rattle.elf_addresses.specs.Symtab.{LiesAsDataAt, data_at, whole_words, words_at}
use Rattle.elf_addresses.proofs.lemmas.PartAnswers.{lent_answer}
use Rattle.elf_addresses.proofs.symtab.words_at.Goals as goal

pub returns-in-Some-clause-value : goal.returns-in-Some-clause-value
returns-in-Some-clause-value c = c.whole_words.ensures.value ∙ ap whole_words (lent_answer (data_at c.args.file.now c.in-Some.place) c.data_at.result c.data_at.ensures.bytes) ∙ ap (λ o. words_at c.args.file.now o) (sym c.in-Some.is)

pub returns-in-Some-clause-place : goal.returns-in-Some-clause-place
returns-in-Some-clause-place c = λ some.
    let lies = subst (λ r. IfOk r (LiesAsDataAt c.args.file.now c.in-Some.place)) (c.whole_words.ensures.same some) c.data_at.ensures.place in
    subst (λ o. IsSomeAnd o (λ index. LiesAsDataAt c.args.file.now index c.whole_words.result)) (sym c.in-Some.is) lies
