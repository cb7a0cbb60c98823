use Rattle.std.proofs.Common.{rules, ◌∷◌, refl, sym, ap, ◌∙◌}
use Rattle.elf_linking.specs.References.{file_machine}
use Rattle.elf_linking.specs.RelocationTypes.{relative_of}
use Rattle.elf_loading.specs.WordsLeft.{relocations_left}
use Rattle.elf_loading.proofs.ImageChecks.{all_checked, first_unchecked, has_word_of, none_checked, one_checked, one_stops}
use Rattle.elf_loading.proofs.image_words.check_words.Goals as goal

pub loop-relocation-init : goal.loop-relocation-init
loop-relocation-init g c = record {
  len = refl;
  so_far = none_checked g.E.Entry.fields _ _ _ _ c.args.words _ _ refl c.requires.clear;
  last = tt;
  holder = tt;
}

pub check_next-requires-clause-relative : goal.check_next-requires-clause-relative
check_next-requires-clause-relative g c = c.relative_row-relative.ensures
    ∙ sym (ap (λ file. relative_of (file_machine file)) (c.in-Some.ensures.same.1 ∙ c.loop-relocation.invariant.so_far.same.1))

pub loop-relocation-preserved : goal.loop-relocation-preserved
loop-relocation-preserved g c =
    let later = c.next_relocation.new.self in
    let so_far = c.loop-relocation.invariant.so_far in
    let one = c.in-Ok.ensures.item in
    let has = has_word_of g.E.Entry.fields c.loop-relocation.words later one.item c.in-Some.ensures.same one.has_word in
    let (after, ok, marked) = one.checked so_far.before so_far.marked in record {
      len = c.in-Ok.ensures.len ∙ c.loop-relocation.invariant.len;
      so_far = one_checked g.E.Entry.fields _ _ _ _ c.args.words c.loop-relocation.words later c.loop-relocation.marks c.loop-relocation.index one.item so_far
          (c.in-Some.ensures.first ∙ ap (λ x. x ∷ relocations_left later) (sym one.relocation_is)) c.in-Some.ensures.same has c.saturating_add-index.result c.saturating_add-index.ensures c.check_next.new.marks after ok marked;
      last = c.in-Ok.ensures.last;
      holder = c.in-Ok.ensures.holder;
    }

pub returns-in-Err-clause-words : goal.returns-in-Err-clause-words
returns-in-Err-clause-words g c =
    let later = c.next_relocation.new.self in
    let so_far = c.loop-relocation.invariant.so_far in
    let one = c.in-Err.ensures.item in
    let has = has_word_of g.E.Entry.fields c.loop-relocation.words later one.item c.in-Some.ensures.same one.has_word in
    one_stops g.E.Entry.fields _ _ _ _ c.args.words c.loop-relocation.words later c.loop-relocation.marks c.loop-relocation.index one.item so_far
    (c.in-Some.ensures.first ∙ ap (λ x. x ∷ relocations_left later) (sym one.relocation_is)) c.in-Some.ensures.same has c.in-Err.error (one.checked so_far.before so_far.marked)

pub returns-in-Err-clause-first : goal.returns-in-Err-clause-first
returns-in-Err-clause-first g c =
    let later = c.next_relocation.new.self in
    let so_far = c.loop-relocation.invariant.so_far in
    let one = c.in-Err.ensures.item in
    let has = has_word_of g.E.Entry.fields c.loop-relocation.words later one.item c.in-Some.ensures.same one.has_word in
    first_unchecked g.E.Entry.fields _ _ _ _ c.args.words c.loop-relocation.words later c.loop-relocation.marks c.loop-relocation.index one.item so_far
    (c.in-Some.ensures.first ∙ ap (λ x. x ∷ relocations_left later) (sym one.relocation_is)) c.in-Some.ensures.same has c.in-Err.error (one.checked so_far.before so_far.marked)

pub returns-clause-words : goal.returns-clause-words
returns-clause-words g c = all_checked g.E.Entry.fields _ _ _ _ c.args.words c.loop-relocation.words c.loop-relocation.marks c.loop-relocation.index (search rules) c.loop-relocation.invariant.so_far
