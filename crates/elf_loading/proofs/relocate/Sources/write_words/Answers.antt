use Rattle.std.proofs.Common.{rules, ◌∷◌, refl, sym, ap, ◌∙◌, subst}
use Rattle.elf_loading.specs.RelativeWords.{IsWrittenSoFar}
use Rattle.elf_loading.specs.WordsLeft.{relocations_left}
use Rattle.elf_loading.proofs.Written.{all_written, more_written, of_words, run_for, run_written, still_last, first_unwritten, one_failed, still_words}
use Rattle.elf_loading.proofs.relocate.Sources.write_words.Goals as goal

pub loop-relocation-init : goal.loop-relocation-init
loop-relocation-init g c =
    let sources = c.args.self.now in
    let own = c.args.own.now in
    let later = c.write_run-index.new.words in record {
      words = still_words sources.objects.now own sources.of c.args.lazy c.args.words later c.write_run-index.ensures.same c.requires.words;
      so_far = run_for g.E.Entry.fields sources own c.args.lazy c.args.words (relocations_left c.args.words) (relocations_left later) c.args.image.now c.write_run-index.new.image 0 c.write_run-index.result
          c.requires.words c.write_run-index.ensures.run;
      last = tt;
    }

pub loop-relocation-preserved : goal.loop-relocation-preserved
loop-relocation-preserved g c =
    let sources = c.args.self.now in
    let own = c.args.own.now in
    let later = c.next_relocation.new.self in
    let final = c.write_run-run.new.words in
    let invariant = c.loop-relocation.invariant in
    let words = still_words sources.objects.now own sources.of c.args.lazy c.loop-relocation.words later c.in-Some.ensures.same invariant.words in
    let one = of_words g.E.Entry.fields sources own c.args.lazy later c.in-Some.relocation c.loop-relocation.image c.write_next.new.image _ words c.in-Ok.ensures.item in
    let sum = sym c.counted-count.ensures in
    let so_far = subst (λ count. IsWrittenSoFar g.E.Entry.fields sources own c.args.lazy (relocations_left c.args.words) c.args.image.now (relocations_left later) c.write_next.new.image count c.saturating_add.result) sum
    (more_written g.E.Entry.fields sources own c.args.lazy (relocations_left c.args.words) c.args.image.now (relocations_left c.loop-relocation.words) (relocations_left later) one.item c.loop-relocation.image c.loop-relocation.count c.loop-relocation.index
    (c.in-Some.ensures.first ∙ ap (λ x. x ∷ relocations_left later) (sym one.relocation_is)) invariant.so_far one.has_word c.saturating_add.result c.saturating_add.ensures c.write_next.new.image c.in-Ok.lacks c.in-Ok.ensures.len one.result_is one.bytes) in
    let run = run_for g.E.Entry.fields sources own c.args.lazy later (relocations_left later) (relocations_left final) c.write_next.new.image c.write_run-run.new.image 0 c.write_run-run.result words c.write_run-run.ensures.run in record {
      words = still_words sources.objects.now own sources.of c.args.lazy later final c.write_run-run.ensures.same words;
      so_far = run_written g.E.Entry.fields sources own c.args.lazy (relocations_left c.args.words) (relocations_left later) (relocations_left final) c.args.image.now c.write_next.new.image c.write_run-run.new.image
          c.counted-count.result c.saturating_add.result c.write_run-run.result c.saturating_add-index.result c.saturating_add-index.ensures so_far run;
      last = still_last g.E.Entry.fields later final c.write_next.new.last c.write_run-run.ensures.same c.in-Ok.ensures.last;
    }

pub returns-in-Err-clause-words : goal.returns-in-Err-clause-words
returns-in-Err-clause-words g c =
    let sources = c.args.self.now in
    let own = c.args.own.now in
    let later = c.next_relocation.new.self in
    let invariant = c.loop-relocation.invariant in
    let words = still_words sources.objects.now own sources.of c.args.lazy c.loop-relocation.words later c.in-Some.ensures.same invariant.words in
    let one = of_words g.E.Entry.fields sources own c.args.lazy later c.in-Some.relocation c.loop-relocation.image c.write_next.new.image _ words c.in-Err.ensures.item in
    one_failed g.E.Entry.fields sources own c.args.lazy (relocations_left c.args.words) c.args.image.now (relocations_left c.loop-relocation.words) (relocations_left later) one.item c.loop-relocation.image c.loop-relocation.count c.loop-relocation.index
    (c.in-Some.ensures.first ∙ ap (λ x. x ∷ relocations_left later) (sym one.relocation_is)) invariant.so_far one.has_word c.write_next.new.image c.in-Err.error one.result_is one.same

pub returns-in-Err-clause-first : goal.returns-in-Err-clause-first
returns-in-Err-clause-first g c =
    let sources = c.args.self.now in
    let own = c.args.own.now in
    let later = c.next_relocation.new.self in
    let invariant = c.loop-relocation.invariant in
    let words = still_words sources.objects.now own sources.of c.args.lazy c.loop-relocation.words later c.in-Some.ensures.same invariant.words in
    let one = of_words g.E.Entry.fields sources own c.args.lazy later c.in-Some.relocation c.loop-relocation.image c.write_next.new.image _ words c.in-Err.ensures.item in
    first_unwritten g.E.Entry.fields sources own c.args.lazy (relocations_left c.args.words) c.args.image.now (relocations_left c.loop-relocation.words) (relocations_left later) one.item c.loop-relocation.image c.loop-relocation.count c.loop-relocation.index
    (c.in-Some.ensures.first ∙ ap (λ x. x ∷ relocations_left later) (sym one.relocation_is)) invariant.so_far one.has_word c.in-Err.error one.result_is

pub returns-clause-words : goal.returns-clause-words
returns-clause-words g c = all_written g.E.Entry.fields c.args.self.now c.args.own.now c.args.lazy (relocations_left c.args.words) c.args.image.now _ c.loop-relocation.image c.loop-relocation.count c.loop-relocation.index (search rules) c.loop-relocation.invariant.so_far
