use Rattle.elf_linking.specs.Relr.{relr_of, word_size, words_left}
use Rattle.elf_linking.proofs.RelrItems.{relr_fits, starts}
use Rattle.elf_linking.proofs.relr.Relr.new.Goals as goal

pub returns-clause-exact : goal.returns-clause-exact
returns-clause-exact c = let words = c.in_ok-words.words in
    starts (word_size words) c.marks-looked_at.result (words_left words) (relr_of c.args.class c.args.order c.args.bytes.now) c.in_ok-words.ensures c.marks-looked_at.ensures

pub returns-clause-room : goal.returns-clause-room
returns-clause-room c = relr_fits c.args.class c.args.order c.args.bytes.now _ (returns-clause-exact c)
