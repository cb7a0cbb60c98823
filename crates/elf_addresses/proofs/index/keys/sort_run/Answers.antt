use Rattle.elf_addresses.specs.Index.{is_worse}
use Rattle.elf_addresses.proofs.Keys.{run_inside, run_moved, run_sorted}
use Rattle.elf_addresses.proofs.index.keys.sort_run.Goals as goal

pub returns-then-end-start-gt1-clause-moved : goal.returns-then-end-start-gt1-clause-moved
returns-then-end-start-gt1-clause-moved g c =
    let first = c.split_at_mut-before in
    let second = c.split_at_mut-run in
    rw (first.ensures.value, second.ensures.value) (run_moved first.result.0.now second.result.0.now c.sort_words.new.words second.result.1.now c.args.start c.args.end first.ensures.front_len second.ensures.front_len c.requires.up c.sort_words.ensures.moved)

pub returns-then-end-start-gt1-clause-inside : goal.returns-then-end-start-gt1-clause-inside
returns-then-end-start-gt1-clause-inside g c =
    let first = c.split_at_mut-before in
    let second = c.split_at_mut-run in
    rw (first.ensures.value, second.ensures.value) (run_inside first.result.0.now second.result.0.now c.sort_words.new.words second.result.1.now c.args.start c.args.end first.ensures.front_len second.ensures.front_len c.requires.up c.sort_words.ensures.moved)

pub returns-then-end-start-gt1-clause-sorted : goal.returns-then-end-start-gt1-clause-sorted
returns-then-end-start-gt1-clause-sorted g c =
    let claims = c.args.claims.now in
    let first = c.split_at_mut-before in
    let second = c.split_at_mut-run in
    run_sorted first.result.0.now second.result.0.now c.sort_words.new.words second.result.1.now c.args.start c.args.end first.ensures.front_len second.ensures.front_len c.requires.up c.sort_words.ensures.moved
    (is_worse (g.C.Claims.claim_of claims) (g.C.Claims.range_of claims)) c.sort_words.ensures.sorted
