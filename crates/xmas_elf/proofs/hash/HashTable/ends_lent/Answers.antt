use Rattle.std.proofs.Common.{◌≡◌, Ok, ℕ, rules, sym, ◌∙◌}
use Rattle.xmas_elf.specs.HashTable.{bucket_of}
use Rattle.xmas_elf.specs.ChainLinks.{Joins}
use Rattle.xmas_elf.proofs.ChainChecks.{bad_at_fault}
use Rattle.xmas_elf.proofs.ChainPaths.{chain_ends, chain_error}
use Rattle.xmas_elf.proofs.hash.HashTable.ends_lent.Goals as goal

pub returns-in-Err-clause-answer : goal.returns-in-Err-clause-answer
returns-in-Err-clause-answer g c = bad_at_fault c.args.self.now _ c.args.bucket c.in-Err.error (sym c.get_bucket.ensures.exact ∙ c.in-Err.is)

pub returns-in-Err-0₀-clause-answer : goal.returns-in-Err-0₀-clause-answer
returns-in-Err-0₀-clause-answer g c =
    let at : bucket_of c.args.self.now c.args.bucket ≡ Ok c.in-Ok.first = cc in
    let follow_chain = rw c.in-Err-0₀.is at c.follow_chain.ensures.answer in
    (c.follow_chain.result.1, rw at (chain_error _ _ _ c.in-Ok.first _ _ follow_chain))

pub link_ending-requires-clause-ends : goal.link_ending-requires-clause-ends
link_ending-requires-clause-ends g c =
    chain_ends _ _ _ c.in-Ok.first _ _ c.follow_chain.ensures.answer (search rules) (λ i e stop. let (j, joins) : (j : ℕ) × Joins c.args.words.now i j = search rules in c.requires i j joins)

pub returns-clause-answer : goal.returns-clause-answer
returns-clause-answer g c =
    (c.in-Ok.first, sym c.get_bucket.ensures.exact ∙ c.in-Ok.is, chain_ends _ _ _ c.in-Ok.first _ _ c.follow_chain.ensures.answer (search rules) (λ i e stop. let (j, joins) : (j : ℕ) × Joins c.args.words.now i j = search rules in c.requires i j joins))
