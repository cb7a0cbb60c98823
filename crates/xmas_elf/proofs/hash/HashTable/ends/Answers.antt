use Rattle.std.proofs.Common.{◌≡◌, Ok, rules, sym, ◌∙◌}
use Rattle.xmas_elf.specs.HashTable.{bucket_of}
use Rattle.xmas_elf.proofs.ChainChecks.{bad_at_fault}
use Rattle.xmas_elf.proofs.ChainPaths.{chain_ends, chain_error}
use Rattle.xmas_elf.proofs.hash.HashTable.ends.Goals as goal

pub returns-in-Ok-0₀ : goal.returns-in-Ok-0₀
returns-in-Ok-0₀ g c =
    (c.in-Ok.first, sym c.get_bucket.ensures.exact ∙ c.in-Ok.is, chain_ends _ _ _ c.in-Ok.first _ _ c.follow_chain.ensures.answer (search rules) (λ i e stop. c.requires.each i (search rules)))

pub returns-in-Err-0₀ : goal.returns-in-Err-0₀
returns-in-Err-0₀ g c =
    let at : bucket_of c.args.self.now c.args.bucket ≡ Ok c.in-Ok.first = cc in
    let follow_chain = rw c.in-Err-0₀.is at c.follow_chain.ensures.answer in
    (c.follow_chain.result.1, rw at (chain_error _ _ _ c.in-Ok.first _ _ follow_chain))

pub returns-in-Err : goal.returns-in-Err
returns-in-Err g c = bad_at_fault c.args.self.now _ c.args.bucket c.in-Err.error (sym c.get_bucket.ensures.exact ∙ c.in-Err.is)
