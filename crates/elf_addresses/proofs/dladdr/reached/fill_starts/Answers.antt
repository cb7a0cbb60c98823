use Rattle.std.proofs.Common.{◌+◌, arith, ap, sym, subst, ◌∙◌}
use Rattle.std.proofs.lemmas.Grind.{common_steps}
use Rattle.elf_addresses.specs.Reached.{AreStarts, with_start}
use Rattle.elf_addresses.proofs.Reached.{starts_next, starts_none}
use Rattle.elf_addresses.proofs.dladdr.reached.fill_starts.Goals as goal

pub loop-bucket-init : goal.loop-bucket-init
loop-bucket-init c = starts_none c.args.table.now _ (λ i. first_of (cc, grind (arith, common_steps)))

pub loop-bucket-preserved : goal.loop-bucket-preserved
loop-bucket-preserved c =
    let bucket = c.loop-bucket.bucket in
    let words = c.loop-bucket.words in
    subst (λ ws. AreStarts c.args.table.now (bucket + 1) ws) (sym (c.put_start.ensures ∙ ap (λ start. with_start words start (bucket + 1)) c.start_of-start.ensures))
    (starts_next c.args.table.now words bucket (omega arith) c.loop-bucket.invariant)
