use Rattle.std.proofs.Common.{take, arith, rules}
use Rattle.elf_records.proofs.HashNumbers.{hash_number-below, shifted_more}
use Rattle.elf_records.proofs.hash.hash_of_bytes.Goals as goal

pub loop-byte-preserved : goal.loop-byte-preserved
loop-byte-preserved c = search (rules, shifted_more)

pub returns-clause-below : goal.returns-clause-below
returns-clause-below c =
    let below = hash_number-below (take c.loop-byte.byte-index c.args.name.now) in
    omega (arith, c.loop-byte.invariant, below)
