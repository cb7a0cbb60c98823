use Rattle.std.proofs.Common.{arith}
use Rattle.elf_addresses.specs.Keys.{key_index}
use Rattle.elf_addresses.proofs.Keys.{map_at}
use Rattle.elf_addresses.proofs.index.keys.read_keys.Goals as goal

pub returns : goal.returns
returns c = map_at key_index c.args.keys.now c.loop-place.words c.loop-place.invariant.0 (λ k less. c.loop-place.invariant.1 k (omega arith))
