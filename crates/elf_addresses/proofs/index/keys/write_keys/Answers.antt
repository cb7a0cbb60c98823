use Rattle.std.proofs.Common.{sym, arith}
use Rattle.std.proofs.lemmas.List.Elements.{All-from_get_or}
use Rattle.elf_addresses.specs.Keys.{IsKey, key_index}
use Rattle.elf_addresses.proofs.Keys.{map_at}
use Rattle.elf_addresses.proofs.index.keys.write_keys.Goals as goal

pub returns-clause-words : goal.returns-clause-words
returns-clause-words g c =
    sym (map_at key_index c.loop-place.keys c.args.words.now (sym c.loop-place.invariant.0) (λ k less. sym (c.loop-place.invariant.1 k (omega (arith, c.loop-place.invariant.0)))))

pub returns-clause-keys : goal.returns-clause-keys
returns-clause-keys g c =
    All-from_get_or (IsKey (g.C.Claims.range_of c.args.claims.now) c.args.least) c.loop-place.keys 0 (λ k less. c.loop-place.invariant.2 k (omega (arith, c.loop-place.invariant.0)))
