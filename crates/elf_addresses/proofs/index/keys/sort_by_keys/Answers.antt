use Rattle.std.proofs.Common.{List, ℕ, map, subst, sym}
use Rattle.std.specs.List.Sorted.{IsPermutation}
use Rattle.std.proofs.lemmas.List.Sorted.{All-permutation, IsNonDecreasingBy-from_sort, IsPermutation-map}
use Rattle.elf_addresses.specs.Keys.{IsKey, key_index}
use Rattle.elf_addresses.proofs.Keys.{keys_read}
use Rattle.elf_addresses.proofs.index.keys.sort_by_keys.Goals as goal

pub returns-clause-moved : goal.returns-clause-moved
returns-clause-moved g c =
    let moved = IsPermutation-map key_index c.write_keys.new.keys c.sort_unstable.new.self c.sort_unstable.ensures.permutation in
    subst (λ (xs : List ℕ). IsPermutation c.args.words.now xs) (sym c.read_keys.ensures) (subst (λ (xs : List ℕ). IsPermutation xs (map key_index c.sort_unstable.new.self)) c.write_keys.ensures.words moved)

pub returns-clause-keys : goal.returns-clause-keys
returns-clause-keys g c =
    let range_of = g.C.Claims.range_of c.args.claims.now in
    keys_read range_of c.args.least c.read_keys.new.words c.sort_unstable.new.self c.read_keys.ensures (All-permutation (IsKey range_of c.args.least) c.write_keys.new.keys c.sort_unstable.new.self c.sort_unstable.ensures.permutation c.write_keys.ensures.keys)

pub returns-clause-rising : goal.returns-clause-rising
returns-clause-rising g c = λ j k le within. IsNonDecreasingBy-from_sort (λ (x : ℕ). x) c.sort_unstable.new.self c.sort_unstable.ensures.sorted j k 0 le within
