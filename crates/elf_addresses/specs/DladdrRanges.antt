-- The claim of a symbol that `dladdr` finds has its index and its range (this project's own).
use Rattle.std.proofs.Common.{◌≡◌, ℕ, Option, Some, slice_get, ap, sym, ◌∙◌, length, ◌<◌}
use Rattle.std.proofs.lemmas.Option.{option_and_then_some, slice_get_within}
use Rattle.xmas_elf.specs.Symbol.{SymbolFields}
use Rattle.xmas_elf.specs.Table.{table_items}
use Rattle.std.specs.Option.{option_map_or}
use Rattle.elf_addresses.specs.Claims.{no_claim}
use Rattle.elf_addresses.specs.Dladdr.{dladdr_claim, dladdr_claims, dladdr_if, dladdr_known, dladdr_range, dladdr_ranges, is_found, reach_of}
use Rattle.elf_addresses.specs.SymbolRanges.{if_some}
use Rattle.elf_addresses.specs.declared.claim.Claim.{Claim}
use Rattle.elf_addresses.specs.declared.dladdr.DladdrSymbols.{DladdrSymbols}

module _ {E : Type 0} {r : _} (fields : E → SymbolFields) (symbols : DladdrSymbols E r) (i : ℕ) (claim : Claim) (is : dladdr_claims fields symbols i ≡ Some claim) where
  -- the claim of the symbol that is there
  claim_is : (found : E) → dladdr_if fields symbols i found ≡ Some claim → dladdr_claim (reach_of symbols.reach i (fields found)) i (fields found) ≡ claim
  claim_is found has =
      let reach = reach_of symbols.reach i (fields found) in
      if_some (is_found symbols.strings.now reach (fields found)) (dladdr_claim reach i (fields found)) claim has

  abbrev known_from : Option E → Claim
  known_from found = option_map_or (λ symbol. dladdr_claim (reach_of symbols.reach i (fields symbol)) i (fields symbol)) found (no_claim i)

  -- an index with a claim is below the number of symbols
  pub dladdr_within : i < length (table_items symbols.table)
  dladdr_within = option_and_then_some (dladdr_if fields symbols i) (slice_get (table_items symbols.table) i) claim is
      (λ found there has. slice_get_within (table_items symbols.table) i found there)

  -- it is known without a test whether the symbol is found
  pub dladdr_knows : dladdr_known fields symbols i ≡ claim
  dladdr_knows = option_and_then_some (dladdr_if fields symbols i) (slice_get (table_items symbols.table) i) claim is
      (λ found there has. ap known_from there ∙ claim_is found has)

  -- a claim has the index of its symbol
  pub dladdr_index : claim.index ≡ i
  dladdr_index = option_and_then_some (dladdr_if fields symbols i) (slice_get (table_items symbols.table) i) claim is
      (λ found there has. ap (λ (k : Claim). k.index) (sym (claim_is found has)))

  -- a claim has the first address and the size of its symbol
  pub dladdr_ranged : dladdr_ranges fields symbols i ≡ (claim.begin, claim.size)
  dladdr_ranged = option_and_then_some (dladdr_if fields symbols i) (slice_get (table_items symbols.table) i) claim is
      (λ found there has. ap (λ (o : Option E). dladdr_range fields o) there ∙ ap (λ (k : Claim). (k.begin, k.size)) (claim_is found has))
