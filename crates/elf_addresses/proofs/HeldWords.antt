-- An index is well built exactly if its words are so place by place.
use Rattle.std.proofs.Common.{◌≡◌, ◌<◌, ◌+◌, ℕ, Bool, true, false, List, length, Option, Some}
use Rattle.elf_addresses.specs.Held.{InBlocks, InOrder, InRanges, IsHeld}
use Rattle.elf_addresses.specs.Index.{AreLasting, AreRanges, IsWellBuilt, IsWord, IsWorstFirst}
use Rattle.elf_addresses.specs.declared.claim.Claim.{Claim}
use Rattle.elf_addresses.proofs.Listed.{all_words, each_in_order, in_order_here, length_words, next_in_order, order_from_next}

module _ (claim_of : ℕ → Option Claim) (range_of : ℕ → ℕ × ℕ) (count : ℕ) (own : (i : ℕ) (claim : Claim) → claim_of i ≡ Some claim → claim.index ≡ i) (within : (i : ℕ) (claim : Claim) → claim_of i ≡ Some claim → i < count) where
  pub in_order : (is_open : Bool) (words : List ℕ) → IsWorstFirst claim_of is_open words → InOrder claim_of is_open count words
  in_order is_open words wf = (
    length_words claim_of is_open count own within words wf,
    λ place less. in_order_here claim_of is_open words place wf less,
  )

  pub worst_first : (is_open : Bool) (words : List ℕ) → InOrder claim_of is_open count words → IsWorstFirst claim_of is_open words
  worst_first is_open words (many, all) =
      let each : (k : ℕ) → k < length words → IsWord claim_of is_open words k = λ k less. each_in_order claim_of is_open words k less (all k less) in
      all_words claim_of is_open count own within words each
      (order_from_next claim_of is_open words each (λ k a b sa sb. next_in_order claim_of is_open words k a b (all (k + 1) sb.0) sa sb)) many

  pub in_blocks : (words lasting : List ℕ) → AreLasting range_of words lasting → InBlocks range_of words lasting
  in_blocks words lasting are = (are.count, λ place less. ((are.each place less).inside, (are.each place less).last))

  pub are_lasting : (words lasting : List ℕ) → InBlocks range_of words lasting → AreLasting range_of words lasting
  are_lasting words lasting (many, all) = record {
    count = many;
    each = λ place less. record { inside = (all place less).0; last = (all place less).1 };
  }

  pub in_ranges : (words begins sizes : List ℕ) → AreRanges range_of words begins sizes → InRanges range_of words begins sizes
  in_ranges words begins sizes are = (are.begin_count, are.size_count, are.begin_at, are.size_at)

  pub are_ranges : (words begins sizes : List ℕ) → InRanges range_of words begins sizes → AreRanges range_of words begins sizes
  are_ranges words begins sizes (many, as_many, firsts, others) = record {
    begin_count = many;
    size_count = as_many;
    begin_at = firsts;
    size_at = others;
  }

  pub held : (sized begins sizes lasting starts : List ℕ) → IsWellBuilt claim_of range_of sized begins sizes lasting starts → IsHeld claim_of range_of count sized begins sizes lasting starts
  held sized begins sizes lasting starts built = (in_order false sized built.order, in_ranges sized begins sizes built.ranges, in_blocks sized lasting built.blocks, in_order true starts built.rest)

  pub well_built : (sized begins sizes lasting starts : List ℕ) → IsHeld claim_of range_of count sized begins sizes lasting starts → IsWellBuilt claim_of range_of sized begins sizes lasting starts
  well_built sized begins sizes lasting starts (order, ranges, blocks, rest) = record {
    order = worst_first false sized order;
    ranges = are_ranges sized begins sizes ranges;
    blocks = are_lasting sized lasting blocks;
    rest = worst_first true starts rest;
  }
