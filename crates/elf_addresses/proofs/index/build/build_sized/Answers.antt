use Rattle.std.proofs.Common.{◌≡◌, ◌++◌, ℕ, false, true, List, length, refl, ap, ◌∙◌, arith}
use Rattle.elf_addresses.specs.Index.{listed}
use Rattle.elf_addresses.proofs.Build.{built, numbers_kept, words_kept}
use Rattle.elf_addresses.proofs.Lasting.{last_by_words}
use Rattle.elf_addresses.proofs.Listed.{length_listed-le}
use Rattle.elf_addresses.proofs.index.build.build_sized.Goals as goal

pub overflow_add-sized : goal.overflow_add-sized
overflow_add-sized g c =
    let claims = c.args.claims.now in
    let below = length_listed-le (g.C.Claims.claim_of claims) false (g.C.Claims.count claims) in
    omega (arith, below, c.requires.sized, c.count.ensures, c.if-count.false)

pub overflow_add-sized-2 : goal.overflow_add-sized-2
overflow_add-sized-2 g c =
    let claims = c.args.claims.now in
    let below = length_listed-le (g.C.Claims.claim_of claims) false (g.C.Claims.count claims) in
    let below' = length_listed-le (g.C.Claims.claim_of claims) true (g.C.Claims.count claims) in
    omega (arith, below, below', c.requires.sized, c.requires.open, c.count.ensures, c.if-count.false)

pub fill_lasting-requires-clause-few : goal.fill_lasting-requires-clause-few
fill_lasting-requires-clause-few g c =
    let claims = c.args.claims.now in
    let below = length_listed-le (g.C.Claims.claim_of claims) false (g.C.Claims.count claims) in
    omega (arith, below, c.requires.sized, c.count.ensures, c.if-count.false, c.split_at_mut-begins.ensures.front_len, c.fill_orders.auto.numbers, c.fill_ranges.auto.begins)

pub returns-clause-built : goal.returns-clause-built
returns-clause-built g c =
    let claims = c.args.claims.now in
    let claim_of = g.C.Claims.claim_of claims in
    let sized = c.requires.sized in
    let opens = c.requires.open in
    let one : length c.fill_orders.new.sized ≡ length (listed claim_of false (g.C.Claims.count claims)) = omega (arith, sized) in
    let last : length c.fill_orders.new.starts ≡ length (listed claim_of true (g.C.Claims.count claims)) = omega (arith, opens) in
    let ranges = c.fill_ranges.ensures.ranges in
    let begins : length c.fill_ranges.new.begins ≡ length (listed claim_of false (g.C.Claims.count claims)) = omega (arith, one, ranges.begin_count) in
    let sizes : length c.fill_ranges.new.sizes ≡ length (listed claim_of false (g.C.Claims.count claims)) = omega (arith, one, ranges.size_count) in
    let other : length c.fill_lasting.new.lasting ≡ length (listed claim_of false (g.C.Claims.count claims)) = omega (arith, begins, c.fill_lasting.ensures.count) in
    built claim_of (g.C.Claims.range_of claims) (g.C.Claims.count claims) c.fill_orders.new.sized c.fill_lasting.new.lasting c.fill_orders.new.starts c.split_at_mut-starts.result.1.now _ c.fill_ranges.new.begins c.fill_ranges.new.sizes c.split_at_mut-sizes.result.1.now _ refl refl one other last begins sizes c.fill_orders.ensures.sized ranges (last_by_words (g.C.Claims.range_of claims) c.fill_orders.new.sized c.fill_ranges.new.begins c.fill_ranges.new.sizes ranges c.fill_lasting.new.lasting c.fill_lasting.ensures) c.fill_orders.ensures.starts

pub returns-clause-rest : goal.returns-clause-rest
returns-clause-rest g c =
    let m = c.args.size.sized in
    let n = c.args.size.open in
    let one : length c.fill_orders.new.sized ≡ m = omega arith in
    let ranges = c.fill_ranges.ensures.ranges in
    let other : length c.fill_lasting.new.lasting ≡ m = omega (arith, one, ranges.begin_count, c.fill_lasting.ensures.count) in
    let last : length c.fill_orders.new.starts ≡ n = omega arith in
    let first = c.split_at_mut-order in
    let second = c.split_at_mut-lasting in
    let third = c.split_at_mut-starts in
    let was : c.args.words.now ≡ first.result.0.now ++ (second.result.0.now ++ (third.result.0.now ++ third.result.1.now)) = first.ensures.value ∙ ap (λ (xs : List ℕ). first.result.0.now ++ xs) (second.ensures.value ∙ ap (λ (xs : List ℕ). second.result.0.now ++ xs) third.ensures.value) in
    words_kept m n c.fill_orders.new.sized c.fill_lasting.new.lasting c.fill_orders.new.starts third.result.1.now first.result.0.now second.result.0.now third.result.0.now _ c.args.words.now refl was one other last first.ensures.front_len second.ensures.front_len third.ensures.front_len

pub returns-clause-rest_numbers : goal.returns-clause-rest_numbers
returns-clause-rest_numbers g c =
    let m = c.args.size.sized in
    let one : length c.fill_orders.new.sized ≡ m = omega arith in
    let ranges = c.fill_ranges.ensures.ranges in
    let begins : length c.fill_ranges.new.begins ≡ m = omega (arith, one, ranges.begin_count) in
    let sizes : length c.fill_ranges.new.sizes ≡ m = omega (arith, one, ranges.size_count) in
    let first = c.split_at_mut-begins in
    let second = c.split_at_mut-sizes in
    let was : c.args.numbers.now ≡ first.result.0.now ++ (second.result.0.now ++ second.result.1.now) = first.ensures.value ∙ ap (λ (xs : List ℕ). first.result.0.now ++ xs) second.ensures.value in
    numbers_kept m c.fill_ranges.new.begins c.fill_ranges.new.sizes second.result.1.now first.result.0.now second.result.0.now _ c.args.numbers.now refl was begins sizes first.ensures.front_len second.ensures.front_len
