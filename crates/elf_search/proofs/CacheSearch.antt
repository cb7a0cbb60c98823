-- A binary search in a good cache finds what a look-up among all entries finds.
use Rattle.std.proofs.Common.{◌≡◌, ℕ, zero, suc, ◌+◌, ◌-◌, ◌/◌, ◌%◌, ◌^◌, ◌<◌, ◌≤◌, ◌&&◌, Bool, true, false, List, [], ◌∷◌, refl, sym, ◌∙◌, ap, subst, Option, None, Some, arith}
use Rattle.std.specs.Prelude.{◌==◌, nat_lt, if◌then◌else◌}
use Rattle.std.proofs.lemmas.Bool.{both_ways, eqb-false, eqb-true, ltb-false, ltb-true}
use Rattle.std.proofs.lemmas.Cmp.{nat_list_cmp_total}
use Rattle.std.specs.Cmp.{IsTotalOrder, nat_cmp_is}
use Rattle.std.specs.Cmp.Derive.{both_true}
use Rattle.std.specs.Cmp.Lexicographic.{slice_cmp}
use Rattle.std.specs.Ordering.{MatchOrdering, nat_cmp, ordering_then}
use Rattle.std.specs.declared.cmp.Ordering.{Ordering}
use Rattle.std.specs.declared.cmp.Ordering.TheVariants.{Less, Equal, Greater}
use Rattle.elf_search.specs.Pieces.{are_small, name_order, piece_order, pieces, pieces_order}
use Rattle.elf_search.specs.declared.cache.pieces.Piece.{Piece}
use Rattle.elf_search.specs.declared.cache.pieces.Piece.TheVariants.{Number, Byte}
use Rattle.elf_search.specs.Cache.{IsGood, Searches, all_same, first_same, is_entry_inside, is_inside, is_pair_good, is_same, key_of, key_place, looked_up, may_follow, order_at, run_around, run_from, usage_of, used}
use Rattle.elf_search.specs.Cache.Searches.{none, outside, here, after, before}
use Rattle.elf_search.specs.declared.cache.Cache.{Cache}
use Rattle.elf_search.specs.declared.cache.Machine.{Machine}

-- Names without large numbers are in the order of lists of numbers.

abbrev rank : Piece → ℕ
rank (Number n) = 256 + n
rank (Byte b) = (b + 128) % 256

abbrev ranks : List Piece → List ℕ
ranks [] = 128 ∷ []
ranks (p ∷ ps) = rank p ∷ ranks ps

abbrev IsSmall : Piece → Type 0
IsSmall (Number n) = n < 2 ^ 31
IsSmall (Byte b) = Unit {0}

and_left : (a b : Bool) → (a && b) ≡ true → a ≡ true
and_left true b h = refl
and_left false b h = cc

and_right : (a b : Bool) → (a && b) ≡ true → b ≡ true
and_right true b h = h
and_right false b h = cc

small_head : (p : Piece) (ps : List Piece) → are_small (p ∷ ps) ≡ true → IsSmall p
small_head (Number n) ps h = ltb-true n (2 ^ 31) (and_left _ _ h)
small_head (Byte b) ps h = tt

small_tail : (p : Piece) (ps : List Piece) → are_small (p ∷ ps) ≡ true → are_small ps ≡ true
small_tail (Number n) ps h = and_right _ _ h
small_tail (Byte b) ps h = h

number_match : (m n : ℕ) → m < 2 ^ 31 → n < 2 ^ 31 → (same above : Bool) → (m == n) ≡ same → nat_lt ((m + 2 ^ 32 - n) % 2 ^ 32) (2 ^ 31) ≡ above
    → MatchOrdering (if same then Equal else (if above then Greater else Less)) (256 + m < 256 + n) (256 + m ≡ 256 + n) (256 + n < 256 + m)
number_match m n a b true above is is2 = let same : m ≡ n = eqb-true m n is in omega arith
number_match m n a b false true is is2 =
    let differ : m ≡ n → ⊥ = eqb-false m n is in
    let less : (m + 2 ^ 32 - n) % 2 ^ 32 < 2 ^ 31 = ltb-true _ _ is2 in omega arith
number_match m n a b false false is is2 =
    let more : 2 ^ 31 ≤ (m + 2 ^ 32 - n) % 2 ^ 32 = ltb-false _ _ is2 in omega arith

piece_ranked : (p q : Piece) → IsSmall p → IsSmall q → piece_order p q ≡ nat_cmp (rank p) (rank q)
piece_ranked (Number m) (Number n) a b = nat_cmp_is _ _ _ (number_match m n a b (m == n) (nat_lt ((m + 2 ^ 32 - n) % 2 ^ 32) (2 ^ 31)) refl refl)
piece_ranked (Number m) (Byte b) a _ = nat_cmp_is (256 + m) ((b + 128) % 256) Greater (omega arith)
piece_ranked (Byte a) (Number n) _ b = nat_cmp_is ((a + 128) % 256) (256 + n) Less (omega arith)
piece_ranked (Byte a) (Byte b) _ _ = refl

less_than_ranks : (ps : List Piece) → slice_cmp nat_cmp [] (ranks ps) ≡ Less
less_than_ranks [] = refl
less_than_ranks (p ∷ ps) = refl

greater_ranks : (ps : List Piece) → slice_cmp nat_cmp (ranks ps) [] ≡ Greater
greater_ranks [] = refl
greater_ranks (p ∷ ps) = refl

pieces_ranked : (ps qs : List Piece) → are_small ps ≡ true → are_small qs ≡ true → pieces_order ps qs ≡ slice_cmp nat_cmp (ranks ps) (ranks qs)
pieces_ranked [] [] a b = refl
pieces_ranked [] (q ∷ qs) a b = rw (piece_ranked (Byte 0) q tt (small_head q qs b), less_than_ranks qs) refl
pieces_ranked (p ∷ ps) [] a b = rw (piece_ranked p (Byte 0) (small_head p ps a) tt, greater_ranks ps) refl
pieces_ranked (p ∷ ps) (q ∷ qs) a b =
    rw (piece_ranked p q (small_head p ps a) (small_head q qs b), pieces_ranked ps qs (small_tail p ps a) (small_tail q qs b)) refl

-- A name that equals one without large numbers has none.

then_first : (one other : Ordering) → ordering_then one other ≡ Equal → one ≡ Equal
then_first Less other e = cc
then_first Equal other e = refl
then_first Greater other e = cc

then_second : (one other : Ordering) → ordering_then one other ≡ Equal → other ≡ Equal
then_second Less other e = cc
then_second Equal other e = e
then_second Greater other e = cc

then_greater : (one : Ordering) → ordering_then one Greater ≡ Equal → ⊥
then_greater Less e = cc
then_greater Equal e = cc
then_greater Greater e = cc

number_same : (m n : ℕ) (same above : Bool) → (m == n) ≡ same → (if same then Equal else (if above then Greater else Less)) ≡ Equal → m ≡ n
number_same m n true above is e = eqb-true m n is
number_same m n false true is e = cc
number_same m n false false is e = cc

equal_small : (ps qs : List Piece) → pieces_order ps qs ≡ Equal → are_small qs ≡ true → are_small ps ≡ true
equal_small [] qs e s = refl
equal_small (p ∷ ps) [] e s = absurd (then_greater (piece_order p (Byte 0)) e)
equal_small (Number m ∷ ps) (Number n ∷ qs) e s =
    let same : m ≡ n = number_same m n (m == n) (nat_lt ((m + 2 ^ 32 - n) % 2 ^ 32) (2 ^ 31)) refl (then_first _ _ e) in
    both_true (subst (λ k. nat_lt k (2 ^ 31) ≡ true) (sym same) (and_left _ _ s)) (equal_small ps qs (then_second _ _ e) (and_right _ _ s))
equal_small (Number m ∷ ps) (Byte b ∷ qs) e s = cc
equal_small (Byte a ∷ ps) (Number n ∷ qs) e s = cc
equal_small (Byte a ∷ ps) (Byte b ∷ qs) e s = equal_small ps qs (then_second _ _ e) s

-- Orders that stand downwards.

record Descends (order : ℕ → Option Ordering) (n : ℕ) : Type 0 where
  there : (i : ℕ) → i < n → order i ≡ None → ⊥
  down : (i : ℕ) → i + 1 < n → order i ≡ Some Greater → order (i + 1) ≡ Some Greater
  up : (i : ℕ) → i + 1 < n → order (i + 1) ≡ Some Less → order i ≡ Some Less

down_far : (order : ℕ → Option Ordering) (n : ℕ) → Descends order n → (d i : ℕ) → i + d < n → order i ≡ Some Greater → order (i + d) ≡ Some Greater
down_far order n desc zero i h is = let e : i ≡ i + 0 = omega arith in subst (λ k. order k ≡ Some Greater) e is
down_far order n desc (suc d) i h is =
    let e : (i + d) + 1 ≡ i + suc d = omega arith in
    subst (λ k. order k ≡ Some Greater) e (desc.down (i + d) (omega arith) (down_far order n desc d i (omega arith) is))

up_far : (order : ℕ → Option Ordering) (n : ℕ) → Descends order n → (d i : ℕ) → i + d < n → order (i + d) ≡ Some Less → order i ≡ Some Less
up_far order n desc zero i h is = let e : i + 0 ≡ i = omega arith in subst (λ k. order k ≡ Some Less) e is
up_far order n desc (suc d) i h is =
    let e : i + suc d ≡ (i + d) + 1 = omega arith in
    up_far order n desc d i (omega arith) (desc.up (i + d) (omega arith) (subst (λ k. order k ≡ Some Less) e is))

down_to : (order : ℕ → Option Ordering) (n : ℕ) → Descends order n → (i j : ℕ) → i ≤ j → j < n → order i ≡ Some Greater → order j ≡ Some Greater
down_to order n desc i j h b is = let e : i + (j - i) ≡ j = omega arith in
    subst (λ k. order k ≡ Some Greater) e (down_far order n desc (j - i) i (omega arith) is)

up_to : (order : ℕ → Option Ordering) (n : ℕ) → Descends order n → (i j : ℕ) → i ≤ j → j < n → order j ≡ Some Less → order i ≡ Some Less
up_to order n desc i j h b is = let e : j ≡ i + (j - i) = omega arith in
    up_far order n desc (j - i) i (omega arith) (subst (λ k. order k ≡ Some Less) e is)

not_less : (o : Option Ordering) → o ≡ Some Less → is_same o ≡ false
not_less o e = rw e refl

not_greater : (o : Option Ordering) → o ≡ Some Greater → is_same o ≡ false
not_greater o e = rw e refl

is_equal : (o : Option Ordering) → o ≡ Some Equal → is_same o ≡ true
is_equal o e = rw e refl

-- The search.

abbrev NoneBelow : (ℕ → Option Ordering) → ℕ → Type 0
NoneBelow order n = (i : ℕ) → i < n → is_same (order i) ≡ false

abbrev Finds : (ℕ → Option Ordering) → ℕ → Option ℕ → Type 0
Finds order n None = NoneBelow order n
Finds order n (Some k) = (k < n) × (order k ≡ Some Equal)

none_split : (order : ℕ → Option Ordering) (n left end : ℕ) → end ≤ left → ((i : ℕ) → i < left → is_same (order i) ≡ false)
    → ((i : ℕ) → end ≤ i → i < n → is_same (order i) ≡ false) → (i : ℕ) → i < n → (low : Bool) → nat_lt i left ≡ low → is_same (order i) ≡ false
none_split order n left end h low high i b true is = low i (ltb-true i left is)
none_split order n left end h low high i b false is = high i (let most : left ≤ i = ltb-false i left is in omega arith) b

search_finds : (order : ℕ → Option Ordering) (n : ℕ) → Descends order n → (left end : ℕ) (found : Option ℕ) → Searches order left end found
    → end ≤ n → ((i : ℕ) → i < left → is_same (order i) ≡ false) → ((i : ℕ) → end ≤ i → i < n → is_same (order i) ≡ false) → Finds order n found
search_finds order n desc left end found (none _ _ h) b low high = λ i below. none_split order n left end h low high i below (nat_lt i left) refl
search_finds order n desc left end found (outside _ _ h is) b low high = absurd (desc.there ((left + end - 1) / 2) (omega arith) is)
search_finds order n desc left end found (here _ _ h is) b low high = (omega arith, is)
search_finds order n desc left end found (after _ _ _ h is s) b low high =
    search_finds order n desc ((left + end - 1) / 2 + 1) end found s b
    (λ i below. not_less (order i) (up_to order n desc i ((left + end - 1) / 2) (omega arith) (omega arith) is)) high
search_finds order n desc left end found (before _ _ _ h is s) b low high =
    search_finds order n desc left ((left + end - 1) / 2) found s (omega arith) low
    (λ i from below. not_greater (order i) (down_to order n desc ((left + end - 1) / 2) i from below is))

abbrev FindsSame : (ℕ → Option Ordering) → ℕ → Option ℕ → Type 0
FindsSame order n None = Unit {0}
FindsSame order n (Some k) = (k < n) × (order k ≡ Some Equal)

search_same : (order : ℕ → Option Ordering) (n left end : ℕ) (found : Option ℕ) → Searches order left end found → end ≤ n → FindsSame order n found
search_same order n left end found (none _ _ h) b = tt
search_same order n left end found (outside _ _ h is) b = tt
search_same order n left end found (here _ _ h is) b = (omega arith, is)
search_same order n left end found (after _ _ _ h is s) b = search_same order n _ _ found s b
search_same order n left end found (before _ _ _ h is s) b = search_same order n _ _ found s (omega arith)

-- The entries that compare equal.

all_none : (order : ℕ → Option Ordering) (n i : ℕ) → ((j : ℕ) → i ≤ j → j < i + n → is_same (order j) ≡ false) → all_same order n i ≡ []
all_none order zero i h = refl
all_none order (suc n) i h =
    let here : is_same (order i) ≡ false = h i (omega arith) (omega arith) in
    rw here (all_none order n (suc i) (λ j a b. h j (omega arith) (omega arith)))

-- after an entry that doesn't compare equal none does
abbrev StaysOut : (ℕ → Option Ordering) → ℕ → ℕ → Type 0
StaysOut order i end = (j : ℕ) → i ≤ j → j + 1 < end → is_same (order j) ≡ false → is_same (order (j + 1)) ≡ false

out_far : (order : ℕ → Option Ordering) (i end : ℕ) → StaysOut order i end → is_same (order i) ≡ false → (d : ℕ) → i + d < end → is_same (order (i + d)) ≡ false
out_far order i end h is zero b = let e : i ≡ i + 0 = omega arith in subst (λ k. is_same (order k) ≡ false) e is
out_far order i end h is (suc d) b =
    let e : (i + d) + 1 ≡ i + suc d = omega arith in
    subst (λ k. is_same (order k) ≡ false) e (h (i + d) (omega arith) (omega arith) (out_far order i end h is d (omega arith)))

out_to : (order : ℕ → Option Ordering) (i end j : ℕ) → StaysOut order i end → is_same (order i) ≡ false → i ≤ j → j < end → is_same (order j) ≡ false
out_to order i end j h is a b = let e : i + (j - i) ≡ j = omega arith in
    subst (λ k. is_same (order k) ≡ false) e (out_far order i end h is (j - i) (omega arith))

run_step : (order : ℕ → Option Ordering) (n i : ℕ) (same : Bool) → is_same (order i) ≡ same → StaysOut order i (i + suc n)
    → run_from order n (suc i) ≡ all_same order n (suc i) → run_from order (suc n) i ≡ all_same order (suc n) i
run_step order n i true is h rest = rw is (ap (λ xs. i ∷ xs) rest)
run_step order n i false is h rest = rw is (sym (all_none order n (suc i) (λ j a b. out_to order i (i + suc n) j h is (omega arith) (omega arith))))

run_all : (order : ℕ → Option Ordering) (n i : ℕ) → StaysOut order i (i + n) → run_from order n i ≡ all_same order n i
run_all order zero i h = refl
run_all order (suc n) i h =
    run_step order n i (is_same (order i)) refl h (run_all order n (suc i) (λ j a b is. h j (omega arith) (omega arith) is))

skip_all : (order : ℕ → Option Ordering) (f m i k t : ℕ) → k ≡ f + m → t ≡ i + f → ((j : ℕ) → i ≤ j → j < t → is_same (order j) ≡ false)
    → all_same order k i ≡ all_same order m t
skip_all order zero m i k t e e2 h = let a : k ≡ m = omega arith in let b : t ≡ i = omega arith in rw (a, b) refl
skip_all order (suc f) m i k t e e2 h =
    let a : k ≡ suc (f + m) = omega arith in
    let here : is_same (order i) ≡ false = h i (omega arith) (omega arith) in
    rw a (rw here (skip_all order f m (suc i) (f + m) t refl (omega arith) (λ j p q. h j (omega arith) q)))

-- The first entry around a found one.

le_step : (order : ℕ → Option Ordering) (k : ℕ) (same : Bool) → is_same (order k) ≡ same → first_same order k ≤ k → first_same order (suc k) ≤ suc k
le_step order k true is h = rw is (omega arith)
le_step order k false is h = rw is (omega arith)

first_le : (order : ℕ → Option Ordering) (k : ℕ) → first_same order k ≤ k
first_le order zero = omega arith
first_le order (suc k) = le_step order k (is_same (order k)) refl (first_le order k)

between : (order : ℕ → Option Ordering) (j k : ℕ) → j < suc k → (last : Bool) → (j == k) ≡ last → is_same (order k) ≡ true
    → (j < k → is_same (order j) ≡ true) → is_same (order j) ≡ true
between order j k b true is top below = let e : k ≡ j = sym (eqb-true j k is) in subst (λ i. is_same (order i) ≡ true) e top
between order j k b false is top below = below (let differ : j ≡ k → ⊥ = eqb-false j k is in omega arith)

run_first_step : (order : ℕ → Option Ordering) (j k : ℕ) (same : Bool) → is_same (order k) ≡ same → first_same order (suc k) ≤ j → j < suc k
    → (first_same order k ≤ j → j < k → is_same (order j) ≡ true) → is_same (order j) ≡ true
run_first_step order j k true is a b below = let from : first_same order k ≤ j = rw is at a in between order j k b (j == k) refl is (λ h. below from h)
run_first_step order j k false is a b below = let from : suc k ≤ j = rw is at a in absurd (omega arith)

run_first : (order : ℕ → Option Ordering) (k j : ℕ) → first_same order k ≤ j → j < k → is_same (order j) ≡ true
run_first order zero j a b = absurd (omega arith)
run_first order (suc k) j a b = run_first_step order j k (is_same (order k)) refl a b (run_first order k j)

edge_step : (order : ℕ → Option Ordering) (k g : ℕ) (same : Bool) → is_same (order k) ≡ same → first_same order (suc k) ≡ suc g
    → (first_same order k ≡ suc g → is_same (order g) ≡ false) → is_same (order g) ≡ false
edge_step order k g true is e below = below (rw is at e)
edge_step order k g false is e below = let same : suc k ≡ suc g = rw is at e in let here : k ≡ g = omega arith in subst (λ i. is_same (order i) ≡ false) here is

first_edge : (order : ℕ → Option Ordering) (k g : ℕ) → first_same order k ≡ suc g → is_same (order g) ≡ false
first_edge order zero g e = absurd (omega arith)
first_edge order (suc k) g e = edge_step order k g (is_same (order k)) refl e (first_edge order k g)

-- An order that is not that of equals, before or behind one that is.

behind_same : (order : ℕ → Option Ordering) (n k j : ℕ) → Descends order n → order k ≡ Some Equal → k < j → j + 1 < n
    → (o : Option Ordering) → order j ≡ o → is_same o ≡ false → is_same (order (j + 1)) ≡ false
behind_same order n k j desc at a b None is out = absurd (desc.there j (omega arith) is)
behind_same order n k j desc at a b (Some Less) is out = let less : order k ≡ Some Less = up_to order n desc k j (omega arith) (omega arith) is in cc
behind_same order n k j desc at a b (Some Equal) is out = cc
behind_same order n k j desc at a b (Some Greater) is out = not_greater (order (j + 1)) (desc.down j b is)

before_same : (order : ℕ → Option Ordering) (n k g j : ℕ) → Descends order n → order k ≡ Some Equal → k < n → g < k → j ≤ g
    → (o : Option Ordering) → order g ≡ o → is_same o ≡ false → is_same (order j) ≡ false
before_same order n k g j desc at b a c None is out = absurd (desc.there g (omega arith) is)
before_same order n k g j desc at b a c (Some Less) is out = not_less (order j) (up_to order n desc j g c (omega arith) is)
before_same order n k g j desc at b a c (Some Equal) is out = cc
before_same order n k g j desc at b a c (Some Greater) is out = let more : order k ≡ Some Greater = down_to order n desc g k (omega arith) b is in cc

below_first : (order : ℕ → Option Ordering) (n k f : ℕ) → Descends order n → order k ≡ Some Equal → k < n → first_same order k ≡ f
    → (j : ℕ) → 0 ≤ j → j < f → is_same (order j) ≡ false
below_first order n k zero desc at b e j z h = absurd (omega arith)
below_first order n k (suc g) desc at b e j z h =
    let most : first_same order k ≤ k = first_le order k in
    before_same order n k g j desc at b (omega arith) (omega arith) (order g) refl (first_edge order k g e)

stays_step : (order : ℕ → Option Ordering) (n k j : ℕ) → Descends order n → order k ≡ Some Equal → k < n → first_same order k ≤ j → j + 1 < n
    → is_same (order j) ≡ false → (low : Bool) → nat_lt j k ≡ low → (equal : Bool) → (j == k) ≡ equal → is_same (order (j + 1)) ≡ false
stays_step order n k j desc at b a c out true is equal is2 = absurd (both_ways _ out (run_first order k j a (ltb-true j k is)))
stays_step order n k j desc at b a c out false is true is2 =
    let e : k ≡ j = sym (eqb-true j k is2) in absurd (both_ways _ out (subst (λ i. is_same (order i) ≡ true) e (is_equal (order k) at)))
stays_step order n k j desc at b a c out false is false is2 =
    let most : k ≤ j = ltb-false j k is in
    let differ : j ≡ k → ⊥ = eqb-false j k is2 in
    behind_same order n k j desc at (omega arith) c (order j) refl out

run_is_all : (order : ℕ → Option Ordering) (n : ℕ) → Descends order n → (found : Option ℕ) → Finds order n found → run_around order n found ≡ all_same order n 0
run_is_all order n desc None h = sym (all_none order n 0 (λ j a b. h j (omega arith)))
run_is_all order n desc (Some k) h =
    let most : first_same order k ≤ k = first_le order k in
    run_all order (n - first_same order k) (first_same order k)
    (λ j a b out. stays_step order n k j desc h.1 h.0 a (omega arith) out (nat_lt j k) refl (j == k) refl)
    ∙ sym (skip_all order (first_same order k) (n - first_same order k) 0 n (first_same order k) (omega (arith, h.0)) (omega arith)
    (below_first order n k (first_same order k) desc h.1 h.0 refl))

run_is_none : (order : ℕ → Option Ordering) (n : ℕ) → NoneBelow order n → (found : Option ℕ) → FindsSame order n found → run_around order n found ≡ all_same order n 0
run_is_none order n h None f = sym (all_none order n 0 (λ j a b. h j (omega arith)))
run_is_none order n h (Some k) f = absurd (both_ways _ (h k f.0) (is_equal (order k) f.1))

-- Total orders.

module _ (R : List ℕ → List ℕ → Ordering) (total : IsTotalOrder R) where
  flip_greater : (x y : List ℕ) → R x y ≡ Less → R y x ≡ Greater
  flip_greater x y h = rw (total.antisymm y x, h) refl

  flip_less : (x y : List ℕ) → R x y ≡ Greater → R y x ≡ Less
  flip_less x y h = rw (total.antisymm y x, h) refl

  greater_on : (x y z : List ℕ) → R x y ≡ Greater → (o : Ordering) → R y z ≡ o → (o ≡ Less → ⊥) → R x z ≡ Greater
  greater_on x y z h Less is out = absurd (out refl)
  greater_on x y z h Equal is out = flip_greater z x (sym (total.congr y z x is) ∙ flip_less x y h)
  greater_on x y z h Greater is out = flip_greater z x (total.trans z y x (flip_less y z is) (flip_less x y h))

  less_on : (x y z : List ℕ) → R x z ≡ Less → (o : Ordering) → R y z ≡ o → (o ≡ Less → ⊥) → R x y ≡ Less
  less_on x y z h Less is out = absurd (out refl)
  less_on x y z h Equal is out = flip_less y x (total.congr y z x is ∙ flip_greater x z h)
  less_on x y z h Greater is out = total.trans x z y h (flip_less y z is)

-- Good caches.

key_inside : (cache : Cache) (i : ℕ) → is_entry_inside cache i ≡ true → is_inside cache (key_place cache i) ≡ true
unfolding is_entry_inside
key_inside cache i h = and_left _ _ h

order_is : (cache : Cache) (name : List ℕ) (i : ℕ) → is_entry_inside cache i ≡ true → order_at cache name i ≡ Some (name_order name (key_of cache i))
unfolding order_at
order_is cache name i h = rw (key_inside cache i h) refl

may_not_less : (order : Ordering) (one other : Bool) → may_follow order one other ≡ true → order ≡ Less → ⊥
may_not_less Less one other h e = cc
may_not_less Equal one other h e = cc
may_not_less Greater one other h e = cc

pair_not_less : (cache : Cache) (i : ℕ) → is_pair_good cache i ≡ true → name_order (key_of cache i) (key_of cache (i + 1)) ≡ Less → ⊥
unfolding is_pair_good
pair_not_less cache i h = may_not_less _ _ _ h

some_is : (a b : Ordering) → Some a ≡ Some b → a ≡ b
some_is a b e = cc

module _ (cache : Cache) (good : IsGood cache) (name : List ℕ) where
  by_ranks : are_small (pieces name) ≡ true → (i : ℕ) → i < cache.count
      → order_at cache name i ≡ Some (slice_cmp nat_cmp (ranks (pieces name)) (ranks (pieces (key_of cache i))))
  by_ranks small i b =
      order_is cache name i (good.inside i b) ∙ ap (λ o. Some o) (pieces_ranked (pieces name) (pieces (key_of cache i)) small (good.small i b))

  keys_down : (i : ℕ) → i + 1 < cache.count → slice_cmp nat_cmp (ranks (pieces (key_of cache i))) (ranks (pieces (key_of cache (i + 1)))) ≡ Less → ⊥
  keys_down i b less = pair_not_less cache i (good.pairs i b)
      (pieces_ranked (pieces (key_of cache i)) (pieces (key_of cache (i + 1))) (good.small i (omega arith)) (good.small (i + 1) b) ∙ less)

  descends : are_small (pieces name) ≡ true → Descends (order_at cache name) cache.count
  descends small = record {
    there = λ i b is. let e = order_is cache name i (good.inside i b) in cc (e, is);
    down = λ i b is. by_ranks small (i + 1) b ∙ ap (λ o. Some o) (greater_on (slice_cmp nat_cmp) nat_list_cmp_total (ranks (pieces name)) (ranks (pieces (key_of cache i))) (ranks (pieces (key_of cache (i + 1))))
        (some_is _ _ (sym (by_ranks small i (omega arith)) ∙ is)) _ refl (keys_down i b));
    up = λ i b is. by_ranks small i (omega arith) ∙ ap (λ o. Some o) (less_on (slice_cmp nat_cmp) nat_list_cmp_total (ranks (pieces name)) (ranks (pieces (key_of cache i))) (ranks (pieces (key_of cache (i + 1))))
        (some_is _ _ (sym (by_ranks small (i + 1) b) ∙ is)) _ refl (keys_down i b));
  }

  large_differs : are_small (pieces name) ≡ false → (i : ℕ) → i < cache.count → (o : Ordering) → name_order name (key_of cache i) ≡ o → is_same (Some o) ≡ false
  large_differs large i b Less is = refl
  large_differs large i b Equal is = absurd (both_ways _ large (equal_small (pieces name) (pieces (key_of cache i)) is (good.small i b)))
  large_differs large i b Greater is = refl

  large_none : are_small (pieces name) ≡ false → NoneBelow (order_at cache name) cache.count
  large_none large i b = rw (order_is cache name i (good.inside i b)) (large_differs large i b (name_order name (key_of cache i)) refl)

  around_is_all : (found : Option ℕ) → Searches (order_at cache name) 0 cache.count found → (small : Bool) → are_small (pieces name) ≡ small
      → run_around (order_at cache name) cache.count found ≡ all_same (order_at cache name) cache.count 0
  around_is_all found s true is = run_is_all (order_at cache name) cache.count (descends is) found
      (search_finds (order_at cache name) cache.count (descends is) 0 cache.count found s (omega arith) (λ i b. absurd (omega arith)) (λ i a b. absurd (omega arith)))
  around_is_all found s false is = run_is_none (order_at cache name) cache.count (large_none is) found
      (search_same (order_at cache name) cache.count 0 cache.count found s (omega arith))

-- in a good cache a look-up finds what one among all entries finds
pub good_look_up : (cache : Cache) (machine : Machine) (name : List ℕ) (found : Option ℕ) → IsGood cache → Searches (order_at cache name) 0 cache.count found
    → used (usage_of cache machine) (run_around (order_at cache name) cache.count found) ≡ looked_up cache machine name
good_look_up cache machine name found good s =
    ap (λ xs. used (usage_of cache machine) xs) (around_is_all cache good name found s (are_small (pieces name)) refl)
