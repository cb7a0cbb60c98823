-- The addresses in RELR data, word by word.
use Rattle.std.proofs.Common.{◌≡◌, ◌≢◌, ℕ, suc, ◌+◌, ◌-◌, ◌*◌, ◌%◌, ◌^◌, ◌/◌, ◌≤◌, ◌<◌, ◌==◌, List, [], ◌∷◌, ◌++◌, length, Result, Ok, Err, Bool, true, false, if◌then◌else◌, length-append, mul-suc, lit<, refl, sym, ◌∙◌, subst, arith}
use Rattle.std.proofs.lemmas.Bool.{eq-eqb, ne_eqb}
use Rattle.std.proofs.lemmas.List.{length-map}
use Rattle.std.proofs.lemmas.List.FromFn.{length-range_with_len}
use Rattle.std.proofs.Math.Nat.{div-mul-le_self}
use Rattle.std.specs.Int.{bit_at}
use Rattle.std.specs.List.{filter, range_with_len}
use Rattle.elf_linking.specs.declared.error.LinkError.{LinkError}
use Rattle.elf_base.specs.Number.{number}
use Rattle.elf_base.specs.Table.{records}
use Rattle.elf_base.specs.declared.bytes.Order.{Order}
use Rattle.elf_base.specs.declared.header.numbers.Class.{Class}
use Rattle.elf_base.specs.declared.header.numbers.Class.TheVariants.{ThirtyTwo, SixtyFour}
use Rattle.elf_base.proofs.lemmas.RecordLemmas.{length-records}
use Rattle.elf_linking.specs.declared.error.LinkError.TheVariants.{NotMultiple}
use Rattle.elf_linking.specs.Relr.{addresses, addresses_of, marked, marks, place_after, address_after, relr_of}

-- a sublist is no longer than its list
by_test : (passes : Bool) (x : ℕ) (one other : List ℕ) → length one ≤ length other → length (if passes then x ∷ one else one) ≤ suc (length other)
by_test true x one other fewer = omega (arith, fewer)
by_test false x one other fewer = omega (arith, fewer)

length_filter_le : (test : ℕ → Bool) (xs : List ℕ) → length (filter test xs) ≤ length xs
length_filter_le test [] = omega arith
length_filter_le test (x ∷ xs) = by_test (test x) x (filter test xs) xs (length_filter_le test xs)

-- a bitmap without remaining bits marks no address
pub marked_none : (size place bitmap first : ℕ) → marked size place bitmap first 0 ≡ []
unfolding marked
marked_none size place bitmap first = refl

-- the first bit of a bitmap, which is set or isn't
pub marked_set : (size place bitmap first count : ℕ) → first < count → bitmap / 2 ^ (first + 1) % 2 ≡ 1
    → marked size place bitmap first (count - first) ≡ address_after size place first ∷ marked size place bitmap (first + 1) (count - (first + 1))
unfolding marked
marked_set size place bitmap first count below is =
    let more : count - first ≡ suc (count - (first + 1)) = omega arith in
    let set : (bit_at bitmap (first + 1) == 1) ≡ _ = eq-eqb (bit_at bitmap (first + 1)) 1 is in
    rw (more, set) refl

pub marked_unset : (size place bitmap first count : ℕ) → first < count → bitmap / 2 ^ (first + 1) % 2 ≢ 1
    → marked size place bitmap first (count - first) ≡ marked size place bitmap (first + 1) (count - (first + 1))
unfolding marked
marked_unset size place bitmap first count below is =
    let more : count - first ≡ suc (count - (first + 1)) = omega arith in
    let unset : (bit_at bitmap (first + 1) == 1) ≡ _ = ne_eqb (bit_at bitmap (first + 1)) 1 is in
    rw (more, unset) refl

-- no words have no addresses
pub addresses_none : (size place : ℕ) → addresses size place [] ≡ []
unfolding addresses
addresses_none size place = refl

-- a word that is an address
pub addresses_even : (size place word : ℕ) (words : List ℕ) → word % 2 ≡ 0
    → addresses size place (word ∷ words) ≡ word ∷ addresses size (address_after size word 1) words
unfolding addresses
addresses_even size place word words even =
    let is : (word % 2 == 0) ≡ _ = eq-eqb (word % 2) 0 even in rw is refl

-- a word that is a bitmap
pub addresses_odd : (size place word : ℕ) (words : List ℕ) → word % 2 ≢ 0
    → addresses size place (word ∷ words) ≡ marked size place word 0 (marks size) ++ addresses size (address_after size place (marks size)) words
unfolding addresses
addresses_odd size place word words odd =
    let is : (word % 2 == 0) ≡ _ = ne_eqb (word % 2) 0 odd in rw is refl

-- the remaining addresses when a bitmap is used up: none, those of an address, or those of a bitmap, and of
-- the words after it
pub rest_end : (size place : ℕ) (left words : List ℕ) → left ≡ [] → words ≡ [] → left ++ addresses size place words ≡ []
rest_end size place left words bare none = rw (bare, none) (addresses_none size place)

pub rest_even : (size place word : ℕ) (left words others : List ℕ) → left ≡ [] → words ≡ word ∷ others → word % 2 ≡ 0
    → left ++ addresses size place words ≡ word ∷ addresses size (address_after size word 1) others
rest_even size place word left words others bare begins even = rw (bare, begins) (addresses_even size place word others even)

pub rest_odd : (size place word : ℕ) (left words others : List ℕ) → left ≡ [] → words ≡ word ∷ others → word % 2 ≢ 0
    → left ++ addresses size place words ≡ marked size place word 0 (marks size) ++ addresses size (address_after size place (marks size)) others
rest_odd size place word left words others bare begins odd = rw (bare, begins) (addresses_odd size place word others odd)

-- the remaining addresses after a bitmap was read
taken_up_by : (size place behind word count : ℕ) (left words others whole : List ℕ) → left ++ addresses size place words ≡ whole → left ≡ []
    → words ≡ word ∷ others → word % 2 ≢ 0 → behind ≡ address_after size place (marks size) → count ≡ marks size
    → marked size place word 0 count ++ addresses size behind others ≡ whole
taken_up_by size place behind word count left words others whole before bare begins odd is all =
    rw (is, all) (sym (rest_odd size place word left words others bare begins odd) ∙ before)

pub taken_up : (size size' place place' behind word : ℕ) (left words others whole : List ℕ) → left ++ addresses size place words ≡ whole → left ≡ []
    → words ≡ word ∷ others → word % 2 ≢ 0 → size' ≡ size → place' ≡ place → behind ≡ address_after size' place' (marks size')
    → marked size' place' word 0 (marks size' - 0) ++ addresses size' behind others ≡ whole
taken_up size size' place place' behind word left words others whole before bare begins odd same there is =
    let all : marks size' - 0 ≡ marks size' = omega arith in
    let here : left ++ addresses size' place' words ≡ whole = rw (same, there) before in
    taken_up_by size' place' behind word (marks size' - 0) left words others whole here bare begins odd is all

-- the remaining addresses at the start
pub starts : (size looked_at : ℕ) (words : List ℕ) (answer : Result (List ℕ) LinkError) → answer ≡ Ok (addresses size 0 words) → looked_at ≡ marks size
    → answer ≡ Ok (marked size 0 0 looked_at (marks size - looked_at) ++ addresses size 0 words)
starts size looked_at words answer is all =
    let none : marks size - looked_at ≡ 0 = omega (arith, all) in
    rw (is, none, marked_none size 0 0 looked_at) refl

-- there are no more addresses than bits
marked_fit : (size place bitmap first count : ℕ) → length (marked size place bitmap first count) ≤ count
unfolding marked
marked_fit size place bitmap first count =
    let test : ℕ → Bool = λ k. bit_at bitmap (k + 1) == 1 in
    let places = range_with_len first count in
    let mapped = length-map (filter test places) (address_after size place) in
    let fewer = length_filter_le test places in
    let all = length-range_with_len first count in
    omega (arith, mapped, fewer, all)

of_word : (even : Bool) (size word : ℕ) (those : List ℕ) → 0 < size → length those ≤ marks size → length (if even then word ∷ [] else those) ≤ 8 * size
of_word true size word those above few = omega arith
of_word false size word those above few = omega (arith, few)

addresses_fit : (size place : ℕ) (words : List ℕ) → 0 < size → length (addresses size place words) ≤ 8 * size * length words
unfolding addresses
addresses_fit size place [] above = omega arith
addresses_fit size place (word ∷ words) above =
    let here = of_word (word % 2 == 0) size word (marked size place word 0 (marks size)) above (marked_fit size place word 0 (marks size)) in
    let rest = addresses_fit size (place_after size place word) words above in
    let both = length-append (addresses_of size place word) (addresses size (place_after size place word) words) in
    let more : 8 * size * suc (length words) ≡ 8 * size * length words + 8 * size = mul-suc (8 * size) (length words) in
    rw (both, more) (omega (arith, here, rest))

pub words_fit : (size place : ℕ) (order : Order) (bytes : List ℕ) → 0 < size
    → length (addresses size place (records size (λ word. number order size 0 word) bytes)) ≤ 8 * length bytes
words_fit size place order bytes above =
    let words = records size (λ word. number order size 0 word) bytes in
    let few = addresses_fit size place words above in
    let count = length-records size (λ word. number order size 0 word) bytes in
    let fits = div-mul-le_self (length bytes) size in
    let same : 8 * size * length words ≡ 8 * (length bytes / size * size) = grind (arith, count) in
    omega (arith, few, same, fits)

in_bytes : (size : ℕ) (order : Order) (bytes items : List ℕ) (whole : Bool) → 0 < size
    → (if whole then Ok (addresses size 0 (records size (λ word. number order size 0 word) bytes)) else Err NotMultiple) ≡ Ok items → length items ≤ 8 * length bytes
in_bytes size order bytes items true above is =
    let same : addresses size 0 (records size (λ word. number order size 0 word) bytes) ≡ items = cc in
    subst (λ list. length list ≤ 8 * length bytes) same (words_fit size 0 order bytes above)
in_bytes size order bytes items false above is = cc

pub relr_fits : (class : Class) (order : Order) (bytes items : List ℕ) → relr_of class order bytes ≡ Ok items → length items ≤ 8 * length bytes
relr_fits ThirtyTwo order bytes items is = in_bytes 4 order bytes items (length bytes % 4 == 0) (lit< tt) is
relr_fits SixtyFour order bytes items is = in_bytes 8 order bytes items (length bytes % 8 == 0) (lit< tt) is
relr_fits _ order bytes items is = cc

-- a number modulo 2 to the 64 and then modulo 2 to the 32
pub narrow_place : (place count : ℕ) → (place + count * 4) % 2 ^ 64 % 2 ^ 32 ≡ address_after 4 place count
unfolding address_after
narrow_place place count = omega arith

pub wide_place : (place count : ℕ) → (place + count * 8) % 2 ^ 64 ≡ address_after 8 place count
unfolding address_after
wide_place place count = refl
