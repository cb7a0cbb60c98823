-- The first bucket that reaches each symbol, by two passes.
use Rattle.std.proofs.Common.{◌≡◌, ℕ, ◌<◌, ◌≤◌, ◌+◌, ◌==◌, ◌||◌, min, nat_le, zero, suc, List, length, get_or, set, ◌⊎◌, inl, inr, refl, ap, subst, sym, ◌∙◌, arith, get_or-set_other, get_or-set_same}
use Rattle.std.proofs.lemmas.Bool.{cases_Bool, cases_eq, cases_lt, eqb-true, lt-ltb, le-ltb}
use Rattle.std.proofs.lemmas.Grind.{common_steps}
use Rattle.elf_linking.specs.GnuHash.{gnu_bucket_count, bucket_word, first_symbol_of}
use Rattle.elf_linking.specs.declared.gnu_hash.GnuHashTable.{GnuHashTable}
use Rattle.elf_addresses.specs.Reached.{AreReached, AreStarts, GoesOn, IsLeast, Reaches, Starts, earlier, start_word, with_start}

-- the same property has the same least number
pub least_of : (P Q : ℕ → Type 0) (word : ℕ) → ((n : ℕ) → P n → Q n) → ((n : ℕ) → Q n → P n) → IsLeast P word → IsLeast Q word
least_of P Q zero to from none = λ n q. none n (from n q)
least_of P Q (suc k) to from (has, least) = (to k has, λ m q. least m (from m q))

earlier_left : (k : ℕ) → earlier (suc k) 0 ≡ suc k
earlier_left k = first_of (grind (arith, common_steps))

earlier_both : (j k : ℕ) → earlier (suc j) (suc k) ≡ min (suc j) (suc k)
earlier_both j k = first_of (grind (arith, common_steps))

-- the least number with either property
pub least_of_either : (P Q : ℕ → Type 0) (x y : ℕ) → IsLeast P x → IsLeast Q y → IsLeast (λ n. P n ⊎ Q n) (earlier x y)
least_of_either P Q zero zero none none' = λ n either. elim either [ inl p ↦ none n p | inr q ↦ none' n q ]
least_of_either P Q zero (suc k) none (has, least) = (inr has, λ m either. elim either [ inl p ↦ absurd (none m p) | inr q ↦ least m q ])
least_of_either P Q (suc k) zero (has, least) none =
    subst (λ w. IsLeast (λ n. P n ⊎ Q n) w) (sym (earlier_left k)) (inl has, λ m either. elim either [ inl p ↦ least m p | inr q ↦ absurd (none m q) ])
least_of_either P Q (suc j) (suc k) (has, least) (has', least') = elim (cases_lt j k) [
  | inl less ↦
      let same : suc j ≡ earlier (suc j) (suc k) = omega (arith, earlier_both j k) in
      subst (λ w. IsLeast (λ n. P n ⊎ Q n) w) same (inl has, λ m either. elim either [ inl p ↦ least m p | inr q ↦ let le : k ≤ m = least' m q in omega arith ])
  | inr more ↦
      let same : suc k ≡ earlier (suc j) (suc k) = omega (arith, earlier_both j k) in
      subst (λ w. IsLeast (λ n. P n ⊎ Q n) w) same (inr has', λ m either. elim either [ inl p ↦ let le : j ≤ m = least m p in omega arith | inr q ↦ least' m q ])
]

-- where a run begins

start_small : (table : GnuHashTable) (b : ℕ) → bucket_word table b < first_symbol_of table → start_word table b ≡ 0
start_small table b less = rw (lt-ltb (bucket_word table b) (first_symbol_of table) less) refl

start_large : (table : GnuHashTable) (b : ℕ) → first_symbol_of table ≤ bucket_word table b → start_word table b ≡ bucket_word table b
start_large table b more = rw (le-ltb (bucket_word table b) (first_symbol_of table) more) refl

-- the run of a bucket with such a word begins there
starts_there : (table : GnuHashTable) (b i : ℕ) → b < gnu_bucket_count table → 0 < i → start_word table b ≡ i → Starts table i b
starts_there table b i bucket above is = elim (cases_lt (bucket_word table b) (first_symbol_of table)) [
  | inl less ↦ let no : start_word table b ≡ 0 = start_small table b less in absurd (omega arith)
  | inr more ↦
      let word : start_word table b ≡ bucket_word table b = start_large table b more in
      let same : bucket_word table b ≡ i = sym word ∙ is in
      record { bucket = bucket; first = same; above = above; begins = subst (λ n. first_symbol_of table ≤ n) same more }
]

-- a bucket whose run begins there has such a word
word_there : (table : GnuHashTable) (b i : ℕ) → Starts table i b → start_word table b ≡ i
word_there table b i starts =
    start_large table b (subst (λ n. first_symbol_of table ≤ n) (sym starts.first) starts.begins) ∙ starts.first

-- words in which one was written, if it was 0

pub length_start : (words : List ℕ) (start number : ℕ) → length (with_start words start number) ≡ length words
length_start words start number = elim (cases_Bool (start == 0 || nat_le (length words) start)) [
  | inl fails ↦ rw fails refl
  | inr holds ↦ elim (cases_Bool (get_or words start 0 == 0)) [
    | inl empty ↦ rw (holds, empty) (grind (arith, common_steps))
    | inr full ↦ rw (holds, full) refl
  ]
]

kept : (words : List ℕ) (start number i : ℕ) → (i ≡ start → get_or words i 0 ≡ 0 → 0 < i → ⊥) → get_or (with_start words start number) i 0 ≡ get_or words i 0
kept words start number i differs = elim (cases_Bool (start == 0 || nat_le (length words) start)) [
  | inl fails ↦ rw fails refl
  | inr holds ↦ elim (cases_Bool (get_or words start 0 == 0)) [
    | inl empty ↦ elim (cases_eq i start) [
      | inl same ↦ absurd (differs same (ap (λ k. get_or words k 0) same ∙ eqb-true (get_or words start 0) 0 empty) (first_of (grind (arith, common_steps))))
      | inr differ ↦ rw (holds, empty) (rw get_or-set_other refl)
    ]
    | inr full ↦ rw (holds, full) refl
  ]
]

written : (words : List ℕ) (i number : ℕ) → 0 < i → i < length words → get_or words i 0 ≡ 0 → get_or (with_start words i number) i 0 ≡ number
written words i number above within empty = first_of (grind (arith, common_steps))

-- one bucket more
pub starts_next : (table : GnuHashTable) (words : List ℕ) (k : ℕ) → k < gnu_bucket_count table → AreStarts table k words → AreStarts table (k + 1) (with_start words (start_word table k) (k + 1))
starts_next table words k bucket are i within =
    let inside : i < length words = subst (λ n. i < n) (length_start words (start_word table k) (k + 1)) within in
    step inside (get_or words i 0) refl (are i inside)
  where
    new : List ℕ
    new = with_start words (start_word table k) (k + 1)

    Now : ℕ → Type 0
    Now b = (b < k + 1) × Starts table i b

    full : (n : ℕ) → get_or words i 0 ≡ suc n → IsLeast (λ b. (b < k) × Starts table i b) (suc n) → IsLeast Now (get_or new i 0)
    full n is ((below, starts), least) =
        let same : get_or new i 0 ≡ suc n = kept words (start_word table k) (k + 1) i (λ _ is_zero _. absurd (omega arith)) ∙ is in
        subst (λ w. IsLeast Now w) (sym same) (
          (omega arith, starts),
          λ m has. elim (cases_lt m k) [
            | inl less ↦ least m (less, has.1)
            | inr more ↦ omega arith
          ],
        )

    empty : get_or words i 0 ≡ 0 → i < length words → ((b : ℕ) → (b < k) × Starts table i b → ⊥) → IsLeast Now (get_or new i 0)
    empty is inside none = elim (cases_eq (start_word table k) i) [
      | inl same ↦ elim (cases_lt 0 i) [
        | inl above ↦
            let word : get_or new i 0 ≡ k + 1 = subst (λ s. get_or (with_start words s (k + 1)) i 0 ≡ k + 1) (sym same) (written words i (k + 1) above inside is) in
            let after : get_or new i 0 ≡ suc k = omega arith in
            subst (λ w. IsLeast Now w) (sym after) (
              (omega arith, starts_there table k i bucket above same),
              λ m has. elim (cases_lt m k) [
                | inl less ↦ absurd (none m (less, has.1))
                | inr more ↦ more
              ],
            )
        | inr none_above ↦
            let word : get_or new i 0 ≡ 0 = kept words (start_word table k) (k + 1) i (λ _ _ above. absurd (omega arith)) ∙ is in
            subst (λ w. IsLeast Now w) (sym word) (λ n has. let above : 0 < i = has.1.above in absurd (omega arith))
      ]
      | inr differ ↦
          let word : get_or new i 0 ≡ 0 = kept words (start_word table k) (k + 1) i (λ eq _ _. differ (sym eq)) ∙ is in
          subst (λ w. IsLeast Now w) (sym word) (λ n has. elim (cases_lt n k) [
            | inl less ↦ none n (less, has.1)
            | inr more ↦ let last : n ≡ k = omega (arith, has.0) in differ (subst (λ b. start_word table b ≡ i) last (word_there table n i has.1))
          ])
    ]

    step : i < length words → (w : ℕ) → get_or words i 0 ≡ w → IsLeast (λ b. (b < k) × Starts table i b) (get_or words i 0) → IsLeast Now (get_or new i 0)
    step inside zero is least = empty is inside (subst (λ w. IsLeast (λ b. (b < k) × Starts table i b) w) is least)
    step inside (suc n) is least = full n is (subst (λ w. IsLeast (λ b. (b < k) × Starts table i b) w) is least)

-- no bucket has a run yet
pub starts_none : (table : GnuHashTable) (words : List ℕ) → ((i : ℕ) → get_or words i 0 ≡ 0) → AreStarts table 0 words
starts_none table words zeros i within =
    subst (λ w. IsLeast (λ b. (b < 0) × Starts table i b) w) (sym (zeros i)) (λ n has. let below : n < 0 = has.0 in absurd (omega arith))

-- the second pass

-- bucket b reaches symbol i from one before it
pub record Comes (table : GnuHashTable) (i b : ℕ) : Type 0 where
  pub from : ℕ
  pub starts : Starts table from b
  pub before : from < i
  pub goes_on : (j : ℕ) → from ≤ j → j < i → GoesOn table j

-- the words before i are those of the buckets that reach them, the others those of the runs that begin there
pub record Passed (table : GnuHashTable) (words : List ℕ) (i least : ℕ) : Type 0 where
  pub done : (j : ℕ) → j < i → j < length words → IsLeast (Reaches table j) (get_or words j 0)
  pub rest : (j : ℕ) → i ≤ j → j < length words → IsLeast (λ b. (b < gnu_bucket_count table) × Starts table j b) (get_or words j 0)
  pub first : IsLeast (Comes table i) least

pub passed_none : (table : GnuHashTable) (words : List ℕ) → AreStarts table (gnu_bucket_count table) words → Passed table words 0 0
passed_none table words are = record {
  done = λ j less _. absurd (omega arith);
  rest = λ j _ within. are j within;
  first = λ n comes. let before : comes.from < 0 = comes.before in absurd (omega arith);
}

-- a bucket reaches a symbol from before it, or its run begins there
reaches_by : (table : GnuHashTable) (i b : ℕ) → Comes table i b ⊎ ((b < gnu_bucket_count table) × Starts table i b) → Reaches table i b
reaches_by table i b (inl comes) = record { from = comes.from; starts = comes.starts; before = (let less : comes.from < i = comes.before in omega arith); goes_on = comes.goes_on }
reaches_by table i b (inr (_, starts)) = record { from = i; starts = starts; before = omega arith; goes_on = λ j from to. absurd (omega arith) }

by_reaches : (table : GnuHashTable) (i b : ℕ) → Reaches table i b → Comes table i b ⊎ ((b < gnu_bucket_count table) × Starts table i b)
by_reaches table i b reaches = elim (cases_eq reaches.from i) [
  | inl same ↦ let starts : Starts table i b = subst (λ k. Starts table k b) same reaches.starts in inr (starts.bucket, starts)
  | inr differ ↦ inl (record { from = reaches.from; starts = reaches.starts; before = (let le : reaches.from ≤ i = reaches.before in omega arith); goes_on = reaches.goes_on })
]

-- the word of the symbol that comes next
reached_next : (table : GnuHashTable) (words : List ℕ) (i first : ℕ) → i < length words → Passed table words i first → IsLeast (Reaches table i) (earlier first (get_or words i 0))
reached_next table words i first within passed =
    least_of (λ b. Comes table i b ⊎ ((b < gnu_bucket_count table) × Starts table i b)) (Reaches table i) (earlier first (get_or words i 0)) (λ b either. reaches_by table i b either) (λ b reaches. by_reaches table i b reaches)
    (least_of_either (Comes table i) (λ b. (b < gnu_bucket_count table) × Starts table i b) first (get_or words i 0) passed.first (passed.rest i (omega arith) within))

module _ (table : GnuHashTable) (words : List ℕ) (i first word : ℕ) (within : i < length words) (passed : Passed table words i first) (is : word ≡ earlier first (get_or words i 0)) where
  here : IsLeast (Reaches table i) word
  here = subst (λ w. IsLeast (Reaches table i) w) (sym is) (reached_next table words i first within passed)

  shorter : (j : ℕ) → j < length (set words i word) → j < length words
  shorter j less = let same : length (set words i word) ≡ length words = first_of (grind (arith, common_steps)) in omega arith

  other : (j : ℕ) → (j ≡ i → ⊥) → get_or (set words i word) j 0 ≡ get_or words j 0
  other j differ = rw get_or-set_other refl

  own : get_or (set words i word) i 0 ≡ word
  own = rw get_or-set_same refl

  done_next : (j : ℕ) → j < i + 1 → j < length (set words i word) → IsLeast (Reaches table j) (get_or (set words i word) j 0)
  done_next j less inside = elim (cases_eq j i) [
    | inl same ↦ subst (λ k. IsLeast (Reaches table k) (get_or (set words i word) k 0)) (sym same) (subst (λ w. IsLeast (Reaches table i) w) (sym own) here)
    | inr differ ↦ subst (λ w. IsLeast (Reaches table j) w) (sym (other j differ)) (passed.done j (omega arith) (shorter j inside))
  ]

  rest_next : (j : ℕ) → i + 1 ≤ j → j < length (set words i word) → IsLeast (λ b. (b < gnu_bucket_count table) × Starts table j b) (get_or (set words i word) j 0)
  rest_next j from inside =
      subst (λ w. IsLeast (λ b. (b < gnu_bucket_count table) × Starts table j b) w) (sym (other j (λ same. absurd (omega arith)))) (passed.rest j (omega arith) (shorter j inside))

  -- the run goes on
  pub passed_on : GoesOn table i → Passed table (set words i word) (i + 1) word
  passed_on on = record {
    done = done_next;
    rest = rest_next;
    first = least_of (Reaches table i) (Comes table (i + 1)) word
        (λ b reaches. record {
          from = reaches.from;
          starts = reaches.starts;
          before = (let le : reaches.from ≤ i = reaches.before in omega arith);
          goes_on = λ j from to. elim (cases_eq j i) [
            | inl same ↦ subst (λ k. GoesOn table k) (sym same) on
            | inr differ ↦ reaches.goes_on j from (omega arith)
          ];
        })
        (λ b comes. record {
          from = comes.from;
          starts = comes.starts;
          before = (let less : comes.from < i + 1 = comes.before in omega arith);
          goes_on = λ j from to. comes.goes_on j from (omega arith);
        })
        here;
  }

  -- the run ends
  pub passed_end : (GoesOn table i → ⊥) → Passed table (set words i word) (i + 1) 0
  passed_end ends = record {
    done = done_next;
    rest = rest_next;
    first = λ b comes. let less : comes.from < i + 1 = comes.before in ends (comes.goes_on i (omega arith) (omega arith));
  }

pub passed_all : (table : GnuHashTable) (words : List ℕ) (i first : ℕ) → length words ≤ i → Passed table words i first → AreReached table words
passed_all table words i first all passed j within = passed.done j (omega arith) within
