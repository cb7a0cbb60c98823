-- The number of symbols in a chain, counted along the traversal, and what it says of the table.
use Rattle.std.proofs.Common.{◌≡◌, ◌≢◌, ◌<◌, ◌≤◌, ◌+◌, ◌%◌, ◌/◌, ℕ, inl, inr, List, Some, Ok, Bool, IsTrue, ◌↔◌, length, slice_get, refl, sym, ◌∙◌, ap, subst, arith}
use Rattle.std.proofs.lemmas.Bool.{cases_order}
use Rattle.std.proofs.lemmas.Option.{slice_get_within}
use Rattle.std.specs.Int.{from_bool}
use Rattle.elf_records.specs.HashNumber.{hash_number}
use Rattle.xmas_elf.specs.Prelude.{HashTable}
use Rattle.xmas_elf.specs.HashTable.{Belongs, Comes, IsHeldBelow, IsHeldBy, IsReached, MustBeHeld, bucket_count_of, bucket_of, chains_of}
use Rattle.xmas_elf.specs.Counted.{IsCount}
use Rattle.xmas_elf.specs.Symbol.{IsGlobal, Symbols}
use Rattle.xmas_elf.proofs.ChainChecks.{named_once}
use Rattle.xmas_elf.proofs.ChainPaths.{Passes, Picked, apart_before, by_order, comes_same, count_next, end_links, goes_on}
use Rattle.xmas_elf.proofs.ChainStarts.{start_at, start_some}
use Rattle.xmas_elf.proofs.SymbolCounts.{count_all, count_join, count_lacks, count_none, count_same}

module _ {E : Type 0} (table : HashTable) (symbols : Symbols E) where
  -- a symbol belongs to only one bucket
  belongs_once : (k l x : ℕ) → Belongs table symbols k x → Belongs table symbols l x → k ≡ l
  belongs_once k l x (e, name, global, bucket) (d, other, global', bucket') =
      sym bucket ∙ ap (λ n. hash_number n % bucket_count_of table) (named_once table symbols x e d name other global global') ∙ bucket'

  -- the symbols counted in a traversal from a bucket to the end are those found in that bucket
  pub picked_held : (k first n i many : ℕ) → bucket_of table k ≡ Ok first → i ≡ 0 → Comes (chains_of table symbols.items) first n i → Picked (chains_of table symbols.items) (Belongs table symbols k) first n many → IsCount (IsHeldBy table symbols k) many
  picked_held k first n i many at end c p =
      let chains = chains_of table symbols.items in
      count_same (Passes chains (Belongs table symbols k) first n) (IsHeldBy table symbols k) many
      (λ x (b, (m, below, on)). (b, (first, at, (m, on))))
      (λ x (b, (first', at', (m, on'))). (
      let start : first' ≡ first = cc in
      let on : Comes chains first m x = subst (λ z. Comes chains z m x) start on' in
      by_order chains (Passes chains (Belongs table symbols k) first n x) m n
      (λ same. absurd (let here : x ≡ i = comes_same chains first m n x i same on c in let (e, name, global, bucket) = b in let some : 0 < x = global.not_first in omega arith))
      (λ earlier. (b, (m, earlier, on)))
      (λ later. absurd (let (j, l) = goes_on chains first m x n i on later c in end_links chains i j end l))))
      (p (apart_before chains first n i n c (λ m below on. (let (j, l) = goes_on chains first n i m i c below on in end_links chains i j end l)) (omega arith)))

  pub held_none : IsCount (IsHeldBelow table symbols 0) 0
  held_none = count_none (IsHeldBelow table symbols 0) (λ i (k, below, held). omega arith)

  pub held_more : (k n m : ℕ) → IsCount (IsHeldBelow table symbols k) n → IsCount (IsHeldBy table symbols k) m → IsCount (IsHeldBelow table symbols (k + 1)) (n + m)
  held_more k n m before here =
      count_join (IsHeldBelow table symbols k) (IsHeldBy table symbols k) (IsHeldBelow table symbols (k + 1)) n m
      (λ i (l, below, held) held'. (let same : l ≡ k = belongs_once l k i held.0 held'.0 in omega arith))
      (λ i (l, below, held). (l, omega arith, held))
      (λ i held. (k, omega arith, held))
      (λ i (l, below, held). elim (cases_order l k) [
        | inl same ↦ inr (subst (λ z. IsHeldBy table symbols z i) same held)
        | inr other ↦ elim other [ inl earlier ↦ inl (l, earlier, held) | inr later ↦ absurd (omega arith) ]
      ])
      before here

  must_be : (i : ℕ) → IsHeldBelow table symbols (bucket_count_of table) i → MustBeHeld symbols i
  must_be i (k, below, ((e, name, global, bucket), held)) = (e, name, global)

  -- a symbol is in the chain of its name exactly if it is found in the bucket of the name
  reached_held : (i : ℕ) (e : E) (name : List ℕ) → IsGlobal symbols i e name → IsReached table symbols.items name i → IsHeldBelow table symbols (bucket_count_of table) i
  reached_held i e name global (first, start, r) =
      let (some, at) = start_at table name (Ok first) start in
      (hash_number name % bucket_count_of table, omega arith, ((e, name, global, refl), (first, at, r)))

  held_reached : (i : ℕ) (e : E) (name : List ℕ) → IsGlobal symbols i e name → IsHeldBelow table symbols (bucket_count_of table) i → IsReached table symbols.items name i
  held_reached i e name global (k, below, (belongs, (first, at, r))) =
      let some : bucket_count_of table ≡ 0 → ⊥ = λ is. omega arith in
      let own : hash_number name % bucket_count_of table ≡ k = belongs_once (hash_number name % bucket_count_of table) k i (e, name, global, refl) belongs in
      let first_at : bucket_of table (hash_number name % bucket_count_of table) ≡ Ok first = ap (bucket_of table) own ∙ at in
      (first, start_some table name some ∙ ap (λ b. Some b) first_at, r)

module _ {E : Type 0} (symbols : Symbols E) where
  -- the number of symbols below an index that must be found, and for one index more
  abbrev pub MustBelow : ℕ → ℕ → Type 0
  MustBelow n i = (i < n) × MustBeHeld symbols i

  pub must_first : IsCount (MustBelow 1) 0
  must_first = count_none (MustBelow 1) (λ i (below, (e, name, global)). (let some : 0 < i = global.not_first in omega arith))

  pub must_next : (n many more : ℕ) (b : Bool) → more ≡ from_bool b → IsTrue b ↔ MustBeHeld symbols n → IsCount (MustBelow n) many → IsCount (MustBelow (n + 1)) (many + more)
  must_next n many more b is said count =
      count_next (MustBelow n) (MustBelow (n + 1)) many n more b is (λ yes. (omega arith, said.0 yes), λ r. said.1 r.1)
      (λ (below, must). omega arith) (λ i (below, must). (omega arith, must))
      (λ i (below, must). elim (cases_order i n) [ inl same ↦ inl same | inr other ↦ elim other [ inl earlier ↦ inr (earlier, must) | inr later ↦ absurd (omega arith) ] ])
      count

  pub must_all : (n many : ℕ) → length symbols.items ≤ n → IsCount (MustBelow n) many → IsCount (MustBeHeld symbols) many
  must_all n many whole count =
      count_same (MustBelow n) (MustBeHeld symbols) many (λ i (below, must). must)
      (λ i (e, name, global). (let within : i < length symbols.items = slice_get_within symbols.items i e global.stands in (omega arith, (e, name, global)))) count

module _ {E : Type 0} (table : HashTable) (symbols : Symbols E) where
  -- if as many symbols are found as must be, each of those that must be is found
  pub all_held : (n m : ℕ) → m ≤ n → IsCount (IsHeldBelow table symbols (bucket_count_of table)) n → IsCount (MustBeHeld symbols) m → (i : ℕ) (e : E) (name : List ℕ) → IsGlobal symbols i e name → IsReached table symbols.items name i
  all_held n m many held must i e name global =
      held_reached table symbols i e name global (count_all (IsHeldBelow table symbols (bucket_count_of table)) (MustBeHeld symbols) n m many (must_be table symbols) held must i (e, name, global))

  -- if fewer symbols are found than must be, one is missing
  pub one_missing : (n m : ℕ) → n < m → IsCount (IsHeldBelow table symbols (bucket_count_of table)) n → IsCount (MustBeHeld symbols) m → (i : ℕ) × (e : E) × (name : List ℕ) × IsGlobal symbols i e name × ¬ IsReached table symbols.items name i
  one_missing n m fewer held must =
      let (i, (e, name, global), lost) = count_lacks (IsHeldBelow table symbols (bucket_count_of table)) (MustBeHeld symbols) n m fewer held must in
      (i, e, name, global, λ r. lost (reached_held table symbols i e name global r))

-- whether a symbol belongs to a bucket, by the symbol at the index
pub belongs_by : {E : Type 0} (table : HashTable) (symbols : Symbols E) (k i : ℕ) (e : E) (b : Bool) → slice_get symbols.items i ≡ Some e → 0 < i → (IsTrue b ↔ ((name : List ℕ) × ((symbols.fields e).info / 16 ≢ 0) × (symbols.text e ≡ Some name) × (hash_number name % bucket_count_of table ≡ k))) → IsTrue b ↔ Belongs table symbols k i
belongs_by table symbols k i e b there above said = (
  λ yes. (let (name, binding, named, bucket) = said.0 yes in (e, name, record { not_first = above; stands = there; binding = binding; named = named }, bucket)),
  λ (d, name, global, bucket). (
      let other : slice_get symbols.items i ≡ Some d = global.stands in
      let same : d ≡ e = cc in
      said.1 (name, subst (λ z. (symbols.fields z).info / 16 ≢ 0) same global.binding, subst (λ z. symbols.text z ≡ Some name) same global.named, bucket)),
)
