-- Records, one after the other in bytes.
use Rattle.std.proofs.Common.{◌≡◌, ℕ, zero, suc, ◌+◌, ◌*◌, ◌-◌, ◌/◌, ◌%◌, ◌≤◌, ◌<◌, List, [], ◌∷◌, length, length-drop, take, drop, get_or, Some, zero-mul, refl, sym, ap, ◌∙◌, arith, add-one}
use Rattle.std.proofs.Math.Nat.{div-eq-sub-div, zero-div, mod-eq_of_lt, suc-mul}
use Rattle.std.proofs.lemmas.List.{take_all, drop-drop}
use Rattle.std.proofs.lemmas.Option.{slice_get-get_or}
use Rattle.std.specs.Prelude.{slice_get}
use Rattle.elf_base.specs.Table.{first_records, records, record_at}

-- bytes whose number is a multiple of the record size, and not 0, contain a record
one_record : (size n : ℕ) → n % size ≡ 0 → 0 < n → size ≤ n
one_record size n whole more = let h : n < size → n % size ≡ n = mod-eq_of_lt in grind (arith, h)

-- the first record and the others
records-first : {V : Type 0} (size : ℕ) (value : List ℕ → V) (bytes : List ℕ) → 0 < size → size ≤ length bytes
    → records size value bytes ≡ value (take size bytes) ∷ records size value (drop size bytes)
unfolding records first_records
records-first size value bytes above fits =
    let others : length (drop size bytes) ≡ length bytes - size = length-drop size bytes in
    let e : length bytes / size ≡ suc (length (drop size bytes) / size) =
    div-eq-sub-div above fits ∙ add-one ((length bytes - size) / size) ∙ ap (λ n. suc (n / size)) (sym others) in
    ap (λ n. first_records size value n bytes) e

-- the first record and the others, with the others in `&bytes[size..]`
pub records-split : {V : Type 0} (size : ℕ) (value : List ℕ → V) (bytes : List ℕ) → 0 < size → length bytes % size ≡ 0 → 0 < length bytes
    → records size value bytes ≡ value (take size bytes) ∷ records size value (take (length bytes - size) (drop size bytes))
records-split size value bytes above whole more =
    let others = length-drop size bytes in
    let all : take (length bytes - size) (drop size bytes) ≡ drop size bytes = take_all (length bytes - size) (drop size bytes) (omega arith) in
    rw all (records-first size value bytes above (one_record size (length bytes) whole more))

pub records-none : {V : Type 0} (size : ℕ) (value : List ℕ → V) (bytes : List ℕ) → length bytes ≡ 0 → records size value bytes ≡ []
unfolding records first_records
records-none size value bytes none = ap (λ n. first_records size value n bytes) (ap (λ n. n / size) none ∙ zero-div size)

-- the first n records are n
length_first : {V : Type 0} (size : ℕ) (value : List ℕ → V) (n : ℕ) (bytes : List ℕ) → length (first_records size value n bytes) ≡ n
unfolding first_records
length_first size value zero bytes = refl
length_first size value (suc n) bytes = ap suc (length_first size value n (drop size bytes))

pub length-records : {V : Type 0} (size : ℕ) (value : List ℕ → V) (bytes : List ℕ) → length (records size value bytes) ≡ length bytes / size
unfolding records
length-records size value bytes = length_first size value (length bytes / size) bytes

-- record i of the first n records
at_first : {V : Type 0} (size : ℕ) (value : List ℕ → V) (n : ℕ) (bytes : List ℕ) (i : ℕ) (d : V) → i < n
    → get_or (first_records size value n bytes) i d ≡ value (take size (drop (i * size) bytes))
unfolding first_records
at_first size value zero bytes i d below = absurd (omega arith)
at_first size value (suc n) bytes zero d below = rw zero-mul refl
at_first size value (suc n) bytes (suc i) d below =
    let later = at_first size value n (drop size bytes) i d (omega arith) in
    let place : suc i * size ≡ size + i * size = grind (arith, suc-mul) in
    later ∙ ap (λ l. value (take size l)) (drop-drop (i * size) size bytes ∙ ap (λ k. drop k bytes) (sym place))

pub records-at : {V : Type 0} (size : ℕ) (value : List ℕ → V) (bytes : List ℕ) (i : ℕ) (d : V) → i < length (records size value bytes)
    → get_or (records size value bytes) i d ≡ record_at size value bytes i
unfolding records
records-at size value bytes i d below =
    let e = length_first size value (length bytes / size) bytes in
    at_first size value (length bytes / size) bytes i d (omega (arith, e, below))

pub slice_get-records : {V : Type 0} (size : ℕ) (value : List ℕ → V) (bytes : List ℕ) (i : ℕ) → i < length (records size value bytes)
    → slice_get (records size value bytes) i ≡ Some (record_at size value bytes i)
slice_get-records size value bytes i below =
    let d = record_at size value bytes i in
    slice_get-get_or (records size value bytes) i d below ∙ ap Some (records-at size value bytes i d below)
