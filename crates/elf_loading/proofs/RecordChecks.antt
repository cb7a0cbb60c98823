-- Searches of the records of a table, one by one.
use Rattle.std.proofs.Common.{◌≡◌, ℕ, ◌-◌, ◌==◌, not, true, false, List, [], ◌∷◌, refl, ap, ◌∙◌}
use Rattle.std.proofs.lemmas.Bool.{eq-eqb, ne_eqb}
use Rattle.std.specs.List.{list_any}
use Rattle.elf_loading.specs.Types.{Reference}
use Rattle.elf_loading.specs.ImageTables.{is_no_slot, lacks_kind}

pub slot_first : (machine : ℕ) (items others : List Reference) (one : Reference) → items ≡ one ∷ others → is_no_slot machine one ≡ true → list_any (is_no_slot machine) items ≡ true
slot_first machine items others one is hit = ap (list_any (is_no_slot machine)) is ∙ rw hit refl

pub slot_rest : (machine : ℕ) (items others : List Reference) (one : Reference) → items ≡ one ∷ others → is_no_slot machine one ≡ false → list_any (is_no_slot machine) items ≡ list_any (is_no_slot machine) others
slot_rest machine items others one is miss = ap (list_any (is_no_slot machine)) is ∙ rw miss refl

pub slot_end : (machine : ℕ) (items : List Reference) → items ≡ [] → list_any (is_no_slot machine) items ≡ false
slot_end machine items is = ap (list_any (is_no_slot machine)) is

-- no more are wanted
pub none_wanted : (kind count : ℕ) (items others : List Reference) (one : Reference) → items ≡ one ∷ others → count ≡ 0 → lacks_kind kind count items ≡ false
none_wanted kind count items others one is none = ap (lacks_kind kind count) is ∙ rw (eq-eqb count 0 none) refl

-- the first is of another type
pub other_first : (kind count : ℕ) (items others : List Reference) (one : Reference) → items ≡ one ∷ others → (count ≡ 0 → ⊥) → (one.kind ≡ kind → ⊥) → lacks_kind kind count items ≡ true
other_first kind count items others one is some other = ap (lacks_kind kind count) is ∙ rw (ne_eqb count 0 some, ne_eqb one.kind kind other) refl

-- the first is one of those that are wanted
pub passed_first : (kind count : ℕ) (items others : List Reference) (one : Reference) → items ≡ one ∷ others → (count ≡ 0 → ⊥) → one.kind ≡ kind → lacks_kind kind count items ≡ lacks_kind kind (count - 1) others
passed_first kind count items others one is some same = ap (lacks_kind kind count) is ∙ rw (ne_eqb count 0 some, eq-eqb one.kind kind same) refl

-- no relocation is left
pub none_there : (kind count : ℕ) (items : List Reference) → items ≡ [] → lacks_kind kind count items ≡ not (count == 0)
none_there kind count items is = ap (lacks_kind kind count) is
