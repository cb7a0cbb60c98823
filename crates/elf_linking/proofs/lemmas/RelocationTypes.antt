-- What the rows of relocation types have in common.
use Rattle.std.proofs.Common.{◌≡◌, ◌==◌, ◌&&◌, ◌||◌, ◌⊎◌, ◌≤◌, Bool, true, false, ℕ, List, [], ◌∷◌, None, Some, unwrap_or, arith, cond, if◌then◌else◌, inl, inr, not, option_map, refl, subst, sym}
use Rattle.std.specs.List.{find, list_all, list_any}
use Rattle.std.proofs.lemmas.Bool.{and_parts, eqb-true}
use Rattle.elf_linking.specs.RelocationTypes.{is_relative, relative_kind, relative_of, row_of, rows_of}
use Rattle.elf_linking.specs.declared.find.Use.TheVariants.{Any}
use Rattle.elf_linking.specs.declared.references.types.Row.{Row}
use Rattle.elf_linking.specs.declared.references.types.TheConstants.{AARCH64, I386, X86_64}

-- A test that each row of a machine passes, and another row.
module _ (test : Row → Bool) where
  -- the first row of a number passes, or the other
  first_passes : (kind : ℕ) (rows : List Row) (other : Row) → list_all test rows ≡ true → test other ≡ true → test (unwrap_or (find (λ (one : Row). one.kind == kind) rows) other) ≡ true
  first_passes kind [] other all last = last
  first_passes kind (row ∷ rows) other all last =
      let parts = and_parts (test row) (list_all test rows) all in
      by_first (row.kind == kind) parts.0 (first_passes kind rows other parts.1 last)
    where
      by_first : (b : Bool) → test row ≡ true → test (unwrap_or (find (λ (one : Row). one.kind == kind) rows) other) ≡ true → test (unwrap_or (cond b (Some row) (find (λ (one : Row). one.kind == kind) rows)) other) ≡ true
      by_first true first rest = first
      by_first false first rest = rest

  rows_pass : list_all test X86_64 ≡ true → list_all test I386 ≡ true → list_all test AARCH64 ≡ true → (one two three : Bool)
      → list_all test (if one then X86_64 else (if two then I386 else (if three then AARCH64 else []))) ≡ true
  rows_pass a b c true two three = a
  rows_pass a b c false true three = b
  rows_pass a b c false false true = c
  rows_pass a b c false false false = refl

  -- the row of a type passes
  pub row_passes : list_all test X86_64 ≡ true → list_all test I386 ≡ true → list_all test AARCH64 ≡ true → (machine kind : ℕ)
      → test (record { kind = kind; formula = None; width = if machine == 3 then 4 else 8; use_ = Any; names = true; slot = false }) ≡ true
      → test (row_of machine kind) ≡ true
  row_passes a b c machine kind last = first_passes kind (rows_of machine) _ (rows_pass a b c (machine == 62) (machine == 3) (machine == 183)) last

by_machine : (one two three : Bool) → (three ≡ true → one ≡ false) → (three ≡ true → two ≡ false)
    → unwrap_or (option_map (λ (row : Row). row.kind) (find (λ (row : Row). is_relative row.formula) (if one then X86_64 else (if two then I386 else (if three then AARCH64 else []))))) 8 ≡ (if three then 1027 else 8)
by_machine true two true not_one not_two = absurd (let never = not_one refl in cc)
by_machine true two false not_one not_two = refl
by_machine false true true not_one not_two = absurd (let never = not_two refl in cc)
by_machine false true false not_one not_two = refl
by_machine false false true not_one not_two = refl
by_machine false false false not_one not_two = refl

-- the type of relative relocations is the number of their row
pub relative_number : (machine : ℕ) → unwrap_or (option_map (λ (row : Row). row.kind) (relative_of machine)) 8 ≡ relative_kind machine
relative_number machine = by_machine (machine == 62) (machine == 3) (machine == 183)
    (λ is. subst (λ m. (m == 62) ≡ false) (sym (eqb-true machine 183 is)) refl)
    (λ is. subst (λ m. (m == 3) ≡ false) (sym (eqb-true machine 183 is)) refl)

abbrev has_width : Row → Bool
has_width row = row.width == 4 || row.width == 8

either : (width : ℕ) (four eight : Bool) → (width == 4) ≡ four → (width == 8) ≡ eight → (four || eight) ≡ true → (width ≡ 4) ⊎ (width ≡ 8)
either width true eight a b is = inl (eqb-true width 4 a)
either width false true a b is = inr (eqb-true width 8 b)
either width false false a b is = absurd (cc)

of_either : (b : Bool) → ((if b then 4 else 8) == 4 || (if b then 4 else 8) == 8) ≡ true
of_either true = refl
of_either false = refl

-- a relocation writes a number of 4 or of 8 bytes
pub width_is : (machine kind : ℕ) → ((row_of machine kind).width ≡ 4) ⊎ ((row_of machine kind).width ≡ 8)
width_is machine kind = either (row_of machine kind).width _ _ refl refl (row_passes has_width refl refl refl machine kind (of_either (machine == 3)))

-- so at most 8 bytes
pub width_fits : (machine kind : ℕ) → (row_of machine kind).width ≤ 8
width_fits machine kind = elim (width_is machine kind) [ inl four ↦ omega (arith, four) | inr eight ↦ omega (arith, eight) ]

-- no number is in two rows
abbrev has_no_other : List Row → Bool
has_no_other [] = true
has_no_other (row ∷ rows) = not (list_any (λ (other : Row). other.kind == row.kind) rows) && has_no_other rows

x86_64_once : has_no_other X86_64 ≡ true
x86_64_once = refl

i386_once : has_no_other I386 ≡ true
i386_once = refl

aarch64_once : has_no_other AARCH64 ≡ true
aarch64_once = refl
