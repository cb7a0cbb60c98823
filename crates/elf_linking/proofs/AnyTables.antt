-- Look-ups by a hash table of either kind: what follows where nothing is found.
use Rattle.std.proofs.Math.Dec.{eqb}
use Rattle.std.proofs.Common.{◌≡◌, ◌≢◌, ◌⊎◌, inl, inr, ℕ, List, Option, None, Some, Result, Ok, Err, Bool, true, false, refl, sym, ap, ◌∙◌, subst}
use Rattle.std.proofs.lemmas.Bool.Decides.{eqb_tells}
use Rattle.std.specs.Borrow.{Bor}
use Rattle.std.specs.Fn.{Shared, FnReturnsAt}
use Rattle.elf_base.specs.declared.error.ElfError.TheVariants.{HashCycle}
use Rattle.elf_linking.specs.AnyTable.{FindsAllBy, IsFor, LooksWhereBy}
use Rattle.elf_linking.proofs.Looks.{looks_once}
use Rattle.elf_linking.specs.DynamicView.{as_link_error}
use Rattle.elf_linking.specs.declared.any_table.AnyTable.{AnyTable}
use Rattle.elf_linking.specs.declared.any_table.AnyTable.TheVariants.{Gnu, Sysv}
use Rattle.elf_linking.specs.declared.error.LinkError.{LinkError}
use Rattle.elf_linking.specs.declared.error.LinkError.TheVariants.{Elf}
use Rattle.xmas_elf.specs.HashTable as gabi
use Rattle.xmas_elf.proofs.lemmas.ChainOnce as gabi_once
use Rattle.xmas_elf.specs.Symbol.{Symbols}
use Rattle.xmas_elf.specs.Symbols.{IsMatch}

-- a number that isn't other than 0 is 0
pub zero_or : (n : ℕ) → (n ≢ 0 → ⊥) → n ≡ 0
zero_or n other = go (eqb_tells n 0)
  where
    go : ((eqb n 0 ≡ true) × (n ≡ 0)) ⊎ ((eqb n 0 ≡ false) × (n ≢ 0)) → n ≡ 0
    go (inl (_, same)) = same
    go (inr (_, some)) = absurd (other some)

-- a symbol that a table is for has the name
pub named_for : {E : Type 0} (table : AnyTable) (symbols : Symbols E) (i : ℕ) (e : E) (name : List ℕ) → IsFor table symbols i e name → symbols.text e ≡ Some name
named_for (Sysv table) symbols i e name global = global.named
named_for (Gnu table) symbols i e name exported = exported.global.named

-- with a test that passes each symbol with P: where nothing is found by a table whose check passed, the table is for
-- no symbol with the name and P
module _ {F E : Type 0} (test : Shared F (Bor E × Unit {0}) Bool) (f : F) (P : E → Type 0) (passes : (e : Bor E) → P e.now → test.post f (e, tt) true) where
  pub none_by : (table : AnyTable) (symbols : Symbols E) (name : List ℕ) (answer : Result (Option (ℕ × E)) LinkError) → answer ≡ Ok None → FindsAllBy table symbols name (IsMatch symbols test f name) answer → (i : ℕ) (e : E) → IsFor table symbols i e name → ¬ P e
  none_by table symbols name answer is_none finds i e is_for has =
      let none : FindsAllBy table symbols name (IsMatch symbols test f name) (Ok None) = subst (FindsAllBy table symbols name (IsMatch symbols test f name)) is_none finds in
      let passed : FnReturnsAt test f e true = record { shown = record { ref_ptr = (0, 0); now = e }; shows = refl; says = record { met = passes (record { ref_ptr = (0, 0); now = e }) has } } in
      none i e is_for (named_for table symbols i e name is_for, passed)

-- the number read is this one, except in a chain of the standard's table that never ends
abbrev pub IsSameCountBy : {E : Type 0} → AnyTable → Result (Option (ℕ × E)) LinkError → ℕ → ℕ → Type 0
IsSameCountBy (Sysv table) answer count same = answer ≢ Err (Elf HashCycle) → count ≡ same
IsSameCountBy (Gnu table) answer count same = count ≡ same

-- a look-up by a table of either kind has only one result
pub looks_once_by : {E : Type 0} (P : ℕ × E → Type 0) (table : AnyTable) (items : List E) (name : List ℕ) (a b : Result (Option (ℕ × E)) LinkError) (n m : ℕ) → LooksWhereBy P table items name a n → LooksWhereBy P table items name b m → (a ≡ b) × IsSameCountBy table a n m
looks_once_by P (Sysv table) items name a b n m (one, looks, is) (other, looks', is') =
    let (same, counted) = gabi_once.looks_once P (gabi.chains_of table items) (gabi.start_of table name) one other n m looks looks' in
    (is ∙ ap as_link_error same ∙ sym is', λ unlike. counted (λ cycle. unlike (is ∙ ap as_link_error cycle)))
looks_once_by P (Gnu table) items name a b n m looks looks' = looks_once P table items name a b n m looks looks'
