-- A search by GNU's table comes to an index: what a look-up for a property says there.
use Rattle.std.proofs.Common.{◌≡◌, ℕ, ◌+◌, ◌-◌, ◌/◌, ◌≤◌, ◌⊎◌, inl, inr, List, Option, Some, None, Result, Ok, Err, refl, sym, subst, slice_get, arith}
use Rattle.elf_linking.specs.Find.{DynamicSymbols, IsAsked, IsFound, Seeks, asked_first, dynamic_symbols, faulty}
use Rattle.elf_linking.specs.GnuHash.{EndsRun, IsThere, Lacks, NoHit, Run, GnuStops, chain_word, ended, first_symbol_of, found, goes, failed, gnu_start_of}
use Rattle.elf_linking.specs.Layouts.{gnu_hash_number}
use Rattle.elf_linking.specs.Kept.{EndsAt, GoesOn, kept_alone}
use Rattle.elf_linking.specs.VersionList.{VersionList}
use Rattle.elf_linking.specs.declared.any_table.AnyTable.TheVariants.{Gnu}
use Rattle.elf_linking.specs.declared.error.LinkError.{LinkError}
use Rattle.elf_linking.specs.declared.find.Use as uses
use Rattle.elf_linking.specs.declared.find.Wanted.{Wanted}
use Rattle.elf_linking.specs.declared.find.kept.Kept.{Kept}
use Rattle.elf_linking.specs.declared.gnu_hash.GnuHashTable.{GnuHashTable}
use Rattle.elf_linking.proofs.Kept.{Comes, comes_next, comes_over, found_end}
use Rattle.elf_linking.proofs.Runs.{missed_next}
use Rattle.xmas_elf.specs.Symbol.{Symbols}

module _ {E : Type 0} (table : GnuHashTable) (symbols : Symbols E) (versions : VersionList) (name : List ℕ) (from : ℕ) where
  abbrev file : DynamicSymbols E
  file = dynamic_symbols (Gnu table) symbols versions

  -- a look-up for P finds no symbol before index i
  abbrev pub MissedUpTo : ℕ → (ℕ × E → Type 0) → Type 0
  MissedUpTo i P = NoHit P (gnu_hash_number name) table symbols.items from i

  pub missed_none : (P : ℕ × E → Type 0) → MissedUpTo from P
  missed_none P i e above below hit = omega arith

  pub missed_at : (i : ℕ) (P : ℕ × E → Type 0) → ((e : E) → slice_get symbols.items i ≡ Some e → P (i, e) → ⊥) → MissedUpTo i P → MissedUpTo (i + 1) P
  missed_at i P lacks missed = missed_next table symbols.items P (gnu_hash_number name) from i missed (λ e hit. lacks e hit.symbol hit.holds)

  -- the hash number differs
  pub missed_over : (i : ℕ) → (chain_word table i / 2 ≡ gnu_hash_number name / 2 → ⊥) → (P : ℕ × E → Type 0) → MissedUpTo i P → MissedUpTo (i + 1) P
  missed_over i differs P missed = missed_next table symbols.items P (gnu_hash_number name) from i missed (λ e hit. differs hit.agrees)

  module _ (starts : gnu_start_of table name ≡ Some from) (begins : first_symbol_of table ≤ from) (i : ℕ) (run : Run table symbols.items from i) where
    seeks_by : (P : ℕ × E → Type 0) (answer : Result (Option (ℕ × E)) LinkError) (here : ℕ) → MissedUpTo i P → GnuStops P (gnu_hash_number name) table symbols.items i answer here → Seeks P file name answer
    seeks_by P answer here missed stop =
        (i - from + here, goes from (i - from + here) answer starts begins (record { last = i; here = here; run = run; missed = missed; stop = stop; counted = refl }))

    seeks_hit : IsThere table symbols.items i → chain_word table i / 2 ≡ gnu_hash_number name / 2 → (P : ℕ × E → Type 0) (e : E) → slice_get symbols.items i ≡ Some e → P (i, e) → MissedUpTo i P → Seeks P file name (Ok (Some (i, e)))
    seeks_hit there agrees P e symbol holds missed =
        seeks_by P (Ok (Some (i, e))) 1 missed (found e (record { there = there; symbol = symbol; agrees = agrees; holds = holds }))

    seeks_none : IsThere table symbols.items i → EndsRun table i → (P : ℕ × E → Type 0) → MissedUpTo (i + 1) P → Seeks P file name (Ok None)
    seeks_none there ends P missed =
        let ordered : from ≤ i = run.ordered in
        seeks_by P (Ok None) 1 (λ k e above below. missed k e above (omega arith)) (ended there ends (λ e. missed i e ordered (omega arith)))

    -- the search comes to index i
    module _ (wanted : Wanted) (purpose : uses.Use) (kept : Kept E) (comes : Comes file name wanted purpose (MissedUpTo i) kept) where
      -- behind it, by its chain word and the hash number of the name
      pub goes_by : IsThere table symbols.items i → (word h : ℕ) → word ≡ chain_word table i → h ≡ gnu_hash_number name → (next : Kept E)
          → ((word / 2 ≡ h / 2) × GoesOn file name wanted purpose kept i next) ⊎ ((word / 2 ≡ h / 2 → ⊥) × (next ≡ kept))
          → Comes file name wanted purpose (MissedUpTo (i + 1)) next
      goes_by there word h same hash next (inl (agrees, on)) = comes_next file name wanted purpose (MissedUpTo i) (MissedUpTo (i + 1)) i (missed_at i) (seeks_hit there (cc)) kept next on comes
      goes_by there word h same hash next (inr (differs, is)) = subst (Comes file name wanted purpose (MissedUpTo (i + 1))) (sym is)
          (comes_over file name wanted purpose (MissedUpTo i) (MissedUpTo (i + 1)) kept (missed_over i (λ agrees. differs (cc))) comes)

      pub found_here : IsThere table symbols.items i → chain_word table i / 2 ≡ gnu_hash_number name / 2 → (answer : Result (Option (ℕ × E)) LinkError) → EndsAt file name wanted purpose i answer → IsFound file name wanted purpose answer
      found_here there agrees answer at = asked_first (i, at.entry) answer (seeks_hit there agrees (IsAsked file name wanted purpose) at.entry at.symbol at.asked comes.asked) at.is_answer

      pub found_fault : (error : LinkError) → Lacks table symbols.items i error → IsFound file name wanted purpose (Err error)
      found_fault error lacks = faulty error (seeks_by (IsAsked file name wanted purpose) (Err error) 0 comes.asked (failed error lacks))

    -- the search has passed index i, where the run ends
    pub found_last : (wanted : Wanted) (purpose : uses.Use) (kept : Kept E) → IsThere table symbols.items i → EndsRun table i → Comes file name wanted purpose (MissedUpTo (i + 1)) kept → IsFound file name wanted purpose (Ok (kept_alone kept))
    found_last wanted purpose kept there ends comes = found_end file name wanted purpose (MissedUpTo (i + 1)) kept (seeks_none there ends) comes
