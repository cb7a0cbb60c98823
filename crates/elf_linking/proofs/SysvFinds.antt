-- A search by the standard's table comes to an index: what a look-up for a property says there.
use Rattle.std.proofs.Common.{◌≡◌, ℕ, ◌+◌, ◌<◌, List, Option, Some, None, Result, Ok, Err, refl, sym, subst, slice_get, arith}
use Rattle.elf_base.specs.declared.error.ElfError.{ElfError}
use Rattle.elf_linking.specs.DynamicView.{as_link_error}
use Rattle.elf_linking.specs.Find.{DynamicSymbols, IsAsked, IsFound, Seeks, asked_first, dynamic_symbols, faulty}
use Rattle.elf_linking.specs.Kept.{EndsAt, GoesOn, kept_alone}
use Rattle.elf_linking.specs.VersionList.{VersionList}
use Rattle.elf_linking.specs.declared.any_table.AnyTable.TheVariants.{Sysv}
use Rattle.elf_linking.specs.declared.error.LinkError.{LinkError}
use Rattle.elf_linking.specs.declared.error.LinkError.TheVariants.{Elf}
use Rattle.elf_linking.specs.declared.find.Use as uses
use Rattle.elf_linking.specs.declared.find.Wanted.{Wanted}
use Rattle.elf_linking.specs.declared.find.kept.Kept.{Kept}
use Rattle.elf_linking.proofs.Kept as search
use Rattle.xmas_elf.specs.HashTable.{Chains, Comes, Halts, LooksFrom, NoneBefore, IsFoundAt, at_end, bad_bucket, chain_of, chains_of, found, no_bucket, failed, start_of}
use Rattle.xmas_elf.specs.Symbol.{Symbols}
use Rattle.xmas_elf.specs.Types.{HashTable}
use Rattle.xmas_elf.proofs.ChainPaths.{by_order, comes_same, looks, looks_halted}

module _ {E : Type 0} (table : HashTable) (symbols : Symbols E) (versions : VersionList) (name : List ℕ) where
  abbrev file : DynamicSymbols E
  file = dynamic_symbols (Sysv table) symbols versions

  abbrev chains : Chains E
  chains = chains_of table symbols.items

  seeks_from : (start : Option (Result ℕ ElfError)) → start_of table name ≡ start → (P : ℕ × E → Type 0) (answer : Result (Option (ℕ × E)) ElfError) (n : ℕ) → LooksFrom P chains start answer n → Seeks P file name (as_link_error answer)
  seeks_from start starts P answer n looked = (n, (answer, subst (λ s. LooksFrom P chains s answer n) (sym starts) looked, refl))

  pub seeks_no_bucket : start_of table name ≡ None → (P : ℕ × E → Type 0) → Seeks P file name (Ok None)
  seeks_no_bucket starts P = seeks_from None starts P (Ok None) 0 no_bucket

  pub seeks_bad_bucket : (error : ElfError) → start_of table name ≡ Some (Err error) → (P : ℕ × E → Type 0) → Seeks P file name (Err (Elf error))
  seeks_bad_bucket error starts P = seeks_from (Some (Err error)) starts P (Err error) 0 (bad_bucket error)

  module _ (first : ℕ) where
    -- a look-up for P finds no symbol in fewer than n steps
    abbrev pub MissedIn : ℕ → (ℕ × E → Type 0) → Type 0
    MissedIn n P = NoneBefore P chains first n

    pub missed_none : (P : ℕ × E → Type 0) → MissedIn 0 P
    missed_none P m below = absurd (omega arith)

    module _ (starts : start_of table name ≡ Some (Ok first)) (n i : ℕ) (comes : Comes chains first n i) where
      pub missed_at : (P : ℕ × E → Type 0) → ((e : E) → slice_get symbols.items i ≡ Some e → P (i, e) → ⊥) → MissedIn n P → MissedIn (n + 1) P
      missed_at P lacks missed m below x e at stands holds = by_order chains ⊥ m n
          (λ same. (
          let here : x ≡ i = comes_same chains first m n x i same at comes in
          lacks e (subst (λ z. slice_get symbols.items z ≡ Some e) here stands.symbol) (subst (λ z. P (z, e)) here holds)))
          (λ earlier. missed m earlier x e at stands holds)
          (λ later. omega arith)

      seeks_hit : (d : E) → IsFoundAt chains i d → (P : ℕ × E → Type 0) (e : E) → slice_get symbols.items i ≡ Some e → P (i, e) → MissedIn n P → Seeks P file name (Ok (Some (i, e)))
      seeks_hit d stands P e symbol holds missed =
          seeks_from (Some (Ok first)) starts P (Ok (Some (i, e))) (n + 1) (looks P chains first i n 1 (n + 1) (Ok (Some (i, e))) comes missed
          (found i e (record { not_end = stands.not_end; below = stands.below; symbol = symbol }) holds) refl)

      seeks_none : i ≡ 0 → (P : ℕ × E → Type 0) → MissedIn n P → Seeks P file name (Ok None)
      seeks_none last P missed =
          seeks_from (Some (Ok first)) starts P (Ok None) n (looks P chains first 0 n 0 n (Ok None) (subst (λ z. Comes chains first n z) last comes) missed at_end (omega arith))

      -- the search comes to index i in n steps
      module _ (wanted : Wanted) (purpose : uses.Use) (kept : Kept E) (at : search.Comes file name wanted purpose (MissedIn n) kept) where
        pub goes_behind : (d : E) → IsFoundAt chains i d → (next : Kept E) → GoesOn file name wanted purpose kept i next → search.Comes file name wanted purpose (MissedIn (n + 1)) next
        goes_behind d stands next on = search.comes_next file name wanted purpose (MissedIn n) (MissedIn (n + 1)) i missed_at (seeks_hit d stands) kept next on at

        pub found_here : (d : E) → IsFoundAt chains i d → (answer : Result (Option (ℕ × E)) LinkError) → EndsAt file name wanted purpose i answer → IsFound file name wanted purpose answer
        found_here d stands answer ends = asked_first (i, ends.entry) answer (seeks_hit d stands (IsAsked file name wanted purpose) ends.entry ends.symbol ends.asked at.asked) ends.is_answer

        pub found_halt : (error : ElfError) → 0 < i → Halts chains n i error → IsFound file name wanted purpose (Err (Elf error))
        found_halt error above halts =
            faulty (Elf error) (seeks_from (Some (Ok first)) starts (IsAsked file name wanted purpose) (Err error) n (looks_halted (IsAsked file name wanted purpose) chains first i n error comes at.asked above halts))

        pub found_last : i ≡ 0 → IsFound file name wanted purpose (Ok (kept_alone kept))
        found_last last = search.found_end file name wanted purpose (MissedIn n) kept (seeks_none last) at

      -- the chain can't be read behind index i
      pub found_break : (wanted : Wanted) (purpose : uses.Use) (kept : Kept E) (d : E) → IsFoundAt chains i d → (error : ElfError) → chain_of table i ≡ Err error → search.Comes file name wanted purpose (MissedIn (n + 1)) kept → IsFound file name wanted purpose (Err (Elf error))
      found_break wanted purpose kept d stands error fails at =
          faulty (Elf error) (seeks_from (Some (Ok first)) starts (IsAsked file name wanted purpose) (Err error) (n + 1) (looks (IsAsked file name wanted purpose) chains first i n 1 (n + 1) (Err error) comes (λ m below. at.asked m (omega arith))
          (failed i d error stands (at.asked n (omega arith) i d comes stands) fails) refl))
