-- The texts of paths, byte by byte, and what the objects of a chain say.
use Rattle.std.proofs.Common.{◌≡◌, ℕ, zero, suc, List, [], ◌∷◌, ◌++◌, length, map, Option, None, Some, MatchOption, Result, Ok, Err, refl, ap, sym, ◌∙◌, arith}
use Rattle.std.specs.Prelude.{IsSomeAnd, slice_get}
use Rattle.std.specs.Borrow.{Bor}
use Rattle.elf_search.specs.Cache.{value_of}
use Rattle.elf_search.specs.Candidates.{asker_parts}
use Rattle.elf_search.specs.Paths.{path_left}
use Rattle.elf_search.specs.declared.cache.Cache.{Cache}
use Rattle.elf_search.specs.declared.candidates.Asker.{Asker}
use Rattle.elf_search.specs.declared.paths.PathBytes.{PathBytes}
use Rattle.elf_c.specs.LoadObjects.{AreMade}
use Rattle.elf_c.specs.declared.status.AnyError.{AnyError}
use Rattle.elf_c.specs.declared.status.AnyError.TheVariants.{NotFound}
use Rattle.elf_c.specs.SearchPaths.{asker_of, path_in, with_zeros}
use Rattle.elf_c.specs.declared.search_paths.SearchAsker.{SearchAsker}

pub path_byte : (path rest : PathBytes) (byte : ℕ) (texts : List (List ℕ)) → path_left path ≡ byte ∷ path_left rest → path_left path ++ 0 ∷ with_zeros texts ≡ byte ∷ (path_left rest ++ 0 ∷ with_zeros texts)
path_byte path rest byte texts is = ap (λ bytes. bytes ++ 0 ∷ with_zeros texts) is

pub path_end : (path : PathBytes) (texts : List (List ℕ)) → path_left path ≡ [] → path_left path ++ 0 ∷ with_zeros texts ≡ 0 ∷ with_zeros texts
path_end path texts is = ap (λ bytes. bytes ++ 0 ∷ with_zeros texts) is

pub no_bytes : (bytes : List ℕ) → length bytes ≡ 0 → [] ≡ bytes
no_bytes [] none = refl
no_bytes (byte ∷ bytes) none = absurd (omega (arith, none))

-- the bytes of a path that is found
abbrev pub path_or_none : Option (Bor (List ℕ)) → Result (List ℕ) AnyError
path_or_none None = Err NotFound
path_or_none (Some path) = Ok path.now

-- the path of an entry that a look-up found
pub path_found : (cache : Cache) (found : Option (Bor (List ℕ))) (entry : Option ℕ) → MatchOption found (entry ≡ None) (λ value. (i : ℕ) × (entry ≡ Some i) × (value.now ≡ value_of cache i)) → path_or_none found ≡ path_in cache entry
path_found cache None entry is = ap (path_in cache) (sym is)
path_found cache (Some value) entry (i, is, same) = ap (λ text. Ok text) same ∙ ap (path_in cache) (sym is)

-- what is made of an object says the same
abbrev pub IsAsker : SearchAsker → Asker → Type 0
IsAsker one other = asker_parts other ≡ asker_of one

same_at : (one : SearchAsker) (found : Option Asker) (other : Asker) → found ≡ Some other → IsSomeAnd found (IsAsker one) → IsAsker one other
same_at one None other is same = absurd same
same_at one (Some own) other is same = let at : own ≡ other = cc in ap asker_parts (sym at) ∙ same

maps : (askers : List SearchAsker) (chain : List Asker) → length chain ≡ length askers → ((index : ℕ) (one : SearchAsker) → slice_get askers index ≡ Some one → IsSomeAnd (slice_get chain index) (IsAsker one)) → map asker_parts chain ≡ map asker_of askers
maps [] [] count each = refl
maps [] (other ∷ chain) count each = absurd (omega (arith, count))
maps (one ∷ askers) [] count each = absurd (omega (arith, count))
maps (one ∷ askers) (other ∷ chain) count each =
    let first : asker_parts other ≡ asker_of one = same_at one (Some other) other refl (each zero one refl) in
    let rest : map asker_parts chain ≡ map asker_of askers = maps askers chain (omega (arith, count)) (λ index. each (suc index)) in
    ap (λ x. x ∷ map asker_parts chain) first ∙ ap (λ xs. asker_of one ∷ xs) rest

pub made_maps : (askers : List SearchAsker) (chain : List Asker) → AreMade IsAsker askers chain → map asker_parts chain ≡ map asker_of askers
made_maps askers chain made = maps askers chain made.same_count made.each
