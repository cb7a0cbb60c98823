-- Pieces that an iterator returns, and that are stored in a slice.
use Rattle.std.proofs.Common.{◌≡◌, ◌≢◌, ◌<◌, ◌≤◌, ◌+◌, ◌-◌, ◌^◌, ℕ, zero, suc, ◌⊎◌, inl, inr, Bool, true, false, ◌&&◌, List, [], ◌∷◌, ◌++◌, length, map, Option, Some, Result, Ok, Err, if◌then◌else◌, refl, sym, ap, subst, ◌∙◌, arith}
use Rattle.std.proofs.lemmas.Bool.{cases_order, leb-false, leb-true, ltb-false}
use Rattle.std.proofs.lemmas.List.{length-append, length-map, length-set, map-append}
use Rattle.std.specs.Iterator.{Count, Drains, IsFinite, MakesProgress, size}
use Rattle.std.specs.Prelude.{OnSome, max, nat_le, nat_lt, slice_get, slice_set}
use Rattle.elf_addresses.proofs.lemmas.FilePieces.{in_a_piece, in_one_piece, one_more_piece, sizes_sum}
use Rattle.elf_addresses.specs.FileClaims.{byte_count}
use Rattle.elf_addresses.specs.Pieces.{ArePieces, PieceStep, pieces_file, pieces_place}
use Rattle.elf_addresses.specs.SymbolClaims.{claim_of_symbols, symbol_count}
use Rattle.elf_addresses.specs.SymbolPieces.{SymbolStep, piece_claims, symbol_limit, symbol_place}
use Rattle.elf_addresses.specs.declared.claim.Claim.{Claim}
use Rattle.elf_addresses.specs.declared.error.IndexError.{IndexError}
use Rattle.elf_addresses.specs.declared.error.IndexError.TheVariants.{FewWords, ManySymbols}
use Rattle.elf_addresses.specs.declared.pieces.Piece as addresses
use Rattle.elf_addresses.specs.declared.pieces.Pieces.{Pieces}
use Rattle.elf_addresses.specs.declared.symbol_pieces.SymbolPiece.{SymbolPiece}
use Rattle.elf_addresses.specs.declared.symbol_pieces.SymbolPieces.{SymbolPieces}
use Rattle.elf_addresses.specs.declared.symbols.AddressSymbols.{AddressSymbols}
use Rattle.elf_base.specs.FirstError.{unless}
use Rattle.xmas_elf.specs.Symbol.{SymbolFields}
use Rattle.xmas_elf.specs.Types.{ElfFile}
use Rattle.elf_c.specs.AddressIndex.{addresses_of_table, claim_in_section}
use Rattle.elf_c.specs.Pieces.{AreListedIn, AreRuns, IsRows, IsWhole, Lists, put_from, run_record, runs_failed}
use Rattle.elf_c.specs.declared.pieces.Piece.{Piece}
use Rattle.elf_c.specs.declared.status.AnyError.{AnyError}
use Rattle.elf_c.specs.declared.status.AnyError.TheVariants.{Index}
use Rattle.elf_c.proofs.AddressIndexes.{same_claims, same_count}
use Rattle.elf_c.proofs.Batches.{put_elsewhere, put_there}

-- the items of a list with one more at its end
front_item : {T : Type 0} (xs : List T) (x : T) (k : ℕ) → k < length xs → slice_get (xs ++ x ∷ []) k ≡ slice_get xs k
front_item [] x k below = absurd (omega (arith, below))
front_item (y ∷ xs) x zero below = refl
front_item (y ∷ xs) x (suc k) below = front_item xs x k (omega (arith, below))

last_item : {T : Type 0} (xs : List T) (x : T) → slice_get (xs ++ x ∷ []) (length xs) ≡ Some x
last_item [] x = refl
last_item (y ∷ xs) x = last_item xs x

-- nothing is stored yet
pub rows_none : {T : Type 0} (first : ℕ) (old : List T) → IsRows [] first old old
rows_none first old = record { long = refl; each = λ k here below. absurd (omega (arith, below)); rest = λ k past. refl }

-- a slice after an item was stored in its place: at that place is the item, and nothing else has changed
put_here : {T : Type 0} (first index : ℕ) (x : T) (old : List T) → first ≤ index → index - first < length old → put_from first index x old ≡ slice_set old (index - first) x
put_here first index x old from room = by_first (nat_le first index) refl
  where
    by_room : (b : Bool) → nat_lt (index - first) (length old) ≡ b → (if b then slice_set old (index - first) x else old) ≡ slice_set old (index - first) x
    by_room true is = refl
    by_room false is = absurd (let past = ltb-false (index - first) (length old) is in omega (arith, past, room))

    by_first : (b : Bool) → nat_le first index ≡ b → (if b && nat_lt (index - first) (length old) then slice_set old (index - first) x else old) ≡ slice_set old (index - first) x
    by_first true is = by_room (nat_lt (index - first) (length old)) refl
    by_first false is = absurd (let past = leb-false first index is in omega (arith, past, from))

put_long : {T : Type 0} (first index : ℕ) (x : T) (old : List T) → length (put_from first index x old) ≡ length old
put_long first index x old = by (nat_le first index && nat_lt (index - first) (length old))
  where
    by : (b : Bool) → length (if b then slice_set old (index - first) x else old) ≡ length old
    by true = length-set old (index - first) x
    by false = refl

put_other : {T : Type 0} (first index k : ℕ) (x : T) (old : List T) → first + k ≢ index → slice_get (put_from first index x old) k ≡ slice_get old k
put_other first index k x old other = by_first (nat_le first index) refl
  where
    by_room : (b : Bool) → first ≤ index → slice_get (if b then slice_set old (index - first) x else old) k ≡ slice_get old k
    by_room true from = put_elsewhere old (index - first) k x (λ same. other (omega (arith, same, from)))
    by_room false from = refl

    by_first : (b : Bool) → nat_le first index ≡ b → slice_get (if b && nat_lt (index - first) (length old) then slice_set old (index - first) x else old) k ≡ slice_get old k
    by_first true is = by_room (nat_lt (index - first) (length old)) (leb-true first index is)
    by_first false is = refl

-- after one more item is stored in its place, the items with it are stored
pub rows_with : {T : Type 0} (xs : List T) (first : ℕ) (old new : List T) (x : T) → IsRows xs first old new → IsRows (xs ++ x ∷ []) first old (put_from first (length xs) x new)
rows_with {T} xs first old new x stored = record {
  long = put_long first (length xs) x new ∙ stored.long;
  each = λ k here below. by_order k here (cases_order (first + k) (length xs)) (omega (arith, below, size));
  rest = λ k past. put_other first (length xs) k x new (λ same. absurd (omega (arith, past, size, same))) ∙ stored.rest k (omega (arith, past, size));
}
  where
    size : length (xs ++ x ∷ []) ≡ length xs + 1
    size = length-append xs (x ∷ [])

    by_order : (k : ℕ) → k < length old → (first + k ≡ length xs) ⊎ ((first + k < length xs) ⊎ (length xs < first + k)) → first + k < length xs + 1 → slice_get (put_from first (length xs) x new) k ≡ slice_get (xs ++ x ∷ []) (first + k)
    by_order k here (inl same) below =
        let long = stored.long in
        let at : length xs - first ≡ k = omega (arith, same) in
        ap (λ l. slice_get l k) (put_here first (length xs) x new (omega (arith, same)) (omega (arith, same, here, long)))
        ∙ ap (λ i. slice_get (slice_set new i x) k) at
        ∙ put_there new k x (omega (arith, here, long))
        ∙ sym (last_item xs x)
        ∙ ap (λ i. slice_get (xs ++ x ∷ []) i) (sym same)
    by_order k here (inr (inl before)) below =
        put_other first (length xs) k x new (λ same. absurd (omega (arith, before, same)))
        ∙ stored.each k here before
        ∙ sym (front_item xs x (first + k) before)
    by_order k here (inr (inr behind)) below = absurd (omega (arith, behind, below))

-- the same for the numbers of items
pub rows_more : {P T : Type 0} (numbers : P → T) (xs : List P) (first count : ℕ) (old new : List T) (x : P) → count ≡ length xs → IsRows (map numbers xs) first old new → IsRows (map numbers (xs ++ x ∷ [])) first old (put_from first count (numbers x) new)
rows_more numbers xs first count old new x is stored =
    subst (λ l. IsRows l first old (put_from first count (numbers x) new)) (sym (map-append numbers xs (x ∷ [])))
    (subst (λ n. IsRows (map numbers xs ++ numbers x ∷ []) first old (put_from first n (numbers x) new)) (length-map xs numbers ∙ sym is)
    (rows_with (map numbers xs) first old new (numbers x) stored))

-- a call of `next` that returned an item leaves an iterator that is nearer to its end
pub nearer_end : {S A : Type 0} (can : S → Type 0) (left : S → Count) (s t : S) (r : Option A) (x : A) → r ≡ Some x → MakesProgress can left s r t → IsFinite (left s) → can t × IsFinite (left t) × (size (left t) < size (left s))
nearer_end can left s t r x is goes finite = subst (λ o. OnSome o (can t × IsFinite (left t) × (size (left t) < size (left s)))) is (goes.on finite)

pub one_longer : {P : Type 0} (xs : List P) (x : P) (count : ℕ) → count ≡ length xs → count + 1 ≡ length (xs ++ x ∷ [])
one_longer xs x count is = let size = length-append xs (x ∷ []) in omega (arith, is, size)

-- the pieces that an iterator returns until it ends follow each other
follow_chain : (xs : List addresses.Piece) (pieces : Pieces) → Drains PieceStep pieces xs → ArePieces (pieces_file pieces) (pieces_place pieces) xs
follow_chain [] pieces (end, (last, same, step)) =
    subst (λ (p : Pieces). pieces_place p ≡ byte_count (pieces_file p)) (sym same) step.1.0
follow_chain (piece ∷ xs) pieces (end, (last, (next, step, others), ended)) =
    let rest : ArePieces (pieces_file next) (pieces_place next) xs = follow_chain xs next (end, (last, others, ended)) in
    one_more_piece (pieces_file pieces) pieces next piece xs step refl
    (subst (λ f. ArePieces f (pieces_place next) xs) step.0 rest)

-- so they are all pieces of the file, if they begin at its first byte
pub whole : (file : ElfFile) (pieces : Pieces) (all : List addresses.Piece) → Drains PieceStep pieces all → pieces_file pieces ≡ file → pieces_place pieces ≡ 0 → IsWhole file all
whole file pieces all drained is first =
    let follow : ArePieces file 0 all = subst (λ f. ArePieces f 0 all) is (subst (λ n. ArePieces (pieces_file pieces) n all) first (follow_chain all pieces drained)) in
    record {
      follow = follow;
      in_one = λ byte below. in_a_piece file 0 byte all follow (omega arith) below;
      in_no_other = λ byte j k one other. in_one_piece file 0 byte j k all follow one other;
      sum = let sum = sizes_sum file 0 all follow in omega (arith, sum);
    }

-- the same of a range of addresses
module _ {E : Type 0} {r s : _} (fields : E → SymbolFields) where
  runs_chain : (xs : List SymbolPiece) (pieces : SymbolPieces E r s) → Drains (SymbolStep fields) pieces xs → AreRuns (piece_claims fields pieces) (symbol_limit pieces) (symbol_place pieces) xs
  runs_chain [] pieces (end, (last, same, step)) =
      subst (λ (p : SymbolPieces E r s). symbol_place p ≡ symbol_limit p) (sym same) step.2.0
  runs_chain (piece ∷ xs) pieces (end, (last, (next, step, others), ended)) =
      let rest : AreRuns (piece_claims fields next) (symbol_limit next) (symbol_place next) xs = runs_chain xs next (end, (last, others, ended)) in
      let claims : piece_claims fields next ≡ piece_claims fields pieces = ap (λ c. claim_of_symbols fields c.symbols.now c.within) step.0 in (
        step.2.0,
        step.2.2,
        subst (λ place. AreRuns (piece_claims fields pieces) (symbol_limit pieces) place xs) (sym step.2.1)
            (subst (λ limit. AreRuns (piece_claims fields pieces) limit (symbol_place next) xs) step.1
            (subst (λ claim_of. AreRuns claim_of (symbol_limit next) (symbol_place next) xs) claims rest)),
      )

  pub runs : (claim_of : ℕ → Option Claim) (limit begin : ℕ) (pieces : SymbolPieces E r s) (all : List SymbolPiece) → Drains (SymbolStep fields) pieces all → piece_claims fields pieces ≡ claim_of → symbol_limit pieces ≡ limit → symbol_place pieces ≡ begin → AreRuns claim_of limit begin all
  runs claim_of limit begin pieces all drained are last first =
      subst (λ place. AreRuns claim_of limit place all) first
      (subst (λ l. AreRuns claim_of l (symbol_place pieces) all) last
      (subst (λ c. AreRuns c (symbol_limit pieces) (symbol_place pieces) all) are (runs_chain all pieces drained)))

no_error : {T E : Type 0} (value : T) (error : E) → ◌≡◌ {A = Result T E} (Ok value) (Err error) → ⊥
no_error value error same = cc

module _ {P S : Type 0} (AreAll : List P → Type 0) (record_of : P → Piece) (words_short numbers_short : Bool) (first : ℕ) (old new : List Piece) (answer : Result S IndexError) where
  -- the pieces of a file are listed, if there are as many words and numbers as needed
  pub file_listed : (start : S) (count : ℕ) → answer ≡ Ok start → (words_short ≡ true → answer ≡ Err FewWords) → (numbers_short ≡ true → answer ≡ Err FewWords) → (all : List P) × AreAll all × IsRows (map record_of all) first old new × (count ≡ length all)
      → Lists (unless ((words_short, Index FewWords) ∷ (numbers_short, Index FewWords) ∷ []) tt) AreAll record_of first old (Ok count) new
  file_listed start count is few few_numbers (all, are, rows, counted) = by_words words_short refl
    where
      by_numbers : (b : Bool) → numbers_short ≡ b → Lists (if b then Err (Index FewWords) else Ok tt) AreAll record_of first old (Ok count) new
      by_numbers true here = absurd (no_error start FewWords (sym is ∙ few_numbers here))
      by_numbers false here = (all, are, ap Ok counted, rows)

      by_words : (b : Bool) → words_short ≡ b → Lists (if b then Err (Index FewWords) else (if numbers_short then Err (Index FewWords) else Ok tt)) AreAll record_of first old (Ok count) new
      by_words true here = absurd (no_error start FewWords (sym is ∙ few here))
      by_words false here = by_numbers numbers_short refl

module _ {P S : Type 0} (AreAll : List P → Type 0) (record_of : P → Piece) (words_short numbers_short : Bool) (count first : ℕ) (old new : List Piece) (answer : Result S IndexError) where
  -- the same for symbols, if there are not too many
  pub symbols_listed : (start : S) (total : ℕ) → answer ≡ Ok start → (2 ^ 32 ≤ count → answer ≡ Err ManySymbols) → (count < 2 ^ 32 → words_short ≡ true → answer ≡ Err FewWords) → (count < 2 ^ 32 → numbers_short ≡ true → answer ≡ Err FewWords) → (all : List P) × AreAll all × IsRows (map record_of all) first old new × (total ≡ length all)
      → Lists (unless ((nat_le (2 ^ 32) count, Index ManySymbols) ∷ (words_short, Index FewWords) ∷ (numbers_short, Index FewWords) ∷ []) tt) AreAll record_of first old (Ok total) new
  symbols_listed start total is many few few_numbers listed = by_count (nat_le (2 ^ 32) count) refl
    where
      by_count : (b : Bool) → nat_le (2 ^ 32) count ≡ b → Lists (if b then Err (Index ManySymbols) else unless ((words_short, Index FewWords) ∷ (numbers_short, Index FewWords) ∷ []) tt) AreAll record_of first old (Ok total) new
      by_count true above = absurd (no_error start ManySymbols (sym is ∙ many (leb-true (2 ^ 32) count above)))
      by_count false above = let below = leb-false (2 ^ 32) count above in
          file_listed AreAll record_of words_short numbers_short first old new answer start total is (few below) (few_numbers below) listed

-- what is listed by the library's table is listed by its symbols
pub same_listed : {E : Type 0} {r : _} (fields : E → SymbolFields) (symbols : AddressSymbols E r) (within : Option ℕ) (range : ℕ × ℕ) (first : ℕ) (words numbers : List ℕ) (old new : List Piece) (answer : Result ℕ AnyError)
    → Lists (runs_failed (claim_of_symbols fields symbols within) (symbol_count symbols) words numbers) (AreRuns (claim_of_symbols fields symbols within) (max range.0 range.1) range.0) run_record first old answer new
    → AreListedIn (addresses_of_table fields symbols) within range first words numbers old answer new
same_listed fields symbols within range first words numbers old new answer listed =
    let claims = claim_in_section (addresses_of_table fields symbols) within in
    subst (λ n. Lists (runs_failed claims n words numbers) (AreRuns claims (max range.0 range.1) range.0) run_record first old answer new) (same_count fields symbols)
    (subst (λ c. Lists (runs_failed c (symbol_count symbols) words numbers) (AreRuns c (max range.0 range.1) range.0) run_record first old answer new) (same_claims fields symbols within) listed)
