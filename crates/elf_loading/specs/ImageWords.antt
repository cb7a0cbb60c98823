-- Whether the words of relocations can be written (this project's own list, by what glibc 2.36 needs).
use Rattle.std.specs.Prelude.{◌≡◌, ℕ, zero, suc, ◌+◌, ◌*◌, ◌/◌, ◌%◌, ◌<◌, ◌≤◌, ◌==◌, ◌&&◌, ◌||◌, not, nat_le, nat_lt, is_none, min, max, take, slice_get, slice_index, Bool, true, false, List, [], ◌∷◌, ◌++◌, All, map, length, Option, None, Some, Result, Ok, Err, IfOk, MatchOption, MatchResult, if◌then◌else◌}
use Rattle.std.specs.Borrow.{Bor}
use Rattle.std.specs.Int.{bit_at}
use Rattle.std.specs.List.{Contains, find, list_any}
use Rattle.elf_base.specs.FirstError.{and_then, unless}
use Rattle.elf_linking.specs.DynamicObject.{object_file, object_view}
use Rattle.elf_linking.specs.DynamicView.{view_entries}
use Rattle.elf_linking.specs.References.{relocation_tables}
use Rattle.elf_loading.specs.Types.{Dynamic, DynamicObject, ElfFile, LinkError, LoadError, Relocated, Relocation, Segment, TableLocation, Word}
use Rattle.elf_linking.specs.declared.error.LinkError.TheVariants.{ObjectIndex}
use Rattle.elf_loading.specs.ImageTables.{asks_for_text, check_tables, record_rows, tables_of}
use Rattle.elf_loading.specs.Segments.{has_flag}
use Rattle.elf_loading.specs.Plan.{plan_loads, plan_size}
use Rattle.elf_loading.specs.Words.{HasWord}
use Rattle.elf_loading.specs.WordsLeft.{HasWordOf, AreWordsOf, relocation_of, relocations_left, own_relocations}
use Rattle.elf_loading.specs.declared.error.LoadError.TheVariants as error
use Rattle.elf_loading.specs.declared.words.Binding.TheVariants.{Now}
use Rattle.elf_loading.specs.declared.image_words.Holder.{Holder}
use Rattle.elf_loading.specs.declared.plan.LoadPlan.{LoadPlan}
use Rattle.elf_loading.specs.declared.words.Words.{Words}
use Rattle.xmas_elf.specs.Symbol.{SymbolFields}

-- Ranges of addresses.

-- an address is one of a word's bytes
abbrev pub covers : ℕ → Word → Bool
covers address word = nat_le word.address address && nat_lt address (word.address + word.width)

-- a range of addresses and another have a byte in common
abbrev pub meet : ℕ → ℕ → ℕ → ℕ → Bool
meet start size other many = nat_lt (max start other) (min (start + size) (other + many))

-- words have a byte in common
abbrev pub overlaps : Word → Word → Bool
overlaps one other = meet one.address one.width other.address other.width

-- bytes at an address and others have a byte in common, if the address and the number of the others are known
abbrev pub touches_at : ℕ → ℕ → Option ℕ → Option ℕ → Bool
touches_at address many (Some start) (Some size) = meet address many start size
touches_at address many _ _ = false

-- a word and a table have a byte in common
abbrev pub touches : Word → TableLocation → Bool
touches word table = touches_at word.address word.width table.start table.size

-- the memory of a load has all bytes of a word
abbrev pub holds_word : Word → Segment → Bool
holds_word word load = nat_le load.address word.address
    && nat_le (word.address + word.width) (load.address + load.mem_size)

-- Each word.

-- there is a load, and it is not writable
abbrev pub is_shut : Option Segment → Bool
is_shut None = false
is_shut (Some load) = not (has_flag 2 load)

-- why a word can't be written, after earlier ones: by the loads, whether the file asks for writes where they are not
-- writable, and the tables
abbrev pub word_rows : List Segment → Bool → List TableLocation → List Word → Word → List (Bool × LoadError)
word_rows loads text tables before word = let load = find (holds_word word) loads in
    (is_none load, error.WordAddress)
    ∷ (not text && is_shut load, error.ReadOnly)
    ∷ (list_any (overlaps word) before, error.WordsOverlap)
    ∷ (list_any (touches word) tables, error.WordInTable)
    ∷ []

-- the words with one more, or why it is not known or can't be written; a word without bytes is not written
abbrev pub check_word : List Segment → Bool → List TableLocation → List Word → Result Word LoadError → Result (List Word) LoadError
check_word loads text tables before (Err error) = Err error
check_word loads text tables before (Ok word) =
    if word.width == 0 then Ok before else unless (word_rows loads text tables before word) (word ∷ before)

-- the words that are written, the last first, or the first reason why one can't be
unfoldable pub check_words : List Segment → Bool → List TableLocation → List Word → List (Result Word LoadError) → Result (List Word) LoadError
check_words loads text tables before [] = Ok before
check_words loads text tables before (word ∷ words) = and_then (check_word loads text tables before word)
    (λ after. check_words loads text tables after words)

-- The words of an object.

-- the words of items
abbrev pub item_words : {E : Type 0} → List (Relocated E) → List (Result Word LoadError)
item_words items = map (λ item. item.word) items

-- these items are the first relocations of an object with the symbols that they get and the words that they write, and
-- all of them if the result of a call is Ok
pub record AreFirstItems {E T : Type 0} {r : _} (fields : E → SymbolFields) (objects : List (DynamicObject E r)) (of : ℕ) (own : DynamicObject E r) (lazy : Bool) (relocations : List Relocation) (result : Result T LoadError) (items : List (Relocated E)) : Type 0 where
  pub rest : List Relocation
  pub are : relocations ≡ map relocation_of items ++ rest
  pub have_words : All (HasWord fields objects (object_file own) own of lazy) items
  pub all : IfOk result (λ _. rest ≡ [])

-- Marks: a bit for each byte of the span of a plan.

-- mark i is set
abbrev pub is_marked : List ℕ → ℕ → Bool
is_marked marks i = bit_at (slice_index marks (i / 8)) (i % 8) == 1

-- one of as many marks from an index on is set
abbrev pub some_marked : List ℕ → ℕ → ℕ → Bool
some_marked marks start zero = false
some_marked marks start (suc count) = some_marked marks start count || is_marked marks (start + count)

-- each mark says whether one of these words has the byte at its address
pub record AreMarksOf (start : ℕ) (words : List Word) (marks : List ℕ) : Type 0 where
  pub each : (i : ℕ) → i < 8 * length marks → is_marked marks i ≡ list_any (covers (start + i)) words

-- How one word is checked.

-- bytes at an address and one of these tables have a byte in common
abbrev pub touch_one : ℕ → ℕ → List TableLocation → Bool
touch_one address many tables = list_any (λ table. touches_at address many table.start table.size) tables

-- a load that had a word is one of these loads, and it is free if no table before the dynamic segment, which is the
-- ninth, has a byte of its memory
abbrev pub IsKnown : List Segment → List TableLocation → Holder → Type 0
IsKnown loads tables holder = Contains loads holder.load
    × (holder.is_free ≡ not (touch_one holder.load.address holder.load.mem_size (take 8 tables)))

-- there is a load, and its memory has all bytes of a word
abbrev pub is_held : Word → Option Holder → Bool
is_held word None = false
is_held word (Some holder) = holds_word word holder.load

-- the result of the check of a word after any words of which these are the marks, and the marks after it
abbrev pub IsWordCheck : List Segment → Bool → List TableLocation → ℕ → Result Word LoadError → List ℕ → List ℕ → Result (Unit {0}) LoadError → Type 0
IsWordCheck loads text tables start word old new result = (before : List Word) → AreMarksOf start before old
    → let answer = check_word loads text tables before word in MatchResult result
    (λ done. (after : List Word) × (answer ≡ Ok after) × AreMarksOf start after new) (λ error. answer ≡ Err error)

-- the same of the word of a relocation, of the words that an iterator is over
pub record IsItemChecked {E : Type 0} {r : _} (fields : E → SymbolFields) (loads : List Segment) (text : Bool) (tables : List TableLocation) (start : ℕ) (words : Words E r) (relocation : Relocation) (old new : List ℕ) (result : Result (Unit {0}) LoadError) : Type 0 where
  pub item : Relocated E
  pub relocation_is : item.relocation ≡ relocation
  pub has_word : HasWordOf fields words item
  pub checked : IsWordCheck loads text tables start item.word old new result

-- The check.

-- a result of elf_linking, with its error in `Link`
abbrev pub as_load_error : {A : Type 0} → Result A LinkError → Result A LoadError
as_load_error (Ok value) = Ok value
as_load_error (Err reason) = Err (error.Link reason)

-- glibc can apply the relocations of the tables with addends and without and of the procedure linkage table, or why not
abbrev pub check_records : ElfFile → List (Dynamic ℕ) → Result (Unit {0}) LoadError
check_records file entries =
    and_then (as_load_error (relocation_tables file entries)) (λ tables. unless (record_rows file entries tables) tt)

-- the relocations of an object whose tables and their records can be used, where `bits` marks are enough for its plan; or
-- the first reason why not
abbrev pub checked_relocations : {E : Type 0} → {r : _} → ℕ → DynamicObject E r → LoadPlan → ℕ → Result (List Relocation) LoadError
checked_relocations size own plan bits = and_then (check_tables size own) (λ done.
    and_then (as_load_error (own_relocations (Some own))) (λ relocations.
    and_then (check_records (object_file own) (view_entries (object_view own))) (λ applied.
    unless ((nat_lt bits (plan_size plan), error.FewMarks) ∷ []) relocations)))

-- the words of the object at an index, all of them left, where its tables can be used and `bits` marks are enough
pub record IsBegun {E : Type 0} {r : _} (size : ℕ) (objects : Bor (List (DynamicObject E r))) (of : ℕ) (own : DynamicObject E r) (plan : LoadPlan) (bits : ℕ) (words : Words E r) : Type 0 where
  pub relocations_are : checked_relocations size own plan bits ≡ Ok (relocations_left words)
  pub words_are : AreWordsOf objects of Now words

-- the result of the check of the words that are left: these items are the first, and all of them if it is Ok
pub record AreWordsFrom {E : Type 0} {r : _} (fields : E → SymbolFields) (loads : List Segment) (text : Bool) (tables : List TableLocation) (words : Words E r) (result : Result (Unit {0}) LoadError) : Type 0 where
  pub items : List (Relocated E)
  pub rest : List Relocation
  pub are : relocations_left words ≡ map relocation_of items ++ rest
  pub have_words : All (HasWordOf fields words) items
  pub all : IfOk result (λ _. rest ≡ [])
  pub checked : result ≡ and_then (check_words loads text tables [] (item_words items)) (λ _. Ok tt)

-- the result of the check of an object with its plan: the first reason of its tables; or that of its words, in order
pub data IsOwnCheck {E : Type 0} {r : _} (size : ℕ) (fields : E → SymbolFields) (objects : List (DynamicObject E r)) (of : ℕ) (own : DynamicObject E r) (plan : LoadPlan) (bits : ℕ) (result : Result (Unit {0}) LoadError) : Type 0 where
  not_begun : (error : LoadError) → checked_relocations size own plan bits ≡ Err error → result ≡ Err error
      → IsOwnCheck size fields objects of own plan bits result
  by_words : (relocations : List Relocation) (items : List (Relocated E)) → checked_relocations size own plan bits ≡ Ok relocations
      → AreFirstItems fields objects of own false relocations result items
      → result ≡ and_then (check_words (plan_loads plan) (asks_for_text (view_entries (object_view own)))
      (tables_of size own) [] (item_words items)) (λ words. Ok tt)
      → IsOwnCheck size fields objects of own plan bits result

-- what holds of the object and the plan at an index of a scope, or what holds if one of them is missing
abbrev pub MatchBoth : {A B : Type 0} → Option A → Option B → Type 0 → (A → B → Type 0) → Type 0
MatchBoth own plan missing holds = MatchOption own missing (λ some. MatchOption plan missing (holds some))

-- the result of the check of the object at an index, of which the scope may have no object or no plan
abbrev pub IsImageCheck : {E : Type 0} → {r : _} → ℕ → (E → SymbolFields) → List (DynamicObject E r) → List LoadPlan → ℕ → ℕ → Result (Unit {0}) LoadError → Type 0
IsImageCheck size fields objects plans of bits result = MatchBoth (slice_get objects of) (slice_get plans of)
    (result ≡ Err (error.Link ObjectIndex)) (λ own plan. IsOwnCheck size fields objects of own plan bits result)

-- What holds of an object that passes.

-- an address is one of `size` from `start` on
abbrev pub IsInExtent : ℕ → ℕ → ℕ → Type 0
IsInExtent start size address = (start ≤ address) × (address < start + size)

-- a word is in the memory of one of these loads
abbrev pub IsHeldByLoad : List Segment → Word → Type 0
IsHeldByLoad loads word = (load : Segment) × Contains loads load × (load.address ≤ word.address)
    × (word.address + word.width ≤ load.address + load.mem_size)

-- a word is in the memory of one load, which is writable unless the file asks for writes elsewhere, and no byte of it is
-- in one of these tables
pub record IsWritableWord (loads : List Segment) (text : Bool) (tables : List TableLocation) (word : Word) : Type 0 where
  pub held : IsHeldByLoad loads word
  pub writable : text ≡ false → has_flag 2 held.0 ≡ true
  pub in_no_table : (table : TableLocation) (start size address : ℕ) → Contains tables table → table.start ≡ Some start
      → table.size ≡ Some size → IsInExtent word.address word.width address → ¬ IsInExtent start size address

-- all relocations of an object have words; each with bytes is in the memory of one of these loads; no two have a byte in
-- common
pub record AreWordsApart {E : Type 0} {r : _} (fields : E → SymbolFields) (objects : List (DynamicObject E r)) (of : ℕ) (own : DynamicObject E r) (loads : List Segment) : Type 0 where
  pub items : List (Relocated E)
  pub words : List Word
  pub relocations_are : own_relocations (Some own) ≡ Ok (map relocation_of items)
  pub have_words : All (HasWord fields objects (object_file own) own of false) items
  pub words_are : item_words items ≡ map (λ word. Ok word) words
  pub held : (word : Word) → Contains words word → 0 < word.width → IsHeldByLoad loads word
  pub apart : (i j : ℕ) (one other : Word) (address : ℕ) → i < j → slice_get words i ≡ Some one → slice_get words j ≡ Some other
      → IsInExtent one.address one.width address → ¬ IsInExtent other.address other.width address

-- the words of an object are apart, and each with bytes can be written
pub record AreWritten {E : Type 0} {r : _} (size : ℕ) (fields : E → SymbolFields) (objects : List (DynamicObject E r)) (of : ℕ) (own : DynamicObject E r) (plan : LoadPlan) : Type 0 where
  pub apart : AreWordsApart fields objects of own (plan_loads plan)
  pub each : (word : Word) → Contains apart.words word → 0 < word.width → IsWritableWord (plan_loads plan)
      (asks_for_text (view_entries (object_view own))) (tables_of size own) word
