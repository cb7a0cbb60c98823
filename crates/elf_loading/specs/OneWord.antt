-- Where words have no byte in common, each byte of a relocated image is that of the one word over its address, otherwise
-- the one of the plan (this project's own).
use Rattle.std.specs.Prelude.{◌≡◌, ℕ, ◌+◌, ◌<◌, ◌≤◌, ◌⊎◌, slice_get, slice_index, Bool, false, List, All, map, length, Option, None, Some, Result, Ok, Err}
use Rattle.std.specs.Borrow.{Bor}
use Rattle.std.specs.List.{count_by, find}
use Rattle.elf_linking.specs.DynamicObject.{object_file, object_view}
use Rattle.elf_linking.specs.DynamicView.{view_entries}
use Rattle.elf_linking.specs.declared.error.LinkError.TheVariants.{ObjectIndex}
use Rattle.elf_loading.specs.Types.{Binding, DynamicObject, LoadError, Loader, Place, Relocated, Word}
use Rattle.elf_loading.specs.Bytes.{byte_number, byte_of}
use Rattle.elf_loading.specs.ImageWords.{AreWordsApart, MatchBoth, covers}
use Rattle.elf_loading.specs.Plan.{IsImageBy, plan_loads}
use Rattle.elf_loading.specs.Relocate.{sources_of, image_start, word_byte}
use Rattle.elf_loading.specs.Words.{HasWord, binds_lazily}
use Rattle.elf_loading.specs.WordsLeft.{relocation_of, own_relocations}
use Rattle.elf_loading.specs.declared.error.LoadError.TheVariants as error
use Rattle.elf_loading.specs.declared.plan.LoadPlan.{LoadPlan}
use Rattle.elf_loading.specs.declared.relocate.Sources.{Sources}
use Rattle.xmas_elf.specs.Symbol.{SymbolFields}

-- an address is one of the bytes of a word, if that is known
abbrev pub is_of_word : ℕ → Result Word LoadError → Bool
is_of_word address (Ok word) = covers address word
is_of_word address (Err error) = false

-- an address is one of the bytes of the word of an item
abbrev pub is_over : {E : Type 0} → ℕ → Relocated E → Bool
is_over address item = is_of_word address item.word

-- the byte at an address after the word of an item was written, where `old` is the one before; that one if there is no item
abbrev pub byte_by_item : {E : Type 0} → {r : _} → Sources E r → ℕ → Option (Relocated E) → ℕ → ℕ
byte_by_item sources address None old = old
byte_by_item sources address (Some item) old = word_byte sources address item.word old

-- the byte at an address as a loader maps the file of a plan
abbrev pub plan_byte : LoadPlan → Loader → ℕ → ℕ
plan_byte plan by address =
    byte_number plan.input.now (byte_of plan.page by (length plan.input.now) address (plan_loads plan))

-- the items are all relocations of an object with the words that they write; where at most one word has the byte at an
-- address, its byte is that of this word, otherwise the one before, which is that of the plan. No more than one word has it
-- if the words are apart, as the check of the image finds
pub record IsByOneWord {E : Type 0} {r : _} (fields : E → SymbolFields) (sources : Sources E r) (own : DynamicObject E r) (plan : LoadPlan) (lazy : Bool) (before after : List ℕ) : Type 0 where
  pub items : List (Relocated E)
  pub are : own_relocations (Some own) ≡ Ok (map relocation_of items)
  pub have_words : All (HasWord fields sources.objects.now (object_file own) own sources.of lazy) items
  pub bytes : (i : ℕ) → i < length before → count_by (is_over (image_start sources sources.of + i)) items ≤ 1
      → slice_index after i ≡ byte_by_item sources (image_start sources sources.of + i)
      (find (is_over (image_start sources sources.of + i)) items) (slice_index before i)
  pub of_plan : (by : Loader) → IsImageBy by plan before → (i : ℕ) → i < length before
      → count_by (is_over (image_start sources sources.of + i)) items ≤ 1
      → slice_index after i ≡ byte_by_item sources (image_start sources sources.of + i)
      (find (is_over (image_start sources sources.of + i)) items) (plan_byte plan by (image_start sources sources.of + i))
  pub once : AreWordsApart fields sources.objects.now sources.of own (plan_loads plan)
      → (address : ℕ) → count_by (is_over address) items ≤ 1

-- the same for the object at an index of a scope, of which there are an object and a plan
abbrev pub IsByOneWordIn : {E : Type 0} → {r : _} → (E → SymbolFields) → Bor (List (DynamicObject E r)) → Bor (List LoadPlan) → ℕ → Binding → Bor (List Place) → Bor (List (Bor (List ℕ))) → List ℕ → List ℕ → Type 0
IsByOneWordIn fields objects plans of when places images before after =
    MatchBoth (slice_get objects.now of) (slice_get plans.now of) ⊥
    (λ own plan. IsByOneWord fields (sources_of objects plans of places images own) own plan
    (binds_lazily (view_entries (object_view own)) when) before after)

-- an error that is left for an object whose words are apart: sizes, a missing symbol, and missing bytes
abbrev pub IsErrorLeft : LoadError → Type 0
IsErrorLeft reason = (reason ≡ error.ImageSize) ⊎ ((reason ≡ error.Unresolved) ⊎ (reason ≡ error.CopySource))

-- an error is one of these if the words of the object at an index are apart, and no slots get their symbols later; without
-- an object or a plan it says so
abbrev pub HasErrorLeft : {E : Type 0} → {r : _} → (E → SymbolFields) → List (DynamicObject E r) → List LoadPlan → ℕ → Binding → LoadError → Type 0
HasErrorLeft fields objects plans of when reason =
    MatchBoth (slice_get objects of) (slice_get plans of) (reason ≡ error.Link ObjectIndex)
    (λ own plan. AreWordsApart fields objects of own (plan_loads plan)
    → binds_lazily (view_entries (object_view own)) when ≡ false → IsErrorLeft reason)
