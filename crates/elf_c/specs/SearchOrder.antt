-- The order in which objects are loaded and start, by what their entries found (`ld.so` of glibc).
use Rattle.std.specs.Prelude.{◌≡◌, ◌<◌, ◌==◌, ◌+◌, ◌||◌, not, nat_eq, ℕ, Bool, true, List, [], ◌∷◌, length, position, slice_get, IsSomeAnd, Option, None, Some, Result, Ok, Err}
use Rattle.std.specs.List.{list_any}
use Rattle.elf_search.specs.Order.{IsPlainOrder, edges_of}
use Rattle.elf_search.specs.Starts.{Starts}
use Rattle.elf_search.specs.declared.order.Order.{Order}
use Rattle.elf_c.specs.declared.search_files.TheConstants.{AUXILIARY, FILTER}
use Rattle.elf_c.specs.declared.search_order.Dependencies.{Dependencies}
use Rattle.elf_c.specs.declared.search_order.ObjectEntry.{ObjectEntry}
use Rattle.elf_c.specs.declared.search_order.TheConstants.{NOT_ASKED}
use Rattle.elf_c.specs.declared.status.AnyError.{AnyError}
use Rattle.elf_c.specs.declared.status.AnyError.TheVariants.{NoRecord}

-- some entries are auxiliary or filter entries
abbrev pub has_other_kind : List ℕ → Bool
has_other_kind kinds = list_any (λ other. nat_eq other AUXILIARY) kinds || list_any (λ other. nat_eq other FILTER) kinds

-- no entry of the objects is
abbrev pub are_needed : List Dependencies → Bool
are_needed objects = not (list_any (λ one. has_other_kind one.kinds.now) objects)

-- the index of the first entry that was not asked for
abbrev pub unasked_in : List ℕ → Option ℕ
unasked_in found = position (λ number. number == NOT_ASKED) found

-- an entry of an object, or the first one of other objects
abbrev pub entry_or : ℕ → Option ℕ → Option (ℕ × ℕ) → Option (ℕ × ℕ)
entry_or object None later = later
entry_or object (Some entry) later = Some (object, entry)

-- the first entry that was not asked for of the objects from a number on: entries are asked for object by object
abbrev pub first_unasked : ℕ → List Dependencies → Option (ℕ × ℕ)
first_unasked number [] = None
first_unasked number (one ∷ objects) = entry_or number (unasked_in one.found.now) (first_unasked (number + 1) objects)

-- an entry as numbers, if there is one
abbrev pub next_answer : Option (ℕ × ℕ) → Result ObjectEntry AnyError
next_answer None = Err NoRecord
next_answer (Some own) = Ok (record { object = own.0; entry = own.1 })

-- an entry of an object found this number
abbrev pub HasFound : ℕ → List Dependencies → ℕ → ℕ → Type 0
HasFound number objects object entry =
    IsSomeAnd (slice_get objects object) (λ one. slice_get one.found.now entry ≡ Some number)

-- an entry of an object was not asked for
abbrev pub IsUnasked : List Dependencies → ℕ → ℕ → Type 0
IsUnasked objects object entry = HasFound NOT_ASKED objects object entry

-- what the first objects found is in lists by their numbers
abbrev pub AreListed : (ℕ → List ℕ) → List Dependencies → ℕ → Type 0
AreListed lists objects count =
    (number : ℕ) (one : Dependencies) → number < count → slice_get objects number ≡ Some one → lists number ≡ one.found.now

-- the objects start in an order by what their entries found. Without auxiliary and filter entries they are in the order in
-- which they are loaded, which is that of their numbers
pub record IsStartOrder (objects : List Dependencies) (list starts : List ℕ) : Type 0 where
  pub order : Order
  pub same_count : order.count ≡ length objects
  pub found : AreListed (edges_of order) objects (length objects)
  pub plain : are_needed objects ≡ true → IsPlainOrder order
  pub numbers : are_needed objects ≡ true → (k : ℕ) → k < length objects → slice_get list k ≡ Some k
  pub starts_are : Starts order starts
