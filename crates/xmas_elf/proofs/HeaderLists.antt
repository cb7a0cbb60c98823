-- Lists of headers: the computed list is the longest, and the entries of its table.
use Rattle.std.proofs.Common.{◌≡◌, ℕ, zero, suc, ◌+◌, ◌-◌, ◌*◌, ◌≤◌, ◌<◌, List, [], ◌∷◌, length, drop, slice_get, Some, Result, Ok, ap, ◌∙◌, arith, add-zero}
use Rattle.std.specs.List.{HoldsAt}
use Rattle.std.proofs.Math.Seq.{drop-cons}
use Rattle.std.proofs.lemmas.Option.{get_or_from_slice_get, slice_get-get_or, slice_get_within}
use Rattle.xmas_elf.specs.Prelude.{ElfError}
use Rattle.xmas_elf.specs.HeaderTable.{IsLaidOut, IsLongest, entry_place, header_list, headers_from}

-- the computed list is the longest: each item is the header at its index, and the list ends only at a header
-- that cannot be read
longest-headers_from : {H : Type 0} (header_at at : ℕ → Result H ElfError) (count index : ℕ) → ((i : ℕ) → at i ≡ header_at (index + i)) → IsLongest at count (headers_from header_at index count)
longest-headers_from header_at at zero index same = grind arith
longest-headers_from header_at at (suc count) index same =
    let first = same 0 ∙ ap header_at (add-zero index) in
    let rest = longest-headers_from header_at (λ i. at (suc i)) count (suc index) (λ i. same (suc i) ∙ ap header_at (omega arith)) in grind arith

pub header_list-longest : {H : Type 0} (header_at : ℕ → Result H ElfError) (limit : ℕ) → IsLongest header_at limit (header_list header_at limit)
header_list-longest header_at limit =
    let all : limit - 0 ≡ limit = omega arith in
    rw all (longest-headers_from header_at header_at limit 0 (λ i. ap header_at (omega arith)))

-- a table whose entry at an index can be read exactly if `Has` is true of the index: entries are large
-- enough, and those end within the input
pub record IsTable {H : Type 0} (header_at : ℕ → Result H ElfError) (Has : ℕ → Type 0) (at_place : ℕ → H) (offset entry_size size len : ℕ) : Type 0 where
  pub at : (i : ℕ) → Has i → header_at i ≡ Ok (at_place (entry_place offset entry_size i))
  pub can : (i : ℕ) (h : H) → header_at i ≡ Ok h → Has i
  pub within : (i : ℕ) → Has i → entry_place offset entry_size (i + 1) ≤ len
  pub large : (i : ℕ) → Has i → size ≤ entry_size

-- the items of a list can be read, so all of them have room in the input: each has `least` bytes or more
items_fit : {H : Type 0} (header_at : ℕ → Result H ElfError) (items : List H) (least len : ℕ) → ((i : ℕ) → i < length items → HoldsAt (λ h. header_at i ≡ Ok h) items i) → ((i : ℕ) (h : H) → header_at i ≡ Ok h → suc i * least ≤ len) → length items * least ≤ len
items_fit header_at [] least len each ends = omega arith
items_fit header_at (x ∷ others) least len each ends = ends (length others) _ (each (length others) (omega arith) x)

module _ {H : Type 0} {header_at : ℕ → Result H ElfError} {Has : ℕ → Type 0} {at_place : ℕ → H} {offset entry_size size len : ℕ} (table : IsTable header_at Has at_place offset entry_size size len) where
  pub table-laid : (n : ℕ) → ((i : ℕ) → i < n → Has i) → IsLaidOut header_at at_place offset entry_size size n len
  table-laid n each i below = grind arith

  -- the length of the list is the number of headers that can be read from index 0 on
  pub length-table : (limit n : ℕ) → n ≤ limit → ((i : ℕ) → i < n → Has i) → (n < limit → ¬ Has n) → n ≡ length (header_list header_at limit)
  length-table limit n few each most =
      let list = header_list-longest header_at limit in
      let counted = list.counted in
      let enough : ¬ (length (header_list header_at limit) < n) = λ above. list.longest _ (omega arith) (table.at _ (each _ above)) in
      let fewest : ¬ (n < length (header_list header_at limit)) = λ below. most (omega arith) (table.can n _ (list.each n below (at_place 0))) in
      omega (arith, enough, fewest)

  -- the list has no more items than fit in the input
  pub table-fits : (limit least : ℕ) → least ≤ size → length (header_list header_at limit) * least ≤ len
  table-fits limit least some =
      items_fit header_at (header_list header_at limit) least len (header_list-longest header_at limit).each (λ i h is.
      let within = table.within i (table.can i h is) in
      let large = table.large i (table.can i h is) in grind arith)

  -- a header that can be read is the item at its index
  pub table-item : (limit i : ℕ) (h : H) → i < length (header_list header_at limit) → header_at i ≡ Ok h → (Some h ≡ slice_get (header_list header_at limit) i) × (i < length (header_list header_at limit)) × (h ≡ at_place (entry_place offset entry_size i))
  table-item limit i h below is =
      let item = (header_list-longest header_at limit).each i below h in grind (arith, slice_get-get_or)

-- the first of the items that are left is the item at the index
pub item_before : {H : Type 0} (items : List H) (i : ℕ) (h : H) → slice_get items i ≡ Some h → drop i items ≡ h ∷ drop (i + 1) items
item_before items i h is =
    let next = drop-cons items i h in grind (arith, slice_get_within, get_or_from_slice_get)
