-- The bytes of an image, as they are copied from a file and cleared.
use Rattle.std.proofs.Common.{◌≡◌, ℕ, zero, suc, get_or, replicate, ◌+◌, ◌-◌, ◌<◌, ◌≤◌, ◌&&◌, not, nat_lt, nat_le, Bool, true, false, List, [], ◌∷◌, length, slice_index, Option, Some, None, if◌then◌else◌, inl, inr, refl, sym, ◌∙◌, arith}
use Rattle.std.proofs.lemmas.Bool.{and_from, and_left, and_parts, and_right, cases_lt, le-leb, le-ltb, leb-true, lt-leb, lt-ltb, ltb-false, ltb-true}
use Rattle.std.specs.Prelude.{option_map}
use Rattle.std.specs.List.{find}
use Rattle.elf_loading.specs.Types.{Loader, Segment}
use Rattle.elf_loading.specs.Bytes.{byte_number, is_zeroed, load_byte, offset_at, zeroed_end}
use Rattle.elf_loading.specs.LoadCheck.{fits_below, holds_address, load_end, load_start}
use Rattle.elf_loading.specs.Mappings.{mapped_end}
use Rattle.elf_loading.specs.Pages.{down}
use Rattle.elf_loading.specs.Spans.{first_start, last_end}
use Rattle.elf_loading.specs.declared.bytes.Byte.TheVariants.{File, Zero}
use Rattle.elf_loading.specs.declared.mapping.Loader.TheVariants.{Kernel, Glibc}
use Rattle.elf_loading.proofs.LoadChecks.{AreApart, fits_facts, start_le_end}
use Rattle.elf_loading.proofs.Follows.{is_within}
use Rattle.elf_loading.proofs.Rounded.{down_le, up_ge}

-- the places of what a loader writes to the pages of a load
pub record Places (page limit : ℕ) (by : Loader) (load : Segment) : Type 0 where
  pub starts : load_start page load ≤ load.address
  pub maps : load_start page load ≤ mapped_end page by load
  pub mapped : mapped_end page by load ≤ load_end page load
  pub zeros : load.address + load.file_size ≤ zeroed_end page by load
  pub zeroed : zeroed_end page by load ≤ load_end page load
  pub limited : load_end page load ≤ limit

module _ (page limit : ℕ) (load : Segment) (h : 0 < page) (fits : fits_below page limit load ≡ true) where
  zeroed_by : (b : Bool) → (load.address + load.file_size ≤ (if b then load_end page load else load.address + load.mem_size)) × ((if b then load_end page load else load.address + load.mem_size) ≤ load_end page load)
  zeroed_by true =
      let facts = fits_facts page limit load h fits in
      let above : load.address + load.mem_size ≤ load_end page load = up_ge page (load.address + load.mem_size) h in
      let sizes : load.file_size ≤ load.mem_size = facts.sizes in
      (omega arith, omega arith)
  zeroed_by false =
      let facts = fits_facts page limit load h fits in
      let above : load.address + load.mem_size ≤ load_end page load = up_ge page (load.address + load.mem_size) h in
      let sizes : load.file_size ≤ load.mem_size = facts.sizes in
      (omega arith, omega arith)

  zeroed_within : (by : Loader) → (load.address + load.file_size ≤ zeroed_end page by load) × (zeroed_end page by load ≤ load_end page load)
  zeroed_within Kernel = zeroed_by (nat_lt load.file_size load.mem_size)
  zeroed_within Glibc = zeroed_by false

  pub places : (by : Loader) → Places page limit by load
  places by =
      let facts = fits_facts page limit load h fits in
      let within = is_within page limit by load h fits in
      let (one, two) = zeroed_within by in
      record { starts = down_le page load.address; maps = within.begins; mapped = within.ends; zeros = one; zeroed = two; limited = facts.ends }

between_is : (b : Bool) (low high x : ℕ) → (b ≡ true → (low ≤ x) × (x < high)) → ((low ≤ x) → (x < high) → b ≡ true) → (nat_le low x && nat_lt x high) ≡ b
between_is true low high x so from = let (one, two) = so refl in and_from _ _ (le-leb _ _ one) (lt-ltb _ _ two)
between_is false low high x so from = elim (cases_lt x low) [
  | inl less ↦ and_left _ _ (lt-leb low x less)
  | inr one ↦ elim (cases_lt x high) [
    | inl two ↦ absurd (true_false (from one two))
    | inr past ↦ and_right _ _ (le-ltb x high past)
  ]
]
  where
    true_false : false ≡ true → ⊥
    true_false is = absurd (cc)

-- a test that an address is zeroed, by its place in the pages
module _ (page : ℕ) (load : Segment) (address : ℕ) (held : address < load_end page load) where
  kernel_by : (b : Bool) → (b ≡ true → load.file_size < load.mem_size) → (b ≡ false → load.mem_size ≤ load.file_size) → (nat_le (load.address + load.file_size) address && nat_lt address (if b then load_end page load else load.address + load.mem_size)) ≡ (b && nat_le (load.address + load.file_size) address)
  kernel_by true is isnt = between_is (nat_le (load.address + load.file_size) address) _ _ _ (λ ok. (leb-true _ _ ok, held)) (λ from to. le-leb _ _ from)
  kernel_by false is isnt = between_is false _ _ _ (λ never. absurd (cc)) none
    where
      none : load.address + load.file_size ≤ address → address < load.address + load.mem_size → false ≡ true
      none from to =
          let less : load.mem_size ≤ load.file_size = isnt refl in
          absurd (omega arith)

  zeroed_is : (by : Loader) → (nat_le (load.address + load.file_size) address && nat_lt address (zeroed_end page by load)) ≡ is_zeroed by address load
  zeroed_is Kernel = kernel_by (nat_lt load.file_size load.mem_size) (λ is. ltb-true _ _ is) (λ is. ltb-false _ _ is)
  zeroed_is Glibc = refl

shift_le : (base low i : ℕ) → base ≤ low → nat_le (low - base) i ≡ nat_le low (base + i)
shift_le base low i le = elim (cases_lt i (low - base)) [
  | inl less ↦ lt-leb (low - base) i less ∙ sym (lt-leb low (base + i) (omega arith))
  | inr above ↦ le-leb (low - base) i above ∙ sym (le-leb low (base + i) (omega arith))
]

shift_lt : (base high i : ℕ) → base ≤ high → nat_lt i (high - base) ≡ nat_lt (base + i) high
shift_lt base high i le = elim (cases_lt i (high - base)) [
  | inl less ↦ lt-ltb i (high - base) less ∙ sym (lt-ltb (base + i) high (omega arith))
  | inr above ↦ le-ltb i (high - base) above ∙ sym (le-ltb (base + i) high (omega arith))
]

-- a byte of the file, or zero, by three tests
module _ (input : List ℕ) (offset old : ℕ) (zero_there : old ≡ 0) where
  by_tests : (cleared mapped fits : Bool) → (if cleared then 0 else (if true && mapped && fits then slice_index input offset else old)) ≡ byte_number input (Some (if mapped && not cleared && fits then File offset else Zero))
  by_tests true true fits = refl
  by_tests true false fits = refl
  by_tests false true true = refl
  by_tests false true false = zero_there
  by_tests false false fits = zero_there

module _ (page limit : ℕ) (by : Loader) (load : Segment) (input : List ℕ) (base i : ℕ) (h : 0 < page) (fits : fits_below page limit load ≡ true) (after : base ≤ load_start page load) where
  -- the byte that is copied, and then perhaps cleared
  abbrev pub copied_byte : ℕ → ℕ
  copied_byte old =
      let start = load_start page load - base in
      if nat_le start i && nat_lt i (mapped_end page by load - base) && nat_lt (down page load.offset + (i - start)) (length input)
      then slice_index input (down page load.offset + (i - start)) else old

  abbrev pub filled_byte : ℕ → ℕ
  filled_byte old = if nat_le (load.address + load.file_size - base) i && nat_lt i (zeroed_end page by load - base) then 0 else copied_byte old

  inside : (old : ℕ) → holds_address page (base + i) load ≡ true → old ≡ 0 → filled_byte old ≡ byte_number input (Some (load_byte page by (length input) (base + i) load))
  inside old holds zero_there =
      let all = places page limit load h fits by in
      let both = and_parts (nat_le (load_start page load) (base + i)) (nat_lt (base + i) (load_end page load)) holds in
      let begins : load_start page load ≤ base + i = leb-true _ _ both.0 in
      let ends : base + i < load_end page load = ltb-true _ _ both.1 in
      let starts : load_start page load ≤ load.address = all.starts in
      let maps : load_start page load ≤ mapped_end page by load = all.maps in
      let zeros : load.address + load.file_size ≤ zeroed_end page by load = all.zeros in
      let low = shift_le base (load.address + load.file_size) i (omega arith) in
      let high = shift_lt base (zeroed_end page by load) i (omega arith) in
      let first : nat_le (load_start page load - base) i ≡ true = le-leb _ _ (omega arith) in
      let mapped = shift_lt base (mapped_end page by load) i (omega arith) in
      let offset : down page load.offset + (i - (load_start page load - base)) ≡ offset_at page (base + i) load = omega arith in
      rw (low, high, first, mapped, offset, zeroed_is page load (base + i) ends by)
      (by_tests input (offset_at page (base + i) load) old zero_there (is_zeroed by (base + i) load) (nat_lt (base + i) (mapped_end page by load)) (nat_lt (offset_at page (base + i) load) (length input)))

  neither : (old : ℕ) (cleared copied : Bool) → cleared ≡ false → copied ≡ false → (if cleared then 0 else (if copied then slice_index input (down page load.offset + (i - (load_start page load - base))) else old)) ≡ old
  neither old cleared copied one two = rw (one, two) refl

  abbrev is_cleared : Bool
  is_cleared = nat_le (load.address + load.file_size - base) i && nat_lt i (zeroed_end page by load - base)

  abbrev is_copied : Bool
  is_copied = nat_le (load_start page load - base) i && nat_lt i (mapped_end page by load - base) && nat_lt (down page load.offset + (i - (load_start page load - base))) (length input)

  before : base + i < load_start page load → (is_cleared ≡ false) × (is_copied ≡ false)
  before less =
      let all = places page limit load h fits by in
      let starts : load_start page load ≤ load.address = all.starts in
      let low : nat_le (load.address + load.file_size - base) i ≡ false = lt-leb _ _ (omega arith) in
      let start : nat_le (load_start page load - base) i ≡ false = lt-leb _ _ (omega arith) in
      (rw low refl, rw start refl)

  behind : load_end page load ≤ base + i → (is_cleared ≡ false) × (is_copied ≡ false)
  behind past =
      let all = places page limit load h fits by in
      let maps : mapped_end page by load ≤ load_end page load = all.mapped in
      let zeros : zeroed_end page by load ≤ load_end page load = all.zeroed in
      let high : nat_lt i (zeroed_end page by load - base) ≡ false = le-ltb _ _ (omega arith) in
      let mapped : nat_lt i (mapped_end page by load - base) ≡ false = le-ltb _ _ (omega arith) in
      (and_right _ _ high, by_second (nat_le (load_start page load - base) i) _ _ mapped)
    where
      by_second : (a b c : Bool) → b ≡ false → (a && b && c) ≡ false
      by_second true b c is = rw is refl
      by_second false b c is = refl

  outside : (old : ℕ) → holds_address page (base + i) load ≡ false → filled_byte old ≡ old
  outside old missed = elim (cases_lt (base + i) (load_start page load)) [
    | inl less ↦ (let (one, two) = before less in neither old is_cleared is_copied one two)
    | inr begins ↦ elim (cases_lt (base + i) (load_end page load)) [
      | inl ends ↦
          let hit : holds_address page (base + i) load ≡ true = and_from _ _ (le-leb _ _ begins) (lt-ltb _ _ ends) in
          absurd (cc)
      | inr past ↦ (let (one, two) = behind past in neither old is_cleared is_copied one two)
    ]
  ]

  by_held : (old : ℕ) (b : Bool) → holds_address page (base + i) load ≡ b → (b ≡ true → old ≡ 0) → filled_byte old ≡ (if b then byte_number input (Some (load_byte page by (length input) (base + i) load)) else old)
  by_held old true is zeros = inside old is (zeros refl)
  by_held old false is zeros = outside old is

  -- what is copied and cleared is the byte of the load in its pages, and what was there elsewhere
  pub load_filled : (old : ℕ) → (holds_address page (base + i) load ≡ true → old ≡ 0) → filled_byte old ≡ (if holds_address page (base + i) load then byte_number input (Some (load_byte page by (length input) (base + i) load)) else old)
  load_filled old zeros = by_held old (holds_address page (base + i) load) refl zeros

-- While loads are left, the byte at an address is that of the loads before, and zero in the pages of one of the rest.
abbrev pub IsFilled : List ℕ → ℕ → Loader → ℕ → Option Segment → Option Segment → ℕ → Type 0
IsFilled input page by address None found byte = byte ≡ byte_number input (option_map (load_byte page by (length input) address) found)
IsFilled input page by address (Some load) found byte = (byte ≡ 0) × (found ≡ Some load)

pub zero_at : (count i : ℕ) → ◌≡◌ {A = ℕ} (get_or (replicate count 0) i 0) 0
zero_at zero i = refl
zero_at (suc count) zero = refl
zero_at (suc count) (suc i) = zero_at count i

module _ (input : List ℕ) (page : ℕ) (by : Loader) (address : ℕ) where
  init_by : (found : Option Segment) → IsFilled input page by address found found 0
  init_by None = refl
  init_by (Some load) = (refl, refl)

  -- before the first load all is zero
  pub none_filled : (loads rest : List Segment) (byte : ℕ) → rest ≡ loads → byte ≡ 0 → IsFilled input page by address (find (holds_address page address) rest) (find (holds_address page address) loads) byte
  none_filled loads rest byte same zero_there = rw (same, zero_there) (init_by (find (holds_address page address) loads))

  step_by : (load : Segment) (others : List Segment) (found : Option Segment) (byte : ℕ) (b : Bool) → holds_address page address load ≡ b → (b ≡ true → find (holds_address page address) others ≡ None)
      → IsFilled input page by address (if b then Some load else find (holds_address page address) others) found byte
      → IsFilled input page by address (find (holds_address page address) others) found (if b then byte_number input (Some (load_byte page by (length input) address load)) else byte)
  step_by load others found byte true is none (was, first) = rw (none refl) (rw first refl)
  step_by load others found byte false is none filled = filled

  -- one load more
  pub one_filled : (load : Segment) (rest others : List Segment) (found : Option Segment) (byte new : ℕ) → rest ≡ load ∷ others → (holds_address page address load ≡ true → find (holds_address page address) others ≡ None)
      → new ≡ (if holds_address page address load then byte_number input (Some (load_byte page by (length input) address load)) else byte)
      → IsFilled input page by address (find (holds_address page address) rest) found byte → IsFilled input page by address (find (holds_address page address) others) found new
  one_filled load rest others found byte new is none new_is filled =
      rw new_is (step_by load others found byte (holds_address page address load) refl none (rw is at filled))

-- The loads that are left are apart, within the span.

-- loads from an address on, and up to another
pub record AreBetween (page low high : ℕ) (loads : List Segment) : Type 0 where
  pub apart : AreApart page low loads
  pub ends : last_end page low loads ≤ high

-- the first is between them, and the rest are
pub record FirstBetween (page low high : ℕ) (load : Segment) (others : List Segment) : Type 0 where
  pub begins : low ≤ load_start page load
  pub ends : load_end page load ≤ high
  pub after : AreApart page (load_end page load) others
  pub rest : AreBetween page low high others

module _ (page : ℕ) (h : 0 < page) where
  pub apart_lower : (low low' : ℕ) (loads : List Segment) → low' ≤ low → AreApart page low loads → AreApart page low' loads
  apart_lower low low' [] le apart = tt
  apart_lower low low' (load ∷ loads) le (after, apart) = (omega arith, apart)

  pub end_after_start : (before : ℕ) (loads : List Segment) → AreApart page before loads → before ≤ last_end page before loads
  end_after_start before [] apart = omega arith
  end_after_start before (load ∷ loads) (after, apart) =
      let order : load_start page load ≤ load_end page load = start_le_end page load h in
      let more : load_end page load ≤ last_end page (load_end page load) loads = end_after_start (load_end page load) loads apart in
      omega arith

  lower_end : (low low' high : ℕ) (loads : List Segment) → low' ≤ low → last_end page low loads ≤ high → last_end page low' loads ≤ high
  lower_end low low' high [] le ends = omega arith
  lower_end low low' high (load ∷ loads) le ends = ends

  pub first_between : (low high : ℕ) (load : Segment) (rest others : List Segment) → rest ≡ load ∷ others → AreBetween page low high rest → FirstBetween page low high load others
  first_between low high load rest others is between = by_cons (rw is at between)
    where
      by_cons : AreBetween page low high (load ∷ others) → FirstBetween page low high load others
      by_cons all =
          let order : load_start page load ≤ load_end page load = start_le_end page load h in
          let begins : low ≤ load_start page load = all.apart.0 in
          let more : load_end page load ≤ last_end page (load_end page load) others = end_after_start (load_end page load) others all.apart.1 in
          let ends : last_end page (load_end page load) others ≤ high = all.ends in
          record {
            begins = begins;
            ends = omega arith;
            after = all.apart.1;
            rest = record { apart = apart_lower (load_end page load) low others (omega arith) all.apart.1; ends = lower_end (load_end page load) low high others (omega arith) ends };
          }

  pub all_between : (loads : List Segment) → AreApart page 0 loads → AreBetween page (first_start page loads) (last_end page 0 loads) loads
  all_between [] apart = record { apart = tt; ends = omega arith }
  all_between (load ∷ loads) apart = record { apart = (omega arith, apart.1); ends = omega arith }
