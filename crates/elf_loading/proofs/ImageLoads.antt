-- The load that has a word, and the span of a plan, which has all loads.
use Rattle.std.proofs.Common.{◌≡◌, ℕ, zero, suc, ◌+◌, ◌-◌, ◌*◌, ◌<◌, ◌≤◌, not, Bool, true, false, List, [], ◌∷◌, length, slice_index_or, Option, Some, None, if◌then◌else◌, min, max, refl, sym, ap, ◌∙◌, subst, arith}
use Rattle.std.proofs.lemmas.Bool.{and_parts, and_right, le-ltb, leb-true, lt-leb, ltb-false, not-true, or_parts}
use Rattle.std.proofs.lemmas.List.{take-append-drop}
use Rattle.std.proofs.lemmas.List.Folds.{find_at, list_any-append}
use Rattle.std.proofs.lemmas.Option.{get_or_from_slice_get, same_Some, slice_get_within}
use Rattle.std.specs.Prelude.{IfSome, drop, nat_le, option_map, slice_get, take}
use Rattle.std.specs.List.{Contains, find, list_any, position_or_len}
use Rattle.elf_loading.specs.Types.{Segment, TableLocation, Word}
use Rattle.elf_loading.specs.ImageWords.{IsKnown, holds_word, is_held, touch_one, touches, touches_at}
use Rattle.elf_loading.specs.LoadCheck.{load_end, load_start}
use Rattle.elf_loading.specs.Plan.{plan_file, plan_loads, plan_size, plan_span}
use Rattle.elf_loading.specs.declared.image_words.Holder.{Holder}
use Rattle.elf_loading.specs.declared.plan.LoadPlan.{LoadPlan}
use Rattle.elf_loading.proofs.FileChecks.{passes_apart}
use Rattle.elf_loading.proofs.Filled.{AreBetween, all_between, first_between}
use Rattle.elf_loading.proofs.LoadChecks.{AreApart, after_all}
use Rattle.elf_loading.proofs.Rounded.{down_le, up_ge}

pub holder_first : (word : Word) (items others : List Segment) (load : Segment) → items ≡ load ∷ others → holds_word word load ≡ true → find (holds_word word) items ≡ Some load
holder_first word items others load is hit = ap (find (holds_word word)) is ∙ rw hit refl

pub holder_rest : (word : Word) (items others : List Segment) (load : Segment) → items ≡ load ∷ others → holds_word word load ≡ false → find (holds_word word) items ≡ find (holds_word word) others
holder_rest word items others load is miss = ap (find (holds_word word)) is ∙ rw miss refl

pub holder_end : (word : Word) (items : List Segment) → items ≡ [] → find (holds_word word) items ≡ None
holder_end word items is = ap (find (holds_word word)) is

-- a load has a word
pub record IsHolder (word : Word) (load : Segment) : Type 0 where
  pub begins : load.address ≤ word.address
  pub ends : word.address + word.width ≤ load.address + load.mem_size

pub holder_by : (word : Word) (load : Segment) → holds_word word load ≡ true → IsHolder word load
holder_by word load held =
    let both = and_parts (nat_le load.address word.address) (nat_le (word.address + word.width) (load.address + load.mem_size)) held in
    record { begins = leb-true _ _ both.0; ends = leb-true _ _ both.1 }

-- the load that is found has the word
pub found_holder : (word : Word) (loads : List Segment) (load : Segment) → find (holds_word word) loads ≡ Some load → IsHolder word load
found_holder word [] load is = absurd (cc)
found_holder word (first ∷ loads) load is = by_first (found_holder word loads load) (holds_word word first) refl is
  where
    by_first : (find (holds_word word) loads ≡ Some load → IsHolder word load) → (b : Bool) → holds_word word first ≡ b
        → (if b then Some first else find (holds_word word) loads) ≡ Some load → IsHolder word load
    by_first later true held found = subst (IsHolder word) (same_Some first load found) (holder_by word first held)
    by_first later false held found = later found

-- it is one of the loads
pub holder_within : (word : Word) (loads : List Segment) (load : Segment) → find (holds_word word) loads ≡ Some load → Contains loads load
holder_within word loads load is =
    let at : slice_get loads (position_or_len (holds_word word) loads) ≡ Some load = sym (find_at (holds_word word) loads) ∙ is in
    (position_or_len (holds_word word) loads, slice_get_within loads _ load at, get_or_from_slice_get loads _ load load at)

-- the pages of a load that is found are between those of all loads
module _ (word : Word) (page low high : ℕ) (h : 0 < page) where
  abbrev IsBetween : Segment → Type 0
  IsBetween load = (low ≤ load_start page load) × (load_end page load ≤ high)

  found_between : (loads : List Segment) (load : Segment) → AreBetween page low high loads → find (holds_word word) loads ≡ Some load → IsBetween load
  found_between [] load between is = absurd (cc)
  found_between (first ∷ loads) load between is =
      let all_of = first_between page h low high first (first ∷ loads) loads refl between in
      by_first all_of.begins all_of.ends (found_between loads load all_of.rest) (holds_word word first) is
    where
      by_first : low ≤ load_start page first → load_end page first ≤ high → (find (holds_word word) loads ≡ Some load → IsBetween load)
          → (b : Bool) → (if b then Some first else find (holds_word word) loads) ≡ Some load → IsBetween load
      by_first begins ends later true found = subst IsBetween (same_Some first load found) (begins, ends)
      by_first begins ends later false found = later found

-- the loads of a plan are in its span
pub plan_between : (plan : LoadPlan) → AreBetween plan.page (plan_span plan).start (plan_span plan).end (plan_loads plan)
plan_between plan = all_between plan.page plan.paged (plan_loads plan) (passes_apart (plan_file plan) plan.page plan.limit plan.end plan.checked)

-- a word that a load of a plan holds is in its span
pub in_plan : (plan : LoadPlan) (word : Word) (load : Segment) → (plan_span plan).start ≤ load_start plan.page load → load_end plan.page load ≤ (plan_span plan).end → IsHolder word load
    → ((plan_span plan).start ≤ word.address) × (word.address + word.width ≤ (plan_span plan).end)
in_plan plan word load begins ends holder =
    let below : load_start plan.page load ≤ load.address = down_le plan.page load.address in
    let above : load.address + load.mem_size ≤ load_end plan.page load = up_ge plan.page (load.address + load.mem_size) plan.paged in
    let from : load.address ≤ word.address = holder.begins in
    let to : word.address + word.width ≤ load.address + load.mem_size = holder.ends in
    (omega (arith, begins, below, from), omega (arith, ends, above, to))

-- a word that a load holds has its marks
pub word_room : (plan : LoadPlan) (start len : ℕ) (word : Word) (load : Segment) → start ≡ (plan_span plan).start → plan_size plan ≤ 8 * len → find (holds_word word) (plan_loads plan) ≡ Some load
    → (start ≤ word.address) × (word.address - start + word.width ≤ 8 * len)
word_room plan start len word load starts room found =
    let between = found_between word plan.page (plan_span plan).start (plan_span plan).end plan.paged (plan_loads plan) load (plan_between plan) found in
    let (from, to) = in_plan plan word load between.0 between.1 (found_holder word (plan_loads plan) load found) in
    (omega (arith, from, starts), omega (arith, from, to, room, starts))

-- a load at an index is between those of all loads
in_span : (page low high k : ℕ) (loads : List Segment) (load : Segment) → 0 < page → AreBetween page low high loads → k < length loads
    → slice_index_or loads k load ≡ load → (low ≤ load_start page load) × (load_end page load ≤ high)
in_span page low high k [] load h between below is = absurd (omega (arith, below))
in_span page low high zero (first ∷ loads) load h between below is =
    let all_of = first_between page h low high first (first ∷ loads) loads refl between in
    subst (λ l. (low ≤ load_start page l) × (load_end page l ≤ high)) is (all_of.begins, all_of.ends)
in_span page low high (suc k) (first ∷ loads) load h between below is =
    in_span page low high k loads load h (first_between page h low high first (first ∷ loads) loads refl between).rest (omega (arith, below)) is

-- a word that a load of a plan has is in its span
pub held_in_plan : (plan : LoadPlan) (word : Word) (load : Segment) → Contains (plan_loads plan) load → IsHolder word load
    → ((plan_span plan).start ≤ word.address) × (word.address + word.width ≤ (plan_span plan).end)
held_in_plan plan word load (k, below, is) holder =
    let (begins, ends) = in_span plan.page (plan_span plan).start (plan_span plan).end k (plan_loads plan) load plan.paged (plan_between plan) below is in
    in_plan plan word load begins ends holder

-- Of loads that are apart one has all bytes of a word.

module _ (page : ℕ) (h : 0 < page) (word : Word) (some : 0 < word.width) where
  missed_before : (load : Segment) → load_end page load ≤ word.address → holds_word word load ≡ false
  missed_before load past =
      let ends : load.address + load.mem_size ≤ load_end page load = up_ge page (load.address + load.mem_size) h in
      and_right (nat_le load.address word.address) (nat_le (word.address + word.width) (load.address + load.mem_size)) (lt-leb _ _ (omega (arith, past, ends, some)))

  holder_at : (before k : ℕ) (loads : List Segment) (load : Segment) → AreApart page before loads → k < length loads → slice_index_or loads k load ≡ load → holds_word word load ≡ true → find (holds_word word) loads ≡ Some load
  holder_at before k [] load apart below is held = absurd (omega (arith, below))
  holder_at before zero (first ∷ loads) load apart below is held =
      let hit : holds_word word first ≡ true = subst (λ l. holds_word word l ≡ true) (sym is) held in
      rw hit (ap (λ l. Some l) is)
  holder_at before (suc k) (first ∷ loads) load (after, apart) below is held =
      let later : load_end page first ≤ load_start page load = after_all page (load_end page first) k loads load h apart (omega (arith, below)) is in
      let low : load_start page load ≤ load.address = down_le page load.address in
      let begins : load.address ≤ word.address = (holder_by word load held).begins in
      rw (missed_before first (omega (arith, later, low, begins))) (holder_at (load_end page first) k loads load apart (omega (arith, below)) is held)

-- the load of a word before, if it has a word too, is the first that has it
pub found_again : (plan : LoadPlan) (tables : List TableLocation) (word : Word) (holder : Option Holder) → 0 < word.width → IfSome holder (IsKnown (plan_loads plan) tables)
    → is_held word holder ≡ true → option_map (λ one. one.load) holder ≡ find (holds_word word) (plan_loads plan)
found_again plan tables word None some known held = absurd (cc)
found_again plan tables word (Some one) some known held =
    let (k, below, is) = known.0 in
    sym (holder_at plan.page plan.paged word some 0 k (plan_loads plan) one.load (passes_apart (plan_file plan) plan.page plan.limit plan.end plan.checked) below is held)

-- Of a load without tables no word has a byte of one.

touch_within : (address many other others : ℕ) (start size : Option ℕ) → address ≤ other → other + others ≤ address + many → touches_at address many start size ≡ false → touches_at other others start size ≡ false
touch_within address many other others (Some start) (Some size) begins ends free =
    let apart : min (address + many) (start + size) ≤ max address start = ltb-false _ _ free in
    le-ltb _ _ (omega (arith, apart, begins, ends))
touch_within address many other others (Some start) None begins ends free = refl
touch_within address many other others None size begins ends free = refl

pub touch_none : (word : Word) (load : Segment) (tables : List TableLocation) → IsHolder word load → touch_one load.address load.mem_size tables ≡ false → list_any (touches word) tables ≡ false
touch_none word load [] holder free = refl
touch_none word load (table ∷ tables) holder free =
    let (first, rest) = or_parts (touches_at load.address load.mem_size table.start table.size) (touch_one load.address load.mem_size tables) free in
    rw (touch_within load.address load.mem_size word.address word.width table.start table.size holder.begins holder.ends first, touch_none word load tables holder rest) refl

-- so the last alone is looked at if the load of a word is free
pub free_load : (plan : LoadPlan) (tables : List TableLocation) (word : Word) (holder : Holder) → IsKnown (plan_loads plan) tables holder → find (holds_word word) (plan_loads plan) ≡ Some holder.load
    → holder.is_free ≡ true → list_any (touches word) tables ≡ list_any (touches word) (drop 8 tables)
free_load plan tables word holder known found free =
    let none = touch_none word holder.load (take 8 tables) (found_holder word (plan_loads plan) holder.load found) (not-true (touch_one holder.load.address holder.load.mem_size (take 8 tables)) (sym known.1 ∙ free)) in
    ap (list_any (touches word)) (sym (take-append-drop 8 tables)) ∙ list_any-append (touches word) (take 8 tables) (drop 8 tables) ∙ rw none refl

-- a load that was looked for
pub holder_is : (word : Word) (loads : List Segment) (holder : Option Holder) (one : Holder) → option_map (λ some. some.load) holder ≡ find (holds_word word) loads → holder ≡ Some one
    → find (holds_word word) loads ≡ Some one.load
holder_is word loads holder one first is = sym first ∙ ap (option_map (λ (some : Holder). some.load)) is
