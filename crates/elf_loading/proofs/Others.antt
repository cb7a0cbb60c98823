-- What a loader asks of the segments other than loads, segment by segment.
use Rattle.std.proofs.Common.{◌≡◌, ℕ, ◌==◌, ◌&&◌, ◌||◌, nat_le, Bool, true, false, List, [], ◌∷◌, map, Option, Some, None, option_map, if◌then◌else◌, refl, sym, ap, subst, ◌∙◌}
use Rattle.std.proofs.lemmas.Bool.{or_parts}
use Rattle.std.specs.List.{filter, find, last_or}
use Rattle.elf_loading.specs.Types.{Others, Segment}
use Rattle.elf_loading.specs.Others.{AreOthersIn, address_of, data_of, first_with, flags_of, is_kept, last_with, memory_of, others_with, template_of}
use Rattle.elf_loading.specs.Segments.{is_of_type}

-- a part of the last segment of a type, or what was found before
abbrev pub last_from : {A : Type 0} → (Segment → A) → ℕ → ℕ → Option A → List Segment → Option A
last_from part kind size before segments = last_or before (map part (filter (is_of_type kind size) segments))

-- a part of the first segment of a type: what was found before, or else that of the segments that are left
abbrev pub first_from : {A : Type 0} → (Segment → A) → ℕ → Option A → List Segment → Option A
first_from part kind (Some found) segments = Some found
first_from part kind None segments = option_map part (find (is_of_type kind 0) segments)

-- what is asked of all segments is what was found before, and that of the segments that are left
pub record AreLeft (all : List Segment) (before : Others) (segments : List Segment) : Type 0 where
  pub phdr_left : last_from address_of 6 0 before.phdr segments ≡ last_from address_of 6 0 None all
  pub relro_left : last_from memory_of 0x6474e552 0 before.relro segments ≡ last_from memory_of 0x6474e552 0 None all
  pub stack_left : last_from flags_of 0x6474e551 0 before.stack segments ≡ last_from flags_of 0x6474e551 0 None all
  pub tls_left : last_from template_of 7 1 before.tls segments ≡ last_from template_of 7 1 None all
  pub interpreter_left : first_from data_of 3 before.interpreter segments ≡ option_map data_of (find (is_of_type 3 0) all)

-- nothing was found
abbrev pub nothing : Others
nothing = record { phdr = None; relro = None; stack = None; tls = None; interpreter = None }

pub all_left : (all : List Segment) → AreLeft all nothing all
all_left all = record { phdr_left = refl; relro_left = refl; stack_left = refl; tls_left = refl; interpreter_left = refl }

-- a part of the last of these is that of the last
last_map : {A : Type 0} → (part : Segment → A) (before : Option Segment) (segments : List Segment) → last_or (option_map part before) (map part segments) ≡ option_map part (last_or before segments)
last_map part before [] = refl
last_map part before (segment ∷ segments) = last_map part (Some segment) segments

module _ {A : Type 0} (part : Segment → A) where
  last_by : (kind size : ℕ) (before : Option A) (segment : Segment) (segments : List Segment) (b : Bool) → is_of_type kind size segment ≡ b → last_from part kind size before (segment ∷ segments) ≡ last_from part kind size (if b then Some (part segment) else before) segments
  last_by kind size before segment segments true hit = rw hit refl
  last_by kind size before segment segments false miss = rw miss refl

  last_next : (kind size : ℕ) (before : Option A) (items others : List Segment) (segment : Segment) → items ≡ segment ∷ others → last_from part kind size (last_with part kind size before segment) others ≡ last_from part kind size before items
  last_next kind size before items others segment is =
      sym (ap (last_from part kind size before) is ∙ last_by kind size before segment others (is_of_type kind size segment) refl)

  first_by : (kind : ℕ) (segment : Segment) (others : List Segment) (b : Bool) → is_of_type kind 0 segment ≡ b → option_map part (find (is_of_type kind 0) (segment ∷ others)) ≡ first_from part kind (if b then Some (part segment) else None) others
  first_by kind segment others true hit = rw hit refl
  first_by kind segment others false miss = rw miss refl

  first_step : (kind : ℕ) (before : Option A) (others : List Segment) (segment : Segment) → first_from part kind before (segment ∷ others) ≡ first_from part kind (first_with part kind before segment) others
  first_step kind (Some found) others segment = refl
  first_step kind None others segment = first_by kind segment others (is_of_type kind 0 segment) refl

  first_next : (kind : ℕ) (before : Option A) (items others : List Segment) (segment : Segment) → items ≡ segment ∷ others → first_from part kind (first_with part kind before segment) others ≡ first_from part kind before items
  first_next kind before items others segment is = sym (ap (first_from part kind before) is ∙ first_step kind before others segment)

  skip_last : (kind size : ℕ) (before : Option A) (items others : List Segment) (segment : Segment) → items ≡ segment ∷ others → (segment.kind == kind) ≡ false → last_from part kind size before others ≡ last_from part kind size before items
  skip_last kind size before items others segment is other =
      sym (ap (last_from part kind size before) is ∙ last_by kind size before segment others false (ap (λ b. b && nat_le size segment.mem_size) other))

  skip_first : (kind : ℕ) (before : Option A) (items others : List Segment) (segment : Segment) → items ≡ segment ∷ others → (segment.kind == kind) ≡ false → first_from part kind before others ≡ first_from part kind before items
  skip_first kind (Some found) items others segment is other = refl
  skip_first kind None items others segment is other =
      sym (ap (first_from part kind None) is ∙ first_by kind segment others false (ap (λ b. b && nat_le 0 segment.mem_size) other))

  last_all : (kind size : ℕ) (found : Option A) (all items : List Segment) → items ≡ [] → last_from part kind size found items ≡ last_from part kind size None all → found ≡ option_map part (last_or None (filter (is_of_type kind size) all))
  last_all kind size found all items is left =
      ap (last_from part kind size found) (sym is) ∙ left ∙ last_map part None (filter (is_of_type kind size) all)

  first_end : (kind : ℕ) (found : Option A) → found ≡ first_from part kind found []
  first_end kind (Some segment) = refl
  first_end kind None = refl

  first_all : (kind : ℕ) (found : Option A) (all items : List Segment) → items ≡ [] → first_from part kind found items ≡ option_map part (find (is_of_type kind 0) all) → found ≡ option_map part (find (is_of_type kind 0) all)
  first_all kind found all items is left = first_end kind found ∙ ap (first_from part kind found) (sym is) ∙ left

left_with : (all : List Segment) (before : Others) (items others : List Segment) (segment : Segment) → items ≡ segment ∷ others → AreLeft all before items → AreLeft all (others_with before segment) others
left_with all before items others segment is left = record {
  phdr_left = last_next address_of 6 0 before.phdr items others segment is ∙ left.phdr_left;
  relro_left = last_next memory_of 0x6474e552 0 before.relro items others segment is ∙ left.relro_left;
  stack_left = last_next flags_of 0x6474e551 0 before.stack items others segment is ∙ left.stack_left;
  tls_left = last_next template_of 7 1 before.tls items others segment is ∙ left.tls_left;
  interpreter_left = first_next data_of 3 before.interpreter items others segment is ∙ left.interpreter_left;
}

pub rest_left : (all : List Segment) (before after : Others) (items others : List Segment) (segment : Segment) → items ≡ segment ∷ others → after ≡ others_with before segment → AreLeft all before items → AreLeft all after others
rest_left all before after items others segment is kept left =
    rw kept (left_with all before items others segment is left)

pub rest_same : (all : List Segment) (before : Others) (items others : List Segment) (segment : Segment) → items ≡ segment ∷ others → is_kept segment.kind ≡ false → AreLeft all before items → AreLeft all before others
rest_same all before items others segment is none left =
    let kind = segment.kind in
    let four = or_parts (kind == 6 || kind == 3 || kind == 7 || kind == 0x6474e552) (kind == 0x6474e551) none in
    let three = or_parts (kind == 6 || kind == 3 || kind == 7) (kind == 0x6474e552) four.0 in
    let two = or_parts (kind == 6 || kind == 3) (kind == 7) three.0 in
    let one = or_parts (kind == 6) (kind == 3) two.0 in record {
      phdr_left = skip_last address_of 6 0 before.phdr items others segment is one.0 ∙ left.phdr_left;
      relro_left = skip_last memory_of 0x6474e552 0 before.relro items others segment is three.1 ∙ left.relro_left;
      stack_left = skip_last flags_of 0x6474e551 0 before.stack items others segment is four.1 ∙ left.stack_left;
      tls_left = skip_last template_of 7 1 before.tls items others segment is two.1 ∙ left.tls_left;
      interpreter_left = skip_first data_of 3 before.interpreter items others segment is one.1 ∙ left.interpreter_left;
    }

-- a load changes nothing of it
pub load_same : (all : List Segment) (before : Others) (items others : List Segment) (segment : Segment) → items ≡ segment ∷ others → segment.kind ≡ 1 → AreLeft all before items → AreLeft all before others
load_same all before items others segment is one left = rest_same all before items others segment is (ap is_kept one) left

pub none_left : (all : List Segment) (found : Others) (items : List Segment) → items ≡ [] → AreLeft all found items → AreOthersIn all found
none_left all found items is left = record {
  phdr_is = last_all address_of 6 0 found.phdr all items is left.phdr_left;
  relro_is = last_all memory_of 0x6474e552 0 found.relro all items is left.relro_left;
  stack_is = last_all flags_of 0x6474e551 0 found.stack all items is left.stack_left;
  tls_is = last_all template_of 7 1 found.tls all items is left.tls_left;
  interpreter_is = first_all data_of 3 found.interpreter all items is left.interpreter_left;
}

pub others_in : (segments all : List Segment) (others : Others) → segments ≡ all → AreOthersIn segments others → AreOthersIn all others
others_in segments all others is found = subst (λ list. AreOthersIn list others) is found
