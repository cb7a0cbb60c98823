-- A pass over the loads, load by load.
use Rattle.std.proofs.Common.{◌≡◌, ℕ, ◌||◌, Bool, true, false, List, [], ◌∷◌, Option, Some, None, is_none, is_some, option_map, unwrap_or, ◌==◌, ◌&&◌, Ok, Err, if◌then◌else◌, refl, sym, ap, subst, ◌∙◌}
use Rattle.std.specs.List.{filter, last_or, list_any}
use Rattle.elf_base.specs.FileHeader.{header_fields}
use Rattle.xmas_elf.specs.Types.{ElfFile}
use Rattle.elf_loading.specs.Types.{Extent, LoadError, Others, Pass, Segment, Tls, Wanted}
use Rattle.elf_loading.specs.FileCheck.{covered_to, holder_in, holds_offset, is_misplaced, kind_of, is_no_path, is_no_template, is_put_at, is_uncovered}
use Rattle.elf_loading.specs.LoadCheck.{check_load, check_loads, load_start}
use Rattle.elf_loading.specs.LoadPass.{IsPassOf, first_of, holds_some, is_elsewhere, is_past_covered, is_wrong_path, is_wrong_template, pass_with}
use Rattle.elf_loading.specs.Others.{AreOthersOf, address_of, data_of, memory_of, template_of}
use Rattle.elf_loading.specs.Segments.{interpreter_of, loads_of, phdr_of}
use Rattle.elf_loading.specs.Spans.{first_start}
use Rattle.elf_loading.proofs.LoadChecks.{checked_end, checked_load, end_is, error_load}

-- the start of the first load: the one that was found before, or else that of the loads that are left
abbrev pub first_from : ℕ → Option ℕ → ℕ → List Segment → ℕ
first_from page (Some end) start loads = start
first_from page None start [] = start
first_from page None start (load ∷ loads) = load_start page load

-- whether the last load with the byte at an offset puts it at an address, or what was found before
abbrev pub placed_from : ℕ → ℕ → Bool → List Segment → Bool
placed_from offset address before [] = before
placed_from offset address before (load ∷ loads) =
    placed_from offset address (if holds_offset offset load then is_put_at offset address (Some load) else before) loads

-- what is found of the loads is what was found before, and that of the loads that are left
pub record IsLeft (page limit len : ℕ) (wanted : Wanted) (loads : List Segment) (pass : Pass) (rest : List Segment) : Type 0 where
  pub checks_left : check_loads page limit len pass.end rest ≡ check_loads page limit len None loads
  pub start_left : first_from page pass.end pass.start rest ≡ first_start page loads
  pub placed_left : placed_from wanted.offset wanted.phdr pass.is_placed rest ≡ placed_from wanted.offset wanted.phdr false loads
  pub covered_left : covered_to page pass.covered rest ≡ covered_to page wanted.first loads
  pub held_left : (pass.is_held || list_any (holds_some wanted.tls) rest) ≡ list_any (holds_some wanted.tls) loads

-- nothing was found
abbrev pub nothing : Wanted → Pass
nothing wanted = record { start = 0; end = None; is_placed = false; covered = wanted.first; is_held = false }

from_nothing : (page : ℕ) (loads : List Segment) → first_from page None 0 loads ≡ first_start page loads
from_nothing page [] = refl
from_nothing page (load ∷ loads) = refl

pub all_passed : (page limit len : ℕ) (wanted : Wanted) (loads items : List Segment) → items ≡ loads → IsLeft page limit len wanted loads (nothing wanted) items
all_passed page limit len wanted loads items is = record {
  checks_left = ap (check_loads page limit len None) is;
  start_left = ap (first_from page None 0) is ∙ from_nothing page loads;
  placed_left = ap (placed_from wanted.offset wanted.phdr false) is;
  covered_left = ap (covered_to page wanted.first) is;
  held_left = ap (list_any (holds_some wanted.tls)) is;
}

holder_by : (offset : ℕ) (before : Option Segment) (load : Segment) (others : List Segment) (b : Bool) → holds_offset offset load ≡ b → last_or before (filter (holds_offset offset) (load ∷ others)) ≡ last_or (if b then Some load else before) (filter (holds_offset offset) others)
holder_by offset before load others true hit = rw hit refl
holder_by offset before load others false miss = rw miss refl

if_put : (offset address : ℕ) (found : Bool) (before : Option Segment) (load : Segment) (b : Bool) → found ≡ is_put_at offset address before → (if b then is_put_at offset address (Some load) else found) ≡ is_put_at offset address (if b then Some load else before)
if_put offset address found before load true is = refl
if_put offset address found before load false is = is

placed_is : (offset address : ℕ) (found : Bool) (before : Option Segment) (loads : List Segment) → found ≡ is_put_at offset address before → placed_from offset address found loads ≡ is_put_at offset address (holder_in offset before loads)
placed_is offset address found before [] is = is
placed_is offset address found before (load ∷ loads) is =
    placed_is offset address (if holds_offset offset load then is_put_at offset address (Some load) else found)
    (if holds_offset offset load then Some load else before) loads (if_put offset address found before load (holds_offset offset load) is)
    ∙ sym (ap (is_put_at offset address) (holder_by offset before load loads (holds_offset offset load) refl))

or_next : (a b c : Bool) → ((a || b) || c) ≡ (a || (b || c))
or_next true b c = refl
or_next false b c = refl

start_next : (page start : ℕ) (end : Option ℕ) (items others : List Segment) (load : Segment) → items ≡ load ∷ others → (if is_none end then load_start page load else start) ≡ first_from page end start items
start_next page start (Some end) items others load is = refl
start_next page start None items others load is = sym (ap (first_from page None start) is)

left_with : (page limit len : ℕ) (wanted : Wanted) (loads : List Segment) (before : Pass) (items others : List Segment) (load : Segment) (end : ℕ) → items ≡ load ∷ others → check_load page limit len before.end load ≡ Ok end → IsLeft page limit len wanted loads before items → IsLeft page limit len wanted loads (pass_with page wanted before load) others
left_with page limit len wanted loads before items others load end is ok left = record {
  checks_left = ap (λ n. check_loads page limit len (Some n) others) (end_is page limit len before.end load end ok)
      ∙ sym (checked_load page limit len before.end items others load end is ok) ∙ left.checks_left;
  start_left = start_next page before.start before.end items others load is ∙ left.start_left;
  placed_left = sym (ap (placed_from wanted.offset wanted.phdr before.is_placed) is) ∙ left.placed_left;
  covered_left = sym (ap (covered_to page before.covered) is) ∙ left.covered_left;
  held_left = or_next before.is_held (holds_some wanted.tls load) (list_any (holds_some wanted.tls) others)
      ∙ sym (ap (λ list. before.is_held || list_any (holds_some wanted.tls) list) is) ∙ left.held_left;
}

pub rest_passed : (page limit len : ℕ) (wanted : Wanted) (loads : List Segment) (before after : Pass) (items others : List Segment) (load : Segment) (end : ℕ) → items ≡ load ∷ others → check_load page limit len before.end load ≡ Ok end → after ≡ pass_with page wanted before load → IsLeft page limit len wanted loads before items → IsLeft page limit len wanted loads after others
rest_passed page limit len wanted loads before after items others load end is ok kept left =
    rw kept (left_with page limit len wanted loads before items others load end is ok left)

pub error_passed : (page limit len : ℕ) (wanted : Wanted) (loads : List Segment) (before : Pass) (items others : List Segment) (load : Segment) (error : LoadError) → items ≡ load ∷ others → check_load page limit len before.end load ≡ Err error → IsLeft page limit len wanted loads before items → check_loads page limit len None loads ≡ Err error
error_passed page limit len wanted loads before items others load error is err left =
    sym left.checks_left ∙ error_load page limit len before.end items others load error is err

or_false : (b : Bool) → b ≡ (b || false)
or_false true = refl
or_false false = refl

from_end : (page start : ℕ) (end : Option ℕ) → start ≡ first_from page end start []
from_end page start (Some end) = refl
from_end page start None = refl

pub none_passed : (page limit len : ℕ) (wanted : Wanted) (loads : List Segment) (pass : Pass) (items : List Segment) → items ≡ [] → IsLeft page limit len wanted loads pass items → (check_loads page limit len None loads ≡ Ok pass.end) × IsPassOf page wanted loads pass
none_passed page limit len wanted loads pass items is left = (
  sym left.checks_left ∙ checked_end page limit len pass.end items is,
  record {
    start_is = from_end page pass.start pass.end ∙ ap (first_from page pass.end pass.start) (sym is) ∙ left.start_left;
    placed_is = ap (placed_from wanted.offset wanted.phdr pass.is_placed) (sym is) ∙ left.placed_left ∙ placed_is wanted.offset wanted.phdr false None loads refl;
    covered_is = ap (covered_to page pass.covered) (sym is) ∙ left.covered_left;
    held_is = or_false pass.is_held ∙ ap (λ list. pass.is_held || list_any (holds_some wanted.tls) list) (sym is) ∙ left.held_left;
  },
)

pub passed_in : (page : ℕ) (wanted : Wanted) (loads others : List Segment) (pass : Pass) → loads ≡ others → IsPassOf page wanted loads pass → IsPassOf page wanted others pass
passed_in page wanted loads others pass is passed = subst (λ list. IsPassOf page wanted list pass) is passed

-- the checks of the other segments, by what is found
pub uncovered_is : (page covered : ℕ) (loads : List Segment) (relro : Option Segment) (memory : Option Extent) → memory ≡ option_map memory_of relro → covered ≡ covered_to page (first_of page memory) loads → is_past_covered page covered memory ≡ is_uncovered page loads relro
uncovered_is page covered loads (Some relro) memory same is = rw is (rw same refl)
uncovered_is page covered loads None memory same is = rw same refl

pub template_is : (held : Bool) (loads : List Segment) (tls : Option Segment) (template : Option Tls) → template ≡ option_map template_of tls → held ≡ list_any (holds_some template) loads → is_wrong_template held template ≡ is_no_template loads tls
template_is held loads (Some tls) template same is = rw is (rw same refl)
template_is held loads None template same is = rw same refl

pub path_is : (input : List ℕ) (interpreter : Option Segment) (path : Option Extent) → path ≡ option_map data_of interpreter → is_wrong_path input path ≡ is_no_path input interpreter
path_is input (Some segment) path same = rw same refl
path_is input None path same = rw same refl

some_is : (interpreter : Option Segment) → is_some (option_map data_of interpreter) ≡ is_some interpreter
some_is (Some segment) = refl
some_is None = refl

elsewhere_by : (file : ElfFile) (others : Others) (placed : Bool) (phdr : Option Segment) → others.phdr ≡ option_map address_of phdr → others.interpreter ≡ option_map data_of (interpreter_of file) → placed ≡ is_put_at (header_fields file.header.pt2).ph_offset (unwrap_or others.phdr 0) (holder_in (header_fields file.header.pt2).ph_offset None (loads_of file)) → is_elsewhere file others placed ≡ is_misplaced file phdr
elsewhere_by file others placed (Some segment) phdr path is = rw is (rw phdr refl)
elsewhere_by file others placed None phdr path is = rw phdr (rw path (ap (λ b. kind_of file.header == 3 && b) (some_is (interpreter_of file))))

pub elsewhere_is : (file : ElfFile) (others : Others) (placed : Bool) → AreOthersOf file others → placed ≡ is_put_at (header_fields file.header.pt2).ph_offset (unwrap_or others.phdr 0) (holder_in (header_fields file.header.pt2).ph_offset None (loads_of file)) → is_elsewhere file others placed ≡ is_misplaced file (phdr_of file)
elsewhere_is file others placed found is = elsewhere_by file others placed (phdr_of file) found.phdr_is found.interpreter_is is

-- the entry point, where the interpreter was kept
entry_by : (interpreter : Option Segment) → is_none (option_map data_of interpreter) ≡ is_none interpreter
entry_by (Some segment) = refl
entry_by None = refl

pub entry_is : (file : ElfFile) (path : Option Extent) → path ≡ option_map data_of (interpreter_of file) → is_none path ≡ is_none (interpreter_of file)
entry_is file path is = ap is_none is ∙ entry_by (interpreter_of file)
