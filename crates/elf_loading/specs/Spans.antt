-- The addresses that a plan covers (this project's own).
use Rattle.std.specs.Prelude.{ℕ, ◌+◌, ◌<◌, ◌≤◌, ◌==◌, ◌&&◌, nat_le, nat_lt, Bool, false, List, [], ◌∷◌, Option, Some, None, Result, Ok, Err}
use Rattle.std.specs.List.{Contains}
use Rattle.elf_loading.specs.Types.{LoadError, Segment, Span}
use Rattle.elf_loading.specs.LoadCheck.{load_end, load_start}
use Rattle.elf_loading.specs.Pages.{down}

-- the end of the pages of the last load, or `before` if there is none
abbrev pub last_end : ℕ → ℕ → List Segment → ℕ
last_end page before [] = before
last_end page before (load ∷ loads) = last_end page (load_end page load) loads

-- the start of the pages of the first load
abbrev pub first_start : ℕ → List Segment → ℕ
first_start page [] = 0
first_start page (load ∷ loads) = load_start page load

-- the addresses from the first page of the first load to the last of the last
abbrev pub span_of : ℕ → List Segment → Span
span_of page loads = record { start = first_start page loads; end = last_end page 0 loads }

-- the pages of what is read-only after relocation: both ends are rounded down
abbrev pub relro_span : ℕ → Segment → Span
relro_span page relro = record {
  start = down page relro.address;
  end = down page (relro.address + relro.mem_size);
}

-- whether an address is in a range, if there is one
abbrev pub is_in : Option Span → ℕ → Bool
is_in (Some span) address = nat_le span.start address && nat_lt address span.end
is_in None address = false

-- an address is in the pages of one of these loads
abbrev pub IsInLoad : ℕ → List Segment → ℕ → Type 0
IsInLoad page loads address =
    (load : Segment) × Contains loads load × (load_start page load ≤ address) × (address < load_end page load)

-- each address of a range is in a load
abbrev pub IsCovered : ℕ → List Segment → Span → Type 0
IsCovered page loads span =
    (address : ℕ) → span.start ≤ address → address < span.end → IsInLoad page loads address

-- an address of a range is in no load
pub record HasUncovered (page : ℕ) (loads : List Segment) (span : Span) : Type 0 where
  pub address : ℕ
  pub begins : span.start ≤ address
  pub ends : address < span.end
  pub not_in_load : ¬ IsInLoad page loads address

-- whether a check ended with this number
abbrev pub ends_at : Result ℕ LoadError → ℕ → Bool
ends_at (Ok end) wanted = end == wanted
ends_at (Err error) wanted = false
