-- Results of calls that return a slice of the bytes they are given, or an error (this project's own).
use Rattle.std.specs.Prelude.{◌≡◌, ℕ, ◌+◌, List, Result, Ok, Err, IfOk, MatchResult}
use Rattle.std.specs.Borrow.{Bor}
use Rattle.elf_base.specs.declared.error.ElfError.{ElfError}

-- if the result is Ok, the returned bytes have the property
abbrev pub IfPart : (List ℕ → Type 0) → Result (Bor (List ℕ)) ElfError → Type 0
IfPart Is result = IfOk result (λ part. Is part.now)

-- `part` lies in memory at byte `place` of `whole`: a reference points into a block of memory
pub record LiesAt (whole : Bor (List ℕ)) (place : ℕ) (part : Bor (List ℕ)) : Type 0 where
  pub block : part.ref_ptr.0 ≡ whole.ref_ptr.0
  pub place_is : part.ref_ptr.1 ≡ whole.ref_ptr.1 + place

-- the returned bytes, or the returned error, are those that the definition computes
abbrev pub Answers : Result (List ℕ) ElfError → Result (Bor (List ℕ)) ElfError → Type 0
Answers answer result = MatchResult result (λ part. answer ≡ Ok part.now) (λ error. answer ≡ Err error)
