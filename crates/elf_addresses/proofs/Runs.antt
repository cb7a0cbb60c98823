-- Runs of bytes with one owner: up to the end of the innermost claim, or the next begin of a part before it.
use Rattle.std.proofs.Common.{◌≡◌, ℕ, ◌<◌, ◌≤◌, ◌+◌, min, nat_lt, Bool, if◌then◌else◌, true, false, Option, Some, ◌⊎◌, inl, inr, refl, ap, subst, sym, arith}
use Rattle.std.proofs.lemmas.Bool.{both_ways, cases_lt, ltb-false, ltb-true}
use Rattle.xmas_elf.specs.Types.{ElfFile}
use Rattle.elf_addresses.specs.Claims.{Among, Covers, IsInnermost, claim_end, comes_before}
use Rattle.elf_addresses.specs.FileClaims.{byte_count, elf_header, program_headers, section_claim, section_headers, segment_claim}
use Rattle.elf_addresses.specs.Owner.{ClaimBegins, IsFree, IsIn, IsInnermostAt, IsOwner, IsUncovered, OutsideHeaders, PartBegins, RangeBegins, SectionBegins, TableBegins}
use Rattle.elf_addresses.specs.Runs.{IsNext, IsRun}
use Rattle.elf_addresses.specs.declared.claim.Claim.{Claim}
use Rattle.elf_addresses.specs.declared.owner.Owner.{Owner}
use Rattle.elf_addresses.specs.declared.owner.Owner.TheVariants.{ElfHeader, ProgramHeaders, SectionHeaders, Section, Segment, Between, Behind}
use Rattle.elf_addresses.proofs.FileParts.{IsWithin, cut_ends, section_within, segment_within}
use Rattle.elf_addresses.proofs.Order.{later_further_in}

-- the next begin of two kinds, one after the other
pub next_of_both : (A B : ℕ → Type 0) (byte limit one next : ℕ) → IsNext A byte limit one → IsNext B byte one next → IsNext (λ b. A b ⊎ B b) byte limit next
next_of_both A B byte limit one next first second = record {
  bound = let p : one ≤ limit = first.bound in let q : next ≤ one = second.bound in omega arith;
  first = λ begin behind begins. elim begins [
    | inl a ↦ let p : one ≤ begin = first.first begin behind a in let q : next ≤ one = second.bound in omega arith
    | inr b ↦ second.first begin behind b
  ];
  begins = λ less. elim (cases_lt next one) [
    | inl before ↦ let (behind, b) = second.begins before in (behind, inr b)
    | inr after ↦
        let q : next ≤ one = second.bound in
        let same : next ≡ one = omega arith in
        let (behind, a) = first.begins (omega arith) in
        (omega arith, inl (subst (λ n. A n) (sym same) a))
  ];
}

-- it is after the byte, if the limit is
pub next_behind : (A : ℕ → Type 0) (byte limit next : ℕ) → IsNext A byte limit next → byte < limit → byte < next
next_behind A byte limit next is less = elim (cases_lt next limit) [
  | inl before ↦ (is.begins before).0
  | inr after ↦ omega arith
]

-- nothing begins between the byte and the next begin
pub none_between : (A : ℕ → Type 0) (byte limit next b : ℕ) → IsNext A byte limit next → A b → b < next → b ≤ byte
none_between A byte limit next b is begins less = elim (cases_lt byte b) [
  | inl behind ↦ let p : next ≤ b = is.first b behind begins in absurd (omega arith)
  | inr before ↦ before
]

-- a range that no byte up to the next begin enters
outside_range : (A : ℕ → Type 0) (range : ℕ × ℕ) (byte limit next b : ℕ) → ((k : ℕ) → RangeBegins range k → A k) → IsNext A byte limit next → (IsIn range byte → ⊥) → byte ≤ b → b < next → IsIn range b → ⊥
outside_range A range byte limit next b each is out from to inside =
    let p : range.0 ≤ b = inside.0 in
    let q : b < range.0 + range.1 = inside.1 in
    let begins : range.0 ≤ byte = none_between A byte limit next range.0 is (each range.0 (refl, omega arith)) (omega arith) in
    out (omega arith, omega arith)

module _ (claim_of : ℕ → Option Claim) (n : ℕ) (within : (i : ℕ) (claim : Claim) → claim_of i ≡ Some claim → IsWithin n claim) where
  -- a claim that covers a byte up to the next begin covers the byte before
  covers_before : (A : ℕ → Type 0) (byte limit next b : ℕ) (claim : Claim) → ((k : ℕ) → ClaimBegins claim_of k → A k) → IsNext A byte limit next → byte ≤ b → b < next → Among claim_of (λ k. Covers k b) claim → Among claim_of (λ k. Covers k byte) claim
  covers_before A byte limit next b claim each is from to among =
      let p : claim.begin ≤ b = among.has.0 in
      let q : b < claim_end claim = among.has.1 in
      let sized = (within claim.index claim among.is).sized in
      let begins : claim.begin ≤ byte = none_between A byte limit next claim.begin is (each claim.begin (claim, record { is = among.is; has = (sized, refl) })) (omega arith) in
      record { is = among.is; has = (begins, omega arith) }

  pub uncovered_run : (A : ℕ → Type 0) (byte limit next b : ℕ) → ((k : ℕ) → ClaimBegins claim_of k → A k) → IsNext A byte limit next → byte ≤ b → b < next → IsUncovered claim_of byte → IsUncovered claim_of b
  uncovered_run A byte limit next b each is from to none = λ claim among. none claim (covers_before A byte limit next b claim each is from to among)

  pub innermost_run : (A : ℕ → Type 0) (byte next b : ℕ) (found : Claim) → ((k : ℕ) → ClaimBegins claim_of k → A k) → IsNext A byte (claim_end found) next → byte ≤ b → b < next → IsInnermost claim_of byte (Some found) → IsInnermost claim_of b (Some found)
  innermost_run A byte next b found each is from to (among, least) =
      let p : found.begin ≤ byte = among.has.0 in
      let q : next ≤ claim_end found = is.bound in (
        record { is = among.is; has = (omega arith, omega arith) },
        λ claim other. least claim (covers_before A byte (claim_end found) next b claim each is from to other),
      )

  -- a claim covers the byte at which it begins
  covers_begin : (byte : ℕ) → ClaimBegins claim_of byte → IsUncovered claim_of byte → ⊥
  covers_begin byte (claim, among) none =
      let same : claim.begin ≡ byte = among.has.1 in
      none claim (record { is = among.is; has = (omega arith, omega arith) })

  -- where another claim begins after the begin of a claim, that claim is not the innermost
  overtaken : (byte : ℕ) (found : Claim) → found.begin < byte → claim_of found.index ≡ Some found → ClaimBegins claim_of byte → IsInnermostAt claim_of byte found.index → ⊥
  overtaken byte found less stands (claim, among) (other, (there, least), index) =
      let at : claim_of found.index ≡ Some other = subst (λ i. claim_of i ≡ Some other) index there.is in
      let same : other ≡ found = cc in
      let same_begin : claim.begin ≡ byte = among.has.1 in
      let fails : comes_before claim found ≡ false = subst (λ k. comes_before claim k ≡ false) same (least claim (record { is = among.is; has = (omega arith, omega arith) })) in
      both_ways (comes_before claim found) fails (later_further_in false found claim (within found.index found stands).sized among.has.0 (omega arith))

  -- nor is it where it has ended
  ended : (byte : ℕ) (found : Claim) → claim_end found ≤ byte → claim_of found.index ≡ Some found → IsInnermostAt claim_of byte found.index → ⊥
  ended byte found past stands (other, (there, _), index) =
      let at : claim_of found.index ≡ Some other = subst (λ i. claim_of i ≡ Some other) index there.is in
      let same : found ≡ other = cc in
      let end : claim_end found ≡ claim_end other = ap claim_end same in
      let q : byte < claim_end other = there.has.1 in
      omega arith

module _ (file : ElfFile) where
  -- a table does not begin at a byte outside of the headers
  no_table : (byte : ℕ) → OutsideHeaders file byte → TableBegins file byte → ⊥
  no_table byte out (inl (begin, some)) = out.program_headers (omega arith, omega arith)
  no_table byte out (inr (begin, some)) = out.section_headers (omega arith, omega arith)

  -- bytes up to the next begin of a table stay outside of the headers
  outside_run : (A : ℕ → Type 0) (byte limit next b : ℕ) → ((k : ℕ) → TableBegins file k → A k) → IsNext A byte limit next → byte ≤ b → b < next → OutsideHeaders file byte → OutsideHeaders file b
  outside_run A byte limit next b each is from to out = record {
    elf_header = λ inside. let q : b < 0 + (elf_header file).1 = inside.1 in out.elf_header (omega arith, omega arith);
    program_headers = outside_range A (program_headers file) byte limit next b (λ k h. each k (inl h)) is out.program_headers from to;
    section_headers = outside_range A (section_headers file) byte limit next b (λ k h. each k (inr h)) is out.section_headers from to;
  }

  pub section_run : (byte next : ℕ) (found : Claim) → OutsideHeaders file byte → IsInnermost (section_claim file) byte (Some found) → IsNext (SectionBegins file) byte (claim_end found) next → IsRun file byte next (Section found.index)
  section_run byte next found out (among, least) is =
      let within = section_within file in
      let here = within found.index found among.is in
      let n = byte_count file in
      let p : found.begin ≤ byte = among.has.0 in
      let q : byte < claim_end found = among.has.1 in
      let some : byte < next = next_behind (SectionBegins file) byte (claim_end found) next is q in
      let bound : next ≤ claim_end found = is.bound in
      let last : claim_end found ≤ n = here.ends in
      record {
        some = some;
        within = omega arith;
        same = λ b from to. (
          outside_run (SectionBegins file) byte (claim_end found) next b (λ k h. inl h) is from to out,
          (found, innermost_run (section_claim file) n within (SectionBegins file) byte next b found (λ k h. inr h) is from to (among, least), refl),
        );
        ends = λ _ (out', inner). elim (cases_lt next (claim_end found)) [
          | inl before ↦ elim ((is.begins before).1) [
            | inl table ↦ no_table next out' table
            | inr section ↦ overtaken (section_claim file) n within next found (omega arith) among.is section inner
          ]
          | inr after ↦ ended (section_claim file) n within next found after among.is inner
        ];
      }

  pub segment_run : (byte next : ℕ) (found : Claim) → OutsideHeaders file byte → IsUncovered (section_claim file) byte → IsInnermost (segment_claim file) byte (Some found) → IsNext (PartBegins file) byte (claim_end found) next → IsRun file byte next (Segment found.index)
  segment_run byte next found out free (among, least) is =
      let within = segment_within file in
      let here = within found.index found among.is in
      let n = byte_count file in
      let p : found.begin ≤ byte = among.has.0 in
      let q : byte < claim_end found = among.has.1 in
      let some : byte < next = next_behind (PartBegins file) byte (claim_end found) next is q in
      let bound : next ≤ claim_end found = is.bound in
      let last : claim_end found ≤ n = here.ends in
      record {
        some = some;
        within = omega arith;
        same = λ b from to. (
          outside_run (PartBegins file) byte (claim_end found) next b (λ k h. inl (inl h)) is from to out,
          uncovered_run (section_claim file) n (section_within file) (PartBegins file) byte (claim_end found) next b (λ k h. inl (inr h)) is from to free,
          (found, innermost_run (segment_claim file) n within (PartBegins file) byte next b found (λ k h. inr h) is from to (among, least), refl),
        );
        ends = λ _ (out', free', inner). elim (cases_lt next (claim_end found)) [
          | inl before ↦ elim ((is.begins before).1) [
            | inl (inl table) ↦ no_table next out' table
            | inl (inr section) ↦ covers_begin (section_claim file) n (section_within file) next section free'
            | inr segment ↦ overtaken (segment_claim file) n within next found (omega arith) among.is segment inner
          ]
          | inr after ↦ ended (segment_claim file) n within next found after among.is inner
        ];
      }

  -- each part begins before the end of the file
  begins_before : (byte : ℕ) → PartBegins file byte → byte < byte_count file
  begins_before byte (inl (inl (inl (begin, some)))) =
      let ends : (program_headers file).0 + (program_headers file).1 ≤ byte_count file = cut_ends _ _ some in omega arith
  begins_before byte (inl (inl (inr (begin, some)))) =
      let ends : (section_headers file).0 + (section_headers file).1 ≤ byte_count file = cut_ends _ _ some in omega arith
  begins_before byte (inl (inr (claim, among))) =
      let less : claim.begin < byte_count file = (section_within file claim.index claim among.is).begins in
      let same : claim.begin ≡ byte = among.has.1 in
      omega arith
  begins_before byte (inr (claim, among)) =
      let less : claim.begin < byte_count file = (segment_within file claim.index claim among.is).begins in
      let same : claim.begin ≡ byte = among.has.1 in
      omega arith

  -- no part covers the bytes up to the next begin of a part
  free_run : (byte limit next b : ℕ) → IsNext (PartBegins file) byte limit next → byte ≤ b → b < next → IsFree file byte → IsFree file b
  free_run byte limit next b is from to free = record {
    headers = outside_run (PartBegins file) byte limit next b (λ k h. inl (inl h)) is from to free.headers;
    sections = uncovered_run (section_claim file) (byte_count file) (section_within file) (PartBegins file) byte limit next b (λ k h. inl (inr h)) is from to free.sections;
    segments = uncovered_run (segment_claim file) (byte_count file) (segment_within file) (PartBegins file) byte limit next b (λ k h. inr h) is from to free.segments;
  }

  pub between_run : (byte next : ℕ) → IsFree file byte → IsNext (PartBegins file) byte (byte_count file) next → next < byte_count file → IsRun file byte next Between
  between_run byte next free is less = record {
    some = (is.begins less).0;
    within = omega arith;
    same = λ b from to. (free_run byte (byte_count file) next b is from to free, (next, to, (is.begins less).1));
    ends = λ _ (free', _). elim ((is.begins less).1) [
      | inl (inl table) ↦ no_table next free'.headers table
      | inl (inr section) ↦ covers_begin (section_claim file) (byte_count file) (section_within file) next section free'.sections
      | inr segment ↦ covers_begin (segment_claim file) (byte_count file) (segment_within file) next segment free'.segments
    ];
  }

  pub behind_run : (byte next : ℕ) → IsFree file byte → byte < byte_count file → IsNext (PartBegins file) byte (byte_count file) next → next ≡ byte_count file → IsRun file byte next Behind
  behind_run byte next free less is last = record {
    some = omega arith;
    within = omega arith;
    same = λ b from to. (
      free_run byte (byte_count file) next b is from to free,
      λ (begin, behind, begins).
          let p : next ≤ begin = is.first begin (omega arith) begins in
          let q : begin < byte_count file = begins_before begin begins in
          omega arith,
    );
    ends = λ more _. omega arith;
  }

  -- the ELF header begins at 0
  pub elf_header_run : (byte : ℕ) → IsIn (elf_header file) byte → IsRun file byte ((elf_header file).0 + (elf_header file).1) ElfHeader
  elf_header_run byte inside =
      let q : byte < (elf_header file).0 + (elf_header file).1 = inside.1 in
      let ends : (elf_header file).0 + (elf_header file).1 ≤ byte_count file = cut_ends _ _ (omega arith) in
      record {
        some = q;
        within = ends;
        same = λ b from to. (omega arith, to);
        ends = λ _ again. let r : (elf_header file).0 + (elf_header file).1 < (elf_header file).0 + (elf_header file).1 = again.1 in omega arith;
      }

  -- a byte after one that is not in the ELF header is not in it
  no_header : (byte b : ℕ) → (IsIn (elf_header file) byte → ⊥) → byte ≤ b → IsIn (elf_header file) b → ⊥
  no_header byte b out from inside = let q : b < 0 + (elf_header file).1 = inside.1 in out (omega arith, omega arith)

  pub program_headers_run : (byte : ℕ) → (IsIn (elf_header file) byte → ⊥) → IsIn (program_headers file) byte → IsRun file byte ((program_headers file).0 + (program_headers file).1) ProgramHeaders
  program_headers_run byte out inside =
      let p : (program_headers file).0 ≤ byte = inside.0 in
      let q : byte < (program_headers file).0 + (program_headers file).1 = inside.1 in
      let ends : (program_headers file).0 + (program_headers file).1 ≤ byte_count file = cut_ends _ _ (omega arith) in
      record {
        some = q;
        within = ends;
        same = λ b from to. (no_header byte b out from, (omega arith, to));
        ends = λ _ (_, again). let r : (program_headers file).0 + (program_headers file).1 < (program_headers file).0 + (program_headers file).1 = again.1 in omega arith;
      }

  pub section_headers_run : (byte next : ℕ) → (IsIn (elf_header file) byte → ⊥) → (IsIn (program_headers file) byte → ⊥) → IsIn (section_headers file) byte → IsNext (RangeBegins (program_headers file)) byte ((section_headers file).0 + (section_headers file).1) next → IsRun file byte next SectionHeaders
  section_headers_run byte next out out' inside is =
      let end = (section_headers file).0 + (section_headers file).1 in
      let p : (section_headers file).0 ≤ byte = inside.0 in
      let q : byte < end = inside.1 in
      let ends : end ≤ byte_count file = cut_ends _ _ (omega arith) in
      let bound : next ≤ end = is.bound in
      record {
        some = next_behind (RangeBegins (program_headers file)) byte end next is q;
        within = omega arith;
        same = λ b from to. (
          no_header byte b out from,
          outside_range (RangeBegins (program_headers file)) (program_headers file) byte end next b (λ k h. h) is out' from to,
          (omega arith, omega arith),
        );
        ends = λ _ (_, no_program, again). elim (cases_lt next end) [
          | inl before ↦ let (begin, some) = (is.begins before).1 in no_program (omega arith, omega arith)
          | inr after ↦ let r : next < end = again.1 in omega arith
        ];
      }

  -- the owner of the first byte of a run
  pub run_owner : (byte next : ℕ) (owner : Owner) → IsRun file byte next owner → IsOwner file byte owner
  run_owner byte next owner run = run.same byte (omega arith) run.some

  -- of a claim that ends within the file, the limit is its end
  section_limit : (byte limit next : ℕ) (found : Claim) → claim_end found ≤ byte_count file → limit ≡ min (byte_count file) (claim_end found) → limit ≡ claim_end found
  section_limit byte limit next found ends is = omega arith

  pub section_piece : (byte limit next : ℕ) (found : Claim) → OutsideHeaders file byte → IsInnermost (section_claim file) byte (Some found) → limit ≡ min (byte_count file) (claim_end found) → IsNext (SectionBegins file) byte limit next → IsRun file byte next (Section found.index)
  section_piece byte limit next found out inner is begins =
      let same = section_limit byte limit next found (section_within file found.index found inner.0.is).ends is in
      section_run byte next found out inner (subst (λ l. IsNext (SectionBegins file) byte l next) same begins)

  pub segment_piece : (byte limit next : ℕ) (found : Claim) → OutsideHeaders file byte → IsUncovered (section_claim file) byte → IsInnermost (segment_claim file) byte (Some found) → limit ≡ min (byte_count file) (claim_end found) → IsNext (PartBegins file) byte limit next → IsRun file byte next (Segment found.index)
  segment_piece byte limit next found out free inner is begins =
      let same = section_limit byte limit next found (segment_within file found.index found inner.0.is).ends is in
      segment_run byte next found out free inner (subst (λ l. IsNext (PartBegins file) byte l next) same begins)

  free_by : (b : Bool) (byte next : ℕ) → nat_lt next (byte_count file) ≡ b → IsFree file byte → byte < byte_count file → IsNext (PartBegins file) byte (byte_count file) next → IsRun file byte next (if b then Between else Behind)
  free_by true byte next less free within is = between_run byte next free is (ltb-true next (byte_count file) less)
  free_by false byte next more free within is =
      let past : byte_count file ≤ next = ltb-false next (byte_count file) more in
      let bound : next ≤ byte_count file = is.bound in
      behind_run byte next free within is (omega arith)

  pub free_piece : (byte next : ℕ) → OutsideHeaders file byte → IsUncovered (section_claim file) byte → IsUncovered (segment_claim file) byte → byte < byte_count file → IsNext (PartBegins file) byte (byte_count file) next → IsRun file byte next (if nat_lt next (byte_count file) then Between else Behind)
  free_piece byte next out free free' within is =
      free_by (nat_lt next (byte_count file)) byte next refl (record { headers = out; sections = free; segments = free' }) within is
