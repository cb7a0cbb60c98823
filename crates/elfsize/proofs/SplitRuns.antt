-- The runs of a file with the bytes of sections by symbol, up to a place.
use Rattle.std.proofs.Common.{◌≡◌, ℕ, ◌+◌, ◌-◌, ◌<◌, ◌≤◌, ◌==◌, Bool, true, false, List, [], ◌∷◌, ◌++◌, Option, None, Some, if◌then◌else◌, max, min, refl, ap, sym, subst, ◌∙◌, map, append_assoc, append-nil, arith}
use Rattle.std.specs.List.{AllZip}
use Rattle.std.proofs.lemmas.Bool.{eqb-true}
use Rattle.std.proofs.lemmas.List.{map-append}
use Rattle.std.proofs.lemmas.List.Elements.{All-append, All-cons, All-nil, All-push}
use Rattle.std.proofs.lemmas.List.Sums.{sum_by-append, sum_by-cons, sum_by_push}
use Rattle.elf_addresses.proofs.lemmas.FilePieces.{one_more_piece}
use Rattle.elf_addresses.specs.FileClaims.{byte_count}
use Rattle.elf_addresses.specs.Pieces.{ArePieces, IsPiece, PieceStep, pieces_file, pieces_place}
use Rattle.elf_addresses.specs.SymbolClaims.{claim_of_symbols}
use Rattle.elf_addresses.specs.SymbolPieces.{IsSizedRun, SymbolStep, piece_claims, symbol_limit, symbol_place}
use Rattle.elf_addresses.specs.declared.claim.Claim.{Claim}
use Rattle.elf_addresses.specs.declared.pieces.Piece.{Piece}
use Rattle.elf_addresses.specs.declared.pieces.Pieces.{Pieces}
use Rattle.elf_addresses.specs.declared.symbol_pieces.SymbolPiece.{SymbolPiece}
use Rattle.elf_addresses.specs.declared.symbol_pieces.SymbolPieces.{SymbolPieces}
use Rattle.elfsize.specs.Parts.{numbered, run_of}
use Rattle.elfsize.specs.Split.{AddsInner, AddsPiece, AreInner, ArePieceRuns, AreRunsIn, AreSmall, AreSplit, address_at, joined_runs, owner_section, rest_of, section_place, symbol_run}
use Rattle.elfsize.specs.Totals.{all_bytes, listed}
use Rattle.elfsize.specs.declared.totals.Run.{Run}
use Rattle.xmas_elf.specs.Symbol.{SymbolFields}
use Rattle.xmas_elf.specs.Types.{ElfFile}
use Rattle.program_ends.proofs.LineLists.{zip_one_more}

one_more_part : (parts : List (List Run)) (part : List Run) → joined_runs (parts ++ (part ∷ [])) ≡ joined_runs parts ++ part
one_more_part [] part = append-nil part
one_more_part (first ∷ parts) part = ap (λ (l : List Run). first ++ l) (one_more_part parts part) ∙ sym (append_assoc first (joined_runs parts) part)

-- The runs of addresses.

-- runs are those before the place of an iterator; with those that come after it they are all
pub record AreInnerTo {E : Type 0} {r s : _} (fields : E → SymbolFields) (claim_of : ℕ → Option Claim) (index begin limit : ℕ) (iterator : SymbolPieces E r s) (old runs : List Run) : Type 0 where
  pub inner : List SymbolPiece
  pub same : piece_claims fields iterator ≡ claim_of
  pub end : symbol_limit iterator ≡ limit
  pub all : (rest : List SymbolPiece) → AreInner claim_of limit (symbol_place iterator) rest → AreInner claim_of limit begin (inner ++ rest)
  pub grown : runs ≡ old ++ map (symbol_run index) inner
  pub sum : all_bytes (map (symbol_run index) inner) + begin ≡ symbol_place iterator
  pub small : AreSmall (map (symbol_run index) inner)

nothing : (n : ℕ) → 0 + n ≡ n
nothing n = omega arith

pub none_inner : {E : Type 0} {r s : _} (fields : E → SymbolFields) (index : ℕ) (iterator : SymbolPieces E r s) (old : List Run) → AreInnerTo fields (piece_claims fields iterator) index (symbol_place iterator) (symbol_limit iterator) iterator old old
none_inner fields index iterator old = record {
  inner = [];
  same = refl;
  end = refl;
  all = λ rest are. are;
  grown = sym (append-nil old);
  sum = nothing (symbol_place iterator);
  small = All-nil (λ (run : Run). run.part < 0x10000000000);
}

pub inner_step : {E : Type 0} {r s : _} (fields : E → SymbolFields) (claim_of : ℕ → Option Claim) (index begin limit : ℕ) (before after : SymbolPieces E r s) (piece : SymbolPiece) (run : Run) (old runs : List Run)
    → SymbolStep fields before (Some piece) after → run ≡ symbol_run index piece → run.part < 0x10000000000
    → AreInnerTo fields claim_of index begin limit before old runs → AreInnerTo fields claim_of index begin limit after old (runs ++ (run ∷ []))
inner_step fields claim_of index begin limit before after piece run old runs step is small so_far =
    let inner = so_far.inner in
    let run_in = symbol_run index in
    let begins : piece.begin ≡ symbol_place before = step.2.0 in
    let ends : piece.end ≡ symbol_place after = step.2.1 in
    let is_run : IsSizedRun (piece_claims fields before) (symbol_limit before) piece.begin piece.end piece.symbol = step.2.2 in
    let some : piece.begin < piece.end = is_run.some in
    let size : (run_in piece).size ≡ piece.end - piece.begin = refl in
    let more : all_bytes (map run_in inner ++ (run_in piece ∷ [])) ≡ all_bytes (map run_in inner) + (run_in piece).size = sum_by_push (λ (one : Run). one.size) (map run_in inner) (run_in piece) in
    let was : all_bytes (map run_in inner) + begin ≡ symbol_place before = so_far.sum in
    let mapped : map run_in (inner ++ (piece ∷ [])) ≡ map run_in inner ++ (run_in piece ∷ []) = map-append run_in inner (piece ∷ []) in
    let within : IsSizedRun claim_of limit piece.begin piece.end piece.symbol =
    subst (λ (l : ℕ). IsSizedRun claim_of l piece.begin piece.end piece.symbol) so_far.end
    (subst (λ (c : ℕ → Option Claim). IsSizedRun c (symbol_limit before) piece.begin piece.end piece.symbol) so_far.same is_run) in
    record {
      inner = inner ++ (piece ∷ []);
      same = ap (λ c. claim_of_symbols fields c.symbols.now c.within) step.0 ∙ so_far.same;
      end = step.1 ∙ so_far.end;
      all = λ rest are.
          subst (λ (l : List SymbolPiece). AreInner claim_of limit begin l) (sym (append_assoc inner (piece ∷ []) rest))
          (so_far.all (piece ∷ rest) (begins, within, subst (λ (place : ℕ). AreInner claim_of limit place rest) (sym ends) are));
      grown =
          ap (λ (l : List Run). l ++ (run ∷ [])) so_far.grown
          ∙ (append_assoc old (map run_in inner) (run ∷ [])
          ∙ (ap (λ (one : Run). old ++ (map run_in inner ++ (one ∷ []))) is
          ∙ ap (λ (l : List Run). old ++ l) (sym mapped)));
      sum = subst (λ (l : List Run). all_bytes l + begin ≡ symbol_place after) (sym mapped) (omega arith);
      small = subst (λ (l : List Run). AreSmall l) (sym mapped)
          (All-push (λ (one : Run). one.part < 0x10000000000) (map run_in inner) (run_in piece) so_far.small (subst (λ (one : Run). one.part < 0x10000000000) is small));
    }

-- at the end they are the runs up to the limit
pub all_inner : {E : Type 0} {r s : _} (fields : E → SymbolFields) (claim_of : ℕ → Option Claim) (index begin limit : ℕ) (before after : SymbolPieces E r s) (old runs : List Run)
    → SymbolStep fields before None after → AreInnerTo fields claim_of index begin limit before old runs → AddsInner claim_of index begin limit old runs
all_inner fields claim_of index begin limit before after old runs step so_far =
    let last : symbol_place before ≡ limit = step.2.0 ∙ so_far.end in
    let was : all_bytes (map (symbol_run index) so_far.inner) + begin ≡ symbol_place before = so_far.sum in
    record {
      more = map (symbol_run index) so_far.inner;
      are_more = record {
        inner = so_far.inner;
        are_inner = subst (λ (l : List SymbolPiece). AreInner claim_of limit begin l) (append-nil so_far.inner) (so_far.all [] last);
        runs_are = refl;
      };
      sum = omega arith;
      small = so_far.small;
      grown = so_far.grown;
    }

-- the same by what the addresses are
pub same_adds : (was is : ℕ → Option Claim) (index begin place limit end : ℕ) (old new : List Run) → was ≡ is → begin ≡ place → limit ≡ end → AddsInner was index begin limit old new → AddsInner is index place end old new
same_adds was is index begin place limit end old new same first last adds =
    subst (λ (l : ℕ). AddsInner is index place l old new) last
    (subst (λ (b : ℕ). AddsInner is index b limit old new) first
    (subst (λ (c : ℕ → Option Claim). AddsInner c index begin limit old new) same adds))

-- The runs of a piece.

-- of a section: those of its addresses, and the rest
least : (a b m : ℕ) → a ≤ b → min b m - min a m ≤ b - a
least a b m less = omega arith

fewer : (first offset begin end : ℕ) → begin < end → min (first + (end - offset)) 0xffffffffffffffff - min (first + (begin - offset)) 0xffffffffffffffff ≤ end - begin
fewer first offset begin end some =
    let one = least (first + (begin - offset)) (first + (end - offset)) 0xffffffffffffffff (omega arith) in
    omega arith

rest_bytes : (part size : ℕ) (b : Bool) → (size == 0) ≡ b → all_bytes (if b then [] else record { part = part; size = size } ∷ []) ≡ size
rest_bytes part size true none = sym (eqb-true size 0 none)
rest_bytes part size false some = sum_by-cons (λ (run : Run). run.size) (record { part = part; size = size }) [] ∙ omega arith

rest_small : (part size : ℕ) (b : Bool) → part < 0x10000000000 → AreSmall (if b then [] else record { part = part; size = size } ∷ [])
rest_small part size true small = All-nil (λ (run : Run). run.part < 0x10000000000)
rest_small part size false small = All-cons (λ (run : Run). run.part < 0x10000000000) (record { part = part; size = size }) [] small (All-nil (λ (run : Run). run.part < 0x10000000000))

pub section_adds : (claims : ℕ → ℕ → Option Claim) (file : ElfFile) (index : ℕ) (piece : Piece) (old middle new : List Run) → piece.begin < piece.end → owner_section piece.owner ≡ Some index
    → numbered 0 index < 0x10000000000
    → AddsInner (claims index) index (address_at (section_place file index) piece.begin) (max (address_at (section_place file index) piece.begin) (address_at (section_place file index) piece.end)) old middle
    → new ≡ middle ++ listed (numbered 0 index) (rest_of piece (address_at (section_place file index) piece.begin) (address_at (section_place file index) piece.end))
    → AddsPiece claims file piece old new
section_adds claims file index piece old middle new some owner small adds is =
    let place = section_place file index in
    let begin = address_at place piece.begin in
    let end = address_at place piece.end in
    let rest = rest_of piece begin end in
    let part = numbered 0 index in
    let less : end - begin ≤ piece.end - piece.begin = fewer place.1 place.0 piece.begin piece.end some in
    let both : all_bytes (adds.more ++ listed part rest) ≡ all_bytes adds.more + all_bytes (listed part rest) = sum_by-append (λ (run : Run). run.size) adds.more (listed part rest) in
    let own : all_bytes (listed part rest) ≡ rest = rest_bytes part rest (rest == 0) refl in
    let inner : all_bytes adds.more ≡ max begin end - begin = adds.sum in
    let same_size : max begin end - begin ≡ end - begin = omega arith in
    let rest_is : rest ≡ (piece.end - piece.begin) - (end - begin) = refl in
    record {
      more = adds.more ++ listed part rest;
      are_more = record {
        runs_are = subst (λ (o : Option ℕ). AreRunsIn claims file piece o (adds.more ++ listed part rest)) (sym owner)
            (record { inner = adds.more; are_inner = adds.are_more; runs_are = refl });
        sum = total (all_bytes adds.more) (all_bytes (listed part rest)) (end - begin) (piece.end - piece.begin) (all_bytes (adds.more ++ listed part rest)) both (inner ∙ same_size) own less;
      };
      small = All-append (λ (run : Run). run.part < 0x10000000000) adds.more (listed part rest) adds.small (rest_small part rest (rest == 0) small);
      grown = is ∙ (ap (λ (l : List Run). l ++ listed part rest) adds.grown ∙ append_assoc old adds.more (listed part rest));
    }
  where
    total : (inner rest part whole sum : ℕ) → sum ≡ inner + rest → inner ≡ part → rest ≡ whole - part → part ≤ whole → sum ≡ whole
    total inner rest part whole sum both is rest_is less = omega arith

-- the same by what the numbers are
pub section_adds_by : (claims : ℕ → ℕ → Option Claim) (file : ElfFile) (index : ℕ) (piece : Piece) (old middle new : List Run) (place : ℕ × ℕ) (begin end part rest : ℕ) → place ≡ section_place file index
    → begin ≡ address_at place piece.begin → end ≡ address_at place piece.end → part ≡ numbered 0 index → part < 0x10000000000 → rest ≡ rest_of piece begin end
    → piece.begin < piece.end → owner_section piece.owner ≡ Some index → AddsInner (claims index) index begin (max begin end) old middle → new ≡ middle ++ listed part rest → AddsPiece claims file piece old new
section_adds_by claims file index piece old middle new place begin end part rest place_is begin_is end_is part_is small rest_is some owner adds is =
    let first = address_at (section_place file index) piece.begin in
    let last = address_at (section_place file index) piece.end in
    let b : begin ≡ first = begin_is ∙ ap (λ (p : ℕ × ℕ). address_at p piece.begin) place_is in
    let e : end ≡ last = end_is ∙ ap (λ (p : ℕ × ℕ). address_at p piece.end) place_is in
    let r : rest ≡ rest_of piece first last = rest_is ∙ (ap (λ (x : ℕ). rest_of piece x end) b ∙ ap (λ (x : ℕ). rest_of piece first x) e) in
    section_adds claims file index piece old middle new some owner (subst (λ (n : ℕ). n < 0x10000000000) part_is small)
    (subst (λ (x : ℕ). AddsInner (claims index) index first (max first x) old middle) e
    (subst (λ (x : ℕ). AddsInner (claims index) index x (max x end) old middle) b adds))
    (is ∙ (ap (λ (n : ℕ). middle ++ listed n rest) part_is ∙ ap (λ (n : ℕ). middle ++ listed (numbered 0 index) n) r))

-- of another part: one
pub other_adds : (claims : ℕ → ℕ → Option Claim) (file : ElfFile) (piece : Piece) (run : Run) (old new : List Run) → owner_section piece.owner ≡ None → run ≡ run_of piece → run.part < 0x10000000000
    → new ≡ old ++ (run ∷ []) → AddsPiece claims file piece old new
other_adds claims file piece run old new owner is small grown = record {
  more = run ∷ [];
  are_more = record {
    runs_are = subst (λ (o : Option ℕ). AreRunsIn claims file piece o (run ∷ [])) (sym owner) (ap (λ (one : Run). one ∷ []) is);
    sum = sum_by-cons (λ (one : Run). one.size) run [] ∙ (let size : run.size ≡ piece.end - piece.begin = ap (λ (one : Run). one.size) is in omega arith);
  };
  small = All-cons (λ (one : Run). one.part < 0x10000000000) run [] small (All-nil (λ (one : Run). one.part < 0x10000000000));
  grown = grown;
}

-- The runs of a file.

-- runs are those of the pieces before the place of an iterator; with those that come after it they are all pieces
pub record AreSplitTo (claims : ℕ → ℕ → Option Claim) (file : ElfFile) (iterator : Pieces) (runs : List Run) : Type 0 where
  pub pieces : List Piece
  pub same : pieces_file iterator ≡ file
  pub all : (rest : List Piece) → ArePieces file (pieces_place iterator) rest → ArePieces file 0 (pieces ++ rest)
  pub parts : List (List Run)
  pub each : AllZip (λ piece part. ArePieceRuns claims file piece part) pieces parts
  pub runs_are : runs ≡ joined_runs parts
  pub sum : all_bytes runs ≡ pieces_place iterator
  pub small : AreSmall runs

pub none_split : (claims : ℕ → ℕ → Option Claim) (file : ElfFile) (iterator : Pieces) → pieces_file iterator ≡ file → pieces_place iterator ≡ 0 → AreSplitTo claims file iterator []
none_split claims file iterator same first = record {
  pieces = [];
  same = same;
  all = λ rest are. subst (λ place. ArePieces file place rest) first are;
  parts = [];
  each = tt;
  runs_are = refl;
  sum = sym first;
  small = All-nil (λ (run : Run). run.part < 0x10000000000);
}

pub split_step : (claims : ℕ → ℕ → Option Claim) (file : ElfFile) (old new : Pieces) (piece : Piece) (runs grown : List Run) → PieceStep old (Some piece) new → AddsPiece claims file piece runs grown → AreSplitTo claims file old runs → AreSplitTo claims file new grown
split_step claims file old new piece runs grown step adds so_far =
    let pieces = so_far.pieces in
    let begins : piece.begin ≡ pieces_place old = step.1.0 in
    let ends : piece.end ≡ pieces_place new = step.1.1 in
    let is_piece : IsPiece (pieces_file old) piece = step.1.2 in
    let some : piece.begin < piece.end = is_piece.some in
    let more : all_bytes (runs ++ adds.more) ≡ all_bytes runs + all_bytes adds.more = sum_by-append (λ (one : Run). one.size) runs adds.more in
    let own : all_bytes adds.more ≡ piece.end - piece.begin = adds.are_more.sum in
    let was : all_bytes runs ≡ pieces_place old = so_far.sum in
    record {
      pieces = pieces ++ (piece ∷ []);
      same = step.0 ∙ so_far.same;
      all = λ rest are.
          subst (λ (l : List Piece). ArePieces file 0 l) (sym (append_assoc pieces (piece ∷ []) rest))
          (so_far.all (piece ∷ rest) (one_more_piece file old new piece rest step so_far.same are));
      parts = so_far.parts ++ (adds.more ∷ []);
      each = zip_one_more (λ one part. ArePieceRuns claims file one part) pieces so_far.parts piece adds.more so_far.each adds.are_more;
      runs_are = adds.grown ∙ (ap (λ (l : List Run). l ++ adds.more) so_far.runs_are ∙ sym (one_more_part so_far.parts adds.more));
      sum = subst (λ (l : List Run). all_bytes l ≡ pieces_place new) (sym adds.grown) (omega arith);
      small = subst (λ (l : List Run). AreSmall l) (sym adds.grown) (All-append (λ (one : Run). one.part < 0x10000000000) runs adds.more so_far.small adds.small);
    }

-- at the end they are the runs of the file
pub all_split : (claims : ℕ → ℕ → Option Claim) (file : ElfFile) (old new : Pieces) (runs : List Run) → PieceStep old None new → AreSplitTo claims file old runs → AreSplit claims file runs
all_split claims file old new runs step so_far =
    let last : pieces_place old ≡ byte_count file = step.1.0 ∙ ap byte_count so_far.same in
    record {
      pieces = so_far.pieces;
      are_pieces = subst (λ (l : List Piece). ArePieces file 0 l) (append-nil so_far.pieces) (so_far.all [] last);
      parts = so_far.parts;
      each = so_far.each;
      runs_are = so_far.runs_are;
    }

-- and have its bytes
pub split_sum : (claims : ℕ → ℕ → Option Claim) (file : ElfFile) (old new : Pieces) (runs : List Run) → PieceStep old None new → AreSplitTo claims file old runs → all_bytes runs ≡ byte_count file
split_sum claims file old new runs step so_far = so_far.sum ∙ (step.1.0 ∙ ap byte_count so_far.same)

pub split_small : (claims : ℕ → ℕ → Option Claim) (file : ElfFile) (iterator : Pieces) (runs : List Run) → AreSplitTo claims file iterator runs → AreSmall runs
split_small claims file iterator runs so_far = so_far.small
