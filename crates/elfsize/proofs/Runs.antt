-- The runs of the pieces of a file up to a place.
use Rattle.std.proofs.Common.{◌≡◌, ◌+◌, ◌-◌, ◌<◌, List, [], ◌∷◌, ◌++◌, Some, None, refl, ap, sym, subst, ◌∙◌, map, append_assoc, append-nil, arith}
use Rattle.std.specs.List.{All}
use Rattle.std.proofs.lemmas.List.{map-append}
use Rattle.std.proofs.lemmas.List.Elements.{All-push}
use Rattle.std.proofs.lemmas.List.Sums.{sum_by_push}
use Rattle.elf_addresses.proofs.lemmas.FilePieces.{one_more_piece}
use Rattle.elf_addresses.specs.FileClaims.{byte_count}
use Rattle.elf_addresses.specs.Pieces.{ArePieces, IsPiece, PieceStep, pieces_file, pieces_place}
use Rattle.elf_addresses.specs.declared.pieces.Piece.{Piece}
use Rattle.elf_addresses.specs.declared.pieces.Pieces.{Pieces}
use Rattle.elfsize.specs.Parts.{AreRuns, run_of}
use Rattle.elfsize.specs.Totals.{all_bytes}
use Rattle.elfsize.specs.declared.totals.Run.{Run}
use Rattle.xmas_elf.specs.Types.{ElfFile}

-- runs are those of the pieces before the place of an iterator; with those that come after it they are all pieces
pub record AreRunsTo (file : ElfFile) (iterator : Pieces) (runs : List Run) : Type 0 where
  pub pieces : List Piece
  pub same : pieces_file iterator ≡ file
  pub all : (rest : List Piece) → ArePieces file (pieces_place iterator) rest → ArePieces file 0 (pieces ++ rest)
  pub runs_are : runs ≡ map run_of pieces
  pub sum : all_bytes runs ≡ pieces_place iterator
  pub numbers : All (λ (run : Run). run.part < 0x10000000000) runs

pub no_runs : (file : ElfFile) (iterator : Pieces) → pieces_file iterator ≡ file → pieces_place iterator ≡ 0 → AreRunsTo file iterator []
no_runs file iterator same first = record {
  pieces = [];
  same = same;
  all = λ rest are. subst (λ place. ArePieces file place rest) first are;
  runs_are = refl;
  sum = sym first;
  numbers = λ k d less. absurd (omega arith);
}

pub runs_step : (file : ElfFile) (old new : Pieces) (piece : Piece) (run : Run) (runs : List Run) → PieceStep old (Some piece) new → run ≡ run_of piece → run.part < 0x10000000000 → AreRunsTo file old runs → AreRunsTo file new (runs ++ (run ∷ []))
runs_step file old new piece run runs step is small so_far =
    let pieces = so_far.pieces in
    let begins : piece.begin ≡ pieces_place old = step.1.0 in
    let ends : piece.end ≡ pieces_place new = step.1.1 in
    let is_piece : IsPiece (pieces_file old) piece = step.1.2 in
    let some : piece.begin < piece.end = is_piece.some in
    let size : run.size ≡ piece.end - piece.begin = ap (λ (one : Run). one.size) is in
    let more : all_bytes (runs ++ (run ∷ [])) ≡ all_bytes runs + run.size = sum_by_push (λ (one : Run). one.size) runs run in
    let was : all_bytes runs ≡ pieces_place old = so_far.sum in
    record {
      pieces = pieces ++ (piece ∷ []);
      same = step.0 ∙ so_far.same;
      all = λ rest are.
          subst (λ (l : List Piece). ArePieces file 0 l) (sym (append_assoc pieces (piece ∷ []) rest))
          (so_far.all (piece ∷ rest) (one_more_piece file old new piece rest step so_far.same are));
      runs_are = ap (λ (l : List Run). l ++ (run ∷ [])) so_far.runs_are ∙ (ap (λ (one : Run). map run_of pieces ++ (one ∷ [])) is ∙ sym (map-append run_of pieces (piece ∷ [])));
      sum = omega arith;
      numbers = All-push (λ (one : Run). one.part < 0x10000000000) runs run so_far.numbers small;
    }

-- at the end they are the runs of the file
pub all_runs : (file : ElfFile) (old new : Pieces) (runs : List Run) → PieceStep old None new → AreRunsTo file old runs → AreRuns file runs
all_runs file old new runs step so_far =
    let last : pieces_place old ≡ byte_count file = step.1.0 ∙ ap byte_count so_far.same in
    record {
      pieces = so_far.pieces;
      are_pieces = subst (λ (l : List Piece). ArePieces file 0 l) (append-nil so_far.pieces) (so_far.all [] last);
      runs_are = so_far.runs_are;
    }

-- and have its bytes
pub runs_sum : (file : ElfFile) (old new : Pieces) (runs : List Run) → PieceStep old None new → AreRunsTo file old runs → all_bytes runs ≡ byte_count file
runs_sum file old new runs step so_far = so_far.sum ∙ (step.1.0 ∙ ap byte_count so_far.same)
