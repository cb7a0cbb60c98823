use Rattle.std.specs.Prelude.{length, nat_lt}
use Rattle.std.proofs.lemmas.Bool.{ltb-true}
use Rattle.elf_addresses.specs.FileClaims.{piece_numbers, piece_words}
use Rattle.elf_c.specs.Pieces.{IsWhole, piece_record}
use Rattle.elf_c.proofs.ListedPieces.{file_listed, whole}
use Rattle.elf_c.proofs.pieces.store_file.Goals as goal

pub returns : goal.returns
returns c =
    let file = c.args.file.now in
    let stored = c.store.ensures in
    file_listed (IsWhole file) piece_record (nat_lt (length c.args.words.now) (piece_words file)) (nat_lt (length c.args.numbers.now) (piece_numbers file)) c.args.first c.args.out.now c.store.new.out c.new.result c.in_ok-pieces.pieces c.store.result c.in_ok-pieces.was (λ short. c.new.ensures.few (ltb-true _ _ short)) (λ short. c.new.ensures.few_numbers (ltb-true _ _ short))
    (stored.0, whole file c.in_ok-pieces.pieces stored.0 stored.1 c.in_ok-pieces.ensures.file c.in_ok-pieces.ensures.first, stored.2, stored.3)
