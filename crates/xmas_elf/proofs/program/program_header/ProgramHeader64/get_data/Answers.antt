use Rattle.std.proofs.Common.{◌≡◌, Ok, Err, MatchResult, sym, subst}
use Rattle.elf_base.specs.FileHeader.{file_class, file_order}
use Rattle.xmas_elf.specs.ProgramHeader.{IsSegmentData, segment_data_of, segment_type}
use Rattle.xmas_elf.specs.SegmentContent.{segment_content}
use Rattle.xmas_elf.proofs.Contents.{read_of, segment_reads}
use Rattle.xmas_elf.proofs.Places.{segment_lies}
use Rattle.xmas_elf.proofs.SegmentShapes.{segment_content_there, segment_shaped_by}
use Rattle.xmas_elf.proofs.program.program_header.ProgramHeader64.get_data.Goals as goal

pub returns-in_ok-raw_data-in_default : goal.returns-in_ok-raw_data-in_default
returns-in_ok-raw_data-in_default c =
    let file = c.args.file.now in
    let segment = c.args.self.now in
    let order = file_order file.header in
    let kind = c.in_ok-kind.kind in
    let bytes = c.in_ok-raw_data-in_default.field-0 in
    let answer = c.read.result in
    let typed : segment_type segment ≡ Ok kind = let got = c.get_type.ensures in let was = c.in_ok-kind.was in cc in
    let range : segment_data_of file segment ≡ Ok bytes.now = c.in_ok-raw_data-in_default.ensures.exact in
    let there = segment_content_there file segment kind bytes.now typed c.in_default.not-Null range in
    let exact = subst (λ x. MatchResult answer (λ d. x ≡ Ok (segment_content d)) (λ e. x ≡ Err e)) (sym there) c.read.ensures.exact in
    record {
      readable = segment_shaped_by file segment segment_content answer exact;
      exact = exact;
      holds = read_of (IsSegmentData file segment) order segment_content _ answer (segment_reads (IsSegmentData file segment) order bytes.now c.in_ok-raw_data-in_default.ensures.range kind (file_class file.header)) c.read.ensures.exact;
      place = segment_lies file segment bytes answer c.in_ok-raw_data-in_default.ensures.place c.read.ensures.place;
    }
