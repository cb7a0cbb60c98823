use Rattle.std.proofs.Common.{◌≡◌, Ok, Err, MatchResult, sym, subst}
use Rattle.elf_base.specs.FileHeader.{file_class, file_order}
use Rattle.elf_base.specs.Lent.{LiesAt}
use Rattle.xmas_elf.specs.Ranges.{range_of}
use Rattle.xmas_elf.specs.SectionContent.{section_content}
use Rattle.xmas_elf.specs.SectionData.{IsSectionData}
use Rattle.xmas_elf.specs.SectionHeader.{section_fields, section_type}
use Rattle.xmas_elf.proofs.Contents.{read_of, section_reads}
use Rattle.xmas_elf.proofs.Places.{section_lies}
use Rattle.xmas_elf.proofs.Shapes.{content_there, shaped_by}
use Rattle.xmas_elf.proofs.sections.section_header.SectionHeader.get_data.Goals as goal

pub returns-in_ok-bytes-in_default : goal.returns-in_ok-bytes-in_default
returns-in_ok-bytes-in_default c =
    let file = c.args.file.now in
    let section = c.args.self.now in
    let fields = section_fields section in
    let order = file_order file.header in
    let kind = c.in_ok-kind.kind in
    let bytes = c.in_ok-bytes-in_default.bytes in
    let answer = c.read.result in
    let typed : section_type section ≡ Ok kind = let got = c.get_type.ensures in let was = c.in_ok-kind.was in cc in
    let range : range_of file.input.now fields.offset fields.size ≡ Ok bytes.now = rw (c.offset.ensures, c.size.ensures) at c.in_ok-bytes-in_default.ensures.exact in
    let is : IsSectionData file section bytes.now = rw (c.offset.ensures, c.size.ensures) at c.in_ok-bytes-in_default.ensures.range in
    let lies : LiesAt file.input fields.offset bytes = rw c.offset.ensures at c.in_ok-bytes-in_default.ensures.place in
    let there = content_there file section kind bytes.now typed c.in_default.not-Null c.in_default.not-NoBits range in
    let exact = subst (λ x. MatchResult answer (λ d. x ≡ Ok (section_content d)) (λ e. x ≡ Err e)) (sym there) c.read.ensures.exact in
    record {
      readable = shaped_by file section section_content answer exact;
      exact = exact;
      holds = read_of (IsSectionData file section) order section_content _ answer (section_reads (IsSectionData file section) order bytes.now is kind (file_class file.header)) c.read.ensures.exact;
      place = section_lies file.input bytes fields.offset answer lies c.read.ensures.place;
    }
