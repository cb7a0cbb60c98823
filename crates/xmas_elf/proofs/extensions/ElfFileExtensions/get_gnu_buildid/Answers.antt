use Rattle.std.proofs.Common.{◌≡◌, codes}
use Rattle.xmas_elf.proofs.NamedSections.{first_named-is}
use Rattle.xmas_elf.proofs.Places.{build_id_lies}
use Rattle.xmas_elf.proofs.extensions.ElfFileExtensions.get_gnu_buildid.Goals as goal

pub returns-in_err-section-clause-only : goal.returns-in_err-section-clause-only
returns-in_err-section-clause-only c id is =
    absurd (let named = first_named-is c.args.self.now (codes ".note.gnu.build-id") is.index is.section is.named in let none = c.in_err-section.ensures.exact in cc)

pub returns-in_err-header-clause-only : goal.returns-in_err-header-clause-only
returns-in_err-header-clause-only c id is =
    let same : c.in_ok-section.section ≡ is.section = let named = first_named-is c.args.self.now (codes ".note.gnu.build-id") is.index is.section is.named in let found = c.in_ok-section.ensures.exact in cc in
    absurd (c.in_err-header.ensures.only is.header is.body (rw same is.in_section))

pub returns-clause-only : goal.returns-clause-only
returns-clause-only c id is =
    let same : c.in_ok-section.section ≡ is.section = let named = first_named-is c.args.self.now (codes ".note.gnu.build-id") is.index is.section is.named in let found = c.in_ok-section.ensures.exact in cc in
    let note = c.in_ok-header.ensures.only is.header is.body (rw same is.in_section) in
    c.build_id.ensures.only id (rw (note.0, note.1) is.is_id)

pub returns-clause-place : goal.returns-clause-place
returns-clause-place c =
    let named = c.in_ok-section.ensures.found in
    build_id_lies c.args.self.now named.0 c.in_ok-section.section c.in_ok-header.header c.in_ok-header.body c.build_id.result named.1 c.in_ok-header.ensures.found c.in_ok-header.ensures.place c.build_id.ensures.place
