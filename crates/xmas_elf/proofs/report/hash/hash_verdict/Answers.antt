use Rattle.std.proofs.Common.{Ok, ap, subst, ◌∙◌}
use Rattle.xmas_elf.specs.ReportHash.{IsLinkedVerdict, content_at, linked, none, failed}
use Rattle.xmas_elf.specs.SectionContent.{section_content}
use Rattle.xmas_elf.proofs.HashSections.{hash_data_is_table}
use Rattle.xmas_elf.proofs.report.hash.hash_verdict.Goals as goal

pub returns-in_default : goal.returns-in_default
returns-in_default c = none c.in_default.ensures

pub returns-in-Err : goal.returns-in-Err
returns-in-Err c = failed c.in-Some.section c.in-Err.error c.in-Some.ensures c.in-Err.ensures.exact

pub unreachable-requires : goal.unreachable-requires
unreachable-requires c = hash_data_is_table c.args.file.now c.in-Some.section c.in-Ok.found c.in-Some.ensures.0 c.in-Ok.ensures.exact c.in_default-found.not-HashTable

pub returns : goal.returns
returns c = linked c.in-Some.section c.in-HashTable.table c.linked_verdict.result c.in-Some.ensures
    (c.in-Ok.ensures.exact ∙ ap (λ d. Ok (section_content d)) c.in-HashTable.is)
    (subst (λ link. IsLinkedVerdict c.args.file.now c.in-HashTable.table (content_at c.args.file.now link) c.linked_verdict.result) c.link.ensures c.linked_verdict.ensures)
