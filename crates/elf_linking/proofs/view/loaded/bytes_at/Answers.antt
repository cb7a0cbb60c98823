use Rattle.std.proofs.Common.{refl, sym, ◌∙◌}
use Rattle.elf_linking.proofs.LoadedBytes.{is_at, some_holds}
use Rattle.elf_linking.proofs.view.loaded.bytes_at.Goals as goal

pub returns-in-Err-clause-missing : goal.returns-in-Err-clause-missing
returns-in-Err-clause-missing c = (
  λ is. absurd (cc),
  λ none. absurd (some_holds c.args.file.now c.args.address c.args.count c.in-Some.segment (sym c.segment_at.ensures.exact ∙ c.in-Some.is) none),
)

pub returns-clause-found : goal.returns-clause-found
returns-clause-found c =
    is_at c.args.file.now c.args.address c.args.count _ c.in-Some.segment c.in-Ok.data.now (sym c.segment_at.ensures.exact ∙ c.in-Some.is) c.in-Ok.ensures.count c.in-Ok.ensures.range refl

pub returns-clause-missing : goal.returns-clause-missing
returns-clause-missing c = (
  λ is. absurd (cc),
  λ none. absurd (some_holds c.args.file.now c.args.address c.args.count c.in-Some.segment (sym c.segment_at.ensures.exact ∙ c.in-Some.is) none),
)
