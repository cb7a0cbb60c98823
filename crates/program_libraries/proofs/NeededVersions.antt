-- Needs and names, one after the other.
use Rattle.std.proofs.Common.{◌≡◌, ℕ, List, [], ◌∷◌, true, false, ap, ◌∙◌, subst, sym}
use Rattle.std.specs.Prelude.{Result, Ok, if◌then◌else◌}
use Rattle.elf_linking.specs.VersionTables.{NeedParts}
use Rattle.elf_linking.specs.declared.error.LinkError.{LinkError}
use Rattle.elf_search.specs.Names.{NameParts}
use Rattle.program_libraries.specs.NeededNames.{after_first}
use Rattle.program_libraries.specs.NeededVersions.{AreAllMet, edges_from, is_text}

pub edges_end : (text : List ℕ) (names : List NameParts) (edges : List ℕ) → names ≡ [] → edges_from text names edges ≡ []
edges_end text names edges is = ap (λ some. edges_from text some edges) is

pub edges_here : (text : List ℕ) (names others : List NameParts) (name : NameParts) (edges : List ℕ) → names ≡ name ∷ others → is_text text name.name ≡ true → edges_from text names edges ≡ edges
edges_here text names others name edges is here = ap (λ some. edges_from text some edges) is ∙ ap (λ b. if b then edges else edges_from text others (after_first edges)) here

pub edges_after : (text : List ℕ) (names others : List NameParts) (name : NameParts) (edges : List ℕ) → names ≡ name ∷ others → is_text text name.name ≡ false → edges_from text names edges ≡ edges_from text others (after_first edges)
edges_after text names others name edges is other = ap (λ some. edges_from text some edges) is ∙ ap (λ b. if b then edges else edges_from text others (after_first edges)) other

module _ (Met : NeedParts → Type 0) where
  pub all_end : (needs : List (Result NeedParts LinkError)) → needs ≡ [] → AreAllMet Met needs
  all_end needs is = subst (AreAllMet Met) (sym is) tt

  pub all_more : (needs others : List (Result NeedParts LinkError)) (need : NeedParts) → needs ≡ Ok need ∷ others → Met need → AreAllMet Met others → AreAllMet Met needs
  all_more needs others need is met all = subst (AreAllMet Met) (sym is) (met, all)
