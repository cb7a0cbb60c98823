-- Each error of this crate is the first with its number, and those of elf_linking have lower ones.
use Rattle.std.proofs.Common.{◌≡◌, ◌==◌, ◌∙◌, ℕ, List, [], ◌∷◌, Some, false, true, nat_lt, refl, subst, sym}
use Rattle.std.proofs.lemmas.Bool.{false≢true}
use Rattle.elf_base.specs.Message.{row_of}
use Rattle.elf_loading.specs.Types.{ElfError, LinkError, LoadError}
use Rattle.elf_base.specs.declared.error.ElfError.TheVariants as elf
use Rattle.elf_linking.specs.Message.{link_number}
use Rattle.elf_linking.specs.declared.error.LinkError.TheVariants as link
use Rattle.std.specs.List.{find}
use Rattle.elf_loading.specs.Message.{load_number}
use Rattle.elf_loading.specs.declared.error.LoadError.TheVariants as error

abbrev pub all_errors : List LoadError
all_errors = error.Type ∷ error.EntrySize ∷ error.Count ∷ error.Table ∷ error.FileSize ∷ error.Empty ∷ error.Misaligned ∷ error.Alignment ∷ error.Range ∷ error.Data ∷ error.Overlap ∷ error.Zeros ∷ error.NoLoad ∷ error.Headers ∷ error.Interpreter ∷ error.Relro ∷ error.Tls ∷ error.ImageSize ∷ error.Dynamic ∷ error.NoEntry ∷ error.RelocationSize ∷ error.NotMultiple ∷ error.Unreadable ∷ error.SlotKind ∷ error.Machine ∷ error.FewMarks ∷ error.WordType ∷ error.WordAddress ∷ error.ReadOnly ∷ error.WordsOverlap ∷ error.WordInTable ∷ error.Unresolved ∷ error.CopySource ∷ error.ByteOrder ∷ error.IdentVersion ∷ error.OsAbi ∷ error.AbiVersion ∷ error.Padding ∷ error.Version ∷ error.Executable ∷ error.NoDynamic ∷ error.Entry ∷ error.NoAddends ∷ error.NoSlots ∷ error.FirstPacked ∷ error.RelativeCount ∷ error.SlotType ∷ error.NoSize ∷ error.CopyKind ∷ error.CallSymbol ∷ error.Addends ∷ []

elf_below : (one : ElfError) → nat_lt 300 (row_of one).0 ≡ false
elf_below elf.ShortPart1 = refl
elf_below _ = refl

link_below : (one : LinkError) → nat_lt 300 (link_number one) ≡ false
link_below (link.Elf inner) = elf_below inner
link_below _ = refl

own_first : (one : LoadError) → nat_lt 300 (load_number one) ≡ true → find (λ other. load_number other == load_number one) all_errors ≡ Some one
own_first error.Type above = refl
own_first (error.Link inner) above = absurd (false≢true (sym (link_below inner) ∙ above))
own_first _ above = refl

pub found_error : (one : LoadError) (number : ℕ) → load_number one ≡ number → nat_lt 300 number ≡ true → find (λ other. load_number other == number) all_errors ≡ Some one
found_error one number is above = subst (λ n. nat_lt 300 n ≡ true → find (λ other. load_number other == n) all_errors ≡ Some one) is (own_first one) above
