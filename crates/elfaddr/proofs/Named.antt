-- The bytes that name the addresses of an input: what they say of the input.
use Rattle.std.proofs.Common.{ℕ, List, Option, None, Some, Result, Ok, Err, refl, subst, sym}
use Rattle.std.specs.Borrow.{Bor}
use Rattle.std.specs.Prelude.{IfSome, IsOk, IsOkAnd, IsSomeAnd}
use Rattle.std.proofs.lemmas.Option.{IfSome_then}
use Rattle.elf_base.specs.FileHeader.{header_of}
use Rattle.elfaddr.specs.Asked.{AreLinesBy, AreOfFile}
use Rattle.elfaddr.specs.Debug.{AreNaming}
use Rattle.elfaddr.specs.Ends.{AreNamedLines}
use Rattle.elfaddr.specs.declared.Options.{Options}
use Rattle.program_debug.specs.Debug.{of_debug, own}
use Rattle.program_ends.specs.Appended.{AppendsSome}
use Rattle.program_ends.specs.Ends.{OfFile}
use Rattle.xmas_elf.specs.Types.{ElfError, Header}

is_ok : {A E : Type 0} (P : A → Type 0) (result : Result A E) → IsOkAnd result P → IsOk result
is_ok P (Ok value) holds = refl
is_ok P (Err error) never = absurd never

-- the input has a header
has_header : (options : Options) (input bytes : Bor (List ℕ)) → AreNaming options input bytes → IsOk (header_of bytes.now) → IsOk (header_of input.now)
has_header options input bytes (own same) there = subst (λ (i : Bor (List ℕ)). IsOk (header_of i.now)) same there
has_header options input bytes (of_debug asked is) there = subst (λ (r : Result Header ElfError). IsOk r) (sym is.header_is) refl

-- so it has where lines were written
pub accepted_so : {R : Type 0} (remaining : R → Option (List ℕ)) (file : Option R) (options : Options) (addresses : List ℕ) (old new : Option (List ℕ)) → OfFile remaining file (λ input. AppendsSome (AreNamedLines options addresses input) old new)
    → IsSomeAnd file (λ reader. IfSome (remaining reader) (λ bytes. IsOk (header_of bytes)))
accepted_so remaining None options addresses old new never = absurd never
accepted_so remaining (Some reader) options addresses old new (input, known, (text, (bytes, naming, lines), grown)) =
    IfSome_then (remaining reader) known (λ all same. subst (λ (l : List ℕ). IsOk (header_of l)) same (has_header options input bytes naming (is_ok (λ header. AreLinesBy options.form (AreOfFile (record { input = bytes; header = header }) options.source) (record { input = bytes; header = header }) addresses text) (header_of bytes.now) lines)))
