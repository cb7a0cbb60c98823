-- The bytes that name the addresses of a file: its own, or those of its debug file.
use Rattle.std.specs.Prelude.{◌≡◌, ℕ, List, IsSome}
use Rattle.std.specs.Borrow.{Bor}
use Rattle.elfaddr.specs.declared.Options.{Options}
use Rattle.elfaddr.specs.declared.Source.TheVariants.{Symtab}
use Rattle.program_debug.specs.Debug as debug

-- a debug file is asked for
abbrev pub IsAsked : Options → Type 0
IsAsked options = (options.source ≡ Symtab) × IsSome options.debug

-- bytes are the debug file of an input, and asked for
abbrev pub IsAskedDebug : Options → List ℕ → List ℕ → Type 0
IsAskedDebug options input bytes = IsAsked options × debug.IsDebugOf input bytes

-- bytes name the addresses of an input: its own, or those of its debug file
abbrev pub AreNaming : Options → Bor (List ℕ) → Bor (List ℕ) → Type 0
AreNaming options = debug.AreNaming (IsAsked options)

-- a property of the bytes that name the addresses of an input
abbrev pub ByNaming : Options → Bor (List ℕ) → (Bor (List ℕ) → Type 0) → Type 0
ByNaming options = debug.ByNaming (IsAsked options)
