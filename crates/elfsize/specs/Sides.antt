-- The symbols that own the bytes of a file: its own, or those of its separate debug file, if they are asked for.
use Rattle.std.specs.Prelude.{◌≡◌, ℕ, ◌⊎◌, List, Err, IsOkAnd, IsSome, ⊤}
use Rattle.std.specs.Borrow.{Bor}
use Rattle.elf_base.specs.FileHeader.{header_of}
use Rattle.elfsize.specs.Symbols.{AreSymbols, IsSymbolsError}
use Rattle.elfsize.specs.declared.lines.AnyError.{AnyError}
use Rattle.elfsize.specs.declared.lines.AnyError.TheVariants.{Elf, Many, Memory}
use Rattle.elfsize.specs.declared.side.Side.{Side}
use Rattle.elfsize.specs.declared.symbols.Symbols.{Symbols}
use Rattle.elfsize.specs.declared.view.Options.{Options}
use Rattle.elfsize.specs.declared.view.View.{View}
use Rattle.elfsize.specs.declared.view.View.TheVariants as views
use Rattle.program_debug.specs.Debug.{ByNaming, IsDebugOf}
use Rattle.xmas_elf.specs.Types.{ElfFile}

-- an input is the file of its header, with a property
abbrev pub OfHeader : Bor (List ℕ) → (ElfFile → Type 0) → Type 0
OfHeader input P = IsOkAnd (header_of input.now) (λ header. P (record { input = input; header = header }))

-- symbols are those that a view asks for, of the file that bytes are
abbrev pub AreSymbolsBy : View → Bor (List ℕ) → Symbols → Type 0
AreSymbolsBy view bytes symbols = OfHeader bytes (λ file. AreSymbols view file symbols)

-- why there are none: an error of the header, or of the symbols
abbrev pub IsErrorBy : View → Bor (List ℕ) → AnyError → Type 0
IsErrorBy view bytes Memory = ⊤
IsErrorBy view bytes (Elf error) =
    (header_of bytes.now ≡ Err error) ⊎ OfHeader bytes (λ file. IsSymbolsError view file (Elf error))
IsErrorBy view bytes Many = OfHeader bytes (λ file. IsSymbolsError view file Many)

-- a debug file is asked for
abbrev pub IsAsked : Options → Type 0
IsAsked options = (options.view ≡ views.Symbols) × IsSome options.debug

-- bytes are the debug file of an input, and asked for
abbrev pub IsAskedDebug : Options → List ℕ → List ℕ → Type 0
IsAskedDebug options input bytes = IsAsked options × IsDebugOf input bytes

-- symbols are those of the bytes that name what is in an input: its own, or those of its debug file
abbrev pub AreNamedSymbols : Options → Bor (List ℕ) → Symbols → Type 0
AreNamedSymbols options input symbols = ByNaming (IsAsked options) input (λ bytes. AreSymbolsBy options.view bytes symbols)

-- why there are none, or memory is short
unfoldable pub IsInputError : Options → Bor (List ℕ) → AnyError → Type 0
IsInputError options input error = ByNaming (IsAsked options) input (λ bytes. IsErrorBy options.view bytes error)

-- the file of an input, with these symbols
unfoldable pub IsSide : Options → Bor (List ℕ) → Side → Type 0
IsSide options input side = OfHeader input (λ file. side.file ≡ file) × AreNamedSymbols options input side.symbols

-- there are such symbols
abbrev pub IsInputThere : Options → Bor (List ℕ) → Type 0
IsInputThere options input = (side : Side) × IsSide options input side
