-- The symbols of an input, and the faults of its file.
use Rattle.std.proofs.Common.{◌≡◌, ℕ, List, Option, Some, Result, Ok, Err, Global, Vec, inl, inr, refl, sym, subst}
use Rattle.std.specs.Borrow.{Bor}
use Rattle.std.specs.Prelude.{IfSome, IsOkAnd, MatchResult, ⊤}
use Rattle.elf_base.specs.FileHeader.{header_of}
use Rattle.elfsize.specs.Ends.{IsFault, fault_of}
use Rattle.elfsize.specs.Lines.{IsInputText, IsShort, IsTextBy}
use Rattle.elfsize.specs.Sides.{AreNamedSymbols, AreSymbolsBy, IsAsked, IsAskedDebug, IsErrorBy, IsInputError, IsInputThere, IsSide, OfHeader}
use Rattle.elfsize.specs.Symbols.{AreSymbols, IsSymbolsError}
use Rattle.elfsize.specs.declared.lines.AnyError.{AnyError}
use Rattle.elfsize.specs.declared.lines.AnyError.TheVariants.{Elf, Many, Memory}
use Rattle.elfsize.specs.declared.side.Side.{Side}
use Rattle.elfsize.specs.declared.symbols.Symbols.{Symbols}
use Rattle.elfsize.specs.declared.view.Options.{Options}
use Rattle.elfsize.specs.declared.view.View.{View}
use Rattle.program_debug.specs.Debug.{AreNaming, IsDebugOf, of_debug, own}
use Rattle.program_ends.proofs.Ends.{stop_so}
use Rattle.program_ends.specs.Appended.{AppendsSome}
use Rattle.program_ends.specs.Stops.{IsStop}
use Rattle.program_ends.specs.declared.Stop as stops
use Rattle.program_ends.specs.declared.Stop.TheVariants as stops_are
use Rattle.xmas_elf.specs.Types.{ElfError, ElfFile, Header}

of_header : (P : ElfFile → Type 0) (input : Bor (List ℕ)) (file : ElfFile) → file.input ≡ input → header_of input.now ≡ Ok file.header → P file → OfHeader input P
of_header P input file same header holds =
    subst (λ (r : Result Header ElfError). IsOkAnd r (λ h. P (record { input = input; header = h }))) (sym header)
    (subst (λ (i : Bor (List ℕ)). P (record { input = i; header = file.header })) same holds)

error_by : (view : View) (bytes : Bor (List ℕ)) (file : ElfFile) → file.input ≡ bytes → header_of bytes.now ≡ Ok file.header → (failure : AnyError) → IsSymbolsError view file failure → IsErrorBy view bytes failure
error_by view bytes file same header (Elf error) why = inr (of_header (λ f. IsSymbolsError view f (Elf error)) bytes file same header why)
error_by view bytes file same header Many why = of_header (λ f. IsSymbolsError view f Many) bytes file same header why
error_by view bytes file same header Memory why = tt

-- the symbols of a file are those of its bytes
pub by_bytes : (view : View) (bytes : Bor (List ℕ)) (file : ElfFile) → file.input ≡ bytes → header_of bytes.now ≡ Ok file.header → (result : Result Symbols AnyError)
    → MatchResult result (AreSymbols view file) (IsSymbolsError view file) → MatchResult result (AreSymbolsBy view bytes) (IsErrorBy view bytes)
by_bytes view bytes file same header (Ok symbols) are = of_header (λ f. AreSymbols view f symbols) bytes file same header are
by_bytes view bytes file same header (Err failure) why = error_by view bytes file same header failure why

-- the symbols of the bytes that name what is in an input
by_naming : (options : Options) (input bytes : Bor (List ℕ)) → AreNaming (IsAsked options) input bytes → (result : Result Symbols AnyError)
    → MatchResult result (AreSymbolsBy options.view bytes) (IsErrorBy options.view bytes) → MatchResult result (AreNamedSymbols options input) (IsInputError options input)
unfolding IsInputError
by_naming options input bytes naming (Ok symbols) are = (bytes, naming, are)
by_naming options input bytes naming (Err failure) why = (bytes, naming, why)

pub by_own : (options : Options) (input : Bor (List ℕ)) (result : Result Symbols AnyError)
    → MatchResult result (AreSymbolsBy options.view input) (IsErrorBy options.view input) → MatchResult result (AreNamedSymbols options input) (IsInputError options input)
by_own options input result are = by_naming options input input (own refl) result are

pub by_debug : (options : Options) (input bytes : Bor (List ℕ)) (found : Option (Vec ℕ Global)) (debug : Vec ℕ Global) → IfSome found (λ v. IsAskedDebug options input.now v.items) → found ≡ Some debug → bytes.now ≡ debug.items
    → (result : Result Symbols AnyError) → MatchResult result (AreSymbolsBy options.view bytes) (IsErrorBy options.view bytes) → MatchResult result (AreNamedSymbols options input) (IsInputError options input)
by_debug options input bytes found debug asked is same result are =
    let it : IsAskedDebug options input.now debug.items = subst (λ (f : Option (Vec ℕ Global)). IfSome f (λ v. IsAskedDebug options input.now v.items)) is asked in
    by_naming options input bytes (of_debug it.0 (subst (λ (b : List ℕ). IsDebugOf input.now b) (sym same) it.1)) result are

-- the file of an input with its symbols
pub side_is : (options : Options) (input : Bor (List ℕ)) (side : Side) → side.file.input ≡ input → header_of input.now ≡ Ok side.file.header → AreNamedSymbols options input side.symbols → IsSide options input side
unfolding IsSide
side_is options input side same header are = (of_header (λ f. side.file ≡ f) input side.file same header refl, are)

pub header_error : (options : Options) (input : Bor (List ℕ)) (error : ElfError) → header_of input.now ≡ Err error → IsInputError options input (Elf error)
unfolding IsInputError
header_error options input error why = (input, own refl, inl why)

-- the text of a file with its symbols is one of its input
pub text_found : (options : Options) (path : List ℕ) (input : Bor (List ℕ)) (side : Side) (before after : Option (List ℕ)) → IsSide options input side
    → AppendsSome (IsTextBy options.form path side) before after → AppendsSome (IsInputText options path input) before after
unfolding IsInputText
text_found options path input side before after side_is (text, is, grown) = (text, (side, side_is, is), grown)

-- The faults.

-- the fault for a reason to stop
pub fault_so : (path : Bor (List ℕ)) (Fails : AnyError → Type 0) (Written : Type 0) (stop : stops.Stop AnyError) → IsStop Fails Written ⊤ stop → IsFault path Fails Written (fault_of path stop)
fault_so path Fails Written (stops_are.Failed (Elf error)) why = (refl, why)
fault_so path Fails Written (stops_are.Failed Many) why = (refl, why)
fault_so path Fails Written (stops_are.Failed Memory) why = tt
fault_so path Fails Written stops_are.Write why = why
fault_so path Fails Written stops_are.Memory why = tt

-- memory that is short is no error of an input
short_input : (options : Options) (input : Bor (List ℕ)) (failure : AnyError) → IsShort failure → IsInputError options input failure
unfolding IsInputError
short_input options input (Elf error) why = absurd why
short_input options input Many why = absurd why
short_input options input Memory why = (input, own refl, tt)

-- the fault of an input that has an error
pub input_fault : (options : Options) (path input : Bor (List ℕ)) (Is : Type 0) (failure : AnyError) → IsInputError options input failure → IsFault path (IsInputError options input) Is (fault_of path (stops_are.Failed failure))
input_fault options path input Is failure why = fault_so path (IsInputError options input) Is (stops_are.Failed failure) why

-- the fault after a write that failed, or memory that was short
pub written_fault : (options : Options) (path input : Bor (List ℕ)) (Written Is : Type 0) (stop : stops.Stop AnyError) → Is → IsStop IsShort Written ⊤ stop → IsFault path (IsInputError options input) Is (fault_of path stop)
written_fault options path input Written Is stop is why =
    fault_so path (IsInputError options input) Is stop
    (stop_so IsShort (IsInputError options input) Written Is ⊤ ⊤ stop (short_input options input) (λ w. is) (λ s. s) why)

-- the same of the file by itself
pub stopped : (options : Options) (path input : Bor (List ℕ)) (side : Side) (Written : Type 0) (stop : stops.Stop AnyError) → IsSide options input side → IsStop IsShort Written ⊤ stop → IsFault path (IsInputError options input) (IsInputThere options input) (fault_of path stop)
stopped options path input side Written stop is why = written_fault options path input Written (IsInputThere options input) stop (side, is) why
