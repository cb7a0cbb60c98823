-- What a relocation writes, in terms of the addresses at which files are loaded (the processor supplements of the System
-- V ABI, "Relocation Types"; the values without a symbol, and of indirect functions, as glibc 2.36 has them).
use Rattle.std.specs.Prelude.{ℕ, ◌+◌, ◌-◌, ◌*◌, ◌%◌, ◌^◌, ◌==◌, ◌&&◌, ◌||◌, not, min, is_none, Bool, false, Option, None, Some, if◌then◌else◌}
use Rattle.elf_loading.specs.Types.{Bound, Formula, Origin, Target, Terms, Value}
use Rattle.elf_linking.specs.declared.references.types.Formula.TheVariants as formulas
use Rattle.elf_loading.specs.declared.value.Origin.TheVariants.{Base, Call, Zero}
use Rattle.elf_loading.specs.declared.value.Value.TheVariants.{Copy, Descriptor, Distance, Module, Sum, Thread, ThreadNegated, Unchanged}
use Rattle.xmas_elf.specs.Symbol.{SymbolFields}

-- a number modulo 2 to the number of bits of a word of 4 or 8 bytes
abbrev pub low : ℕ → ℕ → ℕ
low width number = if width == 4 then number % 2 ^ 32 else number % 2 ^ 64

-- a number less another, which is below 2 to the 64
abbrev pub difference : ℕ → ℕ → ℕ → ℕ
difference width one other = low width (one + 2 ^ 64 - other)

-- The symbol that a relocation gets, as an origin plus a number.

-- a defined indirect function: its type is STT_GNU_IFUNC (10), and its section isn't SHN_UNDEF (0)
abbrev pub is_indirect : SymbolFields → Bool
is_indirect symbol = symbol.info % 16 == 10 && not (symbol.shndx == 0)

-- the object from whose base a symbol is counted; none for an absolute one (SHN_ABS, 0xfff1)
abbrev pub object_of : {E : Type 0} → (E → SymbolFields) → Bound E → Option ℕ
object_of fields bound = if (fields bound.symbol).shndx == 0xfff1 then None else Some bound.object

-- the base of an object, or nothing
abbrev pub origin_of : Option ℕ → Origin
origin_of None = Zero
origin_of (Some object) = Base object

-- 0 without a symbol; what the resolver returns for an indirect function; otherwise the symbol's value from the base
-- of its object
abbrev pub target_of : {E : Type 0} → (E → SymbolFields) → Option (Bound E) → Target
target_of fields None = record { origin = Zero; number = 0 }
target_of fields (Some bound) = if is_indirect (fields bound.symbol)
    then record { origin = Call (object_of fields bound) (fields bound.symbol).value; number = 0 }
    else record { origin = origin_of (object_of fields bound); number = (fields bound.symbol).value }

-- the size of the symbol that a relocation gets; 0 without one
abbrev pub size_of : {E : Type 0} → (E → SymbolFields) → Option (Bound E) → ℕ
size_of fields None = 0
size_of fields (Some bound) = (fields bound.symbol).size

-- there is a symbol, and its bytes aren't at its value in its object: it is an indirect function, or absolute
abbrev pub is_elsewhere : {E : Type 0} → (E → SymbolFields) → Option (Bound E) → Bool
is_elsewhere fields None = false
is_elsewhere fields (Some bound) = is_indirect (fields bound.symbol) || is_none (object_of fields bound)

-- The values of formulas of thread-local storage, and of copies.

-- without a symbol
abbrev pub absent_value : Terms → Formula → Value
absent_value terms formulas.Descriptor = Descriptor None (low terms.width terms.addend)
absent_value terms _ = Unchanged

-- with a symbol
abbrev pub bound_value : {E : Type 0} → (E → SymbolFields) → Terms → Bound E → Formula → Value
bound_value fields terms bound formulas.Module = Module bound.object
bound_value fields terms bound formulas.Offset =
    Sum Zero (low terms.width ((fields bound.symbol).value + terms.addend))
bound_value fields terms bound formulas.OffsetAlone = Sum Zero (low terms.width (fields bound.symbol).value)
bound_value fields terms bound formulas.Thread =
    Thread bound.object (low terms.width ((fields bound.symbol).value + terms.addend))
bound_value fields terms bound formulas.ThreadNegated =
    ThreadNegated bound.object (difference terms.width terms.addend (fields bound.symbol).value)
bound_value fields terms bound formulas.Descriptor =
    Descriptor (Some bound.object) (low terms.width ((fields bound.symbol).value + terms.addend))
bound_value fields terms bound formulas.Copy =
    Copy bound.object (fields bound.symbol).value (min (fields bound.symbol).size terms.size)
bound_value fields terms bound _ = Unchanged

-- the value of such a formula, with a symbol or without
abbrev pub module_value : {E : Type 0} → (E → SymbolFields) → Terms → Option (Bound E) → Formula → Value
module_value fields terms None formula = absent_value terms formula
module_value fields terms (Some bound) formula = bound_value fields terms bound formula

-- the value of a relocation by its formula, its numbers, and the symbol that it gets
abbrev pub value_of : {E : Type 0} → (E → SymbolFields) → Terms → Option (Bound E) → Formula → Value
value_of fields terms bound formulas.Unchanged = Unchanged
value_of fields terms bound formulas.Base = Sum (Base terms.own) (low terms.width terms.addend)
value_of fields terms bound formulas.Call = Sum (Call (Some terms.own) (low terms.width terms.addend)) 0
value_of fields terms bound formulas.Symbol = let target = target_of fields bound in
    Sum target.origin (low terms.width (target.number + terms.addend))
value_of fields terms bound formulas.SymbolAlone = let target = target_of fields bound in
    Sum target.origin (low terms.width target.number)
value_of fields terms bound formulas.Distance = let target = target_of fields bound in
    Distance target.origin (difference terms.width (target.number + terms.addend) terms.address)
value_of fields terms bound formulas.Size = Sum Zero (low terms.width (size_of fields bound + terms.addend))
value_of fields terms bound formula = module_value fields terms bound formula

-- the number of bytes that a value takes, where a number takes as many as are given: none, two words, or those of an
-- object
abbrev pub bytes_of : ℕ → Value → ℕ
bytes_of width Unchanged = 0
bytes_of width (Descriptor object offset) = 2 * width
bytes_of width (Copy object offset size) = size
bytes_of width _ = width
