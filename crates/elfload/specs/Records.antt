-- What the program writes as JSON (this project's own): the same facts as its lines.
use Rattle.std.specs.Prelude.{ℕ, List, [], ◌∷◌, ◌++◌, Option, None, Some, codes}
use Rattle.elf_loading.specs.declared.value.Origin.TheVariants.{Base, Call, Zero}
use Rattle.elf_loading.specs.declared.value.Value.TheVariants.{Copy, Descriptor, Distance, Module, Sum, Thread, ThreadNegated, Unchanged}
use Rattle.elfload.specs.Types.{Origin, Value}
use Rattle.elfload.specs.declared.records.Numbers.{Numbers}
use Rattle.program_ends.specs.Json.{member, number_or_null, text_value}
use Rattle.program_ends.specs.declared.json.Member.{Member}
use Rattle.program_ends.specs.declared.json.Value as json
use Rattle.program_ends.specs.declared.json.Value.TheVariants.{Null, Number}
use Rattle.xmas_elf.specs.Types.{Flags}

-- the flags of a segment, or null
abbrev pub flags_or_null : Option Flags → json.Value
flags_or_null None = Null
flags_or_null (Some flags) = Number flags.0

-- what kind of value is written to a word
abbrev pub value_kind : Value → List ℕ
value_kind Unchanged = codes "unchanged"
value_kind (Sum origin offset) = codes "sum"
value_kind (Distance origin offset) = codes "distance"
value_kind (Module object) = codes "module"
value_kind (Thread object offset) = codes "thread"
value_kind (ThreadNegated object offset) = codes "thread_negated"
value_kind (Descriptor object offset) = codes "descriptor"
value_kind (Copy object offset size) = codes "copy"

-- the numbers of a value: the index of a file, the function whose result it is, what is added or where it is, and how many bytes are copied
abbrev pub numbers : Option ℕ → Option ℕ → Option ℕ → Option ℕ → Numbers
numbers object resolver offset size = record { object = object; resolver = resolver; offset = offset; size = size }

-- those of an origin and what is added to it: the absolute address 0, the base of a file, or the result of a function
abbrev pub origin_numbers : Origin → ℕ → Numbers
origin_numbers Zero offset = numbers None None (Some offset) None
origin_numbers (Base object) offset = numbers (Some object) None (Some offset) None
origin_numbers (Call object resolver) offset = numbers object (Some resolver) (Some offset) None

-- those of a value
abbrev pub value_numbers : Value → Numbers
value_numbers Unchanged = numbers None None None None
value_numbers (Sum origin offset) = origin_numbers origin offset
value_numbers (Distance origin offset) = origin_numbers origin offset
value_numbers (Module object) = numbers (Some object) None None None
value_numbers (Thread object offset) = numbers (Some object) None (Some offset) None
value_numbers (ThreadNegated object offset) = numbers (Some object) None (Some offset) None
value_numbers (Descriptor object offset) = numbers object None (Some offset) None
value_numbers (Copy object offset size) = numbers (Some object) None (Some offset) (Some size)

-- the members with a value
abbrev pub value_members : Value → List Member
value_members value = member (codes "value") (text_value (value_kind value))
    ∷ member (codes "object") (number_or_null (value_numbers value).object)
    ∷ member (codes "resolver") (number_or_null (value_numbers value).resolver)
    ∷ member (codes "offset") (number_or_null (value_numbers value).offset)
    ∷ member (codes "size") (number_or_null (value_numbers value).size) ∷ []
