-- An entry of the dynamic section has both a value and a pointer exactly if its tag is OS-specific or
-- processor-specific; different numbers mean different tags.
use Rattle.std.proofs.Common.{◌≡◌, ℕ, nat_le, ◌&&◌, ◌⊎◌, inl, inr, Bool, true, false, List, [], ◌∷◌, Result, Ok, Err, is_ok, if◌then◌else◌, refl, sym, ap, ◌∙◌, ◌↔◌}
use Rattle.elf_base.specs.FirstError.{and_then}
use Rattle.elf_base.specs.declared.error.ElfError.{ElfError}
use Rattle.elf_base.specs.declared.error.ElfError.TheVariants.{InvalidTag}
use Rattle.elf_records.specs.Dynamic.{pointer_in, pointer_of, tag_row_in_range, tag_row_of, tag_of, value_in, value_of}
use Rattle.elf_records.specs.declared.dynamic.Meaning.{Meaning}
use Rattle.elf_records.specs.declared.dynamic.Meaning.TheVariants.{Ignored, Value, Pointer, Unspecified}
use Rattle.elf_records.specs.declared.dynamic.Tag.{Tag}
use Rattle.elf_records.specs.declared.dynamic.Tag.TheVariants as tag
use Rattle.elf_records.proofs.NamedRows.{named_has}

-- the tag is OS-specific or processor-specific
abbrev is_open : Result (Tag ℕ) ElfError → Bool
is_open (Ok (tag.OsSpecific n)) = true
is_open (Ok (tag.ProcessorSpecific n)) = true
is_open _ = false

abbrev has_value : ℕ → Result (Tag ℕ × Meaning) ElfError → Bool
has_value value row = is_ok (and_then row (λ r. value_in value r.1))

abbrev has_pointer : ℕ → Result (Tag ℕ × Meaning) ElfError → Bool
has_pointer value row = is_ok (and_then row (λ r. pointer_in value r.1))

abbrev has_both : ℕ → Result (Tag ℕ × Meaning) ElfError → Type 0
has_both value row = (has_value value row && has_pointer value row) ≡ is_open (and_then row (λ r. Ok r.0))

in_range : (value n : ℕ) (a b : Bool) → has_both value (if a then Ok (tag.OsSpecific n, Unspecified) else (if b then Ok (tag.ProcessorSpecific n, Unspecified) else Err InvalidTag))
in_range value n true b = refl
in_range value n false true = refl
in_range value n false false = refl

-- the rows of the tags that are no range
abbrev named_tags : List (ℕ × Result (Tag ℕ × Meaning) ElfError)
named_tags = (0, Ok (tag.Null, Ignored)) ∷ (1, Ok (tag.Needed, Value)) ∷ (2, Ok (tag.PltRelSize, Value)) ∷ (3, Ok (tag.Pltgot, Pointer)) ∷ (4, Ok (tag.Hash, Pointer)) ∷ (5, Ok (tag.StrTab, Pointer)) ∷ (6, Ok (tag.SymTab, Pointer)) ∷ (7, Ok (tag.Rela, Pointer)) ∷ (8, Ok (tag.RelaSize, Value)) ∷ (9, Ok (tag.RelaEnt, Value)) ∷ (10, Ok (tag.StrSize, Value)) ∷ (11, Ok (tag.SymEnt, Value)) ∷ (12, Ok (tag.Init, Pointer)) ∷ (13, Ok (tag.Fini, Pointer)) ∷ (14, Ok (tag.SoName, Value)) ∷ (15, Ok (tag.RPath, Value)) ∷ (16, Ok (tag.Symbolic, Ignored)) ∷ (17, Ok (tag.Rel, Pointer)) ∷ (18, Ok (tag.RelSize, Value)) ∷ (19, Ok (tag.RelEnt, Value)) ∷ (20, Ok (tag.PltRel, Value)) ∷ (21, Ok (tag.Debug, Pointer)) ∷ (22, Ok (tag.TextRel, Ignored)) ∷ (23, Ok (tag.JmpRel, Pointer)) ∷ (24, Ok (tag.BindNow, Ignored)) ∷ (25, Ok (tag.InitArray, Pointer)) ∷ (26, Ok (tag.FiniArray, Pointer)) ∷ (27, Ok (tag.InitArraySize, Value)) ∷ (28, Ok (tag.FiniArraySize, Value)) ∷ (29, Ok (tag.RunPath, Value)) ∷ (30, Ok (tag.Flags, Value)) ∷ (32, Ok (tag.PreInitArray, Pointer)) ∷ (33, Ok (tag.PreInitArraySize, Value)) ∷ (34, Ok (tag.SymTabShIndex, Pointer)) ∷ (35, Ok (tag.RelrSize, Value)) ∷ (36, Ok (tag.Relr, Pointer)) ∷ (37, Ok (tag.RelrEnt, Value)) ∷ (1879048187, Ok (tag.Flags1, Value)) ∷ []

each_tag : (value n : ℕ) → has_both value (tag_row_of n n)
unfolding tag_row_of
each_tag value n = named_has (tag_row_in_range n) (λ _. has_both value) named_tags n (refl, (refl, (refl, (refl, (refl, (refl, (refl, (refl, (refl, (refl, (refl, (refl, (refl, (refl, (refl, (refl, (refl, (refl, (refl, (refl, (refl, (refl, (refl, (refl, (refl, (refl, (refl, (refl, (refl, (refl, (refl, (refl, (refl, (refl, (refl, (refl, (refl, (refl, tt)))))))))))))))))))))))))))))))))))))) (in_range value n (nat_le 0x6000000d n && nat_le n 0x6fffffff) (nat_le 0x70000000 n && nat_le n 0x7fffffff))

open_is : (t : Result (Tag ℕ) ElfError) → is_open t ≡ true → (n : ℕ) × ((t ≡ Ok (tag.OsSpecific n)) ⊎ (t ≡ Ok (tag.ProcessorSpecific n)))
open_is (Ok (tag.OsSpecific n)) is = (n, inl refl)
open_is (Ok (tag.ProcessorSpecific n)) is = (n, inr refl)
open_is _ is = absurd (cc)

is_open_of : (t : Result (Tag ℕ) ElfError) (n : ℕ) → (t ≡ Ok (tag.OsSpecific n)) ⊎ (t ≡ Ok (tag.ProcessorSpecific n)) → is_open t ≡ true
is_open_of t n (inl is) = ap is_open is
is_open_of t n (inr is) = ap is_open is

both : (a b : Bool) → a ≡ true → b ≡ true → (a && b) ≡ true
both true true x y = refl
both true false x y = cc
both false b x y = cc

left : (a b : Bool) → (a && b) ≡ true → a ≡ true
left true b h = refl
left false b h = h

right : (a b : Bool) → (a && b) ≡ true → b ≡ true
right true b h = h
right false true h = refl
right false false h = h

pub value_and_pointer : (n value : ℕ) → ((is_ok (value_of n value) ≡ true) × (is_ok (pointer_of n value) ≡ true)) ↔ ((m : ℕ) × ((tag_of n ≡ Ok (tag.OsSpecific m)) ⊎ (tag_of n ≡ Ok (tag.ProcessorSpecific m))))
value_and_pointer n value = (
  λ (v, p). open_is (tag_of n) (sym (each_tag value n) ∙ both (has_value value (tag_row_of n n)) (has_pointer value (tag_row_of n n)) v p),
  λ (m, is). (let all = each_tag value n ∙ is_open_of (tag_of n) m is in (left (has_value value (tag_row_of n n)) (has_pointer value (tag_row_of n n)) all, right (has_value value (tag_row_of n n)) (has_pointer value (tag_row_of n n)) all)),
)

-- the number that has a tag
abbrev code : Tag ℕ → ℕ
code tag.Null = 0
code tag.Needed = 1
code tag.PltRelSize = 2
code tag.Pltgot = 3
code tag.Hash = 4
code tag.StrTab = 5
code tag.SymTab = 6
code tag.Rela = 7
code tag.RelaSize = 8
code tag.RelaEnt = 9
code tag.StrSize = 10
code tag.SymEnt = 11
code tag.Init = 12
code tag.Fini = 13
code tag.SoName = 14
code tag.RPath = 15
code tag.Symbolic = 16
code tag.Rel = 17
code tag.RelSize = 18
code tag.RelEnt = 19
code tag.PltRel = 20
code tag.Debug = 21
code tag.TextRel = 22
code tag.JmpRel = 23
code tag.BindNow = 24
code tag.InitArray = 25
code tag.FiniArray = 26
code tag.InitArraySize = 27
code tag.FiniArraySize = 28
code tag.RunPath = 29
code tag.Flags = 30
code tag.PreInitArray = 32
code tag.PreInitArraySize = 33
code tag.SymTabShIndex = 34
code tag.RelrSize = 35
code tag.Relr = 36
code tag.RelrEnt = 37
code tag.Flags1 = 0x6ffffffb
code (tag.OsSpecific n) = n
code (tag.ProcessorSpecific n) = n

abbrev has_code : ℕ → Result (Tag ℕ × Meaning) ElfError → Type 0
has_code n (Ok row) = code row.0 ≡ n
has_code n (Err error) = Unit {0}

code_in_range : (n : ℕ) (a b : Bool) → has_code n (if a then Ok (tag.OsSpecific n, Unspecified) else (if b then Ok (tag.ProcessorSpecific n, Unspecified) else Err InvalidTag))
code_in_range n true b = refl
code_in_range n false true = refl
code_in_range n false false = tt

each_code : (n : ℕ) → has_code n (tag_row_of n n)
unfolding tag_row_of
each_code n = named_has (tag_row_in_range n) has_code named_tags n (refl, (refl, (refl, (refl, (refl, (refl, (refl, (refl, (refl, (refl, (refl, (refl, (refl, (refl, (refl, (refl, (refl, (refl, (refl, (refl, (refl, (refl, (refl, (refl, (refl, (refl, (refl, (refl, (refl, (refl, (refl, (refl, (refl, (refl, (refl, (refl, (refl, (refl, tt)))))))))))))))))))))))))))))))))))))) (code_in_range n (nat_le 0x6000000d n && nat_le n 0x6fffffff) (nat_le 0x70000000 n && nat_le n 0x7fffffff))

abbrev code_of : Result (Tag ℕ) ElfError → ℕ
code_of (Ok t) = code t
code_of (Err error) = 0

code_is : (n : ℕ) (row : Result (Tag ℕ × Meaning) ElfError) (t : Tag ℕ) → has_code n row → and_then row (λ r. Ok r.0) ≡ Ok t → code t ≡ n
code_is n (Ok row) t has is = sym (ap code_of is) ∙ has
code_is n (Err error) t has is = absurd (cc)

-- no two numbers have the same tag
pub one_tag_number : (one other : ℕ) (t : Tag ℕ) → tag_of one ≡ Ok t → tag_of other ≡ Ok t → one ≡ other
one_tag_number one other t is also = sym (code_is one (tag_row_of one one) t (each_code one) is) ∙ code_is other (tag_row_of other other) t (each_code other) also
