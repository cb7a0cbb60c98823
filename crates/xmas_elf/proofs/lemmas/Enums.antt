-- `==` of an enum whose variants have fields is equality.
use denote.Enum.Compared.{Each, by}
use denote.Enum.Declared.{Choice, Record, values_one}
use denote.Struct.Field.{Field}
use denote.Struct.Values.{Values}
use Rattle.std.proofs.Common.{◌≡◌, ◌↔◌, Bool, true, false, List, [], ◌∷◌, inl, inr, refl, sym, ap, ◌∙◌}

-- for each variant, a test of two values of its fields is equality
abbrev pub AreEqualities : (Fss : List (List Field)) → Each Bool Fss → Type 0
AreEqualities [] each = Unit {0}
AreEqualities (Fs ∷ Fss) each = ((x y : Values Fs) → (each.0 x y ≡ true) ↔ (x ≡ y)) × AreEqualities Fss each.1

true_same : (Fss : List (List Field)) (each : Each Bool Fss) → AreEqualities Fss each → (c d : Choice Fss) → by false false Fss each c d ≡ true → c ≡ d
true_same [] each tells c d t = absurd c
true_same (Fs ∷ Fss) each tells (inl x) (inl y) t = ap inl ((tells.0 x y).0 t)
true_same (Fs ∷ Fss) each tells (inl x) (inr d) t = absurd (cc)
true_same (Fs ∷ Fss) each tells (inr c) (inl y) t = absurd (cc)
true_same (Fs ∷ Fss) each tells (inr c) (inr d) t = ap inr (true_same Fss each.1 tells.1 c d t)

itself : (Fss : List (List Field)) (each : Each Bool Fss) → AreEqualities Fss each → (c : Choice Fss) → by false false Fss each c c ≡ true
itself [] each tells c = absurd c
itself (Fs ∷ Fss) each tells (inl x) = (tells.0 x x).1 refl
itself (Fs ∷ Fss) each tells (inr c) = itself Fss each.1 tells.1 c

pub enum_same : (N : Record) (each : Each Bool N.parts) → AreEqualities N.parts each → (one other : N.D) (b : Bool) → b ≡ by false false N.parts each (N.as_values one) (N.as_values other) → (b ≡ true) ↔ (one ≡ other)
enum_same N each tells one other b is = (
  λ t. values_one N one other (true_same N.parts each tells (N.as_values one) (N.as_values other) (sym is ∙ t)),
  λ same. is ∙ ap (λ x. by false false N.parts each (N.as_values one) (N.as_values x)) (sym same) ∙ itself N.parts each tells (N.as_values one),
)
