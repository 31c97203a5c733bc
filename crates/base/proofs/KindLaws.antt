-- What `==` and `!=` of two kinds say, in the words of the definitions.
use Rattle.std.proofs.Common.{◌≡◌, Bool, true, false, not, refl, sym, ◌∙◌}
use denote.Enum.Bare.{sameb}
use Rattle.base.specs.contracts.Kind.{the_type}
use Rattle.base.specs.declared.Kind.{Kind}
use Rattle.base.specs.declared.Kind.TheVariants.{Word, Bit}
use Rattle.base.specs.Codes.{same_kind}

same_is : (a b : Kind) → sameb the_type a b ≡ same_kind a b
same_is Word Word = refl
same_is Word Bit = refl
same_is Bit Word = refl
same_is Bit Bit = refl

-- a test for one kind
pub kind_eq : (a b : Kind) {r v : Bool} → r ≡ sameb the_type a b → r ≡ v → same_kind a b ≡ v
kind_eq a b e t = sym (same_is a b) ∙ sym e ∙ t

-- a test for two
pub kind_ne : (a b : Kind) {r : Bool} → r ≡ not (sameb the_type a b) → r ≡ true → same_kind a b ≡ false
kind_ne Word Word e t = absurd cc
kind_ne Word Bit e t = refl
kind_ne Bit Word e t = refl
kind_ne Bit Bit e t = absurd cc

pub kind_not_ne : (a b : Kind) {r : Bool} → r ≡ not (sameb the_type a b) → r ≡ false → same_kind a b ≡ true
kind_not_ne Word Word e t = refl
kind_not_ne Word Bit e t = absurd cc
kind_not_ne Bit Word e t = absurd cc
kind_not_ne Bit Bit e t = refl
