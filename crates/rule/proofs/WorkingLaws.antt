-- Laws for document 02, C-13: a well-formed rule stays well-formed whichever of its variables work.
use Rattle.std.specs.Prelude.{ℕ, ◌<◌, ◌≡◌, List, length, get_or}
use Rattle.std.proofs.Common.{arith, ap, subst, length-append}
use Rattle.base.specs.declared.Kind.{Kind}
use Rattle.rule.specs.Header.{working_of, working_at}
use Rattle.rule.specs.Tree.{Expr, Block}
use Rattle.rule.specs.Kinds.{Typed, WordsFit, EachExpr}
use Rattle.rule.specs.Format.{block_bytes, rule_bytes, kind_in, Shallow, WellFormed}
use Rattle.rule.specs.EachLaws.{each_same, typed_same}
use Rattle.rule.proofs.BackRuleLaws.{kind_byte}
use Rattle.rule.specs.OnlyWorking.{OnlyWorking}

-- whether variable x works is said by its kind byte
pub rule_working : (kinds : List ℕ) (b : Block) (x : ℕ) → x < length kinds → working_at (rule_bytes kinds b) x ≡ working_of (get_or kinds x 0)
rule_working kinds b x l = ap working_of (kind_byte kinds (block_bytes b) x l)

module _ (kinds other : List ℕ) (o : OnlyWorking kinds other) (b : Block) where
  each : (P Q : Expr → Kind → Type 0) → ((e : Expr) (k : Kind) → P e k → Q e k) → EachExpr (length kinds) (kind_in kinds) P b → EachExpr (length other) (kind_in other) Q b
  each P Q to h = subst (λ (v : ℕ). EachExpr v (kind_in other) Q b) o.many (each_same (length kinds) (kind_in kinds) (kind_in other) o.alike P Q to b h)

  pub same_size : length (rule_bytes kinds b) ≡ length (rule_bytes other b)
  same_size = let m = o.many in omega (arith, m, length-append kinds (block_bytes b), length-append other (block_bytes b))

  pub well_working : WellFormed kinds b → WellFormed other b
  well_working w = record {
    some = rw o.many at w.some;
    few = rw o.many at w.few;
    known = o.known;
    typed = each (Typed (length kinds) (kind_in kinds)) (Typed (length other) (kind_in other))
        (λ e k h. subst (λ (v : ℕ). Typed v (kind_in other) e k) o.many (typed_same (length kinds) (kind_in kinds) (kind_in other) o.alike e k h)) w.typed;
    words = each WordsFit WordsFit (λ e k h. h) w.words;
    shallow = each Shallow Shallow (λ e k h. h) w.shallow;
    nests = w.nests;
    size = omega (arith, w.size, same_size);
  }
