-- Document 02, C-12, "Argument order no longer matters": its sentences, each quoted above its theorems. s and t are rules' bytes, p is a plan's.
use Rattle.std.specs.Prelude.{ℕ, ◌≤◌, ◌≡◌, true, List, [], ◌∷◌, ◌++◌}
use Rattle.base.specs.Lists.{elem}
use Rattle.base.specs.Codes.{byte_of, commutes}
use Rattle.base.specs.declared.Operation.{Operation}
use Rattle.base.specs.Parsing.{IsRead}
use Rattle.rule.specs.Tree.{variable, two, Block}
use Rattle.rule.specs.Rule.{read_rule}
use Rattle.rule.specs.Format.{header_bytes, WellFormed}
use Rattle.rule.specs.OnlyOrder.{OnlyOrder}
use Rattle.rule.specs.Standing.{InBlock}
use Rattle.rule.proofs.OrderBytes as bytes
use Rattle.circuit.specs.Gates.{operation, gate_at}
use Rattle.circuit.specs.PlainCircuit.{gates_of}
use Rattle.circuit.specs.Whole.{rule_answer}
use Rattle.plan.specs.Rows.{plan_answer}
use Rattle.fused.specs.FusedCircuit.{fused_file}
use Rattle.fused.specs.Answers.{write_answer, written_over}
use Rattle.fused.specs.OnlyOrderLaws as files
use Rattle.demands.specs.OrderLaws as order

-- "For 20, 22, 24, 25 and 26 the gate takes its lower-numbered argument first, from the plain circuit onwards."
pub commuting : (op : Operation) → commutes op ≡ elem (byte_of op) (0x20 ∷ 0x22 ∷ 0x24 ∷ 0x25 ∷ 0x26 ∷ [])
commuting = order.commuting

pub lower_first : (s : List ℕ) → IsRead (read_rule s) → (g a b : ℕ) (op : Operation) → gate_at (gates_of s) g ≡ operation op (a ∷ b ∷ [])
    → commutes op ≡ true → a ≤ b
lower_first = order.lower_first

-- "Two accepted rules that differ only in the order of two variables that are themselves the two arguments of such an operation must give
-- the same bytes with the same plan." If the first is accepted, the second is;
pub one_rule : (s t : List ℕ) → OnlyOrder s t → (rule_answer s).number ≡ 0 → rule_answer s ≡ rule_answer t
one_rule = files.same_rule

-- every plan is answered the same, its file is the same, and so is all of a lent buffer, on a refusal too.
pub one_check : (s t : List ℕ) → OnlyOrder s t → (rule_answer s).number ≡ 0 → (p : List ℕ) → plan_answer s p ≡ plan_answer t p
one_check = files.same_plan

pub one_file : (s t : List ℕ) → OnlyOrder s t → (rule_answer s).number ≡ 0 → (p : List ℕ) → fused_file s p ≡ fused_file t p
one_file = files.same_file

pub one_answer : (s t : List ℕ) → OnlyOrder s t → (rule_answer s).number ≡ 0 → (p : List ℕ) (room : ℕ) → write_answer s p room ≡ write_answer t p room
one_answer = files.same_answer

pub one_buffer : (s t : List ℕ) → OnlyOrder s t → (rule_answer s).number ≡ 0 → (p buffer : List ℕ) → written_over s p buffer ≡ written_over t p buffer
one_buffer = files.same_over

-- (so it is for two files whose bytes differ by 10 x 10 y against 10 y 10 x, where that is such an operation's arguments)
pub bytes_order : (kinds : List ℕ) (b : Block) → WellFormed kinds b → (op : Operation) (x y : ℕ) → commutes op ≡ true
    → (pre post : List ℕ) → InBlock (two op (variable x) (variable y)) b pre post
    → OnlyOrder (header_bytes kinds ++ (pre ++ (byte_of op ∷ 0x10 ∷ x ∷ 0x10 ∷ y ∷ post)))
    (header_bytes kinds ++ (pre ++ (byte_of op ∷ 0x10 ∷ y ∷ 0x10 ∷ x ∷ post)))
bytes_order = bytes.order_bytes
