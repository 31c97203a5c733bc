-- Making a block, statement after statement, and so a whole rule: then the lent arrays hold the gates and outputs of its plain circuit; of more than 256 gates the count is 257.
use Rattle.std.specs.Prelude.{ℕ, ◌+◌, ◌≤◌, ◌<◌, ◌≡◌, Bool, ◌||◌, List, length, get_or}
use Rattle.std.proofs.Common.{arith, ◌∙◌, ext_get_or}
use Rattle.std.proofs.Math.Path.{refl, sym, ap, subst, subst⁻¹}
use Rattle.std.proofs.Math.Bool.{true, false, or-false}
use Rattle.std.specs.Int.Bits.{bit_or}
use Rattle.base.specs.Buffers.{padded}
use Rattle.base.specs.BufferLaws.{padded_at, padded_length}
use Rattle.base.specs.ListLaws.{length_from}
use Rattle.base.specs.Sets.{has}
use Rattle.base.specs.BitLaws.{bit_or_lem, bit_none}
use Rattle.base.specs.Parsing.{parsed, IsRead}
use Rattle.base.specs.ParsingLaws.{read_is, is_read, same_what, same_next}
use Rattle.rule.specs.Limits.{nested}
use Rattle.rule.specs.Header.{variables}
use Rattle.rule.specs.Tree.{Statement, Block, end, then}
use Rattle.rule.specs.Blocks.{read_block, read_statement}
use Rattle.rule.specs.Rule.{read_rule}
use Rattle.rule.specs.FirstStatement as read
use Rattle.circuit.specs.PlainCircuit.{Making, assigns_in, assigns, make_statement, make_block, starts, plain_circuit}
use Rattle.circuit.proofs.StartLaws.{read_plain, plain_sound}
use Rattle.circuit_make.specs.RuleMade.{RuleMade}
use Rattle.circuit_make.specs.Holding.{Held, Done, Walked}
use Rattle.circuit_make.specs.StatementLaws.{statement_length}

-- a block, statement after statement
module _ (s : List ℕ) (nest at : ℕ) (quads present : List ℕ) (count : ℕ) where
  pub walked_none : IsRead (read_block s nest at) → Walked s nest at quads present count at count 0 quads present
  walked_none h =
      let r = is_read (read_block s nest at) h in
      record {
        b = r.0;
        last = r.1;
        whole = r.2;
        rest = r.0;
        left = r.2;
        onward = omega arith;
        marks = λ x i. ap (λ (t : Bool). t || assigns r.0 x) (bit_none x);
        walked = λ m l held. record { now = m; count = l; held = held; same = refl };
      }

  module _ (here n mask : ℕ) (quads' present' : List ℕ) (w : Walked s nest at quads present count here n mask quads' present') where
    pub rest_taken : IsRead (read_block s nest here)
    rest_taken = read_is (read_block s nest here) w.left

    pub statement_taken : (get_or s here 0 ≡ 0 → ⊥) → IsRead (read_statement s nest here)
    statement_taken z = read_is (read_statement s nest here) (read.block_read s nest here w.rest w.last w.left z).statement

    pub walked_all : get_or s here 0 ≡ 0 → Done make_block assigns s (read_block s nest at) quads present count (here + 1) n mask quads' present'
    unfolding make_block assigns
    walked_all z =
        let e : parsed w.rest w.last ≡ parsed end (here + 1) = sym w.left ∙ read.block_closed s nest here (read.block_inside s nest here rest_taken) z in
        let r = same_what e in
        record {
          what = w.b;
          read = w.whole ∙ ap (parsed w.b) (same_next e);
          marks = λ x i. sym (or-false (has mask x)) ∙ ap (λ (b : Block). has mask x || assigns b x) (sym r) ∙ w.marks x i;
          done = λ m l held.
              let q = w.walked m l held in
              subst (λ (k : Making). Held s k quads' present' n) (ap (λ (b : Block). make_block b q.now) (sym r) ∙ q.same) q.held;
        }

    pub walked_more : (get_or s here 0 ≡ 0 → ⊥) → (next more mask' : ℕ) (quads'' present'' : List ℕ) → here < next
        → Done make_statement assigns_in s (read_statement s nest here) quads' present' n next more mask' quads'' present''
        → Walked s nest at quads present count next more (bit_or mask mask') quads'' present''
    unfolding make_block assigns
    walked_more z next more mask' quads'' present'' on d =
        let r = read.block_read s nest here w.rest w.last w.left z in
        let e : parsed d.what next ≡ parsed r.x r.next = sym d.read ∙ r.statement in
        let k : next ≡ r.next = same_next e in
        let is : w.rest ≡ then d.what r.rest = r.is ∙ ap (λ (t : Statement). then t r.rest) (sym (same_what e)) in
        record {
          b = w.b;
          last = w.last;
          whole = w.whole;
          rest = r.rest;
          left = ap (read_block s nest) k ∙ r.block;
          onward = omega (arith, w.onward);
          marks = λ x i.
              ap (λ (b : Bool). b || assigns r.rest x) (bit_or_lem mask mask' x ∙ ap (λ (b : Bool). has mask x || b) (d.marks x i))
              ∙ or_assoc (has mask x) (assigns_in d.what x) (assigns r.rest x)
              ∙ ap (λ (b : Block). has mask x || assigns b x) (sym is)
              ∙ w.marks x i;
          walked = λ m l held.
              let q = w.walked m l held in
              record {
                now = make_statement d.what q.now;
                count = statement_length d.what q.now ∙ q.count;
                held = d.done q.now q.count q.held;
                same = ap (λ (b : Block). make_block b q.now) (sym is) ∙ q.same;
              };
        }
      where
        or_assoc : (a b c : Bool) → ((a || b) || c) ≡ (a || (b || c))
        or_assoc true b c = refl
        or_assoc false b c = refl

-- a whole rule
module _ (s : List ℕ) (h : IsRead (read_rule s)) (quads present : List ℕ) (count : ℕ) (held : Held s (starts (variables s)) quads present count)
    (next more mask : ℕ) (quads' present' : List ℕ)
    (d : Done make_block assigns s (read_block s nested (6 + variables s)) quads present count next more mask quads' present') where
  plain : plain_circuit s ≡ make_block d.what (starts (variables s))
  plain = read_plain s d.what next ((read.rule_read s h).block ∙ d.read)

  pub rule_held : length (starts (variables s)).present ≡ variables s → Held s (plain_circuit s) quads' present' more
  rule_held l = subst⁻¹ (λ (m : Making). Held s m quads' present' more) plain (d.done (starts (variables s)) l held)

-- what is held, as equations
module _ (s : List ℕ) (m : Making) (quads present : List ℕ) (count : ℕ) (held : Held s m quads present count) where
  pub held_count : length m.gates ≤ 256 → count ≡ length m.gates
  held_count few = omega (arith, held.stored.counted)

  pub held_many : 256 < length m.gates → count ≡ 257
  held_many many = omega (arith, held.stored.counted)

  pub held_present : length m.gates ≤ 256 → length m.present ≤ 32 → present ≡ padded 32 m.present
  held_present few small =
      ext_get_or 0 present (padded 32 m.present) (held.wide ∙ sym (padded_length 32 m.present small)) (λ x i. held.stand few x ∙ sym (padded_at 32 m.present x))

-- the promise of a whole rule: the gates and outputs of its plain circuit
pub rule_made : (s : List ℕ) → IsRead (read_rule s) → (quads present : List ℕ) (count : ℕ) → Held s (starts (variables s)) quads present count
    → (next more mask : ℕ) (quads' present' : List ℕ)
    → Done make_block assigns s (read_block s nested (6 + variables s)) quads present count next more mask quads' present' → RuleMade s quads' present' more
rule_made s h quads present count held next more mask quads' present' d =
    let l : length (starts (variables s)).present ≡ variables s = length_from 0 (variables s) in
    let r = rule_held s h quads present count held next more mask quads' present' d l in
    let b = read.rule_read s h in
    let o : length (plain_circuit s).present ≡ variables s = (plain_sound s d.what next (b.block ∙ d.read)).count in
    record {
      counted = λ few. held_count s (plain_circuit s) quads' present' more r few;
      lie = λ few. r.stored.lie few;
      outputs = λ few. held_present s (plain_circuit s) quads' present' more r few (omega (arith, o, b.header.few));
      many = held_many s (plain_circuit s) quads' present' more r;
    }
