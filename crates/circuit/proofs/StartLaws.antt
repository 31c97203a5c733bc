-- The gates that making starts with are the variables' starting values; of a rule that was read, plain circuit and direct run are its tree's, and its gates read only earlier ones.
use Rattle.std.specs.Prelude.{ℕ, zero, suc, ◌+◌, ◌<◌, ◌≡◌, List, map, get_or}
use Rattle.std.proofs.Common.{ap, ◌∙◌, zero-add, arith}
use Rattle.std.proofs.lemmas.List.{length-map}
use Rattle.base.specs.Lists.{◌∈◌, from, upto}
use Rattle.base.specs.ListLaws.{length_from, get_or_from, get_or_run}
use Rattle.base.specs.MemberLaws.{from_below}
use Rattle.base.specs.Parsing.{Parsed, parsed}
use Rattle.rule.specs.Header.{variables, kind_at}
use Rattle.rule.specs.Tree.{Block}
use Rattle.rule.specs.Rule.{read_rule}
use Rattle.rule.proofs.FoundRuleLaws.{read_typed}
use Rattle.circuit.specs.Running.{run_block, run_read, run_rule}
use Rattle.circuit.specs.Gates.{Gate, start, word, gate_at, arguments}
use Rattle.circuit.specs.PlainCircuit.{starts, plain_of, plain_read, plain_circuit}
use Rattle.circuit.specs.FigureLaws.{OnArguments, gates_right}
use Rattle.circuit.proofs.SoundLaws.{Sound, block_sound}
use Rattle.circuit.proofs.HoldLaws.{PresentGives}

-- Gates 0 to V−1 are the variables' starting values.
starts_earlier : (i n j a : ℕ) → a ∈ arguments (gate_at (map start (from i n)) j) → a < j
starts_earlier i zero j a m = absurd m
starts_earlier i (suc n) zero a m = absurd m
starts_earlier i (suc n) (suc j) a m = absurd (nothing (suc i) n j m)
  where
    nothing : (i n j : ℕ) → a ∈ arguments (gate_at (map start (from i n)) j) → ⊥
    nothing i zero j m = m
    nothing i (suc n) zero m = m
    nothing i (suc n) (suc j) m = nothing (suc i) n j m

pub starts_sound : (v : ℕ) → Sound v (starts v)
starts_sound v =
    record {
      count = length_from 0 v;
      inside = λ a m. rw (length-map (upto v) start, length_from 0 v) (omega (arith, from_below 0 v a m));
      earlier = starts_earlier 0 v;
    }

pub start_at : (i n x : ℕ) → x < n → gate_at (map start (from i n)) x ≡ start (i + x)
start_at i n x h = get_or_run start (word 0) i n x h

-- at the start each variable's gate gives what its starting value gives
pub starts_hold : {A : Type 0} (d : A) (value : (ℕ → A) → Gate → A) → OnArguments value → (v : ℕ) (h : ℕ → A)
    → ((g : ℕ → A) (x : ℕ) → value g (start x) ≡ h x) → PresentGives d value (starts v) h
starts_hold d value o v h k x l =
    let l' : x < v = rw (length_from 0 v) at l in
    let e : get_or (upto v) x 0 ≡ x = get_or_from 0 v x l' ∙ zero-add x in
    rw e (gates_right d value o (map start (upto v)) (starts_sound v).earlier x (rw (length-map (upto v) start) l)
    ∙ rw (start_at 0 v x l', zero-add) (k _ x))

-- the plain circuit of a rule that was read
pub read_plain : (s : List ℕ) (b : Block) (n : ℕ) → read_rule s ≡ parsed b n → plain_circuit s ≡ plain_of (variables s) b
unfolding plain_circuit
read_plain s b n h = ap (plain_read (variables s)) h

-- and its direct run
pub read_run : (s : List ℕ) (b : Block) (n : ℕ) → read_rule s ≡ parsed b n → (inputs : List ℕ) → run_rule s inputs ≡ run_block b inputs
unfolding run_rule
read_run s b n h inputs = ap (λ (r : Parsed Block). run_read r inputs) h

-- its outputs are V gates of it, and its arguments are made before their gates
pub plain_sound : (s : List ℕ) (b : Block) (n : ℕ) → read_rule s ≡ parsed b n → Sound (variables s) (plain_circuit s)
plain_sound s b n h =
    rw (read_plain s b n h) (block_sound (variables s) (kind_at s) b (read_typed s b n h) (starts (variables s)) (starts_sound (variables s)))
