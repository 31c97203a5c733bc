-- The inner contract of making, here and in `circuit_plain`: what the lent arrays hold of the gates made so far, and what each function does to them.
-- The outermost function's promise is stated without it. At most 256 gates are stored; a count of 257 says that there are more.
use Rattle.std.specs.Prelude.{ℕ, ◌-◌, ◌≤◌, ◌<◌, min, ◌≡◌, Bool, ◌||◌, List, [], ◌∷◌, ◌++◌, map, length, get_or, set}
use Rattle.base.specs.Sets.{has}
use Rattle.base.specs.Buffers.{padded}
use Rattle.base.specs.Lists.{keep, from, upto}
use Rattle.base.specs.Parsing.{Parsed, parsed}
use Rattle.rule.specs.Header.{variables}
use Rattle.rule.specs.Tree.{Expr, Block}
use Rattle.rule.specs.Blocks.{read_block}
use Rattle.circuit.specs.Gates.{Gate, start, Gates}
use Rattle.circuit.specs.PlainCircuit.{Making, make_expr, assigns, choices, make_block}
use Rattle.circuit.specs.Quads.{quad_of, quads_of}
use Rattle.circuit.specs.Rooms.{gate_room, quad_room, variable_room}

-- the count of the gates, up to 257, and while there are at most 256 their quads, zeros after them
pub record Stored (s : List ℕ) (C : Gates) (quads : List ℕ) (count : ℕ) : Type 0 where
  pub counted : count ≡ min 257 (length C)
  pub lie : length C ≤ gate_room → quads ≡ padded quad_room (quads_of s C)

-- the array holds the variables' gates p, zeros after them
abbrev pub StandsFor : List ℕ → List ℕ → Type 0
StandsFor p present = (x : ℕ) → get_or present x 0 ≡ get_or p x 0

-- the gates, and the present gate of each variable
pub record Held (s : List ℕ) (m : Making) (quads present : List ℕ) (count : ℕ) : Type 0 where
  pub stored : Stored s m.gates quads count
  pub wide : length present ≡ variable_room
  pub stand : length m.gates ≤ gate_room → StandsFor m.present present

-- a gate of these four numbers was pushed: they need be right only while there is room
pub record Pushed (four quads : List ℕ) (count : ℕ) (after : List ℕ) (more : ℕ) : Type 0 where
  pub pushed : (s : List ℕ) (C : Gates) (k : Gate) → (length C < gate_room → quad_of s k ≡ four) → Stored s C quads count → Stored s (C ++ (k ∷ [])) after more

-- the gate k was pushed, if it is the one wanted while there is room
pub record Applied (k : Gate) (quads : List ℕ) (count : ℕ) (after : List ℕ) (more : ℕ) : Type 0 where
  pub applied : (s : List ℕ) (C : Gates) (wanted : Gate) → (length C < gate_room → wanted ≡ k) → Stored s C quads count → Stored s (C ++ (wanted ∷ [])) after more

-- an expression was made: m was read up to `next`, and stands for the gate `place`
pub record ExprMade (s : List ℕ) (m : Parsed Expr) (present quads : List ℕ) (count next place more : ℕ) (after : List ℕ) : Type 0 where
  pub what : Expr
  pub read : m ≡ parsed what next
  pub made : (p : List ℕ) (C : Gates) → Stored s C quads count → (length C ≤ gate_room → StandsFor p present)
      → Stored s (make_expr what p C).gates after more
  pub stands : (p : List ℕ) (C : Gates) → Stored s C quads count → (length C ≤ gate_room → StandsFor p present)
      → length (make_expr what p C).gates ≤ gate_room → place ≡ (make_expr what p C).place

-- what was made of a statement or block: read up to `next`, the variables assigned in it, and the arrays after it
pub record Done {A : Type 0} (make : A → Making → Making) (assigned : A → ℕ → Bool) (s : List ℕ) (m : Parsed A)
    (quads present : List ℕ) (count next more mask : ℕ) (quads' present' : List ℕ) : Type 0 where
  pub what : A
  pub read : m ≡ parsed what next
  pub marks : (x : ℕ) → x < variable_room → has mask x ≡ assigned what x
  pub done : (n : Making) → length n.present ≡ variables s → Held s n quads present count → Held s (make what n) quads' present' more

-- one gate more, which variable x stands for from now on
pub record Chose (k : Gate) (x : ℕ) (quads present : List ℕ) (count : ℕ) (quads' present' : List ℕ) (more : ℕ) : Type 0 where
  pub chose : (s : List ℕ) (m : Making) (wanted : Gate) → (length m.gates < gate_room → wanted ≡ k) → x < length m.present
      → Held s m quads present count → Held s (record { gates = m.gates ++ (wanted ∷ []); present = set m.present x (length m.gates) }) quads' present' more

-- what a choice rests on: the gate of the condition, and the arrays of the two blocks' variables
pub record ChoiceParts (c : ℕ) (p q : List ℕ) (condition : ℕ) (first second : List ℕ) : Type 0 where
  pub test : condition ≡ c
  pub yes : StandsFor p first
  pub no : StandsFor q second

-- the choices for the variables of a mask were made
pub record Chosen (condition : ℕ) (first second : List ℕ) (mask v : ℕ) (quads present : List ℕ) (count more : ℕ) (quads' present' : List ℕ) : Type 0 where
  pub chosen : (s : List ℕ) (m : Making) (c : ℕ) (p q : List ℕ) → length m.present ≡ v
      → (length m.gates ≤ gate_room → ChoiceParts c p q condition first second)
      → Held s m quads present count → Held s (choices c p q (keep (has mask) (upto v)) m) quads' present' more

-- loop invariant: the choices before variable x were made, from those of m on: `now` is what they were made into
pub record Choosing (s : List ℕ) (m : Making) (c : ℕ) (p q : List ℕ) (mask v x : ℕ) (quads' present' : List ℕ) (n : ℕ) : Type 0 where
  pub now : Making
  pub count : length now.present ≡ v
  pub grown : length m.gates ≤ length now.gates
  pub held : Held s now quads' present' n
  pub same : choices c p q (keep (has mask) (from x (v - x))) now ≡ choices c p q (keep (has mask) (upto v)) m

pub record ChosenTo (condition : ℕ) (first second : List ℕ) (mask v : ℕ) (quads present : List ℕ) (count x n : ℕ) (quads' present' : List ℕ) : Type 0 where
  pub inside : x ≤ v
  pub to : (s : List ℕ) (m : Making) (c : ℕ) (p q : List ℕ) → length m.present ≡ v
      → (length m.gates ≤ gate_room → ChoiceParts c p q condition first second)
      → Held s m quads present count → Choosing s m c p q mask v x quads' present' n

-- loop invariant: the starting values before variable x were made
pub record Started (s : List ℕ) (x : ℕ) (quads present : List ℕ) (count : ℕ) : Type 0 where
  pub inside : x ≤ variables s
  pub wide : length present ≡ variable_room
  pub stored : Stored s (map start (upto x)) quads count
  pub stand : StandsFor (upto x) present

-- loop invariant: a block b was made up to its rest: `now` is what m was made into
pub record WalkingBlock (s : List ℕ) (m : Making) (b rest : Block) (quads' present' : List ℕ) (n : ℕ) : Type 0 where
  pub now : Making
  pub count : length now.present ≡ variables s
  pub held : Held s now quads' present' n
  pub same : make_block rest now ≡ make_block b m

pub record Walked (s : List ℕ) (nest at : ℕ) (quads present : List ℕ) (count here n mask : ℕ) (quads' present' : List ℕ) : Type 0 where
  pub b : Block
  pub last : ℕ
  pub whole : read_block s nest at ≡ parsed b last
  pub rest : Block
  pub left : read_block s nest here ≡ parsed rest last
  pub onward : at ≤ here
  pub marks : (x : ℕ) → x < variable_room → (has mask x || assigns rest x) ≡ assigns b x
  pub walked : (m : Making) → length m.present ≡ variables s → Held s m quads present count → WalkingBlock s m b rest quads' present' n
