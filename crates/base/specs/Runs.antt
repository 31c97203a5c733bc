-- Document 01, "The plain circuit" and "The fused circuit file": "worked out record by record", gates too. A run over a list of things, each worked out from those before it.
use Rattle.std.specs.Prelude.{ℕ, List, [], ◌∷◌, ◌++◌, get_or}

-- a run, gate by gate or record by record: `value v k` is what k gives from what those before it gave; f: what was given so far; d stands past its end
abbrev pub run : {K A : Type 0} → A → ((ℕ → A) → K → A) → List K → List A → List A
run d value [] f = f
run d value (k ∷ C) f = run d value C (f ++ (value (λ i. get_or f i d) k ∷ []))

-- what a run from nothing gives at i
abbrev pub run_at : {K A : Type 0} → A → ((ℕ → A) → K → A) → List K → ℕ → A
run_at d value C i = get_or (run d value C []) i d
