-- A group's records: there is one at least, two or more members of two arguments are a joined group, and they read only earlier wires when what the group reads is earlier.
use Rattle.std.specs.Prelude.{ℕ, suc, ◌+◌, ◌≤◌, ◌<◌, ◌≡◌, refl, List, [], ◌∷◌, map, length, get_or}
use Rattle.std.proofs.Common.{sym, ap, ◌∙◌, inl, inr, arith}
use Rattle.std.proofs.lemmas.List.{length-map}
use Rattle.base.specs.Lists.{◌∈◌, upto}
use Rattle.base.specs.MemberLaws.{from_below, map_in, get_or_in}
use Rattle.base.specs.declared.Operation.{Operation}
use Rattle.file.specs.Records.{Record, input, word, bit, operation, choice, pair_wires, reads}
use Rattle.base.specs.declared.Kind.{Kind}
use Rattle.rule.specs.Header.{kind_at}
use Rattle.file.specs.RecordLaws.{ReadsBefore, Below, along_map}
use Rattle.circuit.specs.Gates.{Gate, Gates, gate_at, arguments}
use Rattle.circuit.specs.Gates as gate
use Rattle.plan.specs.Groups.{rests_of}
use Rattle.fused.specs.Emission.{alone, gate_operation, pairs, picked, joined, guard_of, values_at, emit}
use Rattle.fused.specs.JoinedParts.{Argument, arguments_from, behind_guards, operation_wire, joined_count, joined_along}

-- a gate alone reads the wires of its arguments
pub alone_reads : (s : List ℕ) (wire : ℕ → ℕ) (k : Gate) → reads (alone s wire k) ≡ map wire (arguments k)
alone_reads s wire (gate.start x) = refl
alone_reads s wire (gate.word n) = refl
alone_reads s wire (gate.bit b) = refl
alone_reads s wire (gate.operation op l) = refl
alone_reads s wire (gate.choice c a b) = refl

-- what holds of every record but picks and guards holds of a gate alone
pub alone_any : (P : Record → Type 0) → ((k : Kind) (x : ℕ) → P (input k x)) → ((n : ℕ) → P (word n)) → ((b : ℕ) → P (bit b))
    → ((op : Operation) (l : List ℕ) → P (operation op l)) → ((c a b : ℕ) → P (choice c a b)) → (s : List ℕ) (wire : ℕ → ℕ) (k : Gate) → P (alone s wire k)
alone_any P i w b o c s wire (gate.start x) = i (kind_at s x) x
alone_any P i w b o c s wire (gate.word n) = w n
alone_any P i w b o c s wire (gate.bit x) = b x
alone_any P i w b o c s wire (gate.operation op l) = o op (map wire l)
alone_any P i w b o c s wire (gate.choice x y z) = c (wire x) (wire y) (wire z)

mapped_below : (wire : ℕ → ℕ) (n : ℕ) (l : List ℕ) → ((a : ℕ) → a ∈ l → wire a < n) → (w : ℕ) → w ∈ map wire l → w < n
mapped_below wire n l h w m = let r = map_in wire w l m in rw r.2 (h r.0 r.1)

pairs_below : (N : ℕ) (values : List ℕ) (n : ℕ) → n + length values ≤ N → ((w : ℕ) → w ∈ values → w < N)
    → (a : ℕ) → a ∈ pair_wires (pairs n values) → a < N
pairs_below N [] n h b a m = absurd m
pairs_below N (v ∷ values) n h b a (inl e) = omega arith
pairs_below N (v ∷ values) n h b a (inr (inl e)) = rw e (b v (inl refl))
pairs_below N (v ∷ values) n h b a (inr (inr m)) = pairs_below N values (suc n) (omega arith) (λ w q. b w (inr q)) a m

-- a joined group whose guards and values are earlier
joined_below : (n : ℕ) (op : Operation) (guards : List Record) (F : ℕ → List ℕ) (ks : List ℕ) → Below n guards
    → ((i : ℕ) → i ∈ ks → (length (F i) ≡ length guards) × ((w : ℕ) → w ∈ F i → w < n))
    → Below n (joined n op guards (map F ks))
joined_below n op guards F ks g h =
    joined_along ReadsBefore n op guards F ks g
    (λ i m f j b a k. omega (arith, pairs_below (n + length guards) (F i) n (omega (arith, (h i m).0)) (λ w q. omega (arith, (h i m).1 w q)) a k))
    (λ a m. reads a (arguments_from F ks (behind_guards n guards (map F ks)) a m))
  where
    reads : (a : ℕ) → Argument F ks (behind_guards n guards (map F ks)) (length (picked (map F ks))) a → a < operation_wire n guards (map F ks)
    reads a (inl (_, b)) = b
    reads a (inr (i, m, q)) = omega (arith, (h i m).1 a q)

module _ (s : List ℕ) (C : Gates) (sets : List ℕ) (wire : ℕ → ℕ) where
  -- a group with members has a record
  pub emit_some : (n : ℕ) (ms : List ℕ) → 0 < length ms → 0 < length (emit s C sets wire n ms)
  emit_some n [] h = h
  emit_some n (m ∷ []) h = omega arith
  emit_some n (m ∷ k ∷ l) h = rw joined_count (omega arith)

  -- two or more members, the first of two arguments, are a joined group of two places
  pub emit_two : (n m k : ℕ) (l : List ℕ) → length (arguments (gate_at C m)) ≡ 2
      → emit s C sets wire n (m ∷ k ∷ l)
      ≡ joined n (gate_operation (gate_at C m)) (map (guard_of s C sets wire) (m ∷ k ∷ l)) (values_at s C sets wire (m ∷ k ∷ l) 0 ∷ values_at s C sets wire (m ∷ k ∷ l) 1 ∷ [])
  emit_two n m k l e =
      ap (λ (a : ℕ). joined n (gate_operation (gate_at C m)) (map (guard_of s C sets wire) (m ∷ k ∷ l)) (map (values_at s C sets wire (m ∷ k ∷ l)) (upto a))) e

  -- its records read only earlier wires
  pub emit_below : (n : ℕ) (ms : List ℕ)
      → (2 ≤ length ms → (m k : ℕ) → m ∈ ms → k ∈ ms → length (arguments (gate_at C m)) ≡ length (arguments (gate_at C k)))
      → ((m a : ℕ) → m ∈ ms → a ∈ arguments (gate_at C m) → wire a < n)
      → (2 ≤ length ms → (m c : ℕ) → m ∈ ms → c ∈ rests_of C sets m → wire c < n)
      → Below n (emit s C sets wire n ms)
  emit_below n [] level args rests = tt
  emit_below n (m ∷ []) level args rests =
      (λ a k. mapped_below wire n (arguments (gate_at C m)) (λ b q. args m b (inl refl) q) a (rw (alone_reads s wire (gate_at C m)) at k), tt)
  emit_below n (m ∷ j ∷ l) level args rests =
      joined_below n (gate_operation (gate_at C m)) (map (guard_of s C sets wire) ms) (values_at s C sets wire ms) (upto (length (arguments (gate_at C m))))
      (along_map ReadsBefore (guard_of s C sets wire) ms n n (omega arith)
      (λ i q j o a k. omega (arith, mapped_below wire n (rests_of C sets i) (λ c r. rests two i c q r) a k)))
      (λ k b. (
        length-map ms _ ∙ sym (length-map ms _),
        mapped_below (λ i. wire (get_or (arguments (gate_at C i)) k 0)) n ms
            (λ i q. args i _ q (get_or_in (arguments (gate_at C i)) k (omega (arith, from_below 0 (length (arguments (gate_at C m))) k b, level two m i (inl refl) q)))),
      ))
    where
      ms : List ℕ
      ms = m ∷ j ∷ l

      two : 2 ≤ length (m ∷ j ∷ l)
      two = omega arith
