-- Ordering: what the loop over the tables leaves is the order of writing, and its answer.
use Rattle.std.specs.Prelude.{ℕ, ◌≤◌, ◌<◌, ◌≡◌, List, [], reverse, length, get_or, None, Ok, Err}
use Rattle.std.proofs.Common.{sym, ◌∙◌}
use Rattle.std.proofs.Math.Path.{ap}
use Rattle.base.specs.Buffers.{over}
use Rattle.circuit.specs.Gates.{Gates}
use Rattle.circuit_needed.specs.Held.{gates_in}
use Rattle.circuit_needed.specs.HeldLaws.{gates_length}
use Rattle.plan.specs.Groups.{groups, waits_for}
use Rattle.plan.specs.Order.{schedule, order}
use Rattle.plan.specs.ReadsLaws.{waits_closed}
use Rattle.plan_waits.specs.Reads.{Orderable}
use Rattle.plan_order.specs.Row.{order_of}
use Rattle.plan_waits.specs.Gathering.{Waiting, Left}
use Rattle.plan_order.specs.Search.{next_ready}
use Rattle.base.specs.SetsHeld.{sets_in}
use Rattle.base.specs.declared.Row.TheVariants.{Circle}
use Rattle.circuit.specs.declared.Circuit.{Circuit}
use Rattle.plan.specs.declared.Grouping.{Grouping}
use Rattle.plan_order.specs.PlacingLaws.{Placing, placing_start, placing_circle, placing_end}
use Rattle.plan.specs.Rows.{placed}

-- the loop's record for the gates of the circuit; the groups lie in the grouping as it was lent
abbrev pub PlacingIn : Circuit → Grouping → List ℕ → List ℕ → List ℕ → List ℕ → ℕ → ℕ → List ℕ → Type 0
PlacingIn circuit grouping waits order left held k first done =
    Placing (waits_for (gates_in circuit.quads circuit.count) (sets_in circuit.needs) (λ x. get_or grouping.group x 0)) (λ x. get_or grouping.group x 0) circuit.count
    waits grouping.order order left held k first done

module _ (circuit : Circuit) (grouping : Grouping) where
  abbrev count : ℕ
  count = circuit.count

  abbrev C : Gates
  C = gates_in circuit.quads circuit.count

  abbrev needs : List ℕ
  needs = sets_in circuit.needs

  abbrev g : ℕ → ℕ
  g = λ x. get_or grouping.group x 0

  pub ordering_start : (waits left held : List ℕ) → Orderable circuit grouping → Waiting C needs g waits → Left g count left
      → length grouping.order ≡ 256 → length held ≡ 256 → PlacingIn circuit grouping waits grouping.order left held 0 0 []
  ordering_start waits left held o w l s e =
      placing_start (waits_for C needs g) g count waits grouping.order left held
      record {
        room = o.room;
        wide = rw (gates_length circuit.quads count) at w.wide;
        fits = w.fits;
        lefts = l.words;
        holds = w.holds;
        remains = l.holds;
        closed = λ p q m. rw (gates_length circuit.quads count) at (waits_closed C o.earlier needs g (λ x h. o.named x (rw (gates_length circuit.quads count) at h)) p q m);
      }
      s e

  -- the order in the loop's terms
  order_is : order C needs g ≡ schedule (waits_for C needs g) (groups count g) (length (groups count g)) []
  unfolding order
  order_is = ap (λ (n : ℕ). schedule (waits_for C needs g) (groups n g) (length (groups n g)) []) (gates_length circuit.quads count)

  module _ (waits new left held : List ℕ) (k first : ℕ) (done : List ℕ) (s : PlacingIn circuit grouping waits new left held k first done)
      (n : ℕ) (many : n ≡ length (groups count g)) where
    kept : schedule (waits_for C needs g) (groups count g) (length (groups count g)) [] ≡ done → new ≡ over (reverse (order C needs g)) grouping.order
    kept e = s.written ∙ ap (λ (l : List ℕ). over (reverse l) grouping.order) (sym (order_is ∙ e))

    pub ordering_circle : None ≡ next_ready waits left first count → k < n
        → (Err Circle ≡ order_of C needs g) × (new ≡ over (reverse (order C needs g)) grouping.order)
    unfolding order_of placed
    ordering_circle e l =
        let r = placing_circle (waits_for C needs g) g count waits grouping.order new left held k first done s e (rw many at l) in
        (rw (gates_length circuit.quads count, order_is, r.0, r.1), kept r.0)

    pub ordering_end : n ≤ k → (Ok n ≡ order_of C needs g) × (new ≡ over (reverse (order C needs g)) grouping.order)
    unfolding order_of placed
    ordering_end l =
        let r = placing_end (waits_for C needs g) g count waits grouping.order new left held k first done s (rw many at l) in
        (rw (gates_length circuit.quads count, order_is, r.0, r.1.0, many), kept r.0)
