-- A run of steps: what it took and printed so far is what the definition's run does; a step that takes bytes brings it nearer, one that takes none ends it.
use Rattle.std.specs.Prelude.{List, [], ◌++◌, ◌≡◌, refl, ℕ, suc, ◌+◌, ◌-◌, ◌≤◌, ◌<◌, length, take, drop}
use Rattle.std.proofs.Common.{append-nil, inl, inr, ⊎_elim, sym, ap, ◌∙◌, add-zero, arith, length-append, length-drop, drop-drop}
use borrow.Rule.Slice.PartMut.{put_mid}
use Rattle.base.specs.Buffers.{over}
use Rattle.base.specs.BufferLaws.{over_nil, length_over, room_rest, over_rest}
use Rattle.report.specs.declared.Progress.{Progress}
use Rattle.report.specs.declared.Taken.{Taken}
use Rattle.report.specs.Steps.{Stepped, step, Reader, reader, next, drain, drained}
use Rattle.report.specs.Limits.{most_line}
use Rattle.report.specs.Bounds.{Within, Nears, Few}
use Rattle.report.specs.Promised.{Does, Drains}
use Rattle.report.specs.StepLaws.{step_orderly}
use Rattle.report.specs.FeedLaws.{drain_no_room, drain_last, drain_on}
use Rattle.report_batch.specs.TakenLaws.{rest_lent}

-- loop invariant, the steps taken so far: where they lead, what they took of s and printed to d
pub record Draining (p : Progress) (s d : List ℕ) (reached : Progress) (bytes printed : ℕ) (e : List ℕ) : Type 0 where
  pub fuel : ℕ
  pub text : List ℕ
  pub is : drained p s (length d) ≡ drain (suc fuel) (length d) (reader reached (drop bytes s) text)
  pub enough : length s - bytes ≤ fuel
  pub inside : bytes ≤ length s
  pub room : length text ≤ length d
  pub counted : printed ≡ length text
  pub written : e ≡ over text d
  pub fresh : bytes ≡ 0 → printed ≡ 0
  pub within : Within reached
  pub nears : Nears p (record { progress = reached; bytes = bytes; printed = printed })

-- what is promised, once it is known where the steps lead
drains : (p : Progress) (s d e text : List ℕ) (r : Taken) → drained p s (length d) ≡ reader r.progress (drop r.bytes s) text
    → r.bytes ≤ length s → length text ≤ length d → r.printed ≡ length text → e ≡ over text d → Drains p s r d e
drains p s d e text r is inside room counted written =
    record {
      reached = ap (λ (q : Reader). q.progress) (sym is);
      left = ap (λ (q : Reader). q.held) (sym is);
      inside = inside;
      room = rw is room;
      counted = rw is counted;
      written = rw is written;
    }

pub drain_start : (p : Progress) (s d : List ℕ) → Within p → Draining p s d p 0 0 d
drain_start p s d w =
    record {
      fuel = length s;
      text = [];
      is = refl;
      enough = omega arith;
      inside = omega arith;
      room = omega arith;
      counted = refl;
      written = sym (over_nil d);
      fresh = λ z. refl;
      within = w;
      nears = (omega arith, λ z. absurd (z refl));
    }

module _ (p : Progress) (s d : List ℕ) (reached : Progress) (bytes printed : ℕ) (e : List ℕ) (i : Draining p s d reached bytes printed e) where
  pub drain_length : length e ≡ length d
  drain_length = ap (λ (o : List ℕ). length o) i.written ∙ length_over i.text d i.room

  pub drain_room : printed ≤ length e
  drain_room = omega (arith, drain_length, i.counted, i.room)

  -- no room for a line
  pub drain_full : length e - printed < most_line → Drains p s (record { progress = reached; bytes = bytes; printed = printed }) d e
  drain_full h =
      drains p s d e i.text _
      (i.is ∙ drain_no_room i.fuel (length d) (reader reached (drop bytes s) i.text) (omega (arith, drain_length, i.counted)))
      i.inside i.room i.counted i.written

  -- which was there at first, if a line fits
  pub full_few : length e - printed < most_line → most_line ≤ length d → Few (record { progress = reached; bytes = bytes; printed = printed }) (length s)
  full_few h enough z = absurd (omega (arith, drain_length, i.fresh z))

  -- one step more, on the bytes and the buffer that are left
  module _ (r : Taken) (ys : List ℕ) (does : Does (step reached (take (length s - bytes) (drop bytes s))) r (take (length e - printed) (drop printed e)) ys)
      (within : Within r.progress) (nears : Nears reached r) (line : most_line ≤ length e - printed) where
    abbrev st : Stepped
    st = step reached (drop bytes s)

    lent : step reached (take (length s - bytes) (drop bytes s)) ≡ st
    lent = ap (step reached) (rest_lent s bytes)

    done : Does st r (take (length e - printed) (drop printed e)) ys
    done = rw lent at does

    fits : length i.text + length st.text ≤ length d
    fits = omega (arith, done.room, room_rest e printed, drain_length, i.counted, drain_room)

    both : length (i.text ++ st.text) ≡ length i.text + length st.text
    both = length-append i.text st.text

    held : put_mid printed (length e - printed) e ys ≡ over (i.text ++ st.text) d
    held = over_rest i.text st.text d e ys printed i.counted fits i.written done.written

    took : r.bytes ≤ length s - bytes
    took =
        omega (
          arith,
          ap (λ (x : Stepped). x.taken) done.is,
          (step_orderly reached (drop bytes s)).0,
          length-drop bytes s,
        )

    led : next (reader reached (drop bytes s) i.text) ≡ reader r.progress (drop (bytes + r.bytes) s) (i.text ++ st.text)
    led =
        ap (λ (q : Progress). reader q (drop st.taken (drop bytes s)) (i.text ++ st.text)) (ap (λ (x : Stepped). x.progress) done.is)
        ∙ ap (λ (n : ℕ). reader r.progress (drop n (drop bytes s)) (i.text ++ st.text)) (ap (λ (x : Stepped). x.taken) done.is)
        ∙ ap (λ (l : List ℕ). reader r.progress l (i.text ++ st.text)) (drop-drop r.bytes bytes s)

    space : length i.text + most_line ≤ length d
    space = omega (arith, line, drain_length, i.counted)

    taken_is : st.taken ≡ r.bytes
    taken_is = ap (λ (x : Stepped). x.taken) done.is

    -- it took some bytes
    fuel_left : (r.bytes ≡ 0 → ⊥) → i.fuel ≡ suc (i.fuel - 1)
    fuel_left some = omega (arith, i.enough, took, some)

    pub drain_more : (r.bytes ≡ 0 → ⊥) → Draining p s d r.progress (bytes + r.bytes) (printed + r.printed) (put_mid printed (length e - printed) e ys)
    drain_more some =
        record {
          fuel = i.fuel - 1;
          text = i.text ++ st.text;
          is = i.is ∙ drain_on i.fuel (length d) (reader reached (drop bytes s) i.text) space (λ z. some (sym taken_is ∙ z)) ∙ ap (drain i.fuel (length d)) led
              ∙ ap (λ (n : ℕ). drain n (length d) (reader r.progress (drop (bytes + r.bytes) s) (i.text ++ st.text))) (fuel_left some);
          enough = omega (arith, i.enough, took, some);
          inside = omega (arith, took, i.inside);
          room = omega (arith, both, fits);
          counted = omega (arith, both, i.counted, done.counted);
          written = held;
          fresh = λ z. absurd (omega (arith, z, some));
          within = within;
          nears = (omega (arith, i.nears.0, nears.0), λ z. omega (arith, i.nears.0, nears.1 some));
        }

    pub drain_took : (bytes + r.bytes ≤ length s) × (printed + r.printed ≤ length d)
    drain_took = (omega (arith, took, i.inside), omega (arith, fits, i.counted, done.counted))

    pub drain_less : (r.bytes ≡ 0 → ⊥) → length s - (bytes + r.bytes) < length s - bytes
    drain_less some = omega (arith, took)

    -- it took none
    module _ (none : r.bytes ≡ 0) where
      unchanged : i.text ++ st.text ≡ i.text
      unchanged = ap (λ (x : List ℕ). i.text ++ x) ((step_orderly reached (drop bytes s)).1 (taken_is ∙ none)).0 ∙ append-nil i.text

      pub drain_rests : Drains p s (record { progress = r.progress; bytes = bytes; printed = printed }) d (put_mid printed (length e - printed) e ys)
      drain_rests =
          drains p s d _ i.text _
          (i.is ∙ drain_last i.fuel (length d) (reader reached (drop bytes s) i.text) space (taken_is ∙ none) ∙ led
          ∙ ap (λ (n : ℕ). reader r.progress (drop (bytes + n) s) (i.text ++ st.text)) none
          ∙ ap (λ (n : ℕ). reader r.progress (drop n s) (i.text ++ st.text)) (add-zero bytes)
          ∙ ap (λ (x : List ℕ). reader r.progress (drop bytes s) x) unchanged)
          i.inside i.room i.counted (held ∙ ap (λ (x : List ℕ). over x d) unchanged)

      pub rest_nears : Nears p (record { progress = r.progress; bytes = bytes; printed = printed })
      rest_nears = (omega (arith, i.nears.0, nears.0), λ z. omega (arith, i.nears.1 z, nears.0))

      pub rest_length : length (put_mid printed (length e - printed) e ys) ≡ length d
      rest_length = ap (λ (o : List ℕ). length o) (held ∙ ap (λ (x : List ℕ). over x d) unchanged) ∙ length_over i.text d i.room

      pub rest_few : Few r (length (take (length s - bytes) (drop bytes s))) → Few (record { progress = r.progress; bytes = bytes; printed = printed }) (length s)
      rest_few few z = ⊎_elim inl (λ l. inr (omega (arith, l, z, room_rest s bytes))) (few none)
