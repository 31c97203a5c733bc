-- Records written behind records: room, and what is written.
use Rattle.std.specs.Prelude.{ℕ, ◌+◌, ◌-◌, ◌≤◌, ◌≡◌, List, ◌++◌, length, take, drop}
use Rattle.std.proofs.Common.{ap, ◌∙◌, arith}
use borrow.Rule.Slice.PartMut.{put_mid}
use Rattle.base.specs.Buffers.{over}
use Rattle.base.specs.BufferLaws.{length_over, room_rest}
use Rattle.file.specs.Versions.{written_version}
use Rattle.file.specs.Records.{Record}
use Rattle.file.specs.CircuitFile.{records_bytes}
use Rattle.file.specs.SizeLaws.{bytes_append, size_append}
use Rattle.fused_gate.specs.Emitted.{Written}
use Rattle.fused_gate.specs.ByteLaws.{behind}

-- the records A, and behind them B
module _ (A B : List Record) (d : List ℕ) (room : length (records_bytes written_version (A ++ B)) ≤ length d) where
  size : length (records_bytes written_version (A ++ B)) ≡ length (records_bytes written_version A) + length (records_bytes written_version B)
  size = size_append written_version A B

  pub front_room : length (records_bytes written_version A) ≤ length d
  front_room = omega (arith, size, room)

  -- A is written: e
  module _ (k : ℕ) (e : List ℕ) (counted : k ≡ length (records_bytes written_version A)) (written : e ≡ over (records_bytes written_version A) d) where
    same : length e ≡ length d
    same = ap (λ (x : List ℕ). length x) written ∙ length_over (records_bytes written_version A) d front_room

    pub behind_fits : k ≤ length e
    behind_fits = omega (arith, counted, same, front_room)

    pub behind_room : length (records_bytes written_version B) ≤ length (take (length e - k) (drop k e))
    behind_room = rw (room_rest e k) (omega (arith, counted, same, size, room))

    -- B is written behind it, in the rest: ys
    module _ (r : ℕ) (more : r ≡ length (records_bytes written_version B)) where
      pub behind_all : k + r ≤ length d
      behind_all = omega (arith, counted, more, size, room)

      pub behind_put : (ys : List ℕ) → ys ≡ over (records_bytes written_version B) (take (length e - k) (drop k e))
          → Written (records_bytes written_version (A ++ B)) (k + r) d (put_mid k (length e - k) e ys)
      behind_put ys w = record {
        counted = omega (arith, counted, more, size);
        written = behind (records_bytes written_version A) (records_bytes written_version B) (records_bytes written_version (A ++ B)) d e ys k counted
            (bytes_append written_version A B) room written w;
      }
