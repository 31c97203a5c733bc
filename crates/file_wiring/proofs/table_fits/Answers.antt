use Rattle.file_wiring.specs.TableLaws.{table_high, table_low}
use Rattle.file_wiring.proofs.table_fits.Goals as goal

pub returns-then-none_set : goal.returns-then-none_set
returns-then-none_set c = rw (c.top_byte.ensures, c.used_bytes.ensures)
    (table_low c.args.table.now c.args.d c.requires.1 c.none_set.result (rw c.used_bytes.ensures at c.none_set.ensures) c.if-none_set.true (λ i _. (c.type_inv.table i).fits))

pub returns-else-none_set : goal.returns-else-none_set
returns-else-none_set c = rw c.if-none_set.false
    (table_high c.args.table.now c.args.d c.requires.1 c.none_set.result (rw c.used_bytes.ensures at c.none_set.ensures) c.if-none_set.false)
