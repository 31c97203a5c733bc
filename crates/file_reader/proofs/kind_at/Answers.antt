use Rattle.std.proofs.Common.{ℕ, ◌+◌, ◌*◌, sym, ap, ◌∙◌, get_or}
use Rattle.base.specs.Codes.{start_kind}
use Rattle.file.specs.FormatLaws.{row_passed}
use Rattle.file.specs.InputLaws.{input_inside, input_kind}
use Rattle.file_reader.proofs.kind_at.Goals as goal

pub bounds-file-from : goal.bounds-file-from
bounds-file-from c = rw c.from.ensures (input_inside _ (row_passed _ c.requires.0) c.args.x c.requires.1)

pub returns : goal.returns
returns c = c.start_kind.ensures ∙ ap (λ (x : ℕ). start_kind (get_or c.args.file.now (8 + 2 * x) 0)) c.from.ensures
    ∙ sym (input_kind _ (row_passed _ c.requires.0) c.args.x c.requires.1)
