use Rattle.std.proofs.Common.{sym, ◌∙◌}
use Rattle.file_layout.specs.LayoutLaws.{none_said, size_said}
use Rattle.file_layout.proofs.whole_size.Goals as goal

pub returns-in_err-size : goal.returns-in_err-size
returns-in_err-size c = c.from_residual.ensures ∙ sym (none_said _ _ (sym c.in_err-size.ensures))

pub returns : goal.returns
returns c = c.then_some.ensures ∙ sym (size_said _ _ _ (sym c.in_ok-size.ensures) c.requires.1)
