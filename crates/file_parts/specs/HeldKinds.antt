-- Inner, for document 02, C-11: the kinds of the wires as an array of the code holds them.
use Rattle.std.specs.Prelude.{ℕ, List, get_or}
use Rattle.base.specs.declared.Kind.{Kind}
use Rattle.base.specs.declared.Kind.TheVariants as kind

-- the kind that an array holds for a wire
abbrev pub held_kind : List Kind → ℕ → Kind
held_kind kinds w = get_or kinds w kind.Word
