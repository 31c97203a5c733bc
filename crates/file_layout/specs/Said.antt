-- Inner, for document 02, C-11, row 61: how many bytes the record at a place says it has, whether they are there or not.
use Rattle.std.specs.Prelude.{ℕ, ◌&&◌, cond, Option, Some, None, List, get_or}
use Rattle.base.specs.Lists.{elem}
use Rattle.file.specs.FileFigures.{version_in, record_at, size_at}
use Rattle.file.specs.LaidOut.{record_codes}
use Rattle.file.specs.CircuitRows.{bounded}

-- none for a code that is unknown, or a record that has what it may not
unfoldable pub said_size : List ℕ → ℕ → Option ℕ
said_size f at = cond (elem (get_or f at 0) record_codes && bounded (version_in f) (record_at f at)) (Some (size_at f at)) None
