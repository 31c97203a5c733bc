use Rattle.std.proofs.Common.{◌≡◌, ◌∙◌, Some, None}
use Rattle.base.specs.TestLaws.{split}
use Rattle.file.specs.FileFigures.{size_at}
use Rattle.file.specs.LaidOut.{record_place}
use Rattle.file.specs.Answers.{shown}
use Rattle.file.specs.ReadLaws.{part_found, part_none}
use Rattle.file_reader.specs.declared.Part.{Part}
use Rattle.file_reader.proofs.part_of.Goals as goal

pub returns : goal.returns
returns c = let f = c.args.file.now in let w = c.args.wire.0 in
    let none : Part = record { start = 0; length = 0 } in
    let there : Part = record { start = record_place f w; length = size_at f (record_place f w) } in
    split (shown f w)
    (λ t.
    let r = part_found f w t in
    let e : c.find.result ≡ Some there = c.find.ensures ∙ rw t in
    let p : c.unwrap_or.result ≡ there = c.unwrap_or.ensures ∙ rw e in
    rw p (record { start = r.0; length = r.1.0; bytes = r.1.1 }))
    (λ t.
    let r = part_none f w t in
    let e : c.find.result ≡ None = c.find.ensures ∙ rw t in
    let p : c.unwrap_or.result ≡ none = c.unwrap_or.ensures ∙ rw e in
    rw p (record { start = r.0; length = r.1.0; bytes = r.1.1 }))
