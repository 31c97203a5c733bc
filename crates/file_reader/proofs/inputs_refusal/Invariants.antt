use Rattle.file.specs.WireKinds.{wire_kind}
use Rattle.file.specs.FileFigures.{file_records}
use Rattle.file_reader.proofs.inputs_refusal.Given as goal

abbrev pub ghost-inputs_refusal : goal.ghost-inputs_refusal
ghost-inputs_refusal a = wire_kind (file_records a.kind_of.0.now)
