use Rattle.std.proofs.Common.{◌≡◌, drop}
use Rattle.dcc_io.specs.Memory.{file_named, files_of}
use Rattle.dcc_io.proofs.memory.shelf.find.Given as goal

abbrev pub invariant-loop-file : goal.invariant-loop-file
invariant-loop-file l = file_named (files_of l.files) l.name ≡ file_named (files_of (drop l.file-index l.files)) l.name
