-- so far each procedure has a function with the shape that it asks for
use Rattle.std.proofs.Common.{map, take}
use Rattle.std.specs.List.{zip}
use Rattle.dcc_c.specs.Views.{function_of}
use Rattle.dcc_shape.specs.Shape.{HaveShape}
use Rattle.dcc_shape.proofs.shape.has_shape.Given as goal

abbrev pub invariant-loop-i : goal.invariant-loop-i
invariant-loop-i l = HaveShape (take l.i (zip l.procs l.frames)) (map function_of (take l.i l.functions))
