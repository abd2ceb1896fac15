-- What holds of more locations holds of fewer.
use Rattle.std.proofs.Common.{Bool, List}
use Rattle.dcc_ir.specs.declared.syntax.Loc.{Loc}
use Rattle.dcc_ir.specs.Run as inner_run
use Rattle.dcc_ir.specs.Tree as inner
use Rattle.dcc_c.specs.Run as text_run
use Rattle.dcc_text.specs.Holding.{Locations, Alike, HoldsFrame, Holds}
use Rattle.dcc_text.specs.Spelling.{Spelling}

module _ (s : Spelling) (Has Wants : Locations) (all : (l : Loc) → Wants l → Has l) where
  -- wherever the call stands
  pub frame-weaker : (a : inner_run.Activation) (block : inner.Block) (rest : List inner.Stmt) (begins : Bool) (frame : text_run.Frame) → HoldsFrame s Has a frame
      → HoldsFrame s Wants (record a { block = block; rest = rest; begins = begins }) frame
  frame-weaker a block rest begins frame h =
      record { bits = h.bits; base = h.base; variables = h.variables; values = λ l wants. h.values l (all l wants); places = h.places }

  pub holds-weaker : (AreAlike : Alike) (i : inner_run.State) (t : text_run.State) → Holds s Has AreAlike i t → Holds s Wants AreAlike i t
  holds-weaker AreAlike i t h =
      let a = i.running in
      record { frame = frame-weaker a a.block a.rest a.begins t.frame h.frame; waiting = h.waiting; memory = h.memory; input = h.input; events = h.events; end = h.end }
