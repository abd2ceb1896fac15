use Rattle.std.proofs.Common.{◌≡◌, ◌≤◌, length, take}
use Rattle.dcc_machine.specs.declared.image.Image.{Image}
use Rattle.dcc_prog.specs.declared.procedure.Layout.{Layout}
use Rattle.dcc_procs.specs.Entries.{AreEntries, AreAdded, AreAllReached}
use Rattle.dcc_procs.proofs.entries.Entries.add_all.Given as goal

abbrev pub invariant-loop-place : goal.invariant-loop-place
invariant-loop-place l =
    (length l.self.listed.items ≡ 65536)
    × (length l.self.order.items ≤ 512)
    ×
    ((image : Image) (layout : Layout) → AreEntries image layout l.fn.self → AreAllReached image layout l.entries → AreAdded image layout l.fn.self l.self (take l.place l.entries))
