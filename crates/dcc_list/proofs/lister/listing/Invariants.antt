use Rattle.std.proofs.Common.{◌≤◌, ◌-◌, [], ◌∷◌, List, length}
use Rattle.dcc_machine.specs.declared.instr.Instr.{Instr}
use Rattle.dcc_list.specs.Text.{head_line, text_of}
use Rattle.dcc_list.specs.MarkViews.{IsReady, Advances}
use Rattle.dcc_list.proofs.lister.listing.Given as goal

-- the lines of the image's bytes before the place are appended to the first line
abbrev pub invariant-loop-place : goal.invariant-loop-place
invariant-loop-place l =
    (l.place ≤ length l.image.bytes.items)
    × ((prelude : List Instr) → IsReady l.image l.program prelude l.marks
    → Advances l.image l.program prelude 0 l.place (text_of (head_line l.program.layout.cpu l.image.cs ∷ [])) l.text.items)

abbrev pub decreases-loop-place : goal.decreases-loop-place
decreases-loop-place l = length l.image.bytes.items - l.place
