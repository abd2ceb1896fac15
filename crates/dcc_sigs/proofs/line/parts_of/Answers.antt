use Rattle.std.proofs.Common.{subst, sym, List, Option, ℕ}
use Rattle.dcc_sigs.specs.Reading.{AreSized}
use Rattle.dcc_sigs.proofs.Reread.{no-parts, other-text, never-true}
use Rattle.dcc_sigs.proofs.line.parts_of.Goals as goal

pub returns-else-are_sized : goal.returns-else-are_sized
returns-else-are_sized c = no-parts c.args.text.now c.in_ok-parts.parts.items c.in_ok-parts.ensures.parts
    (λ sized. never-true _ c.if-are_sized.false
    (c.are_sized.ensures.1 (subst (λ (ps : List (Option ℕ)). AreSized ps) (sym c.deref.ensures.value) sized)))

pub returns-else-branch : goal.returns-else-branch
returns-else-branch c = other-text c.args.text.now c.in_ok-parts.parts.items c.in_ok-parts.ensures.parts
    (λ same. never-true _ c.if-branch.false
    (c.in_ok-is_written.ensures.1 (rw c.deref-then-are_sized.ensures.value same)))
