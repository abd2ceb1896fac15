-- The sides of a test in the order that its text has them.
use Rattle.std.proofs.Common.{Bool, true, false, ◌++◌}
use Rattle.std.specs.Prelude.{not, if◌then◌else◌}
use Rattle.std.specs.List.Sorted.{IsPermutation}
use Rattle.std.proofs.lemmas.List.Sorted.{IsPermutation-refl, IsPermutation-append_comm}
use Rattle.dcc_control.specs.Plan.{Plan, marks}
use Rattle.dcc_plan.specs.PlanText.{side}

-- what holds of both sides holds of the side for a truth value
pub side-has : (P : Plan → Type 0) (on : Bool) (one other : Plan) → P one → P other → P (side on one other)
side-has P true one other first second = first
side-has P false one other first second = second

-- what holds of each side and its lines holds of the side that stands first and of its lines, and of the other
pub first-has : {L : Type 0} (P : Plan → L → Type 0) (on : Bool) (one other : Plan) (body otherwise : L) → P one body → P other otherwise → P (side on one other) (if on then body else otherwise)
first-has P true one other body otherwise first second = first
first-has P false one other body otherwise first second = second

pub second-has : {L : Type 0} (P : Plan → L → Type 0) (on : Bool) (one other : Plan) (body otherwise : L) → P one body → P other otherwise → P (side (not on) one other) (if on then otherwise else body)
second-has P true one other body otherwise first second = second
second-has P false one other body otherwise first second = first

-- in either order the sides have the labels of both
pub sides-marked : (on : Bool) (one other : Plan) → IsPermutation (marks one ++ marks other) (marks (side on one other) ++ marks (side (not on) one other))
sides-marked true one other = IsPermutation-refl (marks one ++ marks other)
sides-marked false one other = IsPermutation-append_comm (marks one) (marks other)
