-- Points of a graph, and the arms of a choice.
use Rattle.std.proofs.Common.{◌≡◌, ℕ, suc, ◌+◌, ◌<◌, ◌≤◌, Bool, true, false, ap, refl, length, true≢false, arith}
use Rattle.std.specs.Prelude.{if◌then◌else◌}
use Rattle.dcc_ir.specs.Live.{block_in}
use Rattle.dcc_ir.specs.Tree as inner
use Rattle.dcc_c.specs.Run.{arm_for}
use Rattle.dcc_c.specs.Tree as tree
use Rattle.dcc_c.specs.Tree.{no_lines}
use Rattle.dcc_text.specs.Spelling.{Spelling}
use Rattle.dcc_control.specs.Plan as plan
use Rattle.dcc_control.specs.Plan.{Plan, Arms, is_in, arm_with}
use Rattle.dcc_plan.specs.PlanText as planned
use Rattle.dcc_plan.specs.PlanText.{IsPlanText, AreArmsText}
use Rattle.dcc_control.specs.Valid as valid
use Rattle.dcc_control.specs.Valid.{Point, Begin, Before, Nowhere, Leads, Context, IsValid, AreValidArms}
use Rattle.dcc_plan.proofs.Rests.{AreBegun, ArmsBegun, lines_count, arms_count, IsStart, is_nowhere, is_begin}

abbrev pub block_of : Point → ℕ
block_of (Begin b) = b
block_of (Before b m) = b
block_of Nowhere = 0

abbrev pub place_of : Point → ℕ
place_of (Before b m) = m
place_of _ = 0

abbrev pub is_before : Point → Bool
is_before (Before b m) = true
is_before _ = false

pub start-apart : (point : Point) (b m : ℕ) → IsStart point → Before b m ≡ point → ⊥
start-apart Nowhere b m is_nowhere e = true≢false (ap is_before e)
start-apart (Begin a) b m is_begin e = true≢false (ap is_before e)
start-apart (Before a k) b m start e = elim start [ ]

-- before a statement nothing leads elsewhere
pub stays-before : (graph : inner.Graph) (begun : ℕ → Bool) (b m : ℕ) (point : Point) → Leads graph begun (Before b m) point → m < length (block_in graph b).stmts → Before b m ≡ point
stays-before graph begun b m point valid.is_there less = refl
stays-before graph begun b m point (valid.goes at exit leads) less = absurd (omega (arith, at, less))
stays-before graph begun b m point (valid.stops at exit) less = absurd (omega (arith, at, less))

-- how many silent moves lead from the one point to the other
abbrev pub moves : {graph : inner.Graph} {begun : ℕ → Bool} {first second : Point} → Leads graph begun first second → ℕ
moves valid.is_there = 0
moves (valid.begins none leads) = suc (moves leads)
moves (valid.goes at exit leads) = suc (moves leads)
moves (valid.stops at none) = 0

-- Arms.

-- what the arm with a case holds
pub arm-text : (s : Spelling) (graph : inner.Graph) (n : ℕ) (arms : Arms) (bodies : tree.Arms) → AreArmsText s graph arms bodies → IsPlanText s graph (arm_with n arms) (arm_for n bodies no_lines)
arm-text s graph n arms bodies planned.no_more = planned.nothing
arm-text s graph n arms bodies (planned.next_arm {cases = cases} {body = body} {arms = others} {lines = lines} {bodies = more} text texts) = by (is_in n cases) (arm-text s graph n others more texts)
  where
    by : (here : Bool) → IsPlanText s graph (arm_with n others) (arm_for n more no_lines) → IsPlanText s graph (if here then body else arm_with n others) (if here then lines else arm_for n more no_lines)
    by true later = text
    by false later = later

pub arm-valid : (graph : inner.Graph) (whole : Plan) (n : ℕ) (arms : Arms) (c : Context) → AreValidArms graph whole arms c → IsValid graph whole (arm_with n arms) c
arm-valid graph whole n plan.no_arms c good = tt
arm-valid graph whole n (plan.arm cases body arms) c good = by (is_in n cases) (arm-valid graph whole n arms c good.1)
  where
    by : (here : Bool) → IsValid graph whole (arm_with n arms) c → IsValid graph whole (if here then body else arm_with n arms) c
    by true later = good.0
    by false later = later

pub arm-begun : (s : Spelling) (graph : inner.Graph) (whole : Plan) (n : ℕ) (arms : Arms) → ArmsBegun s graph whole arms → AreBegun s graph whole (arm_with n arms)
arm-begun s graph whole n plan.no_arms good = tt
arm-begun s graph whole n (plan.arm cases body arms) good = by (is_in n cases) (arm-begun s graph whole n arms good.1)
  where
    by : (here : Bool) → AreBegun s graph whole (arm_with n arms) → AreBegun s graph whole (if here then body else arm_with n arms)
    by true later = good.0
    by false later = later

pub arm-few : (n : ℕ) (bodies : tree.Arms) → lines_count (arm_for n bodies no_lines) ≤ arms_count bodies
arm-few n tree.no_arms = omega arith
arm-few n (tree.arm cases lines bodies) = by (is_in n cases) (arm-few n bodies)
  where
    by : (here : Bool) → lines_count (arm_for n bodies no_lines) ≤ arms_count bodies → lines_count (if here then lines else arm_for n bodies no_lines) ≤ lines_count lines + arms_count bodies
    by true later = omega arith
    by false later = omega (arith, later)
