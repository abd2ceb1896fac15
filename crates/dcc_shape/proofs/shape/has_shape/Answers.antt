use Rattle.std.proofs.Common.{◌≡◌, ℕ, ◌+◌, ◌<◌, ◌≤◌, ◌⊎◌, inl, inr, List, Option, Some, None, ◌∷◌, [], ◌++◌, map, take, length, get_or, sym, ap, ap₂, subst, ◌∙◌, arith}
use Rattle.std.specs.List.{zip}
use Rattle.std.proofs.lemmas.Bool.{both_ways, cases_lt}
use Rattle.std.proofs.lemmas.List.{take_more, take_all, map-append}
use Rattle.std.proofs.lemmas.Slice.Zip.{length-zip}
use Rattle.dcc_prog.specs.declared.procedure.Proc.{Proc}
use Rattle.dcc_prog.specs.declared.frame.Frame.{Frame}
use Rattle.dcc_c.specs.Views.{function_of}
use Rattle.dcc_shape.specs.Shape.{IsShapedFor, HaveShape, LacksShape, nothing}
use Rattle.dcc_shape.proofs.ShapeLaws.{have-more, lacks-at, lacks-end, zip-at}
use Rattle.dcc_shape.proofs.shape.has_shape.Goals as goal

some-is : {a b : ℕ} → ◌≡◌ {A = Option ℕ} (Some a) (Some b) → a ≡ b
some-is e = ap (λ o. elim o [ Some m ↦ m | None ↦ 0 ]) e

-- as many pairs as procedures
long : (procs : List Proc) (frames : List Frame) → length procs ≡ length frames → length (zip procs frames) ≡ length procs
long procs frames same = omega (arith, length-zip procs frames, same)

pair-is : (i : ℕ) (procs : List Proc) (frames : List Frame) (proc : Proc) (frame : Frame) → length procs ≡ length frames
    → i < length procs → proc ≡ get_or procs i proc → frame ≡ get_or frames i frame
    → (proc, frame) ≡ get_or (zip procs frames) i (proc, frame)
pair-is i procs frames proc frame same within p_is f_is =
    ap₂ (λ p f. (p, f)) p_is f_is ∙ sym (zip-at i procs frames proc frame within (omega (arith, within, same)))

pub loop-i-init : goal.loop-i-init
loop-i-init c = nothing

pub loop-i-preserved : goal.loop-i-preserved
loop-i-preserved c =
    let procs = c.args.procs.now in
    let frames = c.args.frames.now in
    let pairs = zip procs frames in
    let functions = c.args.functions.now in
    let i = c.loop-i.i in
    let proc = c.index-procs-i.result in
    let frame = c.index-frames-i.result in
    let function = c.index-functions-i.result in
    let p_within : i < length procs = omega (arith, c.loop-i-test.true, c.min-count.ensures) in
    let f_within : i < length functions = omega (arith, c.loop-i-test.true, c.min-count.ensures) in
    let within : i < length pairs = omega (arith, p_within, long procs frames c.requires) in
    let pair = pair-is i procs frames proc frame c.requires p_within c.index-procs-i.is c.index-frames-i.is in
    let has : IsShapedFor proc frame (function_of function) = c.in_ok-is_shaped_for.ensures.0 c.if-not-branch.false in
    subst (λ ps. HaveShape ps (map function_of (take (i + 1) functions)))
    (sym (take_more pairs i (proc, frame) within ∙ ap (λ x. take i pairs ++ x ∷ []) (sym pair)))
    (subst (HaveShape (take i pairs ++ (proc, frame) ∷ []))
    (sym (ap (map function_of) (take_more functions i function f_within) ∙ map-append function_of (take i functions) _ ∙ ap (λ x. map function_of (take i functions) ++ function_of x ∷ []) (sym c.index-functions-i.is)))
    (have-more proc frame (function_of function) c.loop-i.invariant has))

pub returns-then-not-branch-clause-lacks : goal.returns-then-not-branch-clause-lacks
returns-then-not-branch-clause-lacks c = λ j is.
    let procs = c.args.procs.now in
    let frames = c.args.frames.now in
    let pairs = zip procs frames in
    let functions = c.args.functions.now in
    let i = c.loop-i.i in
    let proc = c.index-procs-i.result in
    let frame = c.index-frames-i.result in
    let function = c.index-functions-i.result in
    let p_within : i < length procs = omega (arith, c.loop-i-test.true, c.min-count.ensures) in
    let lacks : ¬ (IsShapedFor proc frame (function_of function)) =
    λ h. both_ways _ c.if-not-branch.true (c.in_ok-is_shaped_for.ensures.1 h) in
    subst (λ n. LacksShape n pairs (map function_of functions)) (some-is is)
    (lacks-at i pairs functions proc frame function (omega (arith, p_within, long procs frames c.requires))
    (omega (arith, c.loop-i-test.true, c.min-count.ensures))
    (pair-is i procs frames proc frame c.requires p_within c.index-procs-i.is c.index-frames-i.is) c.index-functions-i.is
    c.loop-i.invariant lacks)

pub returns-else-procs-functions-clause-lacks : goal.returns-else-procs-functions-clause-lacks
returns-else-procs-functions-clause-lacks c = λ j is.
    let procs = c.args.procs.now in
    let pairs = zip procs c.args.frames.now in
    let functions = c.args.functions.now in
    let n = c.min-count.result in
    let i = c.loop-i.i in
    let many : length pairs ≡ length procs = long procs c.args.frames.now c.requires in
    let end : i ≡ n = omega (arith, c.loop-i-test.false, c.loop-i.auto.i-end) in
    let one : (length pairs ≡ n) ⊎ (length functions ≡ n) = elim (cases_lt (length procs) (length functions)) [
      | inl less ↦ inl (omega (arith, less, many, c.min-count.ensures))
      | inr more ↦ inr (omega (arith, more, c.min-count.ensures))
    ] in
    subst (λ k. LacksShape k pairs (map function_of functions)) (some-is is)
    (lacks-end n pairs functions (omega (arith, many, c.min-count.ensures)) (omega (arith, c.min-count.ensures)) one
    (λ e. c.if-procs-functions.false (sym many ∙ e))
    (subst (λ k. HaveShape (take k pairs) (map function_of (take k functions))) end c.loop-i.invariant))

pub returns-then-procs-functions-clause-has : goal.returns-then-procs-functions-clause-has
returns-then-procs-functions-clause-has c = λ none.
    let procs = c.args.procs.now in
    let pairs = zip procs c.args.frames.now in
    let functions = c.args.functions.now in
    let i = c.loop-i.i in
    let many : length pairs ≡ length procs = long procs c.args.frames.now c.requires in
    let all : length procs ≤ i =
    omega (arith, c.loop-i-test.false, c.min-count.ensures, c.if-procs-functions.true) in
    subst (λ ps. HaveShape ps (map function_of functions)) (take_all i pairs (omega (arith, many, all)))
    (subst (λ fs. HaveShape (take i pairs) (map function_of fs))
    (take_all i functions (omega (arith, all, c.if-procs-functions.true))) c.loop-i.invariant)
