-- A text has the shape that is asked for just where all is as asked.
use Rattle.std.proofs.Common.{◌≡◌, ℕ, ◌+◌, ◌-◌, ◌<◌, ◌≤◌, ◌⊎◌, Bool, true, inl, inr, List, [], ◌∷◌, ◌++◌, length, get_or, take, drop, map, refl, sym, ap, subst, ◌∙◌, zero, suc, arith}
use Rattle.std.specs.Prelude.{◌&&◌, ◌||◌, not, ◌==◌, nat_lt, nat_le, Result, Ok, Err, IfOk, Some}
use Rattle.std.specs.List.{list_all, count_by, zip}
use Rattle.std.proofs.lemmas.Bool.{cases_Bool, and_parts, and_from, or_cases, or_left, or_right, not_from_false, false≢true, leb-true, le-leb, cases_order}
use Rattle.std.proofs.lemmas.List.{length-map, length-take, length-drop, map-append, take-append-drop, drop_more, drop_all}
use Rattle.dcc_prog.specs.declared.procedure.Proc.{Proc}
use Rattle.dcc_prog.specs.declared.frame.Frame.{Frame}
use Rattle.dcc_c.specs.declared.syntax.Func.{Func}
use Rattle.dcc_c.specs.Tree.{Lines, Function}
use Rattle.dcc_c.specs.Views.{function_of}
use Rattle.dcc_interval.specs.Intervals.{Interval}
use Rattle.dcc_interval.specs.Derived.{IsDerived, ends_in_one}
use Rattle.dcc_flow.specs.Edges.{leads}
use Rattle.dcc_shape.specs.declared.asked.Asked.{Asked}
use Rattle.dcc_shape.specs.declared.seen.Seen.{Seen as SeenOf}
use Rattle.dcc_shape.specs.Procedures.{Flow, place_at, next_of, edges_to, edges, headers}
use Rattle.dcc_shape.specs.Spots.{Spot, has_blocks, goal_passes, spots}
use Rattle.dcc_shape.specs.Shape as shape
use Rattle.dcc_shape.specs.Shape.{is_label, is_jump, is_empty, is_labelled, is_loop_at, names_one, goes_where_edges_meet, leaves_innermost_alone, goes_on_or_round, loops_are_labelled, each_labels_one, HasLoops, IsCounted, HasShapeOf, IsShapedFor, HaveShape, nothing, one_more, LacksShape, here, no_function, no_procedure, later}
use Rattle.dcc_shape.specs.Seen.{seen, seen_in, may_all_go}
use Rattle.dcc_shape.specs.Asked as asked
use Rattle.dcc_shape.specs.Asked.{IsAsked, are_counted, are_looped, is_shallow, is_as_asked}
use Rattle.dcc_shape.proofs.ListLaws.{list_all-same}
use Rattle.dcc_shape.proofs.SeenLaws.{all-seen, count-seen, rounds, room-left}
use Rattle.dcc_shape.proofs.SameLaws.{heads-same, one-same}

-- What is asked, as one test.

abbrev counted : Flow → List ℕ → List Spot → Bool
counted flow heads list =
    nat_le (count_by (λ s. has_blocks s.stmt) list) (flow.branches + length heads)
    && (nat_le (count_by (λ s. is_label s.stmt) list) (length flow.nodes)
    && (nat_le (count_by (λ s. is_jump s.stmt) list) (edges flow + length heads)
    && nat_le (count_by (λ s. is_empty s.stmt) list) (count_by (λ s. is_label s.stmt) list)))

abbrev looped : Flow → List ℕ → Bool → List Spot → Bool
looped flow heads one list =
    goes_where_edges_meet flow list
    && (leaves_innermost_alone list
    && ((not one || goes_on_or_round list)
    && (loops_are_labelled heads list && each_labels_one heads list)))

abbrev shaped : Flow → List ℕ → Bool → List Spot → Bool
shaped flow heads one list = counted flow heads list && (not (shape.is_shallow flow heads list) || looped flow heads one list)

module _ (flow : Flow) (heads : List ℕ) (list : List Spot) where
  are-counted : counted flow heads list ≡ true → IsCounted flow heads list
  are-counted h =
      let blocks = nat_le (count_by (λ s. has_blocks s.stmt) list) (flow.branches + length heads) in
      let labels = nat_le (count_by (λ s. is_label s.stmt) list) (length flow.nodes) in
      let jumps = nat_le (count_by (λ s. is_jump s.stmt) list) (edges flow + length heads) in
      let empty = nat_le (count_by (λ s. is_empty s.stmt) list) (count_by (λ s. is_label s.stmt) list) in
      let one = and_parts blocks (labels && (jumps && empty)) h in
      let two = and_parts labels (jumps && empty) one.1 in
      let three = and_parts jumps empty two.1 in
      record {
        blocks = leb-true (count_by (λ s. has_blocks s.stmt) list) (flow.branches + length heads) one.0;
        labels = leb-true (count_by (λ s. is_label s.stmt) list) (length flow.nodes) two.0;
        jumps = leb-true (count_by (λ s. is_jump s.stmt) list) (edges flow + length heads) three.0;
        empty = leb-true (count_by (λ s. is_empty s.stmt) list) (count_by (λ s. is_label s.stmt) list) three.1;
      }

  counted-so : IsCounted flow heads list → counted flow heads list ≡ true
  counted-so c =
      let labels = nat_le (count_by (λ s. is_label s.stmt) list) (length flow.nodes) in
      let jumps = nat_le (count_by (λ s. is_jump s.stmt) list) (edges flow + length heads) in
      let empty = nat_le (count_by (λ s. is_empty s.stmt) list) (count_by (λ s. is_label s.stmt) list) in
      and_from (nat_le (count_by (λ s. has_blocks s.stmt) list) (flow.branches + length heads)) (labels && (jumps && empty))
      (le-leb (count_by (λ s. has_blocks s.stmt) list) (flow.branches + length heads) c.blocks)
      (and_from labels (jumps && empty)
      (le-leb (count_by (λ s. is_label s.stmt) list) (length flow.nodes) c.labels)
      (and_from jumps empty
      (le-leb (count_by (λ s. is_jump s.stmt) list) (edges flow + length heads) c.jumps)
      (le-leb (count_by (λ s. is_empty s.stmt) list) (count_by (λ s. is_label s.stmt) list) c.empty)))

module _ (flow : Flow) (levels : List (List Interval)) (list : List Spot) where
  are-looped : looped flow (headers flow levels) (ends_in_one levels) list ≡ true → HasLoops flow levels list
  are-looped h =
      let heads = headers flow levels in
      let way = not (ends_in_one levels) || goes_on_or_round list in
      let labels = loops_are_labelled heads list && each_labels_one heads list in
      let one = and_parts (goes_where_edges_meet flow list) (leaves_innermost_alone list && (way && labels)) h in
      let two = and_parts (leaves_innermost_alone list) (way && labels) one.1 in
      let three = and_parts way labels two.1 in
      let four = and_parts (loops_are_labelled heads list) (each_labels_one heads list) three.1 in
      record {
        jumps = one.0;
        labelled = four.0;
        one_each = four.1;
        innermost = two.0;
        forwards = λ ends. elim (or_cases (not (ends_in_one levels)) (goes_on_or_round list) three.0) [
          | inl other ↦ absurd (false≢true (sym (ap not ends) ∙ other))
          | inr go ↦ go
        ];
      }

  looped-so : HasLoops flow levels list → looped flow (headers flow levels) (ends_in_one levels) list ≡ true
  looped-so l =
      let heads = headers flow levels in
      let way = not (ends_in_one levels) || goes_on_or_round list in
      let labels = loops_are_labelled heads list && each_labels_one heads list in
      and_from (goes_where_edges_meet flow list) (leaves_innermost_alone list && (way && labels)) l.jumps
      (and_from (leaves_innermost_alone list) (way && labels) l.innermost
      (and_from way labels
      (elim (cases_Bool (ends_in_one levels)) [
        | inl ends ↦ or_right (not (ends_in_one levels)) (goes_on_or_round list) (l.forwards ends)
        | inr other ↦ or_left (not (ends_in_one levels)) (goes_on_or_round list) (not_from_false (ends_in_one levels) other)
      ])
      (and_from (loops_are_labelled heads list) (each_labels_one heads list) l.labelled l.one_each)))

module _ (flow : Flow) (body : Lines) where
  are-shaped : (levels : List (List Interval)) → IsDerived (leads (next_of flow)) (place_at flow flow.entry) levels
      → shaped flow (headers flow levels) (ends_in_one levels) (spots body) ≡ true → HasShapeOf flow body
  are-shaped levels derived h =
      let heads = headers flow levels in
      let list = spots body in
      let loops = looped flow heads (ends_in_one levels) list in
      let parts = and_parts (counted flow heads list) (not (shape.is_shallow flow heads list) || loops) h in
      record {
        levels = levels;
        derived = derived;
        loops = λ shallow. are-looped flow levels list (elim (or_cases (not (shape.is_shallow flow heads list)) loops parts.1) [
          | inl deep ↦ absurd (false≢true (sym (ap not shallow) ∙ deep))
          | inr all ↦ all
        ]);
        counted = are-counted flow heads list parts.0;
      }

  shaped-so : (h : HasShapeOf flow body) → shaped flow (headers flow h.levels) (ends_in_one h.levels) (spots body) ≡ true
  shaped-so h =
      let heads = headers flow h.levels in
      let list = spots body in
      let loops = looped flow heads (ends_in_one h.levels) list in
      and_from (counted flow heads list) (not (shape.is_shallow flow heads list) || loops) (counted-so flow heads list h.counted)
      (elim (cases_Bool (shape.is_shallow flow heads list)) [
        | inl shallow ↦ or_right (not (shape.is_shallow flow heads list)) loops (looped-so flow h.levels list (h.loops shallow))
        | inr deep ↦ or_left (not (shape.is_shallow flow heads list)) loops (not_from_false (shape.is_shallow flow heads list) deep)
      ])

-- The code's test is this one.

module _ (flow : Flow) (a : Asked) (is : IsAsked flow a) (found : List SeenOf) (list : List Spot) (same : map seen_in found ≡ map seen list) where
  counted-is : are_counted a found ≡ counted flow a.heads.items list
  counted-is =
      let nodes : length a.ats.items ≡ length flow.nodes = ap length is.ats ∙ length-map flow.nodes (λ (n : ℕ × List ℕ). n.0) in
      rw (
        count-seen (λ s. has_blocks s.stmt) found list same,
        count-seen (λ s. is_label s.stmt) found list same,
        count-seen (λ s. is_jump s.stmt) found list same,
        count-seen (λ s. is_empty s.stmt) found list same,
        is.branches,
        nodes,
        is.edges_count,
      ) refl

  shallow-is : is_shallow a found ≡ shape.is_shallow flow a.heads.items list
  shallow-is =
      ap (λ n. nat_lt (n + length a.heads.items) 190 || list_all (λ s. not (has_blocks (seen_in s).stmt) || nat_lt 0 (seen_in s).room) found) is.branches
      ∙ ap (λ b. nat_lt (flow.branches + length a.heads.items) 190 || b)
      (all-seen (λ s. not (has_blocks s.stmt) || nat_lt 0 s.room) found list same
      ∙ list_all-same (λ s. not (has_blocks s.stmt) || nat_lt 0 (seen s).room) (λ s. not (has_blocks s.stmt) || nat_lt s.depth 199)
      (λ s. ap (λ b. not (has_blocks s.stmt) || b) (room-left s.depth)) list)

  jumps-is : asked.goes_where_edges_meet a found ≡ goes_where_edges_meet flow list
  jumps-is =
      all-seen (λ s. goal_passes (asked.is_of_meeting a) s.stmt) found list same
      ∙ ap (λ (f : ℕ → ℕ). list_all (λ s. goal_passes (λ word. names_one (λ at. nat_le 2 (f at)) a.ats.items (Some word)) s.stmt) list) (λ i at. is.edges_lead at i)
      ∙ ap (λ ats. list_all (λ s. goal_passes (λ word. names_one (λ at. nat_le 2 (edges_to flow at)) ats (Some word)) s.stmt) list) is.ats

  one-each : asked.each_labels_one a.heads.items found ≡ each_labels_one a.heads.items list
  one-each =
      list_all-same (λ at. count_by (λ s. is_loop_at at (seen_in s).stmt (seen_in s).label) found == 1) (λ at. count_by (λ s. is_loop_at at s.stmt s.label) list == 1)
      (λ at. ap (λ n. n == 1) (count-seen (λ s. is_loop_at at s.stmt s.label) found list same)) a.heads.items

  looped-is : are_looped a found ≡ looped flow a.heads.items a.ends_in_one list
  looped-is =
      let heads = a.heads.items in
      let all : Bool → Bool → Bool → Bool → Bool → Bool = λ jumps spare go labels once. jumps && (spare && ((not a.ends_in_one || go) && (labels && once))) in
      let spares = list_all (λ (s : SeenOf). s.spares_own) found in
      let goes = may_all_go (map seen_in found) in
      let labels = asked.loops_are_labelled heads found in
      let once = asked.each_labels_one heads found in
      ap (λ b. all b spares goes labels once) jumps-is
      ∙ ap (λ b. all (goes_where_edges_meet flow list) b goes labels once) (all-seen (λ s. s.spares_own) found list same)
      ∙ ap (λ b. all (goes_where_edges_meet flow list) (leaves_innermost_alone list) b labels once) (ap may_all_go same ∙ rounds list)
      ∙ ap (λ b. all (goes_where_edges_meet flow list) (leaves_innermost_alone list) (goes_on_or_round list) b once) (all-seen (λ s. is_labelled heads s.stmt s.label) found list same)
      ∙ ap (λ b. all (goes_where_edges_meet flow list) (leaves_innermost_alone list) (goes_on_or_round list) (loops_are_labelled heads list) b) one-each

  shaped-is : is_as_asked a found ≡ shaped flow a.heads.items a.ends_in_one list
  shaped-is =
      ap (λ b. b && (not (is_shallow a found) || are_looped a found)) counted-is
      ∙ ap (λ b. counted flow a.heads.items list && (not b || are_looped a found)) shallow-is
      ∙ ap (λ b. counted flow a.heads.items list && (not (shape.is_shallow flow a.heads.items list) || b)) looped-is

module _ (flow : Flow) (a : Asked) (is : IsAsked flow a) (found : List SeenOf) (body : Lines) (same : map seen_in found ≡ map seen (spots body)) where
  told : is_as_asked a found ≡ shaped flow (headers flow is.levels) (ends_in_one is.levels) (spots body)
  told =
      shaped-is flow a is found (spots body) same
      ∙ ap (λ hs. shaped flow hs a.ends_in_one (spots body)) is.heads
      ∙ ap (λ one. shaped flow (headers flow is.levels) one (spots body)) is.one

  pub has-shape : is_as_asked a found ≡ true → HasShapeOf flow body
  has-shape h = are-shaped flow body is.levels is.derived (sym told ∙ h)

  pub shape-asked : HasShapeOf flow body → is_as_asked a found ≡ true
  shape-asked h =
      told
      ∙ ap (λ hs. shaped flow hs (ends_in_one is.levels) (spots body)) (heads-same flow is.levels h.levels is.derived h.derived)
      ∙ ap (λ one. shaped flow (headers flow h.levels) one (spots body)) (one-same flow is.levels h.levels is.derived h.derived)
      ∙ shaped-so flow body h

-- Whole texts.

-- one procedure more with its function
pub have-more : {procs : List (Proc × Frame)} {functions : List Function} (proc : Proc) (frame : Frame) (function : Function)
    → HaveShape procs functions → IsShapedFor proc frame function
    → HaveShape (procs ++ (proc, frame) ∷ []) (functions ++ function ∷ [])
have-more proc frame function nothing has = one_more has nothing
have-more proc frame function (one_more first others) has = one_more first (have-more proc frame function others has)

-- the rest of a text lacks the shape at once
pub lacks-later : {procs : List (Proc × Frame)} {functions : List Function} (i : ℕ) (more : List (Proc × Frame))
    (others : List Function)
    → HaveShape procs functions → length procs ≡ i → LacksShape 0 more others → LacksShape i (procs ++ more) (functions ++ others)
lacks-later i more others nothing long lacks = subst (λ n. LacksShape n more others) long lacks
lacks-later zero more others (one_more has rest) long lacks = absurd (omega (arith, long))
lacks-later (suc i) more others (one_more has rest) long lacks = later has (lacks-later i more others rest (omega (arith, long)) lacks)

-- a procedure with its frame
pub zip-at : {A B : Type 0} (i : ℕ) (xs : List A) (ys : List B) (x : A) (y : B) → i < length xs → i < length ys
    → get_or (zip xs ys) i (x, y) ≡ (get_or xs i x, get_or ys i y)
zip-at i [] ys x y within short = absurd (omega (arith, within))
zip-at i (a ∷ xs) [] x y within short = absurd (omega (arith, short))
zip-at zero (a ∷ xs) (b ∷ ys) x y within short = refl
zip-at (suc i) (a ∷ xs) (b ∷ ys) x y within short = zip-at i xs ys x y (omega (arith, within)) (omega (arith, short))

-- one of the procedures has a function that lacks the shape
pub lacks-at : (i : ℕ) (procs : List (Proc × Frame)) (functions : List Func) (proc : Proc) (frame : Frame) (function : Func)
    → i < length procs → i < length functions → (proc, frame) ≡ get_or procs i (proc, frame)
    → function ≡ get_or functions i function → HaveShape (take i procs) (map function_of (take i functions))
    → ¬ (IsShapedFor proc frame (function_of function)) → LacksShape i procs (map function_of functions)
lacks-at i procs functions proc frame function p_within f_within p_is f_is has lacks =
    let parts : procs ≡ take i procs ++ (proc, frame) ∷ drop (i + 1) procs =
    sym (take-append-drop i procs) ∙ ap (λ l. take i procs ++ l) (drop_more procs i (proc, frame) p_within ∙ ap (λ x. x ∷ drop (i + 1) procs) (sym p_is)) in
    let others : functions ≡ take i functions ++ function ∷ drop (i + 1) functions =
    sym (take-append-drop i functions) ∙ ap (λ l. take i functions ++ l) (drop_more functions i function f_within ∙ ap (λ x. x ∷ drop (i + 1) functions) (sym f_is)) in
    let mapped : map function_of functions ≡ map function_of (take i functions) ++ function_of function ∷ map function_of (drop (i + 1) functions) =
    ap (map function_of) others ∙ map-append function_of (take i functions) (function ∷ drop (i + 1) functions) in
    let short : length (take i procs) ≡ i = omega (arith, length-take i procs, p_within) in
    subst (λ ps. LacksShape i ps (map function_of functions)) (sym parts)
    (subst (λ fs. LacksShape i (take i procs ++ (proc, frame) ∷ drop (i + 1) procs) fs) (sym mapped)
    (lacks-later i ((proc, frame) ∷ drop (i + 1) procs) (function_of function ∷ map function_of (drop (i + 1) functions)) has short (here lacks)))

more-procs : (procs : List (Proc × Frame)) → 0 < length procs → LacksShape 0 procs []
more-procs [] some = absurd (omega (arith, some))
more-procs (proc ∷ procs) some = no_function

more-functions : (functions : List Function) → 0 < length functions → LacksShape 0 [] functions
more-functions [] some = absurd (omega (arith, some))
more-functions (function ∷ functions) some = no_procedure

-- there are more procedures than functions, or fewer
pub lacks-end : (n : ℕ) (procs : List (Proc × Frame)) (functions : List Func) → n ≤ length procs → n ≤ length functions → (length procs ≡ n) ⊎ (length functions ≡ n) →
    ¬ (length procs ≡ length functions) → HaveShape (take n procs) (map function_of (take n functions)) → LacksShape n procs (map function_of functions)
lacks-end n procs functions p_few f_few one differ has =
    let more = drop n procs in
    let others = map function_of (drop n functions) in
    let p_long : length more ≡ length procs - n = length-drop n procs in
    let f_long : length others ≡ length functions - n = length-map (drop n functions) function_of ∙ length-drop n functions in
    let base : LacksShape 0 more others = elim one [
      | inl p_all ↦
          let none : more ≡ [] = drop_all n procs (omega (arith, p_all)) in
          subst (λ ps. LacksShape 0 ps others) (sym none) (more-functions others (let some : 0 < length others = after (length functions) n (length others) f_long f_few (λ e. differ (p_all ∙ sym e)) in some))
      | inr f_all ↦
          let none : others ≡ [] = ap (map function_of) (drop_all n functions (omega (arith, f_all))) in
          subst (λ fs. LacksShape 0 more fs) (sym none) (more-procs more (let some : 0 < length more = after (length procs) n (length more) p_long p_few (λ e. differ (e ∙ sym f_all)) in some))
    ] in
    subst (λ ps. LacksShape n ps (map function_of functions)) (take-append-drop n procs)
    (subst (λ fs. LacksShape n (take n procs ++ more) fs) (sym (map-append function_of (take n functions) (drop n functions)) ∙ ap (map function_of) (take-append-drop n functions))
    (lacks-later n more others has (omega (arith, length-take n procs, p_few)) base))
  where
    after : (all n left : ℕ) → left ≡ all - n → n ≤ all → ¬ (all ≡ n) → 0 < left
    after all n left is few other = elim (cases_order all n) [
      | inl e ↦ absurd (other e)
      | inr o ↦ elim o [ inl less ↦ absurd (omega (arith, less, few)) | inr more ↦ omega (arith, is, more) ]
    ]

-- what is told of an answer, where memory does not run out
pub if-ok : {T E : Type 0} {P Q : T → Type 0} (result : Result T E) → ((x : T) → P x → Q x) → IfOk result P → IfOk result Q
if-ok (Ok x) turn told = turn x told
if-ok (Err e) turn told = told
