-- The instructions of a procedure with its heights are just those of the definitions, and by them its arguments are
-- counted.
use Rattle.std.proofs.Common.{◌≡◌, ◌≢◌, inl, inr, ◌≤◌, ℕ, zero, suc, ◌+◌, ◌*◌, ◌/◌, ℤ, pos, ◌+ℤ◌, ◌<ℤ◌, ◌≤ℤ◌, Bool, true, false, List, [], ◌∷◌, map, slice_get, All, Contains, Option, Some, None, refl, sym, ap, ◌∙◌, subst, arith}
use Rattle.std.specs.Option.{IfSome}
use Rattle.std.specs.Ordering.{int_eq}
use Rattle.std.proofs.lemmas.Int.{ints}
use Rattle.std.proofs.lemmas.Bool.{cases_lt, cases_eq, false≢true}
use Rattle.std.proofs.lemmas.Bool.Decides.{Decides-int_eq}
use Rattle.std.proofs.lemmas.List.Elements.{All-nil, All-cons, All-head, All-tail, All-contains, Contains-append_right, All-weaker}
use Rattle.dcc_machine.specs.declared.image.Image.{Image}
use Rattle.dcc_prog.specs.declared.procedure.Layout.{Layout}
use Rattle.dcc_prog.specs.declared.procedure.Node.{Node}
use Rattle.dcc_prog.specs.declared.refusal.ConstructKind.TheVariants.{StackHeight}
use Rattle.dcc_prog.specs.Trail.{IsNode, IsEntry}
use Rattle.dcc_prog.specs.FrameForm.{is_framed}
use Rattle.dcc_prog.specs.Height.{ReachesRet, IsRemoved, by_ret, without_ret, HasHeight, IsHeight, HasBadHeight, two_heights, two_sizes, too_great}
use Rattle.dcc_prog.specs.Construct.{bad_height}
use Rattle.dcc_prog.specs.Refused.{IsAcceptedByHeights}
use Rattle.dcc_prog.specs.Found.{IsNodeFound, IsListed}
use Rattle.dcc_prog.specs.Frame.{IsDirectAccess, StartsExposure, HasRoom, HasArguments, of_procedure}
use Rattle.dcc_frames.specs.declared.bytes.Bytes.{Bytes}
use Rattle.dcc_frames.specs.declared.steps.Step.{Step}
use Rattle.dcc_frames.specs.Bytes.{as_span, as_bytes}
use Rattle.dcc_frames.specs.Used.{access_of, start_of}
use Rattle.dcc_frames.specs.Steps.{steps_of}
use Rattle.dcc_frames.specs.Arguments.{IsLeast, ReachTo, HasRoomFor, HasRoomIn}
use Rattle.dcc_frames.specs.Body.{IsStep, HasStep, AreSteps}
use Rattle.dcc_frames.proofs.StepLists.{step_of, at-node}
use Rattle.dcc_frames.proofs.Told.{access-told, access-tells, start-told, start-tells}

-- where a node stands, the instruction with its height does
pub steps-listed :
    (nodes : List (ℕ × Node)) (heights : List (ℕ × ℕ)) (place : ℕ) (at : ℕ) (node : Node)
    → map (λ (h : ℕ × ℕ). h.0) heights ≡ map (λ (n : ℕ × Node). n.0) nodes → slice_get nodes place ≡ Some (at, node)
    → HasStep (steps_of nodes heights) at
steps-listed [] heights place at node same listed = absurd (cc)
steps-listed (n ∷ nodes) [] place at node same listed = absurd (cc)
steps-listed (n ∷ nodes) (h ∷ heights) zero at node same listed = record {
  step = step_of n h;
  among = (0, omega arith, refl);
  at_is = let is : n ≡ (at, node) = cc in ap (λ (x : ℕ × Node). x.0) is;
}
steps-listed (n ∷ nodes) (h ∷ heights) (suc place) at node same listed =
    let rest = steps-listed nodes heights place at node (let e = same in cc) listed in
    record {
      step = rest.step;
      among = Contains-append_right (step_of n h ∷ []) (steps_of nodes heights) rest.step rest.among;
      at_is = rest.at_is;
    }

module _ (image : Image) (layout : Layout) (entry : ℕ) (is_entry : IsEntry image layout entry)
    (accepted : IsAcceptedByHeights image layout) where
  no-bad-height : (at : ℕ) → IsNode image layout entry at → ¬ HasBadHeight image layout entry at
  no-bad-height at node bad =
      accepted.no_construct StackHeight at
      (record { entry = entry; is_entry = is_entry; node = node; stands = bad_height bad })

  -- a node has one height
  one-height :
      (at : ℕ) (a b : ℤ) → IsNode image layout entry at → HasHeight image layout entry at a
      → HasHeight image layout entry at b → a ≡ b
  one-height at a b node first second = by (int_eq a b) refl
    where
      by : (e : Bool) → int_eq a b ≡ e → a ≡ b
      by true e = (Decides-int_eq a b).0 e
      by false e =
          absurd (no-bad-height at node
          (two_heights first second (λ same. false≢true (sym e ∙ (Decides-int_eq a b).1 same))))

  step-of-node :
      (n : ℕ × Node) (h : ℕ × ℕ) → h.0 ≡ n.0 → IsNodeFound image layout entry n
      → IsHeight image layout entry h.0 (pos h.1) → IsStep image layout entry (step_of n h)
  step-of-node n h same found height =
      let here : IsHeight image layout entry n.0 (pos h.1) =
      subst (λ at. IsHeight image layout entry at (pos h.1)) same height in
      let has : HasHeight image layout entry n.0 (pos h.1) =
      record { before = found.node.before; gives = here found.node.before found.node.trail } in
      record {
        node = found.node;
        stands = (n.1.instr, found.instr, refl);
        has = has;
        one = λ other given. one-height n.0 other (pos h.1) found.node given has;
        small = elim (cases_lt 32766 h.1) [
          | inl great ↦ absurd (no-bad-height n.0 found.node (too_great has (omega (arith, ints, great))))
          | inr le ↦ le
        ];
      }

  steps-each :
      (nodes : List (ℕ × Node)) (heights : List (ℕ × ℕ))
      → map (λ (h : ℕ × ℕ). h.0) heights ≡ map (λ (n : ℕ × Node). n.0) nodes
      → All (IsNodeFound image layout entry) nodes
      → All (λ (h : ℕ × ℕ). IsHeight image layout entry h.0 (pos h.1)) heights
      → All (IsStep image layout entry) (steps_of nodes heights)
  steps-each [] heights same found given = All-nil (IsStep image layout entry)
  steps-each (n ∷ nodes) [] same found given = All-nil (IsStep image layout entry)
  steps-each (n ∷ nodes) (h ∷ heights) same found given =
      let H : ℕ × ℕ → Type 0 = λ h. IsHeight image layout entry h.0 (pos h.1) in
      All-cons (IsStep image layout entry) (step_of n h) (steps_of nodes heights)
      (step-of-node n h (let e = same in cc) (All-head (IsNodeFound image layout entry) n nodes found)
      (All-head H h heights given))
      (steps-each nodes heights (let e = same in cc) (All-tail (IsNodeFound image layout entry) n nodes found)
      (All-tail H h heights given))

  -- the instructions with their heights
  pub are-steps :
      (nodes : List (ℕ × Node)) (heights : List (ℕ × ℕ))
      → map (λ (h : ℕ × ℕ). h.0) heights ≡ map (λ (n : ℕ × Node). n.0) nodes
      → All (IsNodeFound image layout entry) nodes
      → All (λ (h : ℕ × ℕ). IsHeight image layout entry h.0 (pos h.1)) heights
      → ((at : ℕ) → IsNode image layout entry at → IsListed nodes at)
      → AreSteps image layout entry (steps_of nodes heights)
  are-steps nodes heights same found given every = record {
    each = steps-each nodes heights same found given;
    every = λ at node. (let l = every at node in steps-listed nodes heights l.place at l.node same l.listed);
  }

  -- every RET of the procedure removes as much
  one-size : (removed bytes : ℕ) → IsRemoved image layout entry removed → ReachesRet image layout entry bytes
      → bytes ≡ removed
  one-size _ bytes (by_ret {count} other) reaches = elim (cases_eq bytes count) [
    | inl same ↦ same
    | inr apart ↦ absurd (no-bad-height reaches.at reaches.node (two_sizes reaches.node reaches.stands other apart))
  ]
  one-size _ bytes (without_ret none) reaches = absurd (none bytes reaches)

  half-removed :
      (count removed : ℕ) → IsRemoved image layout entry removed → HasRoom image layout entry count
      → removed / 2 ≤ count
  half-removed count _ (by_ret {count = bytes} reaches) room = room.removed bytes reaches
  half-removed count _ (without_ret none) room = omega arith

  module _ (steps : List Step) (are : AreSteps image layout entry steps) (removed : ℕ)
      (is : IsRemoved image layout entry removed) where
    if-some : {A : Type 0} (o : Option A) (P : A → Type 0) → ((x : A) → o ≡ Some x → P x) → IfSome o P
    if-some None P each = tt
    if-some (Some x) P each = each x refl

    some-if : {A : Type 0} (o : Option A) (P : A → Type 0) (x : A) → o ≡ Some x → IfSome o P → P x
    some-if o P x e h = let at : IfSome (Some x) P = subst (λ p. IfSome p P) e h in at

    room-in : (count : ℕ) → HasRoom image layout entry count
        → HasRoomIn (is_framed image layout entry) removed steps count
    room-in count room = record {
      removed_too = half-removed count removed is room;
      used = All-weaker (IsStep image layout entry) (λ step. HasRoomFor (is_framed image layout entry) step count)
          (λ step s. record {
            accessed =
                if-some (access_of (is_framed image layout entry) step.op) (λ (bytes : Bytes). ReachTo bytes.end count)
                (λ bytes e. room.accessed step.at (as_span bytes) s.node (access-tells image layout entry step s bytes e));
            exposed =
                if-some (start_of step.op step.height)
                (λ (start : ℤ). ReachTo (start +ℤ pos 1) count)
                (λ start e. (let lt = room.exposed step.at start s.node (start-tells image layout entry step s start e)
                in omega (arith, ints, lt)));
          }) steps are.each;
    }

    in-room : (count : ℕ) → HasRoomIn (is_framed image layout entry) removed steps count
        → HasRoom image layout entry count
    in-room count room =
        let for : (step : Step) → Contains steps step → HasRoomFor (is_framed image layout entry) step count =
        λ step among. All-contains (λ s. HasRoomFor (is_framed image layout entry) s count) steps step room.used
        among in
        record {
          removed = λ bytes reaches.
              (let same = one-size removed bytes is reaches in let le = room.removed_too in subst
              (λ b. b / 2 ≤ count) (sym same) le);
          accessed = λ at span node access.
              at-node image layout entry steps are
              (λ at. IsDirectAccess image layout entry at span → span.end ≤ℤ pos (4 + 2 * count))
              (λ step among s a.
              some-if (access_of (is_framed image layout entry) step.op)
              (λ (bytes : Bytes). ReachTo bytes.end count) (as_bytes span)
              (access-told image layout entry step s span a) (for step among).accessed)
              at node access;
          exposed = λ at start node starts.
              at-node image layout entry steps are
              (λ at. StartsExposure image layout entry at start → start <ℤ pos (4 + 2 * count))
              (λ step among s a.
              (let le =
              some-if (start_of step.op step.height) (λ (start : ℤ). ReachTo (start +ℤ pos 1) count) start
              (start-told image layout entry step s start a) (for step among).exposed in omega (arith, ints, le)))
              at node starts;
        }

    -- the number of its arguments, where it isn't the entry procedure
    pub has-arguments :
        (count : ℕ) → entry ≢ layout.start_ip → IsLeast (HasRoomIn (is_framed image layout entry) removed steps) count
        → HasArguments image layout entry count
    has-arguments count other least =
        of_procedure other (in-room count least.holds) (λ n room. least.least n (room-in n room))
