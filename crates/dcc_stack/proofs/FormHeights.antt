-- Heights at the nodes of accepted programs: they are numbers in their bounds, each node has one, and each operation
-- but RET moves it to another one.
use Rattle.std.proofs.Common.{◌≡◌, ◌≢◌, ◌⊎◌, inl, inr, ℕ, zero, suc, ◌≤◌, true, false, true≢false, not, ℤ, pos, negsuc, ◌≤ℤ◌, ◌<ℤ◌, List, [], ◌∷◌, slice_get, Option, Some, None, refl, sym, ap, ◌∙◌, subst, arith}
use Rattle.std.specs.List.{AllZip}
use Rattle.std.proofs.lemmas.Bool.{or_cases, and_parts, or_left, or_right, false_from_ne_true, true_from_ne_false, cases_eq}
use Rattle.std.proofs.lemmas.Int.{ints, by_lt_z}
use Rattle.dcc_num.specs.declared.Reg.TheVariants.{Bp}
use Rattle.dcc_machine.specs.declared.cpu.Cpu.{Cpu}
use Rattle.dcc_machine.specs.declared.image.Image.{Image}
use Rattle.dcc_prog.specs.declared.procedure.Layout.{Layout}
use Rattle.dcc_prog.specs.declared.procedure.Proc.{Proc}
use Rattle.dcc_prog.specs.declared.refusal.ConstructKind.{ConstructKind}
use Rattle.dcc_prog.specs.declared.frame.Program.{Program}
use Rattle.dcc_machine.specs.declared.instr.Operand.{Operand}
use Rattle.dcc_machine.specs.declared.instr.Operand.TheVariants.{Word}
use Rattle.dcc_machine.specs.declared.instr.Op.{Op}
use Rattle.dcc_machine.specs.declared.instr.Op.TheVariants.{Push, Pop, Enter, Leave, Call, Ret}
use Rattle.dcc_machine.specs.declared.instr.Instr.{Instr}
use Rattle.dcc_prog.specs.Trail.{instruction_in, StandsAt, IsNode, IsEntry, called}
use Rattle.dcc_machine.specs.SpAndBp.{is_push_bp, is_enter}
use Rattle.dcc_prog.specs.FrameForm.{begins_by_push, stands_push_bp, stands_mov_bp_sp, second_of, stands_enter, is_framed, is_frame_form}
use Rattle.dcc_prog.specs.Height.{needs_frame, by_ret, without_ret, IsRemoved, MovesHeight, GivesHeight, entered, gone_on, HasHeight, HasBadHeight, two_heights, too_far, two_sizes, grows_too_great, above_entry, into_saved_bp}
use Rattle.dcc_prog.specs.Construct.{is_system, IsAtNode, unknown, foreign, indirect_jump, indirect_call, IsAtHeight, misplaced, bad_height, IsAtFrame}
use Rattle.dcc_prog.specs.Found.{HasEntry}
use Rattle.dcc_stack.specs.Accepted.{IsAt, IsProgramOfFile, HeightFits, changes_frame, FrameStays}
use Rattle.dcc_stack.proofs.FormWords.{IsLeaWord, lea-word}
use Rattle.dcc_stack.proofs.FormOps.{FormOf, form-of}
use Rattle.dcc_stack.proofs.FormMoves.{IsInner, enter-needs_none, Effect, pushes, restores, raises, lowers, sets, clears, keeps, effect-of, moved-of}

-- Numbers.

natural : (z : ℤ) → pos 0 ≤ℤ z → (n : ℕ) × (z ≡ pos n)
natural (pos n) above = (n, refl)
natural (negsuc n) above = absurd (omega (arith, ints, above))

pub int-same : (a b : ℤ) → ¬ (a ≢ b) → a ≡ b
int-same a b same =
    by_lt_z a b (λ less. absurd (same (λ e. omega (arith, ints, less, e))))
    (λ le. by_lt_z b a (λ less. absurd (same (λ e. omega (arith, ints, less, e))))
    (λ other. omega (arith, ints, le, other)))

pub nat-same : (a b : ℕ) → ¬ (a ≢ b) → a ≡ b
nat-same a b same = elim (cases_eq a b) [ inl e ↦ e | inr other ↦ absurd (same other) ]

-- The first instruction of a framed procedure.

pub framed-first :
    (image : Image) (layout : Layout) (entry : ℕ) (instr : Instr) → is_framed image layout entry ≡ true
    → instruction_in image layout entry ≡ Some instr
    → (is_push_bp instr.op ≡ true) ⊎ (is_enter instr.op ≡ true)
framed-first image layout entry instr framed is =
    let first = instruction_in image layout entry in
    elim (or_cases (begins_by_push image layout entry) (stands_enter first) framed) [
      | inl begins ↦
          let second = instruction_in image layout (second_of entry first) in
          let pushed = and_parts (stands_push_bp first) (stands_mov_bp_sp second) begins in
          inl (sym (ap stands_push_bp is) ∙ pushed.0)
      | inr enters ↦ inr (sym (ap stands_enter is) ∙ enters)
    ]

-- what stands within a framed procedure and neither sets the frame up by PUSH nor by ENTER isn't its first instruction
pub not-first :
    (image : Image) (layout : Layout) (entry at : ℕ) (op : Op) → is_framed image layout entry ≡ true
    → StandsAt image layout at op → is_push_bp op ≡ false → is_enter op ≡ false
    → at ≢ entry
not-first image layout entry at op framed stands no_push no_enter here =
    let is = subst (λ n. instruction_in image layout n ≡ Some stands.0) here stands.1 in
    elim (framed-first image layout entry stands.0 framed is) [
      | inl pushed ↦ true≢false (sym pushed ∙ ap is_push_bp stands.2 ∙ no_push)
      | inr enters ↦ true≢false (sym enters ∙ ap is_enter stands.2 ∙ no_enter)
    ]

-- what changes the frame

push-stays : (a : Operand) → changes_frame (Push a) ≡ false → is_push_bp (Push a) ≡ false
push-stays (Word Bp) e = absurd (true≢false e)
push-stays a e = refl

enter-changes : (op : Op) → is_enter op ≡ true → changes_frame op ≡ true
enter-changes (Enter count) e = refl
enter-changes op e = absurd (true≢false (sym e))

-- Lists.

-- an element of one list has its partner in the other
zipped-get :
    {A B : Type 0} (R : A → B → Type 0) (xs : List A) (ys : List B) (k : ℕ) (x : A) → AllZip R xs ys
    → slice_get xs k ≡ Some x
    → (y : B) × R x y
zipped-get R [] ys k x all at = let clash = at in cc
zipped-get R (a ∷ xs) [] k x all at = absurd all
zipped-get R (a ∷ xs) (b ∷ ys) zero x all at = let is : a ≡ x = cc in (b, subst (λ z. R z b) is all.0)
zipped-get R (a ∷ xs) (b ∷ ys) (suc k) x all at = zipped-get R xs ys k x all.1 at

module _ (cpu : Cpu) (image : Image) (program : Program) (p : IsProgramOfFile cpu image program) where
  abbrev layout : Layout
  layout = program.layout

  module _ (entry at : ℕ) (before : List ℕ) (height : ℤ) (is : IsAt image layout entry at before height) where
    pub node-of : IsNode image layout entry at
    node-of = record { before = before; trail = is.trail }

    pub has-height : HasHeight image layout entry at height
    has-height = record { before = before; gives = is.gives }

    -- Nothing stands there for which the program would be refused.

    pub no-trails : {kind : ConstructKind} → ¬ IsAtNode image layout entry at kind
    no-trails {kind} h =
        p.is_program.procs.no_construct kind at
        (record { entry = entry; is_entry = is.is_entry; node = node-of; stands = h })

    pub no-heights : {kind : ConstructKind} → ¬ IsAtHeight image layout entry at kind
    no-heights {kind} h =
        p.is_program.heights.accepted.no_construct kind at
        (record { entry = entry; is_entry = is.is_entry; node = node-of; stands = h })

    pub no-frames : {kind : ConstructKind} → ¬ IsAtFrame image layout entry at kind
    no-frames {kind} h =
        p.is_program.cells.accepted.no_construct kind at
        (record { entry = entry; is_entry = is.is_entry; node = node-of; stands = h })

    pub no-bad : ¬ HasBadHeight image layout entry at
    no-bad h = no-heights (bad_height h)

    some-instruction :
        (found : Option Instr) → instruction_in image layout at ≡ found
        → (instr : Instr) × (instruction_in image layout at ≡ Some instr)
    some-instruction (Some instr) found = (instr, found)
    some-instruction None none =
        absurd (no-trails (unknown (record {
          none = none;
          no_jump = λ h. no-trails (indirect_jump h);
          no_call = λ h. no-trails (indirect_call h);
        })))

    -- an instruction stands there
    pub instruction-there : (instr : Instr) × (instruction_in image layout at ≡ Some instr)
    instruction-there = some-instruction (instruction_in image layout at) refl

    -- an instruction at a node has a form that is allowed, and is none of the prelude
    pub allowed-form : (op : Op) → StandsAt image layout at op → is_frame_form image layout entry at op ≡ true
    allowed-form op stands =
        true_from_ne_false (is_frame_form image layout entry at op) (λ none. no-trails (foreign (record {
          op = op;
          stands = stands;
          foreign = or_right (is_system op) _ (ap not none);
        })))

    pub no-system : (op : Op) → StandsAt image layout at op → is_system op ≡ false
    no-system op stands =
        false_from_ne_true (is_system op) (λ system. no-trails (foreign (record {
          op = op;
          stands = stands;
          foreign = or_left (is_system op) _ system;
        })))

    pub form-there : (op : Op) → StandsAt image layout at op → FormOf image layout entry at op
    form-there op stands = form-of image layout entry at op (allowed-form op stands)

    -- what needs the frame stands where it is set up
    pub needs-set-up :
        (op : Op) → HeightFits image layout entry height → StandsAt image layout at op
        → is_framed image layout entry ≡ true → IsInner op
        → (number : ℕ) × (height ≡ pos number) × (2 ≤ number)
    needs-set-up op fits stands framed inner =
        elim (fits.framed framed) [
          | inr deep ↦ (fits.number, fits.is, deep)
          | inl none ↦
              let no_enter =
              false_from_ne_true (is_enter op) (λ enters. true≢false (sym inner.needs ∙ enter-needs_none op enters)) in
              absurd (no-heights (misplaced (record {
                framed = framed;
                inner = not-first image layout entry at op framed stands inner.other no_enter;
                op = op;
                stands = stands;
                height = height;
                has = has-height;
                misplaced = inl (fits.is ∙ ap pos none, inner.needs);
              })))
        ]

    -- `pop bp` stands where the saved BP is at the top
    pub pop-bp-at : StandsAt image layout at (Pop (Word Bp)) → is_framed image layout entry ≡ true → height ≡ pos 2
    pop-bp-at stands framed =
        int-same height (pos 2) (λ other. no-heights (misplaced (record {
          framed = framed;
          inner = not-first image layout entry at (Pop (Word Bp)) framed stands refl refl;
          op = Pop (Word Bp);
          stands = stands;
          height = height;
          has = has-height;
          misplaced = inr (refl, other);
        })))

    -- One operation.

    module _ (op : Op) (after : ℤ) (stands : StandsAt image layout at op)
        (moves : MovesHeight image layout entry at op height after) where
      effect-there : Effect op height after
      effect-there =
          effect-of image layout entry at moves (form-there op stands)
          (subst (λ o. IsLeaWord o) stands.2 (lea-word image layout at stands.0 p.loaded stands.1))

      fits-with :
          (n : ℕ) → after ≡ pos n → (is_framed image layout entry ≡ true → (n ≡ 0) ⊎ (2 ≤ n))
          → HeightFits image layout entry after
      fits-with n same framed = record {
        number = n;
        is = same;
        bound =
            by_lt_z (pos 32766) after
            (λ great. absurd (no-bad (grows_too_great stands has-height moves great)))
            (λ le. omega (arith, ints, same, le));
        framed = framed;
      }

      -- SP doesn't rise above the entry
      not-above : after <ℤ height → pos 0 ≤ℤ after
      not-above less =
          by_lt_z after (pos 0)
          (λ below. absurd (no-bad (too_far stands has-height moves less (above_entry below)))) (λ le. le)

      -- SP doesn't rise into the saved BP, but by `pop bp` and LEAVE
      not-saved :
          is_framed image layout entry ≡ true → op ≢ Pop (Word Bp) → op ≢ Leave → pos 0 <ℤ height
          → after <ℤ height
          → pos 2 ≤ℤ after
      not-saved framed other stays above less =
          by_lt_z after (pos 2)
          (λ below. absurd (no-bad (too_far stands has-height moves less
          (into_saved_bp framed other stays above below)))) (λ le. le)

      by-effect : HeightFits image layout entry height → Effect op height after → HeightFits image layout entry after
      by-effect fits (pushes is_push same) =
          let from = fits.is in
          fits-with (suc (suc fits.number)) (omega (arith, ints, same, from)) (λ framed. inr (omega arith))
      by-effect fits (restores is_pop same) =
          let from = fits.is in
          let n = natural after (not-above (omega (arith, ints, same))) in
          let to = n.1 in
          fits-with n.0 n.1 (λ framed.
          let two = pop-bp-at (subst (λ o. StandsAt image layout at o) is_pop stands) framed in
          inl (omega (arith, ints, same, two, to)))
      by-effect fits (raises other stays less) =
          let from = fits.is in
          let n = natural after (not-above less) in
          let to = n.1 in
          fits-with n.0 n.1 (λ framed.
          let deep = not-saved framed other stays (omega (arith, ints, less, to)) less in
          inr (omega (arith, ints, deep, to)))
      by-effect fits (lowers inner more) =
          let from = fits.is in
          let n = natural after (omega (arith, ints, more, from)) in
          let to = n.1 in
          fits-with n.0 n.1 (λ framed.
          let deep = needs-set-up op fits stands framed inner in
          let is_deep = deep.1 in
          let two = deep.2 in
          inr (omega (arith, ints, is_deep, two, to, more)))
      by-effect fits (sets why deep) =
          let n = natural after (omega (arith, ints, deep)) in
          let to = n.1 in
          fits-with n.0 n.1 (λ framed. inr (omega (arith, ints, deep, to)))
      by-effect fits (clears is_leave same) = fits-with 0 same (λ framed. inl refl)
      by-effect fits (keeps same) = fits-with fits.number (same ∙ fits.is) fits.framed

      -- the height after an operation fits where that before it does
      pub fits-after : HeightFits image layout entry height → HeightFits image layout entry after
      fits-after fits = by-effect fits effect-there

  -- Trails.

  pub fits-of :
      (entry : ℕ) (trail : List ℕ) (height : ℤ) → IsEntry image layout entry
      → GivesHeight image layout entry trail height
      → HeightFits image layout entry height
  fits-of entry _ _ is_entry entered =
      record { number = 0; is = refl; bound = omega arith; framed = λ framed. inl refl }
  fits-of entry _ after is_entry (gone_on {at} {from} {before} {op} {height} trail gives stands moves) =
      let is : IsAt image layout entry from before height =
      record { is_entry = is_entry; trail = trail.1; gives = gives } in
      fits-after entry from before height is op after stands moves (fits-of entry (from ∷ before) height is_entry gives)

  pub heights-fit :
      (entry at : ℕ) (before : List ℕ) (height : ℤ) → IsAt image layout entry at before height
      → HeightFits image layout entry height
  heights-fit entry at before height is = fits-of entry (at ∷ before) height is.is_entry is.gives

  pub one-height :
      (entry at : ℕ) (before before' : List ℕ) (height height' : ℤ) → IsAt image layout entry at before height
      → IsAt image layout entry at before' height'
      → height ≡ height'
  one-height entry at before before' height height' is is' =
      int-same height height' (λ other. no-bad entry at before height is
      (two_heights (has-height entry at before height is) (has-height entry at before' height' is') other))

  -- What a CALL removes.

  removed-for : (entry : ℕ) → HasEntry program.procs.items entry → (bytes : ℕ) × IsRemoved image layout entry bytes
  removed-for entry there =
      let found =
      zipped-get (λ (proc : Proc) (bytes : ℕ). IsRemoved image layout proc.entry bytes) program.procs.items
      program.heights.ret.items there.place there.proc p.is_program.heights.removed there.listed in
      (found.0, subst (λ n. IsRemoved image layout n found.0) there.entry_is found.1)

  pub removes-some : (entry : ℕ) → IsEntry image layout entry → (bytes : ℕ) × IsRemoved image layout entry bytes
  removes-some entry is_entry = removed-for entry (p.is_program.procs.every entry is_entry)

  pub removes-count :
      (entry at count bytes : ℕ) (before : List ℕ) (height : ℤ) → IsAt image layout entry at before height
      → StandsAt image layout at (Ret count)
      → IsRemoved image layout entry bytes
      → bytes ≡ count
  removes-count entry at count bytes before height is stands (by_ret reached) =
      nat-same bytes count (λ other. no-bad entry at before height is
      (two_sizes (node-of entry at before height is) stands reached (λ same. other (sym same))))
  removes-count entry at count _ before height is stands (without_ret none) =
      absurd (none count (record { at = at; node = node-of entry at before height is; stands = stands }))

  -- The height after an operation.

  module _ (entry at : ℕ) (before : List ℕ) (height : ℕ) (op : Op) (is : IsAt image layout entry at before (pos height))
      (stands : StandsAt image layout at op) where
    pub moved-there :
        ((count : ℕ) → op ≢ Ret count) → (after : ℕ) × MovesHeight image layout entry at op (pos height) (pos after)
    moved-there no_ret =
        let removes = λ (target : ℕ) (calls : op ≡ Call target).
        removes-some target
        (called is.is_entry (node-of entry at before (pos height) is) (stands.0, stands.1, stands.2 ∙ calls)) in
        let moved =
        moved-of image layout entry at op (pos height) (allowed-form entry at before (pos height) is op stands)
        (form-there entry at before (pos height) is op stands) no_ret removes in
        let fits =
        fits-after entry at before (pos height) is op moved.after stands moved.moves
        (heights-fit entry at before (pos height) is) in
        (fits.number, subst (λ z. MovesHeight image layout entry at op (pos height) z) fits.is moved.moves)

    module _ (after : ℕ) (moves : MovesHeight image layout entry at op (pos height) (pos after))
        (framed : is_framed image layout entry ≡ true) (stays : changes_frame op ≡ false) where
      deep-by : IsInner op → 2 ≤ height
      deep-by inner =
          let deep =
          needs-set-up entry at before (pos height) is op (heights-fit entry at before (pos height) is) stands framed
          inner in
          let same = deep.1 in
          let two = deep.2 in
          omega (arith, ints, same, two)

      at-either : (height ≡ 0) ⊎ (2 ≤ height)
      at-either =
          let fits = heights-fit entry at before (pos height) is in
          let same = fits.is in
          elim (fits.framed framed) [
            | inl none ↦ inl (omega (arith, ints, same, none))
            | inr deep ↦ inr (omega (arith, ints, same, deep))
          ]

      stays-by : Effect op (pos height) (pos after) → FrameStays height after
      stays-by (pushes {a} is_push same) =
          let other = push-stays a (sym (ap changes_frame is_push) ∙ stays) in
          let deep = deep-by (record { needs = ap needs_frame is_push; other = ap is_push_bp is_push ∙ other }) in
          inl (deep, (omega (arith, ints, same, deep)))
      stays-by (restores is_pop same) = absurd (true≢false (sym (ap changes_frame is_pop) ∙ stays))
      stays-by (raises raise other less) =
          elim at-either [
            | inl none ↦ absurd (omega (arith, ints, none, less))
            | inr deep ↦
                let saved =
                not-saved entry at before (pos height) is op (pos after) stands moves framed raise other
                (omega (arith, ints, deep)) less in
                inl (deep, (omega (arith, ints, saved)))
          ]
      stays-by (lowers inner more) = let deep = deep-by inner in inl (deep, (omega (arith, ints, deep, more)))
      stays-by (sets (inl inner) two) = inl (deep-by inner, (omega (arith, ints, two)))
      stays-by (sets (inr enters) two) = absurd (true≢false (sym (enter-changes op enters) ∙ stays))
      stays-by (clears is_leave same) = absurd (true≢false (sym (ap changes_frame is_leave) ∙ stays))
      stays-by (keeps same) =
          elim at-either [
            | inl none ↦ inr (none, (omega (arith, ints, none, same)))
            | inr deep ↦ inl (deep, (omega (arith, ints, deep, same)))
          ]

      pub frame-stays : FrameStays height after
      frame-stays = stays-by (effect-there entry at before (pos height) is op (pos after) stands moves)
