-- A small program: what its procedures keep, take and give back, what single instructions do, and near misses.
use Rattle.std.proofs.Common.{◌≡◌, ℕ, zero, suc, ◌<◌, ◌^◌, true, false, List, [], ◌∷◌, length, Some, None, refl, sym, ap, ◌∙◌, subst, true≢false, arith, inl, inr}
use Rattle.std.specs.Prelude.{ℤ, pos, Bool, ◌⊎◌, not, ◌&&◌, ◌||◌, Contains}
use Rattle.std.proofs.lemmas.List.Elements.{All-nil, All-cons, All-contains}
use denote.RawPtr.{null_ptr}
use Rattle.indexmap.specs.IndexMap.{hasher_of}
use Rattle.indexmap.specs.Layout.{hash_map}
use Rattle.std.specs.declared.vec.Vec.{Vec}
use Rattle.std.specs.declared.alloc.Global.{Global}
use Rattle.dcc_num.specs.declared.Width.TheVariants.{Word as word_width}
use Rattle.dcc_num.specs.declared.Reg.{Reg}
use Rattle.dcc_num.specs.declared.Reg.TheVariants.{Ax, Cx, Dx, Bx, Si, Bp}
use Rattle.dcc_num.specs.declared.Half.{Half}
use Rattle.dcc_num.specs.declared.Half.TheVariants.{Low, High}
use Rattle.dcc_num.specs.declared.FlagName.TheVariants.{Cf, Zf, Of}
use Rattle.dcc_num.specs.Numbers.{signed_of}
use Rattle.dcc_machine.specs.declared.instr.Alu.TheVariants.{Add, And, Sub, Xor}
use Rattle.dcc_machine.specs.declared.instr.Shift.TheVariants.{Shl}
use Rattle.dcc_machine.specs.declared.instr.Count.TheVariants.{One, Cl, Const as ConstCount}
use Rattle.dcc_machine.specs.declared.instr.Unary.TheVariants.{Inc, Div}
use Rattle.dcc_machine.specs.declared.instr.Operand.{Operand}
use Rattle.dcc_machine.specs.declared.instr.Operand.TheVariants.{Word, Byte, Mem, Const}
use Rattle.dcc_machine.specs.declared.instr.Op.{Op}
use Rattle.dcc_machine.specs.declared.instr.Op.TheVariants.{Alu as AluOp, Unary as UnaryOp, Shift as ShiftOp, Mov, Xchg, Push, Pop, Jump, Call, Ret, Int21}
use Rattle.dcc_prog.specs.declared.procedure.Node.{Node}
use Rattle.dcc_prog.specs.declared.procedure.Proc.{Proc}
use Rattle.dcc_prog.specs.declared.frame.Cell.{Cell}
use Rattle.dcc_prog.specs.declared.frame.Frame.{Frame}
use Rattle.dcc_machine.specs.Writes.{is_same_register}
use Rattle.dcc_machine.specs.Wanted.{Location, half_of, flag_of, is_read, alu_makes, makes}
use Rattle.dcc_machine.proofs.AlikeValues.{and-parts, or-parts}
use Rattle.dcc_machine.specs.Machine.{reg_number, is_general}
use Rattle.dcc_demand.specs.Procedures.{Leaves, Copies, Pops, Makes, LeavesWord, Pushes, Overwrites, Action, Procedure, Procedures, ChangeFamily, CallChanges, is_left}
use Rattle.dcc_demand.specs.Trail.{IsTrail}
use Rattle.dcc_demand.specs.Changes.{IsUnsaved, Loses, Changes, ChangesWithin, IsPreserved}
use Rattle.dcc_demand.specs.Wanted.{Wanted, IsWantedBy, IsParam, IsResult}
use Rattle.dcc_demand.proofs.ChangeLaws.{changes-closed}
use Rattle.dcc_machine_demand.specs.Bodies.{Body}
use Rattle.dcc_machine_demand.specs.Holders.{Holder, held, in_frame, passes}
use Rattle.dcc_machine_demand.proofs.PlaceLaws.{same-register}
use Rattle.dcc_machine_demand.specs.Instance.{action_of, procedures_of}
use Rattle.dcc_prog.specs.declared.refusal.ConstructKind.TheVariants.{SeveralResults}
use Rattle.dcc_machine_demand.specs.Asked.{IsHalfOf, of_register, of_flag, of_pair, GivesSeveral, IsOfSummaries}
use Rattle.dcc_machine_demand.specs.Asked.{several_results}

abbrev pub vec_with : {T : Type 0} (xs : List T) → length xs < 2 ^ 63 → Vec T Global
vec_with xs few = record { ptr = null_ptr; len = length xs; cap = length xs; alloc = record { memory = record { seal = tt } }; items = xs; ok = (refl, omega arith); small = few }

-- an instruction whose next ones stand there
abbrev pub node_of : Op → List ℕ → Node
node_of op next = record { instr = record { op = op; len = 2 }; succ = record { items = next; capacity = 2 }; number = None }

abbrev pub half : Reg → Half → Holder
half r h = held (half_of r h)

abbrev al : Holder
al = half Ax Low

abbrev si : Holder
si = half Si Low

-- the word at SI, and at BP and a displacement
abbrev pub at_si : Operand
at_si = Mem word_width (record { base = None; index = Some Si; disp = 0 })

abbrev pub at_bp : ℕ → Operand
at_bp disp = Mem word_width (record { base = Some Bp; index = None; disp = disp })

pub here : {x : ℕ} → Contains (x ∷ []) x
here = (0, omega arith, refl)

-- the one element of a list
pub at_only : (P : ℕ → Type 0) {x y : ℕ} → Contains (x ∷ []) y → P x → P y
at_only P {x} {y} c h = All-contains P (x ∷ []) y (All-cons P x [] h (All-nil P)) c

none_there : {A : Type 0} {x : ℕ} → Contains [] x → A
none_there c = absurd (omega (arith, c.1))

-- A location that is pushed into a private word, written and popped from there is saved, where the three instructions
-- stand at these points.
module _ (P : Procedure ℕ Holder ℤ) (l : Holder) (word : ℤ) (first second third : ℕ)
    (pushes : (P.action first).word_effect word ≡ Pushes l) (leaves : (P.action second).word_effect word ≡ LeavesWord)
    (pops : (P.action third).effect l ≡ Pops word) (private : P.is_private word ≡ true) (uncalled : (P.action third).callee ≡ None)
    (changed : ChangeFamily Holder) where
  unpushed : IsUnsaved changed P l word (first ∷ []) → ⊥
  unpushed (IsUnsaved.overwritten e) = absurd (cc)
  unpushed (IsUnsaved.by_other e n) = n (cc)
  unpushed (IsUnsaved.too_late e w) = elim w [ ]
  unpushed (IsUnsaved.kept e h) = absurd (cc)

  unkept : IsUnsaved changed P l word (second ∷ first ∷ []) → ⊥
  unkept (IsUnsaved.overwritten e) = absurd (cc)
  unkept (IsUnsaved.by_other e n) = absurd (cc)
  unkept (IsUnsaved.too_late e w) = absurd (cc)
  unkept (IsUnsaved.kept e h) = unpushed h

  unlost : Loses changed P l (third ∷ second ∷ first ∷ []) → ⊥
  unlost (Loses.in_call c) = subst (λ o. CallChanges changed o l) uncalled c
  unlost (Loses.made e) = absurd (cc)
  unlost (Loses.copied e) = absurd (cc)
  unlost (Loses.popped_open {word = w} e reached) =
      let same : w ≡ word = cc in true≢false (sym private ∙ subst (λ x. P.is_private x ≡ false) same reached)
  unlost (Loses.popped_unsaved {word = w} e u) =
      let same : w ≡ word = cc in unkept (subst (λ x. IsUnsaved changed P l x (second ∷ first ∷ [])) same u)
  unlost (Loses.left e h) = absurd (cc)

-- whatever else the procedures and frames are
module _ (proc : Proc) (frame : Frame) where
  abbrev pub body_with : ℕ → List (ℕ × Node) → List (ℕ × ℕ) → (cells : List Cell) → length cells < 2 ^ 63 → Body
  body_with entry nodes heights cells few = record {
    proc = record proc { entry = entry; nodes = hash_map nodes (hasher_of proc.nodes) 0 };
    frame = record frame {
      framed = false;
      args = 0;
      cells = vec_with cells few;
      exposed = record { local = 0; arg = None };
    };
    heights = heights;
  }

  -- `call 20h; call 30h; mov [si],ax`, and then a jump to itself
  abbrev caller : Body
  caller = body_with 0
      ((0, node_of (Call 0x20) (3 ∷ [])) ∷ (3, node_of (Call 0x30) (6 ∷ [])) ∷ (6, node_of (Mov at_si (Word Ax)) (8 ∷ []))
      ∷ (8, node_of (Jump 8) (8 ∷ [])) ∷ [])
      ((0, 0) ∷ (3, 0) ∷ (6, 0) ∷ (8, 0) ∷ []) [] (omega arith)

  -- `push si; inc si; pop si; ret`
  abbrev saver : Body
  saver = body_with 0x10
      ((0x10, node_of (Push (Word Si)) (0x11 ∷ [])) ∷ (0x11, node_of (UnaryOp Inc (Word Si)) (0x12 ∷ []))
      ∷ (0x12, node_of (Pop (Word Si)) (0x13 ∷ [])) ∷ (0x13, node_of (Ret 0) []) ∷ [])
      ((0x10, 0) ∷ (0x11, 2) ∷ (0x12, 2) ∷ (0x13, 0) ∷ []) (record { first = pos 0; size = 2 } ∷ []) (omega arith)

  -- `add ax,bx; ret`
  abbrev adder : Body
  adder = body_with 0x20 ((0x20, node_of (AluOp Add (Word Ax) (Word Bx)) (0x22 ∷ [])) ∷ (0x22, node_of (Ret 0) []) ∷ [])
      ((0x20, 0) ∷ (0x22, 0) ∷ []) [] (omega arith)

  -- `xchg ax,si; ret`
  abbrev exchanger : Body
  exchanger = body_with 0x30 ((0x30, node_of (Xchg (Word Ax) (Word Si)) (0x31 ∷ [])) ∷ (0x31, node_of (Ret 0) []) ∷ [])
      ((0x30, 0) ∷ (0x31, 0) ∷ []) [] (omega arith)

  abbrev bodies : List Body
  bodies = caller ∷ saver ∷ adder ∷ exchanger ∷ []

  abbrev P : Procedures ℕ Holder ℤ
  P = procedures_of bodies

  -- What is saved.

  -- the trails of the saver
  data Along : List ℕ → ℕ → Type 0 where
    first : Along [] 0x10
    second : Along (0x10 ∷ []) 0x11
    third : Along (0x11 ∷ 0x10 ∷ []) 0x12
    fourth : Along (0x12 ∷ 0x11 ∷ 0x10 ∷ []) 0x13

  along_next : {passed : List ℕ} {a b : ℕ} → Along passed a → Contains ((P.procedure 0x10).next a) b → Along (a ∷ passed) b
  along_next first c = at_only (Along (0x10 ∷ [])) c second
  along_next second c = at_only (Along (0x11 ∷ 0x10 ∷ [])) c third
  along_next third c = at_only (Along (0x12 ∷ 0x11 ∷ 0x10 ∷ [])) c fourth
  along_next fourth c = none_there c

  along : {passed : List ℕ} {a : ℕ} → IsTrail (P.procedure 0x10) passed a → Along passed a
  along IsTrail.enters = first
  along (IsTrail.goes_on trail c) = along_next (along trail) c

  returns_there : {passed : List ℕ} {a : ℕ} → Along passed a → (P.procedure 0x10).returns a ≡ true → passed ≡ 0x12 ∷ 0x11 ∷ 0x10 ∷ []
  returns_there first e = absurd (true≢false (sym e))
  returns_there second e = absurd (true≢false (sym e))
  returns_there third e = absurd (true≢false (sym e))
  returns_there fourth e = refl

  keeps : (l : Holder) → (P.passes l ≡ true) → ((changed : ChangeFamily Holder) → Loses changed (P.procedure 0x10) l (0x12 ∷ 0x11 ∷ 0x10 ∷ []) → ⊥) → IsPreserved P 0x10 l
  keeps l is out = (is, λ c. go c.0 c.1)
    where
      go : (depth : ℕ) → ChangesWithin P depth 0x10 l → ⊥
      go zero h = h
      go (suc depth) h = out (ChangesWithin P depth) (subst (Loses (ChangesWithin P depth) (P.procedure 0x10) l) (returns_there (along h.trail) h.returns) h.loses)

  -- SI is kept, half by half
  si_is_preserved : (h : Half) → IsPreserved P 0x10 (half Si h)
  si_is_preserved Low = keeps (half Si Low) refl (unlost (P.procedure 0x10) (half Si Low) (pos 0) 0x10 0x11 0x12 refl refl refl refl refl)
  si_is_preserved High = keeps (half Si High) refl (unlost (P.procedure 0x10) (half Si High) (pos 1) 0x10 0x11 0x12 refl refl refl refl refl)

  -- the flags of the saver aren't kept: INC writes ZF
  zf_is_changed : Changes P 0x10 (held (flag_of Zf))
  zf_is_changed = changes-closed P 0x10 (held (flag_of Zf)) (record {
    passes = refl;
    passed = 0x12 ∷ 0x11 ∷ 0x10 ∷ [];
    at = 0x13;
    trail = IsTrail.goes_on (IsTrail.goes_on (IsTrail.goes_on IsTrail.enters here) here) here;
    returns = refl;
    loses = Loses.left refl (Loses.made refl);
  })

  -- What is given back and taken: the store wants AX and SI, of which the exchanger makes each from the other.

  abbrev other : Reg → Reg
  other Ax = Si
  other r = Ax

  stored : (h : Half) → Wanted P 0 6 (half Ax h) × Wanted P 0 6 (half Si h)
  stored Low = (IsWantedBy.used refl, IsWantedBy.used refl)
  stored High = (IsWantedBy.used refl, IsWantedBy.used refl)

  -- what one instruction and a RET after it change
  changed_by : (i next : ℕ) (l : Holder) → P.passes l ≡ true → Contains ((P.procedure i).next (P.procedure i).entry) next → (P.procedure i).returns next ≡ true
      → Loses (Changes P) (P.procedure i) l ((P.procedure i).entry ∷ []) → Changes P i l
  changed_by i next l is goes returns loses = changes-closed P i l (record {
    passes = is;
    passed = (P.procedure i).entry ∷ [];
    at = next;
    trail = IsTrail.goes_on IsTrail.enters goes;
    returns = returns;
    loses = loses;
  })

  exchanges : (h : Half) → Changes P 0x30 (half Ax h) × Changes P 0x30 (half Si h)
  exchanges Low = (changed_by 0x30 0x31 (half Ax Low) refl here refl (Loses.copied refl), changed_by 0x30 0x31 (half Si Low) refl here refl (Loses.copied refl))
  exchanges High = (changed_by 0x30 0x31 (half Ax High) refl here refl (Loses.copied refl), changed_by 0x30 0x31 (half Si High) refl here refl (Loses.copied refl))

  gives : (h : Half) → IsResult P 0x30 (half Ax h) × IsResult P 0x30 (half Si h)
  gives h = (
    record { changes = (exchanges h).0; caller = 0; call = 3; after = 6; calls = refl; goes = here; wanted = (stored h).0 },
    record { changes = (exchanges h).1; caller = 0; call = 3; after = 6; calls = refl; goes = here; wanted = (stored h).1 },
  )

  -- AX before the exchange, and so before the call of it
  exchanged : (h : Half) → Wanted P 0x30 0x30 (half Ax h)
  exchanged h = made h (IsWantedBy.given_back {caller = 0} {call = 3} {after = 6} refl (exchanges h).1 refl here (stored h).1)
    where
      made : (h : Half) → Wanted P 0x30 0x31 (half Si h) → Wanted P 0x30 0x30 (half Ax h)
      made Low w = IsWantedBy.made_of {to = half Si Low} here refl refl w
      made High w = IsWantedBy.made_of {to = half Si High} here refl refl w

  asked : (h : Half) → Wanted P 0 3 (half Ax h)
  asked Low = IsWantedBy.taken {callee = 0x30} refl refl (exchanged Low)
  asked High = IsWantedBy.taken {callee = 0x30} refl refl (exchanged High)

  -- the adder gives AX back, as its caller wants it
  adds : (h : Half) → Changes P 0x20 (half Ax h)
  adds Low = changed_by 0x20 0x22 (half Ax Low) refl here refl (Loses.made refl)
  adds High = changed_by 0x20 0x22 (half Ax High) refl here refl (Loses.made refl)

  sum_is_given : (h : Half) → IsResult P 0x20 (half Ax h)
  sum_is_given h = record { changes = adds h; caller = 0; call = 0; after = 3; calls = refl; goes = here; wanted = asked h }

  -- the adder takes AX and BX: each half of the sum is made of both halves of both
  sum_is_wanted : (h : Half) → Wanted P 0x20 0x22 (half Ax h)
  sum_is_wanted h = IsWantedBy.given_back {caller = 0} {call = 0} {after = 3} refl (adds h) refl here (asked h)

  takes_ax : (h : Half) → IsParam P 0x20 (half Ax h)
  takes_ax Low = record { passes = refl; wanted = IsWantedBy.made_of {to = half Ax Low} here refl refl (sum_is_wanted Low) }
  takes_ax High = record { passes = refl; wanted = IsWantedBy.made_of {to = half Ax Low} here refl refl (sum_is_wanted Low) }

  takes_bx : (h : Half) → IsParam P 0x20 (half Bx h)
  takes_bx Low = record { passes = refl; wanted = IsWantedBy.made_of {to = half Ax Low} here refl refl (sum_is_wanted Low) }
  takes_bx High = record { passes = refl; wanted = IsWantedBy.made_of {to = half Ax Low} here refl refl (sum_is_wanted Low) }

  -- the adder takes nothing else

  -- the adder loses nothing that its ADD leaves
  added : (changed : ChangeFamily Holder) (l : Holder) → Loses changed (P.procedure 0x20) l (0x20 ∷ []) → is_left (((P.procedure 0x20).action 0x20).effect l) ≡ false
  added changed l (Loses.in_call c) = absurd c
  added changed l (Loses.made e) = ap is_left e
  added changed l (Loses.copied e) = ap is_left e
  added changed l (Loses.popped_open e private) = ap is_left e
  added changed l (Loses.popped_unsaved e u) = ap is_left e
  added changed l (Loses.left e h) = elim h [ ]

  -- the trails of the adder
  data Added : List ℕ → ℕ → Type 0 where
    begun : Added [] 0x20
    ended : Added (0x20 ∷ []) 0x22

  added_next : {passed : List ℕ} {a b : ℕ} → Added passed a → Contains ((P.procedure 0x20).next a) b → Added (a ∷ passed) b
  added_next begun c = at_only (Added (0x20 ∷ [])) c ended
  added_next ended c = none_there c

  along_added : {passed : List ℕ} {a : ℕ} → IsTrail (P.procedure 0x20) passed a → Added passed a
  along_added IsTrail.enters = begun
  along_added (IsTrail.goes_on trail c) = added_next (along_added trail) c

  added_there : {passed : List ℕ} {a : ℕ} → Added passed a → (P.procedure 0x20).returns a ≡ true → passed ≡ 0x20 ∷ []
  added_there begun e = absurd (true≢false (sym e))
  added_there ended e = refl

  changes_written : (l : Holder) → Changes P 0x20 l → is_left (((P.procedure 0x20).action 0x20).effect l) ≡ false
  changes_written l c = go c.0 c.1
    where
      go : (depth : ℕ) → ChangesWithin P depth 0x20 l → is_left (((P.procedure 0x20).action 0x20).effect l) ≡ false
      go zero h = absurd h
      go (suc depth) h = added (ChangesWithin P depth) l (subst (Loses (ChangesWithin P depth) (P.procedure 0x20) l) (added_there (along_added h.trail) h.returns) h.loses)

  -- what the adding procedure changes it surely writes
  surely_added : (l : Location) → is_left (((P.procedure 0x20).action 0x20).effect (held l)) ≡ false → ((P.procedure 0x20).action 0x20).surely (held l) ≡ true
  surely_added (half_of r h) e = ap (λ b. not b && true) e
  surely_added (flag_of flag) e = ap (λ b. not b && true) e

  -- of what is wanted at its RET it changes all
  returned_is_changed : (l : Holder) → Wanted P 0x20 0x22 l → Changes P 0x20 l
  returned_is_changed l (IsWantedBy.used e) = absurd (true≢false (sym (unused l e)))
    where
      unused : (l : Holder) → ((P.procedure 0x20).action 0x22).uses l ≡ true → false ≡ true
      unused (held (half_of r h)) e = absurd (true≢false (sym (and-parts (is_general r) false e).1))
      unused (held (flag_of flag)) e = e
      unused (in_frame k) e = e
  returned_is_changed l (IsWantedBy.exposed e) = absurd (true≢false (sym (unexposed l e)))
    where
      unexposed : (l : Holder) → (P.procedure 0x20).is_exposed l ≡ true → false ≡ true
      unexposed (held l) e = e
      unexposed (in_frame k) e = e
  returned_is_changed l (IsWantedBy.made_of goes written made w) = none_there goes
  returned_is_changed l (IsWantedBy.unwritten goes sure uncalled w) = none_there goes
  returned_is_changed l (IsWantedBy.taken e passing w) = absurd (cc)
  returned_is_changed l (IsWantedBy.given_back e changed calls goes w) = changed

  read_of : (r : Reg) (l : Location) → is_read l (Word r) ≡ true → IsHalfOf r l
  read_of r (half_of q h) e = (h, ap (λ x. half_of x h) (same-register q r (half-or (is_same_register q r) e)))
    where
      half-or : (b : Bool) → (b || false) ≡ true → b ≡ true
      half-or true e = refl
      half-or false e = e
  read_of r (flag_of flag) e = absurd (true≢false (sym e))

  made_from : (to : Holder) (l : Location) → ((P.procedure 0x20).action 0x20).made_of to (held l) ≡ true → IsHalfOf Ax l ⊎ IsHalfOf Bx l
  made_from (held t) l e =
      let value = (and-parts (passes (held l)) (makes (AluOp Add (Word Ax) (Word Bx)) t l && true) e).1 in
      let made = (and-parts (makes (AluOp Add (Word Ax) (Word Bx)) t l) true value).0 in
      let reads = (and-parts (alu_makes Add (Word Ax) t) (is_read l (Word Ax) || (is_read l (Word Bx) || false)) made).1 in
      elim (or-parts (is_read l (Word Ax)) (is_read l (Word Bx) || false) reads) [
        | inl one ↦ inl (read_of Ax l one)
        | inr rest ↦ elim (or-parts (is_read l (Word Bx)) false rest) [ inl two ↦ inr (read_of Bx l two) | inr none ↦ absurd (true≢false (sym none)) ]
      ]
  made_from (in_frame k) l e = absurd (true≢false (sym (and-parts (passes (held l)) false e).1))

  -- the adder takes halves of AX and BX alone
  takes_no_other : (l : Location) → IsParam P 0x20 (held l) → IsHalfOf Ax l ⊎ IsHalfOf Bx l
  takes_no_other l param = go param.wanted
    where
      go : Wanted P 0x20 0x20 (held l) → IsHalfOf Ax l ⊎ IsHalfOf Bx l
      go (IsWantedBy.used e) = absurd (true≢false (sym (and-parts (passes (held l)) false e).1))
      go (IsWantedBy.exposed e) = absurd (true≢false (sym e))
      go (IsWantedBy.made_of {to = to} goes written made w) = made_from to l made
      go (IsWantedBy.unwritten goes sure uncalled w) =
          let there = at_only (λ b. Wanted P 0x20 b (held l) → Wanted P 0x20 0x22 (held l)) goes (λ h. h) w in
          absurd (true≢false (sym (surely_added l (changes_written (held l) (returned_is_changed (held l) there))) ∙ sure))
      go (IsWantedBy.taken e passing w) = absurd (cc)
      go (IsWantedBy.given_back e changed calls goes w) = absurd (true≢false (sym e))

  -- Several values: AX and SI together are none.
  several : GivesSeveral bodies 0x30
  several (of_register r all) =
      let one = (all (half_of Ax Low) (gives Low).0).1 in
      let two = (all (half_of Si Low) (gives Low).1).1 in
      let e : Ax ≡ r = cc in
      let f : Si ≡ r = cc in
      let numbers : 0 ≡ 6 = ap reg_number (e ∙ sym f) in omega (arith, numbers)
  several (of_flag flag all) = let one = all (half_of Ax Low) (gives Low).0 in absurd (cc)
  several (of_pair all) = elim (all (half_of Si Low) (gives Low).1) [
    | inl is ↦ (let e = is.1 in let f : Si ≡ Ax = cc in let numbers : 6 ≡ 0 = ap reg_number f in omega (arith, numbers))
    | inr is ↦ (let e = is.1 in let f : Si ≡ Dx = cc in let numbers : 6 ≡ 2 = ap reg_number f in omega (arith, numbers))
  ]

  -- a construct of several results stands at the exchanger's entry
  is_refused : IsOfSummaries bodies SeveralResults 0x30
  is_refused = several_results {body = exchanger} (3, omega arith, refl) several

  -- Single instructions, of a procedure whose frame has a cell for the word at the top.

  -- what an operation does at a height
  abbrev doing : ℕ → Op → Action Holder ℤ
  doing height op = action_of bodies saver (record { node = node_of op []; height = height })

  -- what a DOS call does
  abbrev calling : ℕ → Action Holder ℤ
  calling number = action_of bodies saver (record { node = record (node_of Int21 []) { number = Some number }; height = 0 })

  -- `pop cx` uses nothing; CL is made of the popped cell's first byte and CH of its second
  pop_makes :
      ((doing 2 (Pop (Word Cx))).uses (in_frame (pos 0)) ≡ false)
      × ((doing 2 (Pop (Word Cx))).effect (half Cx Low) ≡ Pops (pos 0))
      × ((doing 2 (Pop (Word Cx))).made_of (half Cx Low) (in_frame (pos 0)) ≡ true)
      × ((doing 2 (Pop (Word Cx))).made_of (half Cx Low) (in_frame (pos 1)) ≡ false)
      × ((doing 2 (Pop (Word Cx))).made_of (half Cx High) (in_frame (pos 1)) ≡ true)
      × ((doing 2 (Pop (Word Cx))).surely (half Cx High) ≡ true)
  pop_makes = (refl, refl, refl, refl, refl, refl)

  -- a PUSH writes the cell byte by byte
  push_copies :
      ((doing 0 (Push (Word Cx))).effect (in_frame (pos 1)) ≡ Copies (half Cx High))
      × ((doing 0 (Push (Word Cx))).word_effect (pos 1) ≡ Pushes (half Cx High))
      × ((doing 0 (Push (Word Cx))).uses (half Cx High) ≡ false)
      × ((doing 0 (Push (Const word_width 1))).word_effect (pos 0) ≡ Overwrites)
  push_copies = (refl, refl, refl, refl)

  -- near miss: a word that stands in no cell is memory, so its PUSH is a store
  push_stores : (doing 4 (Push (Word Cx))).uses (half Cx High) ≡ true
  push_stores = refl

  -- a shift by CL lets CF through, one by 1 doesn't
  shift_lets_through :
      ((doing 0 (ShiftOp Shl (Word Ax) Cl)).effect (held (flag_of Cf)) ≡ Makes)
      × ((doing 0 (ShiftOp Shl (Word Ax) Cl)).surely (held (flag_of Cf)) ≡ false)
      × ((doing 0 (ShiftOp Shl (Word Ax) Cl)).surely (half Ax Low) ≡ true)
      × ((doing 0 (ShiftOp Shl (Word Ax) One)).surely (held (flag_of Cf)) ≡ true)
  shift_lets_through = (refl, refl, refl, refl)

  -- OF is 0 after a shift by a constant other than 1; a count of 0 leaves the flags
  shift_clears :
      ((doing 0 (ShiftOp Shl (Word Ax) (ConstCount 3))).made_of (held (flag_of Of)) (half Ax High) ≡ false)
      × ((doing 0 (ShiftOp Shl (Word Ax) (ConstCount 33))).made_of (held (flag_of Of)) (half Ax High) ≡ true)
      × ((doing 0 (ShiftOp Shl (Word Ax) (ConstCount 32))).effect (held (flag_of Of)) ≡ Leaves)
      × ((doing 0 (ShiftOp Shl (Word Ax) (ConstCount 32))).effect (half Ax High) ≡ Makes)
  shift_clears = (refl, refl, refl, refl)

  -- a division uses its operand and AL or AX
  division_takes :
      ((doing 0 (UnaryOp Div (Byte Bx Low))).uses (half Ax Low) ≡ true)
      × ((doing 0 (UnaryOp Div (Byte Bx Low))).uses (half Ax High) ≡ false)
      × ((doing 0 (UnaryOp Div (Byte Bx Low))).uses (half Bx Low) ≡ true)
      × ((doing 0 (UnaryOp Div (Word Bx))).uses (half Ax High) ≡ true)
      × ((doing 0 (UnaryOp Div (Word Bx))).uses (half Dx Low) ≡ false)
      × ((doing 0 (UnaryOp Div (Word Bx))).effect (half Dx Low) ≡ Makes)
  division_takes = (refl, refl, refl, refl, refl, refl)

  -- a DOS call uses what it takes, and not AH; 01h gives AL, 02h leaves it
  dos_takes :
      ((calling 0x02).uses (half Dx Low) ≡ true) × ((calling 0x02).uses (half Ax High) ≡ false)
      × ((calling 0x02).effect al ≡ Leaves) × ((calling 0x01).effect al ≡ Makes)
  dos_takes = (refl, refl, refl, refl)

  -- an exchange goes half by half, `and` takes both halves of both
  halves_apart :
      ((doing 0 (Xchg (Word Ax) (Word Si))).made_of (half Ax Low) (half Si Low) ≡ true)
      × ((doing 0 (Xchg (Word Ax) (Word Si))).made_of (half Ax Low) (half Si High) ≡ false)
      × ((doing 0 (AluOp And (Word Ax) (Word Bx))).made_of (half Ax Low) (half Bx High) ≡ true)
      × ((doing 0 (AluOp And (Word Ax) (Word Bx))).made_of (held (flag_of Cf)) (half Bx High) ≡ false)
  halves_apart = (refl, refl, refl, refl)

  -- XOR and SUB of a register with itself, or of a half of one, make what they write, flags too, of nothing
  zeroes :
      ((doing 0 (AluOp Xor (Word Dx) (Word Dx))).effect (half Dx High) ≡ Makes)
      × ((doing 0 (AluOp Xor (Word Dx) (Word Dx))).made_of (half Dx High) (half Dx High) ≡ false)
      × ((doing 0 (AluOp Xor (Word Dx) (Word Dx))).made_of (held (flag_of Zf)) (half Dx Low) ≡ false)
      × ((doing 0 (AluOp Xor (Word Dx) (Word Dx))).surely (held (flag_of Zf)) ≡ true)
      × ((doing 0 (AluOp Sub (Byte Ax Low) (Byte Ax Low))).effect al ≡ Makes)
      × ((doing 0 (AluOp Sub (Byte Ax Low) (Byte Ax Low))).made_of al al ≡ false)
  zeroes = (refl, refl, refl, refl, refl, refl)

  -- near misses: two registers, two halves of one, and AND
  not_zeroing :
      ((doing 0 (AluOp Xor (Word Ax) (Word Bx))).made_of (half Ax Low) (half Bx Low) ≡ true)
      × ((doing 0 (AluOp Sub (Byte Ax Low) (Byte Ax High))).made_of al al ≡ true)
      × ((doing 0 (AluOp And (Word Ax) (Word Ax))).made_of al al ≡ true)
  not_zeroing = (refl, refl, refl)

  -- BP is no place, and what lies elsewhere is stored
  stores :
      ((doing 0 (Mov at_si (Word Ax))).uses (half Ax Low) ≡ true) × ((doing 0 (Mov at_si (Word Ax))).uses (half Si High) ≡ true)
      × ((doing 0 (Mov (Word Bx) (Word Bp))).made_of (half Bx Low) (half Bp Low) ≡ false)
      × ((doing 0 (Mov (Word Bx) (Word Bp))).effect (half Bx Low) ≡ Makes)
  stores = (refl, refl, refl, refl)

  -- where the procedure sets up BP, the cell at BP is written by a direct access: no store, but of both its bytes and AX
  abbrev framed : Body
  framed = record saver { frame = record saver.frame { framed = true } }

  abbrev adding : Action Holder ℤ
  adding = action_of bodies framed (record { node = node_of (AluOp Add (at_bp 0) (Word Ax)) []; height = 4 })

  cells_are_places :
      (adding.uses (half Ax Low) ≡ false) × (adding.uses (in_frame (pos 0)) ≡ false)
      × (adding.effect (in_frame (pos 1)) ≡ Makes) × (adding.made_of (in_frame (pos 1)) (in_frame (pos 0)) ≡ true)
      × (adding.made_of (in_frame (pos 1)) (half Ax Low) ≡ true) × (adding.made_of (held (flag_of Cf)) (in_frame (pos 1)) ≡ true)
      × (adding.word_effect (pos 0) ≡ Overwrites)
  unfolding signed_of
  cells_are_places = (refl, refl, refl, refl, refl, refl, refl)
