-- A small program that passes an argument on the stack: what a POP wants, and an argument that is reused.
use Rattle.std.proofs.Common.{◌≡◌, ℕ, true, false, List, [], ◌∷◌, None, refl, sym, subst, true≢false, arith, inl, inr, ◌⊎◌}
use Rattle.std.specs.Prelude.{ℤ, pos, ◌&&◌, ◌||◌, Contains}
use Rattle.dcc_num.specs.declared.Reg.{Reg}
use Rattle.dcc_num.specs.declared.Reg.TheVariants.{Ax, Cx, Dx, Bx, Sp, Bp, Si, Di}
use Rattle.dcc_num.specs.declared.Half.{Half}
use Rattle.dcc_num.specs.declared.Half.TheVariants.{Low, High}
use Rattle.dcc_num.specs.Numbers.{signed_of}
use Rattle.dcc_machine.specs.declared.instr.Operand.TheVariants.{Word}
use Rattle.dcc_machine.specs.declared.instr.Op.{Op}
use Rattle.dcc_machine.specs.declared.instr.Op.TheVariants.{Mov, Push, Pop, Jump, Call, Ret}
use Rattle.dcc_prog.specs.declared.procedure.Proc.{Proc}
use Rattle.dcc_prog.specs.declared.frame.Frame.{Frame}
use Rattle.dcc_machine.specs.Wanted.{half_of, flag_of}
use Rattle.dcc_machine.specs.Writes.{is_same_register, is_same_half}
use Rattle.dcc_demand.specs.Procedures.{Procedures}
use Rattle.dcc_demand.specs.Wanted.{Wanted, IsWantedBy}
use Rattle.dcc_machine_demand.specs.Bodies.{Body, body_at}
use Rattle.dcc_machine_demand.specs.Holders.{Holder, held, in_frame}
use Rattle.dcc_machine_demand.specs.Instance.{touched_of, procedures_of}
use Rattle.dcc_prog.specs.declared.refusal.ConstructKind.TheVariants.{ArgumentReused}
use Rattle.dcc_machine_demand.specs.Asked.{IsReused, IsOfSummaries, argument_reused}
use Rattle.dcc_machine_demand.proofs.Examples.{vec_with, node_of, half, at_si, at_bp, here, at_only, body_with}

no : {A : Type 0} → false ≡ true → A
no e = absurd (true≢false (sym e))

-- the place of which CL alone is made
cl-alone : (r : Reg) (h : Half) → ((is_same_register r Cx && is_same_half h Low) && true || ((is_same_register r Cx && is_same_half h High) && false || false)) ≡ true → half r h ≡ half Cx Low
cl-alone Cx Low e = refl
cl-alone Cx High e = no e
cl-alone Ax h e = no e
cl-alone Dx h e = no e
cl-alone Bx h e = no e
cl-alone Sp h e = no e
cl-alone Bp h e = no e
cl-alone Si h e = no e
cl-alone Di h e = no e

-- whatever else the procedures and frames are
module _ (proc : Proc) (frame : Frame) where
  -- `push cx; call 50h; pop cx; mov [si],cx`, and then a jump to itself
  abbrev caller : Body
  caller = body_with proc frame 0
      ((0, node_of (Push (Word Cx)) (1 ∷ [])) ∷ (1, node_of (Call 0x50) (4 ∷ [])) ∷ (4, node_of (Pop (Word Cx)) (5 ∷ []))
      ∷ (5, node_of (Mov at_si (Word Cx)) (7 ∷ [])) ∷ (7, node_of (Jump 7) (7 ∷ [])) ∷ [])
      ((0, 0) ∷ (1, 2) ∷ (4, 2) ∷ (5, 0) ∷ (7, 0) ∷ []) (record { first = pos 0; size = 2 } ∷ []) (omega arith)

  -- `push bp; mov bp,sp`, the MOV, `pop bp; ret`: a framed procedure with one argument
  abbrev callee_with : ℕ → Op → Body
  callee_with entry op = record (body_with proc frame entry
      ((entry, node_of (Push (Word Bp)) (0x51 ∷ [])) ∷ (0x51, node_of (Mov (Word Bp) (Word Sp)) (0x53 ∷ [])) ∷ (0x53, node_of op (0x56 ∷ []))
      ∷ (0x56, node_of (Pop (Word Bp)) (0x57 ∷ [])) ∷ (0x57, node_of (Ret 0) []) ∷ [])
      ((entry, 0) ∷ (0x51, 2) ∷ (0x53, 2) ∷ (0x56, 2) ∷ (0x57, 0) ∷ []) [] (omega arith)) {
        frame = record frame {
          framed = true;
          args = 1;
          cells = vec_with (record { first = pos 4; size = 2 } ∷ []) (omega arith);
          exposed = record { local = 0; arg = None };
        };
      }

  -- one writes its argument, one reads it
  abbrev writer : Body
  writer = callee_with 0x50 (Mov (at_bp 4) (Word Ax))

  abbrev reader : Body
  reader = callee_with 0x50 (Mov (Word Ax) (at_bp 4))

  abbrev bodies : List Body
  bodies = caller ∷ writer ∷ []

  abbrev P : Procedures ℕ Holder ℤ
  P = procedures_of bodies

  -- CX is stored, so the cell is wanted before the POP
  cell_is_wanted : Wanted P 0 4 (in_frame (pos 0))
  cell_is_wanted = IsWantedBy.made_of {to = half Cx Low} here refl refl (IsWantedBy.used refl)

  after : (place : Holder) {b : ℕ} → Contains (5 ∷ []) b → Wanted P 0 b place → Wanted P 0 5 place
  after place goes w = at_only (λ b. Wanted P 0 b place → Wanted P 0 5 place) goes (λ h. h) w

  -- a byte of the cell is wanted before the POP only where its half of CX is wanted after it, or the byte itself is
  pop_wants : Wanted P 0 4 (in_frame (pos 0)) → Wanted P 0 5 (half Cx Low) ⊎ Wanted P 0 5 (in_frame (pos 0))
  pop_wants (IsWantedBy.used e) = no e
  pop_wants (IsWantedBy.exposed e) = no e
  pop_wants (IsWantedBy.made_of {to = held (half_of r h)} goes written made w) =
      inl (subst (Wanted P 0 5) (cl-alone r h made) (after (half r h) goes w))
  pop_wants (IsWantedBy.made_of {to = held (flag_of flag)} goes written made w) = no made
  pop_wants (IsWantedBy.made_of {to = in_frame k} goes written made w) = no made
  pop_wants (IsWantedBy.unwritten goes sure uncalled w) = inr (after (in_frame (pos 0)) goes w)
  pop_wants (IsWantedBy.taken e passing w) = no passing
  pop_wants (IsWantedBy.given_back e changed calls goes w) = no e

  -- The argument is reused: the writer changes the word, and CX takes it.

  is_touched : Contains (touched_of (body_at bodies 0x50)) 0
  unfolding signed_of
  is_touched = (0, omega arith, refl)

  is_reused : IsReused bodies caller 1
  is_reused = record {
    point = record { node = node_of (Call 0x50) (4 ∷ []); height = 2 };
    stands = refl;
    target = 0x50;
    calls = refl;
    number = 0;
    touched = is_touched;
    k = pos 0;
    byte = refl;
    wanted = inr (4, here, cell_is_wanted);
  }

  -- a construct of a reused argument stands at the CALL
  is_refused : IsOfSummaries bodies ArgumentReused 1
  is_refused = argument_reused {body = caller} (0, omega arith, refl) is_reused

  -- near miss: the reader changes no argument
  reads_alone : touched_of (body_at (caller ∷ reader ∷ []) 0x50) ≡ []
  unfolding signed_of
  reads_alone = refl
