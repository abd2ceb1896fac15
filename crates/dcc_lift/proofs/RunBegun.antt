-- Both runs where the entry procedure begins: they agree there.
use Rattle.std.proofs.Common.{◌≡◌, ◌⊎◌, ℕ, ◌+◌, ◌*◌, ◌/◌, ◌%◌, ◌<◌, ◌≤◌, Bool, true, false, ◌&&◌, List, [], ◌∷◌, ◌++◌, length, map, flat_map, All, refl, sym, ap, ◌∙◌, subst, true≢false, arith}
use Rattle.std.specs.Prelude.{nat_lt, slice_index}
use Rattle.std.specs.Int.{from_bool}
use Rattle.std.specs.List.{list_all}
use Rattle.std.proofs.Math.Nat.{mod-eq_of_lt}
use Rattle.std.proofs.lemmas.Bool.{lt-ltb}
use Rattle.std.proofs.lemmas.List.Elements.{All-nil}
use Rattle.std.proofs.lemmas.List.Folds.{list_all-append}
use Rattle.dcc_num.specs.declared.Reg.{Reg}
use Rattle.dcc_num.specs.declared.Reg.TheVariants.{Ax, Cx, Dx, Bx, Sp, Bp, Si, Di}
use Rattle.dcc_num.specs.declared.Half.TheVariants.{Low, High}
use Rattle.dcc_num.specs.declared.FlagName.{FlagName}
use Rattle.dcc_num.specs.declared.FlagName.TheVariants.{Cf, Zf, Sf, Of}
use Rattle.dcc_num.specs.declared.Flags.{Flags}
use Rattle.dcc_machine.specs.MzImage.{IsLoaded}
use Rattle.dcc_machine.specs.Machine.{State as Machine, word_in, reg_number, start_state, is_general}
use Rattle.dcc_prog.specs.Layout.{HasLayout, offset_after}
use Rattle.dcc_prog.specs.Clean.{LiveFrame, Stack, top_in, first_stack}
use Rattle.dcc_machine.specs.Load.{load_segment}
use Rattle.dcc_prog.proofs.StackMarks.{none-marked}
use Rattle.dcc_prog.proofs.PreludeOffsets.{prelude-short}
use Rattle.dcc_prog.proofs.PreludeSteps.{executed, at_offset, steps-from_start, state_after-is}
use Rattle.dcc_prog.proofs.WatchLaws.{machine_run}
use Rattle.dcc_stack.specs.Standing.{Activation, StackStands}
use Rattle.dcc_stack.proofs.RunLaws.{begin-stands}
use Rattle.dcc_ir.specs.declared.syntax.Loc.TheVariants.{Half}
use Rattle.dcc_ir.specs.Tree.{Stmt}
use Rattle.dcc_ir.specs.WellFormed.{is_stmt}
use Rattle.dcc_ir.specs.Run.{State as Inner, graph_at}
use Rattle.dcc_ir.proofs.FitStates.{IsFit, filled-are, execute-fit}
use Rattle.dcc_ops.specs.Temporaries.{temporary_bits}
use Rattle.dcc_ops.specs.Coupling.{HoldFlags}
use Rattle.dcc_simulation.specs.Coupled.{IsActivationOf, AreCoupled}
use Rattle.dcc_simulation.proofs.Begins.{runs-begin}
use Rattle.dcc_lift.specs.Translation.{general_registers, register_starting, flag_starting, flags_starting}
use Rattle.dcc_lift.proofs.CodeBounds.{loaded-placed}
use Rattle.dcc_lift.proofs.PreludeWords.{layout-registers, layout-words}
use Rattle.dcc_lift.proofs.StartMemory.{memory-len, memory-bytes, memory-outside, data-bytes, data-at}
use Rattle.dcc_lift.proofs.RunScenes.{Runs, layout, e, located_at, AtNode}
use Rattle.dcc_lift.proofs.RunStart.{is_entry, graph, prelude, begin, set_up, bits-are}

-- The statements of the prelude's block.

abbrev AreFormed : List Stmt → Type 0
AreFormed stmts = list_all (is_stmt temporary_bits) stmts ≡ true

formed-append : (stmts more : List Stmt) → AreFormed stmts → AreFormed more → AreFormed (stmts ++ more)
formed-append stmts more p q =
    list_all-append (is_stmt temporary_bits) stmts more ∙ ap (λ b. b && list_all (is_stmt temporary_bits) more) p ∙ q

-- a register's halves take bytes
register-formed : (regs : List ℕ) (r : Reg) → slice_index regs (reg_number r) < 65536
    → AreFormed (register_starting regs r)
register-formed regs r fits =
    let word = slice_index regs (reg_number r) in
    formed (nat_lt (word % 256) 256) (nat_lt (word / 256) 256) (lt-ltb (word % 256) 256 (omega arith))
    (lt-ltb (word / 256) 256 (omega (arith, fits)))
  where
    formed : (a b : Bool) → a ≡ true → b ≡ true → ((a && true) && ((b && true) && true)) ≡ true
    formed true true p q = refl
    formed true false p q = absurd (true≢false (sym q))
    formed false b p q = absurd (true≢false (sym p))

registers-formed : (regs : List ℕ) (rs : List Reg) → ((i : ℕ) → slice_index regs i < 65536)
    → AreFormed (flat_map (register_starting regs) rs)
registers-formed regs [] words = refl
registers-formed regs (r ∷ rs) words =
    formed-append (register_starting regs r) (flat_map (register_starting regs) rs)
    (register-formed regs r (words (reg_number r))) (registers-formed regs rs words)

flag-formed : (f : FlagName) (set : Bool) → is_stmt temporary_bits (flag_starting f set) ≡ true
flag-formed f true = refl
flag-formed f false = refl

flags-formed : (flags : Flags) → AreFormed (flags_starting flags)
flags-formed flags =
    both (is_stmt temporary_bits (flag_starting Cf flags.cf)) _ (flag-formed Cf flags.cf)
    (both (is_stmt temporary_bits (flag_starting Zf flags.zf)) _ (flag-formed Zf flags.zf)
    (both (is_stmt temporary_bits (flag_starting Sf flags.sf)) _ (flag-formed Sf flags.sf)
    (both (is_stmt temporary_bits (flag_starting Of flags.of)) _ (flag-formed Of flags.of) refl)))
  where
    both : (a b : Bool) → a ≡ true → b ≡ true → (a && b) ≡ true
    both true b p q = q
    both false b p q = absurd (true≢false (sym p))

by-bytes : (v : ℕ) → v ≡ v / 256 * 256 + v % 256
by-bytes v = omega arith

-- one frame is the newest's
one-only : (x : Activation) (xs : List Activation) (frame : LiveFrame)
    → map (λ (a : Activation). a.frame) (x ∷ xs) ≡ frame ∷ [] → (x.frame ≡ frame) × (xs ≡ [])
one-only x [] frame same = (cc, refl)
one-only x (y ∷ xs) frame same = absurd (cc)

module _ (c : Runs) (input : List ℕ) (bytes : All (λ byte. byte < 256) input)
    (numbers : (k : ℕ) → slice_index input k < 256)
  where
    abbrev loaded : IsLoaded c.image
    loaded = c.is.of_file.loaded

    abbrev has : HasLayout c.image (layout c)
    has = c.is.of_file.is_program.layout

    -- The inner run.

    abbrev done : Inner
    done = set_up c input

    formed : AreFormed (prelude c input).stmts
    formed =
        formed-append (flat_map (register_starting (layout c).regs) general_registers)
        (flags_starting (layout c).flags)
        (registers-formed (layout c).regs general_registers (layout-words c.image (layout c) loaded has))
        (flags-formed (layout c).flags)

    begin-fits : IsFit (begin c input)
    begin-fits = record {
      values = filled-are (graph c input).bits c.fill;
      memory = record {
        len = memory-len c.p c.fill;
        bytes =
            memory-bytes c.p c.fill
            (λ at. subst (λ l. slice_index l at < 256) (sym c.is.translation.image_is)
            (data-bytes c.image (layout c) loaded at));
      };
      console = record { left = bytes; written = All-nil (λ n. n < 256); taken = All-nil (λ n. n < 256) };
    }

    done-fits : IsFit done
    done-fits =
        execute-fit (prelude c input).stmts (begin c input)
        (subst (λ bits. list_all (is_stmt bits) (prelude c input).stmts ≡ true)
        (sym (bits-are c input)) formed) begin-fits

    -- The machine.

    abbrev pub entered : Machine
    entered = machine_run c.image c.program loaded has input (length has.prelude)

    abbrev pub entered_stack : Stack
    entered_stack = first_stack (layout c) entered

    entered-is : entered
        ≡ at_offset c.image input (executed (layout c).cpu (start_state c.image []) has.prelude)
        (offset_after c.image.ip has.prelude)
    entered-is = steps-from_start (layout c).cpu c.image input has.prelude loaded has.is_prelude.run

    pub entered-ip : (entered).ip ≡ (layout c).start_ip
    entered-ip =
        ap (λ (u : Machine). u.ip) entered-is
        ∙ mod-eq_of_lt (prelude-short c.image (layout c) loaded has)
        ∙ sym has.left.start_ip

    entered-regs : (entered).regs ≡ (layout c).regs
    entered-regs = ap (λ (u : Machine). u.regs) entered-is ∙ sym (layout-registers c.image (layout c) loaded has)

    entered-flags : (entered).flags ≡ (layout c).flags
    entered-flags =
        ap (λ (u : Machine). u.flags) entered-is
        ∙ sym (has.left.flags ∙ ap (λ (u : Machine). u.flags)
        (state_after-is (layout c).cpu c.image has.prelude loaded has.is_prelude.run))

    entered-top : top_in (layout c) entered ≡ (layout c).hi
    entered-top =
        ap (λ l. slice_index l 4 + (layout c).delta)
        (ap (λ (u : Machine). u.regs) entered-is
        ∙ sym (ap (λ (u : Machine). u.regs)
        (state_after-is (layout c).cpu c.image has.prelude loaded has.is_prelude.run)))
        ∙ sym has.left.hi

    stands : StackStands c.image (layout c) entered entered_stack
    stands = begin-stands c.image c.program loaded has input numbers

    only : ((stands).newest.frame ≡ record { entry = (layout c).start_ip; base = top_in (layout c) entered + 2 })
        × ((stands).callers ≡ [])
    only = one-only (stands).newest (stands).callers _ (stands).frames

    -- Both runs at the begin of the entry procedure: its activation, and what holds of it.

    active : IsActivationOf (e c) (stands).newest (done).running
    active = record {
      graph =
          ap (λ (f : LiveFrame). graph_at c.p.graphs f.entry) (only).0
          ∙ (located_at c (layout c).start_ip (is_entry c input)).graph_found;
      bits = bits-are c input;
      base =
          ap (λ n. (n + 2) % 65536) (c.is.translation.hi_is ∙ sym entered-top)
          ∙ sym (ap (λ (f : LiveFrame). f.base % 65536) (only).0);
      values = (done-fits).values;
    }

    words : (r : Reg) → is_general r ≡ true
        → word_in entered r ≡ (done).running.values (Half r High) * 256 + (done).running.values (Half r Low)
    words r general =
        ap (λ l. slice_index l (reg_number r)) entered-regs
        ∙ by-bytes (slice_index (layout c).regs (reg_number r))
        ∙ sym (word r general)
      where
        word : (r : Reg) → is_general r ≡ true
            → (done).running.values (Half r High) * 256 + (done).running.values (Half r Low)
            ≡ slice_index (layout c).regs (reg_number r) / 256 * 256 + slice_index (layout c).regs (reg_number r) %
            256
        word Ax g = refl
        word Cx g = refl
        word Dx g = refl
        word Bx g = refl
        word Sp g = absurd (true≢false (sym g))
        word Bp g = absurd (true≢false (sym g))
        word Si g = refl
        word Di g = refl

    flags : HoldFlags (entered).flags (done).running.values
    flags = record {
      carry = ap (λ (f : Flags). from_bool f.cf) (sym entered-flags);
      zero = ap (λ (f : Flags). from_bool f.zf) (sym entered-flags);
      negative = ap (λ (f : Flags). from_bool f.sf) (sym entered-flags);
      overflow = ap (λ (f : Flags). from_bool f.of) (sym entered-flags);
    }

    outside : (offset : ℕ) → offset < 65536 → (offset < (layout c).lo) ⊎ ((layout c).hi ≤ offset)
        → slice_index (done).memory offset ≡ slice_index (entered).memory ((layout c).ds * 16 + offset)
    outside offset low apart =
        let placed = loaded-placed c.image loaded in
        let above : load_segment ≤ (layout c).ds = let code = has.small.code_below in let first =
        placed.low in omega (arith, code, first) in
        memory-outside c.p c.fill offset low
        (subst (λ n. (offset < n) ⊎ (c.p.hi ≤ offset)) (sym c.is.translation.lo_is)
        (subst (λ n. (offset < (layout c).lo) ⊎ (n ≤ offset)) (sym c.is.translation.hi_is) apart))
        ∙ ap (λ l. slice_index l offset) c.is.translation.image_is
        ∙ data-at c.image (layout c) above offset low
        ∙ sym (ap (λ (u : Machine). slice_index u.memory ((layout c).ds * 16 + offset)) entered-is)

    begun-agree : AreCoupled (e c) entered entered_stack done
    begun-agree =
        runs-begin (e c) entered entered_stack done c.is.of_file stands
        (ap (λ (u : Machine). u.end) entered-is) refl active (only).1 refl words flags
        (sym (ap (λ (u : Machine). u.input) entered-is)) (sym (ap (λ (u : Machine). u.events) entered-is))
        (memory-len c.p c.fill) (begin-fits).memory.bytes outside (none-marked 65536)

    pub begun-node : AtNode c (layout c).start_ip entered entered_stack done
    begun-node = record {
      agree = begun-agree;
      here =
          ap (λ (f : LiveFrame). f.entry)
          (one-only (begun-agree).stands.newest (begun-agree).stands.callers _ (begun-agree).stands.frames).0;
      waits = tt;
    }
