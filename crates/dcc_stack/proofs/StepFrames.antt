-- Laws of what stands: how deep it lies, what BP holds, and the newest procedure in another place.
use Rattle.std.proofs.Common.{◌≡◌, ◌≢◌, inl, inr, ℕ, ◌+◌, ◌-◌, ◌*◌, ◌<◌, ◌≤◌, Bool, true, false, List, ◌∷◌, length, Some, refl, sym, ap, ◌∙◌, true≢false, arith}
use Rattle.std.specs.Prelude.{ℤ, pos, ◌+ℤ◌, int_lt}
use Rattle.std.proofs.Math.Nat.{mod-eq_of_lt}
use Rattle.std.proofs.lemmas.Int.{ints}
use Rattle.dcc_num.specs.declared.Width.TheVariants.{Word as word_width}
use Rattle.dcc_num.specs.declared.Reg.TheVariants.{Sp, Bp}
use Rattle.dcc_num.specs.declared.Half.TheVariants.{Low, High}
use Rattle.dcc_num.specs.Numbers.{wrapped_of}
use Rattle.dcc_machine.specs.declared.cpu.Cpu.{Cpu}
use Rattle.dcc_machine.specs.declared.image.Image.{Image}
use Rattle.dcc_prog.specs.declared.procedure.Layout.{Layout}
use Rattle.dcc_machine.specs.declared.instr.Operand.TheVariants.{Word}
use Rattle.dcc_machine.specs.declared.instr.Op.{Op}
use Rattle.dcc_machine.specs.declared.instr.Op.TheVariants.{Mov}
use Rattle.dcc_machine.specs.declared.instr.Instr.{Instr}
use Rattle.dcc_machine.specs.Machine.{State, word_in}
use Rattle.dcc_machine.specs.StateForm.{IsState}
use Rattle.dcc_machine.specs.WellFormed.{IsOperation}
use Rattle.dcc_machine.specs.Step.{op_step}
use Rattle.dcc_prog.specs.Trail.{StandsAt}
use Rattle.dcc_prog.specs.FrameForm.{is_framed}
use Rattle.dcc_prog.specs.Clean.{top_in, sp_after, is_low}
use Rattle.dcc_machine.proofs.LocationKept.{op-half, or-none}
use Rattle.dcc_prog.proofs.SpLaws.{sp-told, by_halves}
use Rattle.dcc_stack.specs.Accepted.{FrameStays, IsSetUp}
use Rattle.dcc_stack.specs.Standing.{Activation, word_at, HoldsBp, outside, at_mov, inside, StandsIn, WaitsFor, Stand, first, called}
use Rattle.dcc_stack.specs.Laws.{at_next}
use Rattle.dcc_stack.proofs.StepForms.{SpGoes, moved, stayed, sp_after-ip, LeavesBp}

-- Depth.

-- each procedure takes a word at least, and the first one begins with its return address just above the stack
pub stand-few :
    {image : Image} {layout : Layout} {memory : List ℕ} {activations : List Activation} {top bp : ℕ}
    → Stand image layout memory activations top bp → top + 2 * length activations ≤ layout.hi + 2
stand-few (first {a} {top} frame stands) =
    let base = ap (λ f. f.base) frame in
    let is = stands.top_is in
    omega (arith, base, is)
stand-few (called stands waits older) =
    let few = stand-few older in
    let is = stands.top_is in
    omega (arith, few, is)

pub base-below :
    {image : Image} {layout : Layout} {memory : List ℕ} {a : Activation} {callers : List Activation} {top bp : ℕ}
    → Stand image layout memory (a ∷ callers) top bp → a.frame.base ≤ layout.hi + 2
base-below (first frame stands) = let base = ap (λ f. f.base) frame in omega (arith, base)
base-below (called stands waits older) = let few = stand-few older in omega (arith, few)

-- The newest procedure.

-- the newest procedure stands in another place
pub stand-renewed :
    {image : Image} {layout : Layout} {memory : List ℕ} {a : Activation} {callers : List Activation} {top bp : ℕ}
    (next to_top to_bp : ℕ) → Stand image layout memory (a ∷ callers) top bp
    → StandsIn image layout memory (at_next a next) to_top to_bp
    → Stand image layout memory (at_next a next ∷ callers) to_top to_bp
stand-renewed next to_top to_bp (first frame stands) new = first frame new
stand-renewed next to_top to_bp (called stands waits older) new =
    called new (record {
      instr = waits.instr;
      stands = waits.stands;
      calls = waits.calls;
      return = waits.return;
      state = waits.state;
      passed = waits.passed;
    }) older

-- BP.

-- one operation stands at an offset
pub stands-once :
    (image : Image) (layout : Layout) (at : ℕ) (op other : Op) → StandsAt image layout at op
    → StandsAt image layout at other → op ≡ other
stands-once image layout at op other x y =
    let found : Some x.0 ≡ Some y.0 = sym x.1 ∙ y.1 in
    let same : x.0 ≡ y.0 = cc in
    sym x.2 ∙ ap (λ (i : Instr). i.op) same ∙ y.2

module _ {image : Image} {layout : Layout} {memory : List ℕ} {a : Activation} {height bp : ℕ} where
  -- where no frame is set up yet, it is the caller's
  pub bp-begun : HoldsBp image layout memory a height bp → height ≡ 0 → bp ≡ a.caller_bp
  bp-begun (outside so is) none = is
  bp-begun (at_mov framed two stands saved) none = absurd (omega (arith, two, none))
  bp-begun (inside framed deep saved points) none = absurd (omega (arith, deep, none))

  -- where the frame is set up, the caller's BP is saved
  pub bp-saved :
      HoldsBp image layout memory a height bp → IsSetUp image layout a.frame.entry height
      → word_at layout memory (a.frame.base - 4) ≡ a.caller_bp
  bp-saved (outside (inl unframed) is) up = absurd (true≢false (sym up.framed ∙ unframed))
  bp-saved (outside (inr none) is) up = let deep = up.deep in absurd (omega (arith, deep, none))
  bp-saved (at_mov framed two stands saved) up = saved
  bp-saved (inside framed deep saved points) up = saved

  -- where the frame is set up, BP points to the saved BP, but at `mov bp,sp`
  pub bp-points :
      (op : Op) → HoldsBp image layout memory a height bp → StandsAt image layout a.at op
      → op ≢ Mov (Word Bp) (Word Sp) → IsSetUp image layout a.frame.entry height
      → bp + layout.delta + 4 ≡ a.frame.base
  bp-points op (outside (inl unframed) is) here other up = absurd (true≢false (sym up.framed ∙ unframed))
  bp-points op (outside (inr none) is) here other up = let deep = up.deep in absurd (omega (arith, deep, none))
  bp-points op (at_mov framed two stands saved) here other up =
      absurd (other (stands-once image layout a.at op (Mov (Word Bp) (Word Sp)) here stands))
  bp-points op (inside framed deep saved points) here other up = points

  -- an operation that leaves the frame set up, or not, leaves what BP is to hold
  pub bp-left :
      (op : Op) (next after : ℕ) → op ≢ Mov (Word Bp) (Word Sp) → StandsAt image layout a.at op
      → (is_framed image layout a.frame.entry ≡ true → FrameStays height after)
      → HoldsBp image layout memory a height bp → HoldsBp image layout memory (at_next a next) after bp
  bp-left op next after other here stays (outside (inl unframed) is) = outside (inl unframed) is
  bp-left op next after other here stays (outside (inr none) is) = by (is_framed image layout a.frame.entry) refl
    where
      still : FrameStays height after → after ≡ 0
      still (inl both) = let deep = both.0 in absurd (omega (arith, deep, none))
      still (inr both) = both.1

      by : (b : Bool) → is_framed image layout a.frame.entry ≡ b
          → HoldsBp image layout memory (at_next a next) after bp
      by false unframed = outside (inl unframed) is
      by true framed = outside (inr (still (stays framed))) is
  bp-left op next after other here stays (at_mov framed two stands saved) =
      absurd (other (stands-once image layout a.at op (Mov (Word Bp) (Word Sp)) here stands))
  bp-left op next after other here stays (inside framed deep saved points) =
      inside framed (still (stays framed)) saved points
    where
      still : FrameStays height after → 2 ≤ after
      still (inl both) = both.1
      still (inr both) = let none = both.0 in absurd (omega (arith, deep, none))

-- Returns.

-- a procedure waits for the newest one
pub record IsAwaited (image : Image) (layout : Layout) (memory : List ℕ) (a : Activation) (callers : List Activation)
    : Type 0 where
  pub caller : Activation
  pub older : List Activation
  pub are : callers ≡ caller ∷ older
  pub waits : WaitsFor image layout memory caller a
  pub stand : Stand image layout memory (caller ∷ older) a.frame.base a.caller_bp

-- a procedure waits for each but the entry procedure
pub is-awaited :
    {image : Image} {layout : Layout} {memory : List ℕ} {a : Activation} {callers : List Activation} {top bp : ℕ}
    → Stand image layout memory (a ∷ callers) top bp → a.frame.entry ≢ layout.start_ip
    → IsAwaited image layout memory a callers
is-awaited (first frame stands) inner = absurd (inner (ap (λ f. f.entry) frame))
is-awaited (called {a} {caller} {callers} stands waits stand) inner =
    record { caller = caller; older = callers; are = refl; waits = waits; stand = stand }

-- SP.

-- SP stands at a height of the frame with this base, and not below the stack
pub record Lands (layout : Layout) (base after : ℕ) (t : State) : Type 0 where
  pub top : top_in layout t + 2 + after ≡ base
  pub low : layout.lo ≤ top_in layout t

-- a number of 16 bits
wrapped-small : (z : ℤ) (n : ℕ) → z ≡ pos n → n < 65536 → wrapped_of word_width z ≡ n
wrapped-small z n is small = ap (wrapped_of word_width) is ∙ mod-eq_of_lt small

-- an operation whose SP is told, and isn't too low
pub sp-lands :
    (cpu : Cpu) (layout : Layout) (op : Op) (s : State) (ip at base height after : ℕ)
    → IsOperation op → IsState (record s { ip = ip }) → base ≤ layout.hi + 2 → layout.hi ≤ 65535
    → top_in layout s + 2 + height ≡ base → layout.lo ≤ top_in layout s → is_low layout (sp_after op s) ≡ false
    → SpGoes s op height after → Lands layout base after (op_step cpu op at (record s { ip = ip }))
sp-lands cpu layout op s ip at base height after good form below fits top low clean (moved told is) =
    let bounds =
    or-none (int_lt (sp_after op s) (pos 0)) (int_lt (sp_after op s +ℤ pos layout.delta) (pos layout.lo)) clean in
    let some = bounds.0 in
    let above = bounds.1 in
    let n : ℕ = word_in s Sp + height - after in
    let few : after ≤ word_in s Sp + height = omega (arith, ints, is, some) in
    let is_n : sp_after op s ≡ pos n = omega (arith, ints, is, few) in
    let small : n < 65536 = omega (arith, few, below, fits, top) in
    let sp : word_in (op_step cpu op at (record s { ip = ip })) Sp ≡ n =
    sp-told cpu op at (record s { ip = ip }) good form told ∙ ap (wrapped_of word_width) (sp_after-ip op s ip)
    ∙ wrapped-small (sp_after op s) n is_n small in
    let lowest : layout.lo ≤ n + layout.delta = omega (arith, ints, is_n, above) in
    record { top = omega (arith, sp, few, top); low = omega (arith, sp, lowest) }
sp-lands cpu layout op s ip at base height after good form below fits top low clean (stayed clear same) =
    let t = op_step cpu op at (record s { ip = ip }) in
    let sp : word_in t Sp ≡ word_in s Sp =
    by_halves (record s { ip = ip }) t Sp (op-half cpu op at (record s { ip = ip }) Sp Low good form (clear Low))
    (op-half cpu op at (record s { ip = ip }) Sp High good form (clear High)) in
    record { top = omega (arith, sp, top, same); low = omega (arith, sp, low) }

-- BP after an operation that leaves it
pub bp-stays :
    (cpu : Cpu) (op : Op) (s : State) (ip at : ℕ) → IsOperation op → IsState (record s { ip = ip }) → LeavesBp op
    → word_in (op_step cpu op at (record s { ip = ip })) Bp ≡ word_in s Bp
bp-stays cpu op s ip at good form leaves =
    let t = op_step cpu op at (record s { ip = ip }) in
    by_halves (record s { ip = ip }) t Bp
    (op-half cpu op at (record s { ip = ip }) Bp Low good form (leaves.spared Low))
    (op-half cpu op at (record s { ip = ip }) Bp High good form (leaves.spared High))
