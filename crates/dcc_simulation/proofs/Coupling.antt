-- Both runs side by side are a coupling.
use Rattle.std.proofs.Common.{◌≡◌, ℕ, ◌+◌, ◌*◌, ◌^◌, ◌<◌, Bool, true, false, ◌&&◌, ◌==◌, List, [], ◌∷◌, Some, length, refl, sym, ap, ◌∙◌, subst, arith, eqb-true}
use Rattle.std.specs.Prelude.{ℤ, not, if◌then◌else◌, slice_index}
use Rattle.std.specs.List.{AllZip}
use Rattle.std.specs.Ordering.{int_eq}
use Rattle.dcc_num.specs.declared.Reg.{Reg}
use Rattle.dcc_num.specs.declared.Reg.TheVariants.{Ax, Cx, Dx, Bx, Sp, Bp, Si, Di}
use Rattle.dcc_num.specs.declared.Half.{Half as HalfName}
use Rattle.dcc_num.specs.declared.Half.TheVariants.{Low, High}
use Rattle.dcc_num.specs.declared.Flags.{Flags}
use Rattle.dcc_prog.specs.declared.frame.Cell.{Cell}
use Rattle.dcc_machine.specs.StateForm.{IsState}
use Rattle.dcc_machine.specs.declared.image.Image.{Image}
use Rattle.dcc_prog.specs.declared.procedure.Layout.{Layout}
use Rattle.dcc_machine.specs.Machine.{State as Machine, reg_number, word_in, with_word_in, code_segment, data_segment, stack_segment, physical, is_general}
use Rattle.dcc_machine.specs.Operands.{word_register}
use Rattle.dcc_machine.specs.Operations.{with_flags}
use Rattle.dcc_machine.specs.Writes.{is_same_register}
use Rattle.dcc_prog.specs.Analysed.{bytes_of}
use Rattle.dcc_prog.specs.Clean.{top_in}
use Rattle.dcc_machine.proofs.LocationKept.{word-taken, word-other}
use Rattle.dcc_machine.proofs.StateKept.{same-state, word-state}
use Rattle.dcc_stack.specs.Standing.{Activation, HoldsSegments}
use Rattle.dcc_stack.specs.Slots.{Typed, IsAlike, is_within}
use Rattle.dcc_stack.specs.SlotLaws.{AreCarried, SlotsAreCarried}
use Rattle.dcc_stack.proofs.FormLaws.{in-form}
use Rattle.dcc_stack.proofs.SlotLaws.{slots-carried}
use Rattle.dcc_ir.specs.declared.syntax.Loc.{Loc}
use Rattle.dcc_ir.specs.declared.syntax.Loc.TheVariants.{Half, Cell as CellHalf}
use Rattle.dcc_ir.specs.Location.{register_number, half_number, location_width, Values, with_value}
use Rattle.dcc_ir.specs.Value.{Fits}
use Rattle.dcc_ir.specs.Run.{State, Activation as InnerActivation, scene_of, setting}
use Rattle.dcc_ops.specs.Coupling.{HoldFlags, is_scratch, with_values, IsCoupling}
use Rattle.dcc_ops.proofs.SceneLaws.{high_kept, low_kept, fits_taking}
use Rattle.dcc_simulation.specs.Coupled.{Setting, half_in, held_at, slots_in, typed_by, typed_waiting, IsActivationOf}
use Rattle.dcc_simulation.specs.Coupled.{Coupled}

pub carried_laws : SlotsAreCarried
carried_laws = slots-carried in-form

-- Segments.

-- a state holds the segments where segment registers and memory are the same as in one that does
pub segments_kept : (image : Image) (layout : Layout) (s u : Machine) → u.segs ≡ s.segs → u.memory ≡ s.memory
    → IsState u → HoldsSegments image layout s → HoldsSegments image layout u
segments_kept image layout s u segs memory state held = record {
  state = state;
  code = record {
    segment = ap (λ l. code_segment (record s { segs = l })) segs ∙ held.code.segment;
    bytes = λ at within.
        ap (λ m. slice_index m (physical image.cs at)) memory ∙ held.code.bytes at within;
  };
  data_is = ap (λ l. data_segment (record s { segs = l })) segs ∙ held.data_is;
  stack_is = ap (λ l. stack_segment (record s { segs = l }) * 16) segs ∙ held.stack_is;
}

-- Frames.

-- values that agree on cells
abbrev pub AgreeOnCells : Values → Values → Type 0
AgreeOnCells values others = (number : ℕ) (half : HalfName) → others (CellHalf number half) ≡ values (CellHalf number
    half)

-- give the same frame
slots_from : (n : ℕ) (cells : List Cell) (k : ℤ) (values others : Values) → AgreeOnCells values others
    → held_at others (half_in n cells k) ≡ held_at values (half_in n cells k)
slots_from n [] k values others agree = refl
slots_from n (cell ∷ cells) k values others agree =
    by (is_within k (bytes_of cell)) (if int_eq k cell.first then Low else High)
    (slots_from (n + 1) cells k values others agree)
  where
    by : (b : Bool) (half : HalfName)
        → held_at others (half_in (n + 1) cells k) ≡ held_at values (half_in (n + 1) cells k)
        → held_at others (if b then Some (CellHalf n half) else half_in (n + 1) cells k)
        ≡ held_at values (if b then Some (CellHalf n half) else half_in (n + 1) cells k)
    by true half rest = agree n half
    by false half rest = rest

pub slots_agree : (cells : List Cell) (k : ℤ) (values others : Values) → AgreeOnCells values others
    → slots_in cells others k ≡ slots_in cells values k
slots_agree cells k values others agree = slots_from 0 cells k values others agree

pub alike-all : (typed : List Typed) → AllZip IsAlike typed typed
alike-all [] = tt
alike-all (t ∷ typed) = (record { frame = refl; slots = λ k. refl }, alike-all typed)

-- Registers.

numbered : (r : Reg) → word_register (reg_number r) ≡ r
numbered Ax = refl
numbered Cx = refl
numbered Dx = refl
numbered Bx = refl
numbered Sp = refl
numbered Bp = refl
numbered Si = refl
numbered Di = refl

-- a general register is none of the others
pub registers-apart : (q r : Reg) (b : Bool) → is_general q ≡ b → is_general r ≡ not b → is_same_register q r ≡ false
registers-apart q r b one other = by (is_same_register q r) refl
  where
    by : (same : Bool) → is_same_register q r ≡ same → is_same_register q r ≡ false
    by false e = e
    by true e =
        let is : q ≡ r =
        sym (numbered q) ∙ ap word_register (eqb-true (reg_number q) (reg_number r) e) ∙ numbered r in
        absurd (differ b (sym one ∙ ap is_general is ∙ other))
      where
        differ : (x : Bool) → x ≡ not x → ⊥
        differ true clash = cc
        differ false clash = cc

-- both crates number the registers alike
number-same : (r : Reg) → register_number r ≡ reg_number r
number-same Ax = refl
number-same Cx = refl
number-same Dx = refl
number-same Bx = refl
number-same Sp = refl
number-same Bp = refl
number-same Si = refl
number-same Di = refl

same-numbers : (q r : Reg) → is_same_register q r ≡ (register_number q == register_number r)
same-numbers q r = ap (λ n. n == reg_number r) (sym (number-same q)) ∙ ap (λ n. register_number q == n) (sym
    (number-same r))

-- a half that is written, and one of another register
half-set : (values : Values) (q r : Reg) (h : HalfName) (v : ℕ) → (register_number q == register_number r) ≡ true
    → with_value values (Half r h) v (Half q h) ≡ v
half-set values q r Low v e = ap (λ b. if b && true then v else values (Half q Low)) e
half-set values q r High v e = ap (λ b. if b && true then v else values (Half q High)) e

half-apart : (values : Values) (q r : Reg) (h k : HalfName) (v : ℕ) → (register_number q == register_number r) ≡ false
    → with_value values (Half r h) v (Half q k) ≡ values (Half q k)
half-apart values q r h k v e = ap (λ b. if b && (half_number k == half_number h) then v else values (Half q k)) e

-- a word register is its halves in these values
abbrev pub IsHalves : Values → Reg → ℕ → Type 0
IsHalves values q word = word ≡ values (Half q High) * 256 + values (Half q Low)

both-halves : (values : Values) (q : Reg) (word low high : ℕ) → values (Half q High) ≡ high → values (Half q Low) ≡ low
    → word ≡ high * 256 + low
    → IsHalves values q word
both-halves values q word low high high_is low_is is =
    is ∙ sym (ap (λ n. n * 256 + values (Half q Low)) high_is ∙ ap (λ n. high * 256 + n) low_is)

-- a register takes a word, and its halves take the bytes
pub words-set : (s : Machine) (values : Values) (r q : Reg) (low high : ℕ) → length s.regs ≡ 8
    → IsHalves values q (word_in s q)
    → IsHalves (with_value (with_value values (Half r Low) low) (Half r High) high) q
    (word_in (with_word_in s r (high * 256 + low)) q)
words-set s values r q low high eight was = by (register_number q == register_number r) refl
  where
    by : (b : Bool) → (register_number q == register_number r) ≡ b
        → IsHalves (with_value (with_value values (Half r Low) low) (Half r High) high) q
        (word_in (with_word_in s r (high * 256 + low)) q)
    by true e =
        both-halves (with_value (with_value values (Half r Low) low) (Half r High) high) q _ low high
        (half-set (with_value values (Half r Low) low) q r High high e)
        (low_kept (with_value values (Half r Low) low) q r high ∙ half-set values q r Low low e)
        (word-taken s r q (high * 256 + low) eight (same-numbers q r ∙ e))
    by false e =
        both-halves (with_value (with_value values (Half r Low) low) (Half r High) high) q _ (values (Half q Low))
        (values (Half q High))
        (half-apart (with_value values (Half r Low) low) q r High High high e ∙ high_kept values q r low)
        (low_kept (with_value values (Half r Low) low) q r high ∙ half-apart values q r Low Low low e)
        (word-other s r q (high * 256 + low) (same-numbers q r ∙ e) ∙ was)

-- The coupling.

module _ (e : Setting) (a : Activation) (callers : List Activation) (written : List Bool) where
  abbrev R : Machine → State → Type 0
  R s t = Coupled e a callers written s t

  pub coupled-fits : (s : Machine) (t : State) → R s t → Fits (scene_of t)
  coupled-fits s t c = record {
    values = c.newest.values;
    len = c.carried.carries.size;
    bytes =
        c.carried.carries.bytes;
  }

  -- where the newest activation has other values that agree on cells, it has the same frame
  pub frames_kept : (memory other : List ℕ) (top : ℕ) (inner : InnerActivation) (values : Values) (rest : List Typed)
      → AgreeOnCells inner.values values
      → AreCarried e.cpu e.image e.program memory other written top (typed_by e a inner ∷ rest)
      → AreCarried e.cpu e.image e.program memory other written top
      (typed_by e a (record inner { values = values }) ∷ rest)
  frames_kept memory other top inner values rest agree are =
      carried_laws.alike are (
        record { frame = refl; slots = λ k. slots_agree (e.cells a.frame.entry) k inner.values values agree },
        alike-all rest,
      )

  activation_kept : (inner : InnerActivation) (values : Values)
      → ((location : Loc) → values location < 2 ^ location_width inner.graph.bits location)
      → IsActivationOf e a inner
      → IsActivationOf e a (record inner { values = values })
  activation_kept inner values fits is = record { graph = is.graph; bits = is.bits; base = is.base; values = fits }

  -- temporaries and flags
  scratch-set : (s : Machine) (t : State) (flags : Flags) (values : Values) → R s t
      → ((location : Loc) → is_scratch location ≡ false → values location ≡ t.running.values location)
      → HoldFlags flags values → Fits (scene_of (with_values values t))
      → R (with_flags flags s) (with_values values t)
  scratch-set s t flags values c same hold fits = record {
    goes = c.goes;
    running = c.running;
    newest = activation_kept t.running values fits.values c.newest;
    waiting = c.waiting;
    words = λ r g.
        c.words r g ∙ ap (λ n. n * 256 + t.running.values (Half r Low)) (sym (same (Half r High) refl))
        ∙ ap (λ n. values (Half r High) * 256 + n) (sym (same (Half r Low) refl));
    flags = hold;
    input = c.input;
    events = c.events;
    segments =
        segments_kept e.image e.program.layout s (with_flags flags s) refl refl
        (same-state s (with_flags flags s) refl refl refl refl c.segments.state) c.segments;
    carried =
        frames_kept s.memory t.memory (top_in e.program.layout s) t.running values (typed_waiting e callers t.waiting)
        (λ number half. same (CellHalf number half) refl) c.carried;
  }

  -- a general register
  general-set : (s : Machine) (t : State) (r : Reg) (low high : ℕ) → R s t → is_general r ≡ true → low < 256
      → high < 256
      → R (with_word_in s r (high * 256 + low)) (setting (Half r High) high (setting (Half r Low) low t))
  general-set s t r low high c g small less =
      let word = high * 256 + low in
      let values = t.running.values in
      let after = with_value (with_value values (Half r Low) low) (Half r High) high in
      let fits =
      fits_taking (scene_of (setting (Half r Low) low t)) (Half r High) high less
      (fits_taking (scene_of t) (Half r Low) low small (coupled-fits s t c)) in
      let top : word_in (with_word_in s r word) Sp ≡ word_in s Sp =
      word-other s r Sp word (registers-apart Sp r false refl g) in
      record {
        goes = c.goes;
        running = c.running;
        newest = activation_kept t.running after fits.values c.newest;
        waiting = c.waiting;
        words = λ q other. words-set s values r q low high c.segments.state.registers.count (c.words q other);
        flags = record {
          carry = c.flags.carry;
          zero = c.flags.zero;
          negative = c.flags.negative;
          overflow = c.flags.overflow;
        };
        input = c.input;
        events = c.events;
        segments =
            segments_kept e.image e.program.layout s (with_word_in s r word) refl refl
            (word-state s r word (omega (arith, small, less)) c.segments.state) c.segments;
        carried =
            subst (λ n. AreCarried e.cpu e.image e.program s.memory t.memory written (n + e.program.layout.delta)
            (typed_by e a (record t.running { values = after }) ∷ typed_waiting e callers t.waiting)) (sym top)
            (frames_kept s.memory t.memory (top_in e.program.layout s) t.running after
            (typed_waiting e callers t.waiting) (λ number half. refl) c.carried);
      }

  pub coupled : IsCoupling R
  coupled = record {
    running = λ s t c. c.running;
    bits = λ s t c. c.newest.bits;
    fits = coupled-fits;
    words = λ s t r c g. c.words r g;
    flags = λ s t c. c.flags;
    anywhere = λ s t ip c. record {
      goes = c.goes;
      running = c.running;
      newest = c.newest;
      waiting = c.waiting;
      words = c.words;
      flags = c.flags;
      input = c.input;
      events = c.events;
      segments =
          segments_kept e.image e.program.layout s (record s { ip = ip }) refl refl
          (same-state s (record s { ip = ip }) refl refl refl refl c.segments.state) c.segments;
      carried = c.carried;
    };
    scratch = scratch-set;
    general = general-set;
  }
