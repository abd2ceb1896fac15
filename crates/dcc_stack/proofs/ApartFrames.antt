-- Bytes of the frames: those that a frame has of its own are apart from every return address and saved BP.
use Rattle.std.proofs.Common.{◌≡◌, ℕ, ◌+◌, ◌*◌, ◌<◌, ◌≤◌, ◌⊎◌, inl, inr, Bool, true, false, List, [], ◌∷◌, map, Option, Some, None, refl, ap, subst, arith, leb-true}
use Rattle.std.proofs.lemmas.Int.{ints}
use Rattle.std.proofs.lemmas.List.Elements.{All-nil, All-cons, All-weaker}
use Rattle.std.specs.Prelude.{ℤ, pos, neg_ℤ, ◌-ℤ◌, ◌≤ℤ◌, int_le, int_lt, not, ◌&&◌, nat_le, if◌then◌else◌, All}
use Rattle.dcc_machine.specs.declared.cpu.Cpu.{Cpu}
use Rattle.dcc_machine.specs.declared.image.Image.{Image}
use Rattle.dcc_prog.specs.declared.procedure.Layout.{Layout}
use Rattle.dcc_prog.specs.declared.frame.Frame.{Frame}
use Rattle.dcc_prog.specs.declared.frame.Program.{Program}
use Rattle.dcc_prog.specs.FrameForm.{is_framed}
use Rattle.dcc_prog.specs.Frame.{HasArguments, of_start, of_procedure, HasExposedArguments, from_argument}
use Rattle.dcc_prog.specs.Clean.{LiveFrame, end_of, owner, exposes, exposed_by, is_exposed_byte}
use Rattle.dcc_machine.proofs.AlikeValues.{and-parts, or-parts}
use Rattle.dcc_stack.specs.Accepted.{IsProgramOfFile, AcceptedProgramsAreInForm}
use Rattle.dcc_stack.specs.Standing.{Activation, StandsIn, Stand, first, called}
use Rattle.dcc_stack.specs.Apart.{control_size, IsApart}

-- a byte is a frame's own: not below SP in the newest one, and below the saved BP and the return address, or so in an
-- older one, in which SP stands at the base of the next newer one
abbrev pub IsOwn : Image → Layout → ℕ → List Activation → ℕ → Type 0
IsOwn image layout offset [] top = ⊥
IsOwn image layout offset (a ∷ callers) top =
    ((top ≤ offset) × (offset + control_size image layout a < a.frame.base))
    ⊎ IsOwn image layout offset callers a.frame.base

pub control-least : (framed : Bool) → 2 ≤ (if framed then 4 else 2)
control-least true = omega arith
control-least false = omega arith

pub control-most : (framed : Bool) → (if framed then 4 else 2) ≤ 4
control-most true = omega arith
control-most false = omega arith

-- Stacks.

module _ (image : Image) (layout : Layout) (memory : List ℕ) where
  abbrev Stands : List Activation → ℕ → ℕ → Type 0
  Stands activations top bp = Stand image layout memory activations top bp

  pub newest-stands : {a : Activation} {callers : List Activation} {top bp : ℕ} → Stands (a ∷ callers) top bp
      → StandsIn image layout memory a top bp
  newest-stands (first is stands) = stands
  newest-stands (called stands waits older) = stands

  -- the bases lie above the top
  bases-above : {activations : List Activation} {top bp : ℕ} → Stands activations top bp
      → All (λ a. top + 2 ≤ a.frame.base) activations
  bases-above (first {a = a} {top = top} is stands) =
      All-cons (λ (c : Activation). top + 2 ≤ c.frame.base) a [] (omega (arith, stands.top_is))
      (All-nil (λ (c : Activation). top + 2 ≤ c.frame.base))
  bases-above (called {a = a} {caller = caller} {callers = callers} {top = top} stands waits older) =
      All-cons (λ (c : Activation). top + 2 ≤ c.frame.base) a (caller ∷ callers) (omega (arith, stands.top_is))
      (All-weaker (λ (c : Activation). a.frame.base + 2 ≤ c.frame.base) (λ (c : Activation). top + 2 ≤ c.frame.base)
      (λ c le. omega (arith, le, stands.top_is)) (caller ∷ callers) (bases-above older))

  pub top-below : {activations : List Activation} {top bp : ℕ} → Stands activations top bp → top ≤ layout.hi
  top-below (first is stands) =
      let base = ap (λ (f : LiveFrame). f.base) is in omega (arith, stands.top_is, base)
  top-below (called stands waits older) = let le = top-below older in omega (arith, stands.top_is, le)

  -- a frame's own bytes are apart from all return addresses and saved BPs
  pub own-apart : (offset : ℕ) {activations : List Activation} {top bp : ℕ} → Stands activations top bp
      → IsOwn image layout offset activations top
      → (top ≤ offset) × All (IsApart image layout offset) activations
  own-apart offset (first {a = a} is stands) (inl own) =
      (own.0, All-cons (IsApart image layout offset) a [] (inl own.1) (All-nil (IsApart image layout offset)))
  own-apart offset (first is stands) (inr own) = absurd own
  own-apart offset (called {a = a} {caller = caller} {callers = callers} stands waits older) (inl own) = (
    own.0,
    All-cons (IsApart image layout offset) a (caller ∷ callers) (inl own.1)
        (All-weaker (λ (c : Activation). a.frame.base + 2 ≤ c.frame.base) (IsApart image layout offset)
        (λ c le.
        let least = control-least (is_framed image layout a.frame.entry) in
        let most = control-most (is_framed image layout c.frame.entry) in
        inl (omega (arith, le, own.1, least, most)))
        (caller ∷ callers) (bases-above older)),
  )
  own-apart offset (called {a = a} {caller = caller} {callers = callers} stands waits older) (inr own) =
      let rest = own-apart offset older own in (
        omega (arith, rest.0, stands.top_is),
        All-cons (IsApart image layout offset) a (caller ∷ callers) (inr rest.0) rest.1,
      )

  -- a frame's own bytes lie below the stack's high end
  pub own-below : (offset : ℕ) {activations : List Activation} {top bp : ℕ} → Stands activations top bp
      → IsOwn image layout offset activations top → offset < layout.hi
  own-below offset (first {a = a} is stands) (inl own) =
      let base = ap (λ (f : LiveFrame). f.base) is in
      omega (arith, own.1, base, control-least (is_framed image layout a.frame.entry))
  own-below offset (first is stands) (inr own) = absurd own
  own-below offset (called {a = a} stands waits older) (inl own) =
      let le = top-below older in
      omega (arith, own.1, le)
  own-below offset (called stands waits older) (inr own) = own-below offset older own

-- Arguments.

-- the entry procedure has none
pub start-arguments : (image : Image) (layout : Layout) (entry count : ℕ) → entry ≡ layout.start_ip
    → HasArguments image layout entry count → count ≡ 0
start-arguments image layout entry count start (of_start e) = refl
start-arguments image layout entry count start (of_procedure other room least) = absurd (other start)

-- what has room in the own bytes ends below the saved BP and the return address
pub room-below : (framed : Bool) (height bytes : ℕ) → pos bytes ≤ℤ (if framed then pos height -ℤ pos 2 else pos height)
    → bytes + (if framed then 4 else 2) ≤ height + 2
room-below true height bytes le = omega (arith, ints, le)
room-below false height bytes le = omega (arith, ints, le)

module _ (cpu : Cpu) (image : Image) (program : Program) (memory : List ℕ) (form : AcceptedProgramsAreInForm)
    (is : IsProgramOfFile cpu image program) where
  abbrev layout : Layout
  layout = program.layout

  abbrev StandsHere : List Activation → ℕ → ℕ → Type 0
  StandsHere activations top bp = Stand image layout memory activations top bp

  -- the arguments of the newest frame are its caller's own bytes
  pub argument-own : (offset count : ℕ) {a : Activation} {callers : List Activation} {top bp : ℕ}
      → StandsHere (a ∷ callers) top bp → HasArguments image layout a.frame.entry count → a.frame.base ≤ offset
      → offset < a.frame.base + 2 * count
      → IsOwn image layout offset (a ∷ callers) top
  argument-own offset count (first {a = a} is_first stands) has low high =
      let none = start-arguments image layout a.frame.entry count (ap (λ (f : LiveFrame). f.entry) is_first) has in
      absurd (omega (arith, low, high, none))
  argument-own offset count (called {a = a} {caller = caller} stands waits older) has low high =
      let caller_stands = newest-stands image layout memory older in
      let room = form.arguments cpu image program caller.frame.entry caller.at a.frame.entry count caller.before
      caller_stands.height is caller_stands.is_at (waits.instr, waits.stands, waits.calls) has in
      let below = room-below (is_framed image layout caller.frame.entry) caller_stands.height (2 * count) room in
      inr (inl (low, omega (arith, high, below, caller_stands.top_is)))

  -- Exposed bytes.

  abbrev place : ℕ → LiveFrame → ℤ
  place offset live = pos (offset + 4) -ℤ pos live.base

  -- a byte that a frame exposes lies below BP or in the arguments
  pub exposed-places : (frame : Frame) (entry offset : ℕ) (live : LiveFrame)
      → HasExposedArguments image layout entry frame.exposed.arg → exposes frame (place offset live) ≡ true
      → (offset + 4 < live.base) ⊎ ((live.base ≤ offset) × (offset < live.base + 2 * frame.args))
  exposed-places frame entry offset live has e =
      elim (or-parts (int_le (neg_ℤ (pos frame.exposed.local)) (place offset live) && int_lt (place offset live)
      (pos 0)) _ e) [
        | inl local ↦ inl (
            let both = and-parts (int_le (neg_ℤ (pos frame.exposed.local)) (place offset live))
            (int_lt (place offset live) (pos 0)) local in
            below-bp offset live.base both.1)
        | inr argument ↦ by frame.exposed.arg has argument
      ]
    where
      below-bp : (offset base : ℕ) → int_lt (pos (offset + 4) -ℤ pos base) (pos 0) ≡ true → offset + 4 < base
      below-bp offset base h = grind (arith, ints, h)

      in-arguments : (offset base least end : ℕ) → 4 ≤ least → int_le (pos least) (pos (offset + 4) -ℤ pos base) ≡ true
          → int_lt (pos (offset + 4) -ℤ pos base) (pos (4 + end)) ≡ true → (base ≤ offset) × (offset < base + end)
      in-arguments offset base least end above h k = (grind (arith, ints, h, above), grind (arith, ints, k))

      by : (arg : Option ℕ) → HasExposedArguments image layout entry arg
          → elim arg [
            | None ↦ false
            | Some least ↦ int_le (pos least) (place offset live) && int_lt (place offset live)
                (pos (4 + 2 * frame.args))
          ] ≡ true
          → (offset + 4 < live.base) ⊎ ((live.base ≤ offset) × (offset < live.base + 2 * frame.args))
      by None has e = cc
      by (Some least) (from_argument above start none_less) e =
          let both = and-parts (int_le (pos least) (place offset live))
          (int_lt (place offset live) (pos (4 + 2 * frame.args))) e in
          inr (in-arguments offset live.base least (2 * frame.args) above both.0 both.1)

  exposed-newest : (offset : ℕ) {a : Activation} {callers : List Activation} {top bp : ℕ}
      → StandsHere (a ∷ callers) top bp → top ≤ offset → exposed_by program a.frame offset ≡ true
      → IsOwn image layout offset (a ∷ callers) top
  exposed-newest offset {a = a} standing low e =
      let found = form.frames cpu image program a.frame.entry is
      (newest-stands image layout memory standing).is_at.is_entry in
      let exposed : exposes found.0 (place offset a.frame) ≡ true =
      subst (λ (o : Option Frame). elim o [ None ↦ false | Some frame ↦ exposes frame (place offset a.frame) ] ≡ true)
      found.1.found e in
      elim (exposed-places found.0 a.frame.entry offset a.frame found.1.argument exposed) [
        | inl local ↦ inl (low, omega (arith, local, control-most (is_framed image layout a.frame.entry)))
        | inr argument ↦ argument-own offset found.0.args standing found.1.arguments argument.0 argument.1
      ]

  exposed-case : (offset : ℕ) {a : Activation} {callers : List Activation} {top bp : ℕ}
      → StandsHere (a ∷ callers) top bp
      → (is_exposed_byte program a.frame.base (map (λ (c : Activation). c.frame) callers) offset ≡ true
      → IsOwn image layout offset callers a.frame.base)
      → is_exposed_byte program top (map (λ (c : Activation). c.frame) (a ∷ callers)) offset ≡ true
      → IsOwn image layout offset (a ∷ callers) top
  exposed-case offset {a = a} {callers = callers} {top = top} standing older e =
      by (nat_le top offset && not (nat_le (end_of program a.frame) offset)) refl e
    where
      by : (b : Bool) → nat_le top offset && not (nat_le (end_of program a.frame) offset) ≡ b
          → elim (if b then Some a.frame else owner program a.frame.base (map (λ (c : Activation). c.frame) callers)
          offset) [
            | None ↦ false
            | Some live ↦ exposed_by program live offset
          ] ≡ true
          → IsOwn image layout offset (a ∷ callers) top
      by true holds e =
          let both = and-parts (nat_le top offset) (not (nat_le (end_of program a.frame) offset)) holds in
          exposed-newest offset standing (leb-true top offset both.0) e
      by false holds e = inr (older e)

  -- the byte that a frame exposes is some frame's own
  pub exposed-own : (offset : ℕ) {activations : List Activation} {top bp : ℕ} → StandsHere activations top bp
      → is_exposed_byte program top (map (λ (a : Activation). a.frame) activations) offset ≡ true
      → IsOwn image layout offset activations top
  exposed-own offset (first is_first stands) e = exposed-case offset (first is_first stands) (λ none. cc) e
  exposed-own offset (called stands waits older) e =
      exposed-case offset (called stands waits older) (λ later. exposed-own offset older later) e
