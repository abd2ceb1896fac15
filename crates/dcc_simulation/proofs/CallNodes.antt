-- At the block of a CALL the inner run begins the callee with what passes to it.
use Rattle.std.proofs.Common.{◌≡◌, ◌≤◌, ◌<◌, ◌⊎◌, inl, inr, ℕ, ◌+◌, ◌-◌, ◌*◌, ◌/◌, ◌%◌, ◌^◌, true, false, List, [], ◌∷◌, ◌++◌, map, length, Contains, Some, refl, sym, ap, ap₂, ◌∙◌, subst, arith}
use Rattle.std.specs.Prelude.{ℤ, pos, ◌+ℤ◌, ◌-ℤ◌, ◌<ℤ◌, ◌≤ℤ◌, if◌then◌else◌, slice_get, slice_index}
use Rattle.std.specs.List.{range_with_len}
use Rattle.std.proofs.lemmas.Int.{ints}
use Rattle.std.proofs.lemmas.List.{map-append}
use Rattle.dcc_num.specs.declared.Reg.TheVariants.{Bp}
use Rattle.dcc_prog.specs.declared.procedure.Node.{Node}
use Rattle.dcc_machine.specs.declared.instr.Instr.{Instr}
use Rattle.dcc_machine.specs.declared.instr.Op.TheVariants.{Call as CallOp}
use Rattle.dcc_machine.specs.Machine.{State as Machine, word_in}
use Rattle.dcc_machine.specs.Step.{step}
use Rattle.dcc_prog.specs.Trail.{instruction_in, IsEntry}
use Rattle.dcc_prog.specs.Frame.{own_bytes, IsPlaced}
use Rattle.dcc_prog.specs.Clean.{Stack, top_in, is_marked, end_of, stack_after}
use Rattle.dcc_stack.specs.Accepted.{IsAt}
use Rattle.dcc_stack.specs.Standing.{Activation}
use Rattle.dcc_stack.specs.Slots.{Holds, activations_of}
use Rattle.dcc_stack.specs.SlotLaws.{IsArgumentByte}
use Rattle.dcc_stack.proofs.SlotFrames.{end-is, bases-low}
use Rattle.dcc_stack.proofs.SlotHeld.{holds-same, holds-value}
use Rattle.dcc_stack.proofs.SlotPuts.{HavePut, have-put}
use Rattle.dcc_ir.specs.declared.syntax.Loc.TheVariants.{Cell as CellHalf}
use Rattle.dcc_ir.specs.Location.{filled, location_width}
use Rattle.dcc_ir.specs.Tree.{Get, Call, Block, Graph}
use Rattle.dcc_ir.specs.Value.{Fits}
use Rattle.dcc_ir.specs.Run.{State, Waiting, value_in, activation, callee_base, going_to, entering, passing, giving, graph_at, block_step}
use Rattle.dcc_ir.specs.Run as run
use Rattle.dcc_ir.specs.Passing.{passed, param_of}
use Rattle.dcc_ir.proofs.FitStates.{filled-are}
use Rattle.dcc_ops.specs.Coupling.{with_values}
use Rattle.dcc_simulation.specs.Coupled.{Setting, typed_by, typed_waiting, AreWaiting, AreCoupled}
use Rattle.dcc_simulation.specs.Procedures.{Procedure, procedure_at, given_back}
use Rattle.dcc_simulation.specs.Passed.{argument_param, params_of}
use Rattle.dcc_simulation.specs.Statements.{argument_value, taking_all_back, results_of, arguments_of, calling}
use Rattle.dcc_simulation.specs.Calls.{begun, Begins}
use Rattle.dcc_simulation.specs.Laws.{IsCleanInstruction, Within}
use Rattle.dcc_simulation.specs.Nodes.{procedures_in, IsGraphFor, IsNodeHere, CallNodesAgree}
use Rattle.dcc_simulation.proofs.Coupling.{carried_laws, coupled-fits, slots_agree}
use Rattle.dcc_simulation.proofs.FrameBytes.{not-equal, cells-small}
use Rattle.dcc_simulation.proofs.CallsBegin.{calls-begin}
use Rattle.dcc_simulation.proofs.FoundProcedures.{listed}
use Rattle.dcc_simulation.proofs.GraphsFound.{map-twice, graph-for}
use Rattle.dcc_simulation.proofs.ArgumentWords.{word_offsets, in-range, range-tells, offset-told, offset-tells}
use Rattle.dcc_simulation.proofs.FrameTakes.{TakesBytes, changed}
use Rattle.dcc_simulation.proofs.FrameHolds.{HoldsWord, held-byte, held-once, held-small, word-holds}
use Rattle.dcc_simulation.proofs.LocationsGiven.{Gives, passes, passed-given, gives-passing, halves-given, flags-given}
use Rattle.dcc_simulation.proofs.ArgumentsPass.{IsPut, passing-append, words-pass}
use Rattle.dcc_simulation.proofs.CallPlaces.{StandsAtCall, callee-at, callee-frame, callee-entry, callee-other}
use Rattle.dcc_simulation.proofs.CallPlaces.{own-room, room, passed-word, argument-place}

-- The call.

-- the inner run has begun the callee: with the frame's bytes, then with the halves and flags
abbrev beginning : State → Waiting → Graph → ℕ → ℕ → State
beginning t waits graph fill depth =
    record t {
      running = activation graph (filled graph.bits fill) (callee_base t.running.base depth);
      waiting = waits ∷ t.waiting;
    }

module _ (e : Setting) (s : Machine) (stack : Stack) (instr : Instr) (t : State) (p : Procedure) (node : Node)
    (height fill target : ℕ) (callee : Procedure) (graph : Graph) (first : Block)
    (is : IsCleanInstruction e s stack instr) (here : IsNodeHere e s stack instr is p node height)
    (call : instr.op ≡ CallOp target) (before : Within is stack.written s t)
    (block_in : Contains t.running.graph.blocks t.running.block) (block_at : t.running.block.at ≡ s.ip)
    (fill_small : fill < 65536) (callee_found : procedure_at (procedures_in e.program) target ≡ Some callee)
    (graph_found : graph_at e.inner.graphs target ≡ Some graph) (first_is : slice_get graph.blocks 0 ≡ Some first) where
  open e.program use {layout}
  open is.stands use {newest as a}

  abbrev top : ℕ
  top = top_in e.program.layout s

  abbrev c : Activation
  c = begun target (top_in e.program.layout s) (word_in s Bp)

  abbrev count : ℕ
  count = callee.frame.args

  at-call : StandsAtCall e a p height top target callee
  at-call = record {
    lifting = here.lifting;
    is_at =
        subst (λ n. IsAt e.image layout a.frame.entry a.at a.before (pos n)) here.height_is here.stands.is_at;
    top_is = let same = here.height_is in let was = here.stands.top_is in omega (arith, same, was);
    found = here.procedure;
    calls = (instr, ap (instruction_in e.image layout) is.stands.place ∙ is.found, call);
    callee_found = callee_found;
  }

  p_entry : p.proc.entry ≡ a.frame.entry
  p_entry = (listed e here.lifting a.frame.entry p here.procedure).entry_is

  callee_entry : callee.proc.entry ≡ target
  callee_entry = (listed e here.lifting target callee callee_found).entry_is

  is_entry : IsEntry e.image layout a.frame.entry
  is_entry = at-call.is_at.is_entry

  -- Offsets.

  top-room : top + 2 * count + 2 ≤ a.frame.base
  top-room = room e a p height top target callee at-call

  base-low : a.frame.base ≤ layout.hi + 2
  base-low =
      bases-low e.image e.program a (activations_of (typed_waiting e is.stands.callers t.waiting))
      before.carried.nested

  hi-fits : layout.hi ≤ 65535
  hi-fits = is.of_file.is_program.layout.small.hi_fits

  offsets-fit : top + 2 * count ≤ 65535
  offsets-fit = let one = top-room in let two = base-low in let three = hi-fits in omega (arith, one, two, three)

  inner-base : callee_base t.running.base (height + 2) ≡ top
  inner-base =
      let base = before.newest.base in
      let fit = offsets-fit in
      let same = at-call.top_is in
      wraps t.running.base a.frame.base height top base same
      (omega (arith, fit)) (let low = base-low in let high = hi-fits in omega (arith, low, high))
    where
      wraps : (inner base height top : ℕ) → inner ≡ base % 65536 → top + 2 + height ≡ base → top < 65536
          → base ≤ 65537
          → (inner + 65536 - (height + 2)) % 65536 ≡ top
      wraps inner base height top one two less most = omega (arith, one, two, less, most)

  -- Values.

  fits : Fits (run.scene_of t)
  fits = coupled-fits e a is.stands.callers stack.written s t before

  abbrev value : ℕ → ℕ
  value number = value_in t (argument_value p height number)

  abbrev bytes : ℕ → ℕ
  bytes = held-byte e a t is.of_file is_entry

  bytes-small : (offset : ℕ) → bytes offset < 256
  bytes-small = held-small e a t is.of_file is_entry fits

  word-at : (number : ℕ) → number < count → HoldsWord e a t (top + 2 * number) (value number)
  word-at number less =
      word-holds e a t fits (top + 2 * number) _ before.newest.base
      (let fit = offsets-fit in omega (arith, less, fit))
      (passed-word e a p height top target callee at-call number less)

  put-at : (number : ℕ) → number < count → IsPut e c callee bytes value number
  put-at number less =
      let holds = word-at number less in record {
        place = argument-place e target callee (callee-at e a p height top target callee at-call) top number less;
        word = holds.small;
        low = held-once e a t is.of_file is_entry (top + 2 * number) (value number % 256) holds.low;
        high = held-once e a t is.of_file is_entry (top + 2 * number + 1) (value number / 256) holds.high;
      }

  -- The run.

  abbrev waits : Waiting
  waits = record {
    caller = record t.running { rest = taking_all_back p height 0 (given_back callee); begins = false };
    results = results_of callee;
  }

  abbrev t0 : State
  t0 = beginning t waits graph fill (height + 2)

  abbrev numbers : List ℕ
  numbers = range_with_len 0 count

  abbrev t1 : State
  t1 = passing 0 (map (argument_param callee) numbers) (map value numbers) t0

  abbrev t2 : State
  t2 = giving passed (map t.running.values passed) t1

  abbrev u : State
  u = record t2 { running = record t2.running { block = first; rest = first.stmts; begins = true } }

  graph-of : IsGraphFor layout.start_ip callee graph
  graph-of =
      graph-for layout.start_ip (procedures_in e.program) e.inner.graphs target callee graph here.lifting.graphs
      callee_found graph_found

  reached : IsEntry e.image layout target
  reached = callee-entry e a p height top target callee at-call

  takes : TakesBytes e c bytes (word_offsets top numbers) t0 t1
  takes =
      words-pass e c callee bytes value count 0 t0 (cells-small e target is.numbered reached)
      (record { values = filled-are graph.bits fill; len = fits.len; bytes = fits.bytes }) inner-base
      (let fit = offsets-fit in omega (arith, fit)) (λ number low high. put-at number (omega (arith, high)))

  bits-same : t.running.graph.bits ≡ t1.running.graph.bits
  bits-same =
      before.newest.bits ∙ sym (ap (λ (v : State). v.running.graph.bits) takes.is ∙ graph-of.bits)

  gives : Gives passes t1 t2
  gives =
      gives-passing passed t.running.values t1 refl takes.fits
      (λ location. subst (λ bits. t.running.values location < 2 ^ location_width bits location) bits-same
      (fits.values location))

  t2-is : t2 ≡ changed t2.running.values t1.memory t0
  t2-is = gives.is ∙ ap (with_values t2.running.values) takes.is

  params-are : graph.params ≡ params_of callee
  params-are =
      graph-of.params
      ∙ ap (λ b. if b then [] else params_of callee)
      (not-equal callee.proc.entry layout.start_ip
      (λ same. callee-other e a p height top target callee at-call (sym callee_entry ∙ same)))

  arguments-are : map (value_in t) (arguments_of p height callee) ≡ map value numbers ++ map t.running.values passed
  arguments-are =
      map-append (value_in t) (map (argument_value p height) numbers) (map Get passed)
      ∙ ap (λ l. l ++ map t.running.values passed) (map-twice (value_in t) (argument_value p height) numbers)

  graph-is : t2.running.graph ≡ graph
  graph-is = ap (λ (v : State). v.running.graph) t2-is

  runs : block_step e.inner.graphs fill (calling p height (Some callee)) t ≡ u
  runs =
      ap (λ found. run.calling fill (results_of callee) (height + 2) (map (value_in t) (arguments_of p height callee))
      found (record t { running = waits.caller }))
      (ap (graph_at e.inner.graphs) callee_entry ∙ graph_found)
      ∙ ap₂ (λ params arguments. going_to 0 (passing 0 params arguments t0)) params-are arguments-are
      ∙ ap (going_to 0)
      (passing-append count 0 (argument_param callee) value (map param_of passed) (map t.running.values passed) t0
      ∙ passed-given passed t.running.values (0 + count) t1)
      ∙ ap (λ found. entering found t2) (ap (λ g. slice_get g.blocks 0) graph-is ∙ first_is)

  -- What the callee holds.

  arguments-end : end_of e.program c.frame ≡ top + 2 * count
  arguments-end =
      end-is e.image e.program c.frame callee.frame (callee-frame e a p height top target callee at-call)

  in-offsets : (offset : ℕ) → IsArgumentByte e.program c.frame offset → Contains (word_offsets top numbers) offset
  in-offsets offset argument =
      let low = argument.0 in
      let high = argument.1 in
      let end = arguments-end in
      let number = (offset - top) / 2 in
      offset-told top numbers number offset
      (in-range 0 count number (omega arith) (omega (arith, low, high, end)))
      (record { from = omega (arith, low); to = omega (arith, low) })

  argument-at : (offset : ℕ) → Contains (word_offsets top numbers) offset → IsArgumentByte e.program c.frame offset
  argument-at offset has =
      let found = offset-tells top numbers offset has in
      let within = range-tells 0 count found.0 found.1 in
      let end = arguments-end in
      let low = found.2.from in
      let high = found.2.to in
      let less = within.1 in
      (omega (arith, low), omega (arith, high, less, end))

  inside : (offset : ℕ) → Contains (word_offsets top numbers) offset → offset < length t.memory
  inside offset has =
      let high = (argument-at offset has).1 in
      let end = arguments-end in
      let fit = offsets-fit in
      let len = fits.len in
      omega (arith, high, end, fit, len)

  have : HavePut e.program e.image bytes (typed_by e c t0.running) t.memory (word_offsets top numbers)
      (typed_by e c t1.running) t1.memory
  have =
      have-put e.program e.image bytes bytes-small (typed_by e c t0.running) t.memory (word_offsets top numbers)
      (typed_by e c t1.running) t1.memory inside takes.puts

  memory-is : u.memory ≡ t1.memory
  memory-is = ap (λ (v : State). v.memory) t2-is

  -- the caller's bytes are the machine's
  machine-is : (offset : ℕ) → IsArgumentByte e.program c.frame offset → is_marked stack.written offset ≡ true
      → slice_index s.memory (e.program.layout.ds * 16 + offset) ≡ bytes offset
  machine-is offset argument marked =
      let low = argument.0 in
      let high = argument.1 in
      let end = arguments-end in
      let own =
      subst (λ n. pos (2 * count) ≤ℤ own_bytes e.image layout a.frame.entry (pos n)) (sym here.height_is)
      (own-room e a p height top target callee at-call) in
      let mine =
      carried_laws.own offset is.of_file here.stands
      (below (own_bytes e.image layout a.frame.entry (pos here.stands.height)) offset own
      (omega (arith, high, end))) in
      held-once e a t is.of_file is_entry offset (slice_index s.memory (e.program.layout.ds * 16 + offset))
      (carried_laws.reads_own offset before.carried low mine.0 marked mine.1)
    where
      below : (z : ℤ) (offset : ℕ) → pos (2 * count) ≤ℤ z → offset < top + 2 * count
          → pos offset <ℤ (pos top +ℤ z)
      below z offset own less = omega (arith, ints, own, less)

  held : (offset : ℕ) → IsArgumentByte e.program c.frame offset → is_marked stack.written offset ≡ true
      → Holds e.image layout u.memory (typed_by e c u.running) offset
      (slice_index s.memory (e.program.layout.ds * 16 + offset))
  held offset argument marked =
      holds-same e.program e.image (typed_by e c t1.running) (typed_by e c u.running) offset
      (slice_index s.memory (e.program.layout.ds * 16 + offset)) refl (ap (λ m. slice_index m offset) memory-is)
      (slots_agree (e.cells target) (pos (offset + 4) -ℤ pos top) t1.running.values t2.running.values
      (λ number half. gives.kept (CellHalf number half) refl))
      (holds-value e.program e.image (typed_by e c t1.running) offset (bytes offset)
      (slice_index s.memory (e.program.layout.ds * 16 + offset)) (machine-is offset argument marked)
      (have.holds offset (in-offsets offset argument)))

  abbrev IsPlacedArgument : ℕ → Type 0
  IsPlacedArgument offset =
      IsArgumentByte e.program c.frame offset
      × IsPlaced e.image layout target (pos (offset + 4) -ℤ pos (top_in e.program.layout s))

  others : (offset : ℕ) → (slice_index u.memory offset ≡ slice_index t.memory offset) ⊎ IsPlacedArgument offset
  others offset = elim (have.memory offset) [
    | inl same ↦ inl (ap (λ m. slice_index m offset) memory-is ∙ same)
    | inr both ↦ inr (argument-at offset both.0, both.1)
  ]

  -- The caller waits.

  stmts-are : t.running.block.stmts
      ≡ Call (results_of callee) target (arguments_of p height callee) (height + 2) ∷ waits.caller.rest
  stmts-are =
      here.lifting.calls p t.running.graph t.running.block
      (subst (λ n. procedure_at (procedures_in e.program) n ≡ Some p) (sym p_entry) here.procedure)
      (ap (graph_at e.inner.graphs) p_entry ∙ before.newest.graph) block_in node target a.before height
      (subst (λ n. Contains p.proc.nodes.entries (n, node)) (sym block_at) here.node_is)
      (ap (λ (i : Instr). i.op) here.instr_is ∙ call)
      (subst (λ n. IsAt e.image layout p.proc.entry n a.before (pos height)) (is.stands.place ∙ sym block_at)
      (subst (λ n. IsAt e.image layout n a.at a.before (pos height)) (sym p_entry) at-call.is_at))
      ∙ ap (calling p height) callee_found
      ∙ ap (λ n. Call (results_of callee) n (arguments_of p height callee) (height + 2) ∷ waits.caller.rest)
      callee_entry

  waiting : AreWaiting e c (a ∷ is.stands.callers) (waits ∷ t.waiting)
  waiting = (
    record {
      graph = before.newest.graph;
      bits = before.newest.bits;
      base = before.newest.base;
      values = before.newest.values;
    },
    record {
      block = block_in;
      at = block_at ∙ sym is.stands.place;
      before = [];
      arguments = arguments_of p height callee;
      depth = height + 2;
      stmts = stmts-are;
    },
    before.waiting,
  )

  begins : Begins e c a is.stands.callers stack.written s t u
  begins = record {
    running = ap (λ (v : State). v.end) t2-is ∙ before.running;
    newest = record {
      graph = graph_found ∙ ap Some (sym graph-is);
      bits = ap (λ (g : Graph). g.bits) graph-is ∙ graph-of.bits;
      base = ap (λ (v : State). v.running.base) t2-is ∙ inner-base ∙ whole top offsets-fit;
      values = gives.fits.values;
    };
    waits = waits;
    are = ap (λ (v : State). v.waiting) t2-is;
    waiting = waiting;
    values = refl;
    passes = record {
      halves = λ r half general. halves-given t.running.values t1 r half general;
      flags = λ flag. flags-given t.running.values t1 flag;
      input = ap (λ (v : State). v.input) t2-is;
      events = ap (λ (v : State). v.events) t2-is;
    };
    size = gives.fits.len;
    bytes = gives.fits.bytes;
    held = held;
    others = others;
  }
    where
      whole : (n : ℕ) → n + 2 * count ≤ 65535 → n ≡ n % 65536
      whole n less = omega (arith, less)

  abbrev Agrees : State → Type 0
  Agrees v =
      AreCoupled e (step e.program.layout.cpu s)
      (stack_after e.program.layout (Some instr) s (step e.program.layout.cpu s) stack) v
      × (v.running.block ≡ first) × (v.running.rest ≡ first.stmts) × (v.running.begins ≡ true)

  agrees : Agrees (block_step e.inner.graphs fill (calling p height (Some callee)) t)
  agrees =
      subst Agrees (sym runs) (calls-begin e s stack instr target t u is call before begins, refl, refl, refl)

pub call-nodes-agree : CallNodesAgree
call-nodes-agree e s stack instr t p node height fill target callee graph first is here call before block_in block_at
    fill_small found graph_found first_is =
    agrees e s stack instr t p node height fill target callee graph first is here call before block_in block_at
    fill_small found graph_found first_is
