-- At a RET the inner run returns to the caller that waits, which takes back what the callee may have changed.
use Rattle.std.proofs.Common.{◌≡◌, ◌≢◌, ◌≤◌, ◌<◌, ℕ, ◌+◌, ◌*◌, Bool, true, List, ◌∷◌, ◌++◌, map, filter, length, Contains, Some, refl, sym, ap, ap₂, ◌∙◌, subst, arith}
use Rattle.std.specs.Prelude.{◌↔◌, ℤ, pos, ◌^◌}
use Rattle.std.specs.List.{range_with_len}
use Rattle.std.proofs.lemmas.List.{map-append}
use Rattle.std.proofs.lemmas.List.FromFn.{length-range_with_len}
use Rattle.std.proofs.lemmas.List.Sums.{length-filter, count_by-le-length}
use Rattle.dcc_run.specs.End.{Running}
use Rattle.dcc_num.specs.declared.Width.TheVariants.{Word as word_width}
use Rattle.dcc_num.specs.declared.Reg.TheVariants.{Bp}
use Rattle.dcc_prog.specs.declared.refusal.LimitName.TheVariants.{Arguments}
use Rattle.dcc_prog.specs.declared.procedure.Node.{Node}
use Rattle.dcc_machine.specs.declared.instr.Instr.{Instr}
use Rattle.dcc_machine.specs.declared.instr.Op.TheVariants.{Ret as RetOp}
use Rattle.dcc_machine.specs.Machine.{State as Machine, word_in}
use Rattle.dcc_machine.specs.Step.{step}
use Rattle.dcc_prog.specs.Trail.{StandsAt, IsEntry}
use Rattle.dcc_prog.specs.Limit.{arguments}
use Rattle.dcc_prog.specs.Construct.{returns, entry_return}
use Rattle.dcc_prog.specs.Clean.{Stack, top_in, frame_in, is_marked, stack_after}
use Rattle.dcc_prog.proofs.FrameLaws.{arguments-once}
use Rattle.dcc_stack.specs.Accepted.{IsAt, IsFrameFor}
use Rattle.dcc_stack.specs.Standing.{Activation}
use Rattle.dcc_stack.specs.Slots.{Holds, IsGivenBack, IsChangeable, AreNested, PutsAll, gives_back}
use Rattle.dcc_stack.proofs.FormHeights.{no-trails}
use Rattle.dcc_stack.proofs.SlotFrames.{bases-low}
use Rattle.dcc_ir.specs.declared.syntax.Loc.TheVariants.{Half, Flag, Cell as CellHalf}
use Rattle.dcc_ir.specs.Location.{location_width}
use Rattle.dcc_ir.specs.Tree.{Get}
use Rattle.dcc_ir.specs.Value.{Fits}
use Rattle.dcc_ir.specs.Run.{State, Waiting, value_in, scene_of, execute, giving, returning}
use Rattle.dcc_ir.specs.Passing.{passed, bytes_of}
use Rattle.dcc_ops.specs.Temporaries.{temporary_bits, returned_place}
use Rattle.dcc_ops.specs.Coupling.{with_values}
use Rattle.dcc_simulation.specs.Coupled.{Setting, slots_in, typed_by, AreCoupled}
use Rattle.dcc_simulation.specs.Procedures.{Procedure, frame_place, given_back}
use Rattle.dcc_simulation.specs.Passed.{argument_params, returned_values}
use Rattle.dcc_simulation.specs.Statements.{taking_all_back, results_of}
use Rattle.dcc_simulation.specs.Calls.{Returns}
use Rattle.dcc_simulation.specs.Laws.{IsCleanInstruction, Within}
use Rattle.dcc_simulation.specs.FoundPlaces.{IsFoundAt}
use Rattle.dcc_simulation.specs.Nodes.{IsNodeHere, returned, resumed, ReturnNodesAgree}
use Rattle.dcc_simulation.proofs.Coupling.{carried_laws, coupled-fits, slots_agree}
use Rattle.dcc_simulation.proofs.FrameBytes.{cells-small}
use Rattle.dcc_simulation.proofs.OperandBytes.{nested, there}
use Rattle.dcc_simulation.proofs.CallsReturn.{calls-return}
use Rattle.dcc_simulation.proofs.FoundProcedures.{listed, procedure-there, frame-for}
use Rattle.dcc_simulation.proofs.NodesHere.{is-at, found-at}
use Rattle.dcc_simulation.proofs.ArgumentWords.{word_offsets, in-range, range-tells, filtered-tells, filtered-told}
use Rattle.dcc_simulation.proofs.ArgumentWords.{offset-told, offset-tells, two-each}
use Rattle.dcc_simulation.proofs.FrameTakes.{TakesBytes, changed, slots-equal}
use Rattle.dcc_simulation.proofs.FrameHolds.{held-byte, held-holds, held-once, held-small, HoldsPut, put-holds}
use Rattle.dcc_simulation.proofs.LocationsGiven.{Gives, GivesNumbers, passes, given-append, gives-passing, halves-given}
use Rattle.dcc_simulation.proofs.LocationsGiven.{flags-given, gives-numbers}
use Rattle.dcc_simulation.proofs.BytesTakenBack.{GivesWord, words-given, words-taken}
use Rattle.dcc_simulation.proofs.CallPlaces.{StandsAtCall, room, passed-low, passed-high, argument-place}
use Rattle.dcc_simulation.proofs.CallersWait.{HasCaller, has-caller, IsOneCall, call-is}

pub few-filtered : (test : ℕ → Bool) (numbers : List ℕ) → length (filter test numbers) ≤ length numbers
few-filtered test numbers =
    subst (λ n. n ≤ length numbers) (sym (length-filter test numbers)) (count_by-le-length test numbers)

module _ (e : Setting) (s : Machine) (stack : Stack) (instr : Instr) (t : State) (p : Procedure) (node : Node)
    (height count : ℕ) (is : IsCleanInstruction e s stack instr) (here : IsNodeHere e s stack instr is p node height)
    (ret : instr.op ≡ RetOp count) (before : Within is stack.written s t) where
  open e.program use {layout}
  open is.stands use {newest as a}

  abbrev base : ℕ
  base = is.stands.newest.frame.base

  at-here : IsAt e.image layout a.frame.entry a.at a.before (pos height)
  at-here = is-at e s stack instr p node height is here

  found-here : IsFoundAt e a.frame.entry p
  found-here = found-at e s stack instr p node height is here

  is_entry : IsEntry e.image layout a.frame.entry
  is_entry = at-here.is_entry

  frame-here : IsFrameFor e.image e.program a.frame.entry p.frame
  frame-here = frame-for e here.lifting a.frame.entry is_entry p here.procedure

  p_entry : p.proc.entry ≡ a.frame.entry
  p_entry = (listed e here.lifting a.frame.entry p here.procedure).entry_is

  -- the entry procedure has no RET
  other : a.frame.entry ≢ layout.start_ip
  other same =
      no-trails e.cpu e.image e.program is.of_file a.frame.entry a.at a.before (pos height) at-here
      (entry_return (returns same
      (subst (StandsAt e.image layout a.at) ret (there e s stack instr is))))

  -- The caller.

  has : HasCaller e s.memory a is.stands.callers t.waiting (top_in layout s) (word_in s Bp)
  has =
      has-caller e s.memory a is.stands.callers t.waiting (top_in layout s) (word_in s Bp) is.stands.stand
      before.waiting other

  abbrev caller : Activation
  caller = has.caller

  abbrev w : Waiting
  w = has.waits

  abbrev below : ℕ
  below = has.below.stands.height

  caller_entry : IsEntry e.image layout caller.frame.entry
  caller_entry = has.below.stands.is_at.is_entry

  abbrev q : Procedure
  q = (procedure-there e here.lifting has.caller.frame.entry caller_entry).0

  at-call : StandsAtCall e caller q below base a.frame.entry p
  at-call = record {
    lifting = here.lifting;
    is_at = has.below.stands.is_at;
    top_is = has.below.stands.top_is;
    found = (procedure-there e here.lifting has.caller.frame.entry caller_entry).1;
    calls = (has.below.waits.instr, has.below.waits.stands, has.below.waits.calls);
    callee_found = here.procedure;
  }

  one : IsOneCall w.results (results_of p) w.caller.rest (taking_all_back q below 0 (given_back p))
  one =
      call-is e caller q below base a.frame.entry p at-call w has.active has.after.block has.after.at has.after.before
      a.frame.entry has.after.depth has.after.arguments has.after.stmts

  -- Offsets.

  around : AreNested e.program e.image (caller ∷ has.older)
  around =
      (subst (λ l. AreNested e.program e.image (a ∷ l)) has.callers_are (nested e s stack instr is)).3

  offsets-fit : base + 2 * p.frame.args ≤ 65535
  offsets-fit =
      let one = room e caller q below base a.frame.entry p at-call in
      let two = bases-low e.image e.program caller has.older around in
      let three = is.of_file.is_program.layout.small.hi_fits in
      omega (arith, one, two, three)

  abbrev numbers : List ℕ
  numbers = given_back p

  abbrev offsets : List ℕ
  offsets = word_offsets is.stands.newest.frame.base (given_back p)

  number-less : (number : ℕ) → Contains numbers number → number < p.frame.args
  number-less number among =
      let both = filtered-tells (gives_back p.proc p.frame) (range_with_len 0 p.frame.args) number among in
      let less = (range-tells 0 p.frame.args number both.0).1 in
      omega (arith, less)

  few : length offsets ≤ 64
  few =
      let two = two-each base numbers in
      let some = few-filtered (gives_back p.proc p.frame) (range_with_len 0 p.frame.args) in
      let all = length-range_with_len 0 p.frame.args in
      let most = most-arguments in
      omega (arith, two, some, all, most)
    where
      most-arguments : p.frame.args ≤ 32
      most-arguments =
          by (λ above. is.of_file.is_program.cells.accepted.no_limit Arguments p.frame.args
          (arguments is_entry frame-here.arguments above))
        where
          by : ¬ (32 < p.frame.args) → p.frame.args ≤ 32
          by none = omega (arith, none)

  -- What is given.

  fits : Fits (scene_of t)
  fits = coupled-fits e a is.stands.callers stack.written s t before

  abbrev bytes : ℕ → ℕ
  bytes = held-byte e a t is.of_file is_entry

  bytes-small : (offset : ℕ) → bytes offset < 256
  bytes-small = held-small e a t is.of_file is_entry fits

  word-given : (number : ℕ) → Contains numbers number → GivesWord p base bytes t number
  word-given number among =
      let less = number-less number among in
      let fit = offsets-fit in
      let at = before.newest.base in
      let put : HoldsPut e a t fits (base + 2 * number) number (frame_place p word_width (pos (4 + 2 * number))) =
      put-holds e a t fits (base + 2 * number) number (frame_place p word_width (pos (4 + 2 * number)))
      (omega (arith, less, fit, at)) (omega (arith, less, fit, at))
      (argument-place e a.frame.entry p found-here base number less) in
      record {
        argument = less;
        low = put.low;
        high = put.high;
        are = put.are;
        lower = held-once e a t is.of_file is_entry (base + 2 * number) (value_in t put.low) put.lower;
        upper = held-once e a t is.of_file is_entry (base + 2 * number + 1) (value_in t put.high)
            put.upper;
      }

  -- The run.

  abbrev t0 : State
  t0 = record t { running = has.waits.caller; waiting = has.rest }

  abbrev t1 : State
  t1 = giving passed (map t.running.values passed) t0

  abbrev t2 : State
  t2 = giving (map returned_place (range_with_len 0 (length offsets))) (map bytes offsets) t1

  t0-fits : Fits (scene_of t0)
  t0-fits = record { values = has.active.values; len = fits.len; bytes = fits.bytes }

  bits-same : t.running.graph.bits ≡ w.caller.graph.bits
  bits-same = before.newest.bits ∙ sym has.active.bits

  gives : Gives passes t0 t1
  gives =
      gives-passing passed t.running.values t0 refl t0-fits
      (λ location. subst (λ bits. t.running.values location < 2 ^ location_width bits location) bits-same
      (fits.values location))

  t1-bits : t1.running.graph.bits ≡ temporary_bits
  t1-bits = ap (λ (v : State). v.running.graph.bits) gives.is ∙ has.active.bits

  numbers-given : GivesNumbers 0 (map bytes offsets) t1 t2
  numbers-given =
      gives-numbers bytes bytes-small offsets 0 t1 t1-bits gives.fits (let less = few in omega (arith, less))

  t2-is : t2 ≡ with_values t2.running.values t0
  t2-is = numbers-given.gives.is ∙ ap (with_values t2.running.values) gives.is

  values-are : map (value_in t) (returned_values p) ≡ map t.running.values passed ++ map bytes offsets
  values-are =
      map-append (value_in t) (map Get passed) (bytes_of (argument_params p) numbers)
      ∙ ap (λ l. map t.running.values passed ++ l) (words-given p base bytes t numbers word-given)

  results-are : w.results ≡ passed ++ map returned_place (range_with_len 0 (length offsets))
  results-are =
      one.results_are
      ∙ ap (λ n. passed ++ map returned_place (range_with_len 0 n)) (sym (two-each base numbers))

  returned-is : returned p t ≡ t2
  returned-is =
      ap (λ l. returning (map (value_in t) (returned_values p)) l t) has.waiting_are
      ∙ ap₂ (λ results values. giving results values t0) results-are values-are
      ∙ given-append passed (map returned_place (range_with_len 0 (length offsets))) t.running.values
      (map bytes offsets) t0

  abbrev u : State
  u = execute (taking_all_back q below 0 (given_back p)) t2

  rest-is : t2.running.rest ≡ w.caller.rest
  rest-is = ap (λ (v : State). v.running.rest) t2-is

  resumed-is : resumed p t ≡ u
  resumed-is =
      ap (λ (v : State). execute v.running.rest v) returned-is
      ∙ ap (λ l. execute l t2) (rest-is ∙ one.rest_is)

  takes : TakesBytes e caller bytes offsets t2 u
  takes =
      words-taken e caller q below base bytes (cells-small e caller.frame.entry is.numbered caller_entry) bytes-small
      numbers 0 t2 numbers-given.gives.fits (ap (λ (v : State). v.end) t2-is ∙ before.running)
      (ap (λ (v : State). v.running.base) t2-is ∙ has.active.base) numbers-given.held
      (λ number among.
      let less = number-less number among in
      let fit = offsets-fit in
      record {
        below = omega (arith, less, fit);
        low = passed-low e caller q below base a.frame.entry p at-call number less;
        high = passed-high e caller q below base a.frame.entry p at-call number less;
      })

  u-is : u ≡ changed u.running.values u.memory t0
  u-is = takes.is ∙ ap (changed u.running.values u.memory) t2-is

  -- What may change.

  given-back-is : (number : ℕ) → number < p.frame.args
      → (gives_back p.proc p.frame number ≡ true) ↔ IsGivenBack e.image layout p.proc.entry number
  given-back-is number less =
      carried_laws.given_back p.proc p.frame number is.of_file
      (listed e here.lifting a.frame.entry p here.procedure).among
      (ap (frame_in e.program.procs.items e.program.cells.frames.items) p_entry ∙ frame-here.found) less

  changeable : (offset : ℕ) → Contains offsets offset → IsChangeable e.image layout a.frame offset
  changeable offset among =
      let found = offset-tells base numbers offset among in
      let number = found.0 in
      let less = number-less number found.1 in
      let both = filtered-tells (gives_back p.proc p.frame) (range_with_len 0 p.frame.args) number found.1 in
      record {
        number = number;
        count = p.frame.args;
        arguments = frame-here.arguments;
        is_argument = less;
        is_given_back =
            subst (λ n. IsGivenBack e.image layout n number) p_entry ((given-back-is number less).0 both.1);
        from = found.2.from;
        to = found.2.to;
      }

  given : (offset : ℕ) → IsChangeable e.image layout a.frame offset → is_marked stack.written offset ≡ true
      → Contains offsets offset × Holds e.image layout t.memory (typed_by e a t.running) offset (bytes offset)
  given offset changes marked =
      let same = arguments-once changes.arguments frame-here.arguments in
      let within = changes.is_argument in
      let less : changes.number < p.frame.args = omega (arith, same, within) in (
        offset-told base numbers changes.number offset
            (filtered-told (gives_back p.proc p.frame) (range_with_len 0 p.frame.args) changes.number
            (in-range 0 p.frame.args changes.number (omega arith) (omega (arith, less)))
            ((given-back-is changes.number less).1
            (subst (λ n. IsGivenBack e.image layout n changes.number) (sym p_entry) changes.is_given_back)))
            (record { from = changes.from; to = changes.to }),
        held-holds e a t is.of_file is_entry offset,
      )

  -- The caller goes on.

  abbrev Resumes : (ℤ → ℕ) → List ℕ → Type 0
  Resumes slots other =
      PutsAll e.image layout bytes (record { activation = has.caller; slots = slots }) other offsets
      (typed_by e has.caller u.running) u.memory

  slots-kept : (k : ℤ)
      → slots_in (e.cells caller.frame.entry) t2.running.values k
      ≡ slots_in (e.cells caller.frame.entry) w.caller.values k
  slots-kept k =
      slots_agree (e.cells caller.frame.entry) k w.caller.values t2.running.values
      (λ number half.
      numbers-given.gives.kept (CellHalf number half) refl ∙ gives.kept (CellHalf number half) refl)

  puts : Resumes (slots_in (e.cells caller.frame.entry) w.caller.values) t.memory
  puts =
      subst (Resumes (slots_in (e.cells caller.frame.entry) w.caller.values)) (ap (λ (v : State). v.memory) t2-is)
      (subst (λ slots. Resumes slots t2.memory) (slots-equal slots-kept) takes.puts)

  back : Returns e a is.stands.callers stack.written t u
  back = record {
    running = ap (λ (v : State). v.end) u-is ∙ before.running;
    caller = caller;
    older = has.older;
    callers_are = has.callers_are;
    waits = w;
    waiting = has.waiting_are ∙ ap (λ l. has.waits ∷ l) (sym (ap (λ (v : State). v.waiting) u-is));
    newest = record {
      graph = has.active.graph ∙ ap Some (sym (ap (λ (v : State). v.running.graph) u-is));
      bits = ap (λ (v : State). v.running.graph.bits) u-is ∙ has.active.bits;
      base = ap (λ (v : State). v.running.base) u-is ∙ has.active.base;
      values = takes.fits.values;
    };
    passes = record {
      halves = λ r half general.
          takes.others (Half r half) refl ∙ numbers-given.gives.kept (Half r half) refl
          ∙ halves-given t.running.values t0 r half general;
      flags = λ flag.
          takes.others (Flag flag) refl ∙ numbers-given.gives.kept (Flag flag) refl
          ∙ flags-given t.running.values t0 flag;
      input = ap (λ (v : State). v.input) u-is;
      events = ap (λ (v : State). v.events) u-is;
    };
    offsets = offsets;
    bytes = bytes;
    small = bytes-small;
    changeable = changeable;
    given = given;
    resumed = typed_by e has.caller u.running;
    puts = puts;
    like = record { frame = refl; slots = λ k. refl };
  }

  abbrev Agrees : Waiting → List Waiting → Type 0
  Agrees waits rest =
      (t.waiting ≡ waits ∷ rest)
      × AreCoupled e (step e.program.layout.cpu s)
      (stack_after e.program.layout (Some instr) s (step e.program.layout.cpu s) stack) (resumed p t)
      × ((returned p t).end ≡ Running) × ((returned p t).running.rest ≡ waits.caller.rest)
      × ((resumed p t).running.block ≡ waits.caller.block)

  agree : Agrees has.waits has.rest
  agree = (
    has.waiting_are,
    subst (AreCoupled e (step e.program.layout.cpu s)
        (stack_after e.program.layout (Some instr) s (step e.program.layout.cpu s) stack)) (sym resumed-is)
        (calls-return e s stack instr count t u is ret before back),
    ap (λ (v : State). v.end) returned-is ∙ ap (λ (v : State). v.end) t2-is ∙ before.running,
    ap (λ (v : State). v.running.rest) returned-is ∙ rest-is,
    ap (λ (v : State). v.running.block) resumed-is ∙ ap (λ (v : State). v.running.block) u-is,
  )

pub return-nodes-agree : ReturnNodesAgree
return-nodes-agree e s stack instr t p node height count is here ret before =
    let found = has e s stack instr t p node height count is here ret before in
    let all = agree e s stack instr t p node height count is here ret before in
    (found.waits, found.rest, all.0, all.1, all.2, all.3, all.4)
