-- What DOS calls do.
use Rattle.std.proofs.Common.{◌≡◌, ℕ, ◌≤◌, ◌%◌, Bool, true, false, List, [], ◌∷◌, ◌++◌, Option, Some, None, refl, sym, ap, ◌∙◌, subst, arith}
use Rattle.std.specs.Prelude.{is_some, option_map, Result, Ok, Err, OnOk, OnErr}
use Rattle.dcc_run.specs.End.{Exit, Stuck}
use Rattle.dcc_run.specs.Event.{Event, MetEnd, taken_by, writes}
use Rattle.dcc_run.proofs.EventLaws.{written-writes, taken-writes}
use Rattle.std.specs.Result.{IsErrAnd}
use Rattle.dcc_io.specs.declared.outside.Failed.{Failed}
use Rattle.dcc_io.specs.Count.{Rose}
use Rattle.dcc_io.specs.Told.{append_told, prepend_told, AppendsProperPrefix}
use Rattle.dcc_io.proofs.ToldLemmas.{prepend_told-nil}
use Rattle.dcc_c.specs.declared.syntax.CType.{CType}
use Rattle.dcc_c.specs.declared.syntax.Base.TheVariants.{Uchar}
use Rattle.dcc_c.specs.Types.{plain}
use Rattle.dcc_c.specs.Tree.{Expr, Tree}
use Rattle.dcc_c.specs.Value.{Value, number, converted, Outcome, Gives, Divides, Undefined, and_then, Target, Scope, value_of}
use Rattle.dcc_c.specs.Dos.{dos_signature, string_at}
use Rattle.dcc_c.specs.Run.{Continuation, State, scope_of, result_step, with_end, with_events, key_step, dos_step, arguments_of}
use Rattle.dcc_value.specs.declared.value.Value.{Value as Held}
use Rattle.dcc_value.specs.declared.value.NoValue.{NoValue}
use Rattle.dcc_value.specs.declared.variable.Binding.{Binding as Bound}
use Rattle.dcc_value.specs.declared.expression.Resolved.{Resolved}
use Rattle.dcc_value.specs.declared.expression.Target.{Target as Place}
use Rattle.dcc_prepare.specs.declared.program.Dos.{Dos as DosCall}
use Rattle.dcc_prepare.specs.declared.program.Dos.TheVariants.{Putc as calls_putc, Getche as calls_getche, Getch as calls_getch, Puts as calls_puts, Leave as calls_leave}
use Rattle.dcc_crun.specs.declared.ending.Ending.TheVariants.{Exit as KeptExit}
use Rattle.dcc_crun.specs.declared.ending.Stop.{Stop}
use Rattle.dcc_crun.specs.declared.ending.Stop.TheVariants.{Refused}
use Rattle.dcc_crun.specs.declared.moment.Moment.{Moment}
use Rattle.dcc_console.specs.Strings.{string_in}
use Rattle.dcc_crun.proofs.StringLaws.{string_is}
use Rattle.dcc_value.specs.Evaluation.{outcome_of, typed}
use Rattle.dcc_value.specs.Resolved.{Names, Contents, Fits, scope_over, target_named}
use Rattle.dcc_prepare.specs.Points.{locals_declared, StandAll, dos_call}
use Rattle.dcc_crun.specs.Ending.{refusal_of, write_stop}
use Rattle.dcc_crun.specs.Standing.{IsTargetIf, IsRunning}
use Rattle.dcc_console.specs.declared.fault.Fault.{Fault}
use Rattle.dcc_console.specs.declared.fault.Fault.TheVariants.{Input as ReadFault, Output as WriteFault}
use Rattle.dcc_console.specs.Key.{key_events, TakesKey, next_byte, no_byte, IsUntaken, IsCutKey, IsRefusedKey}
use Rattle.dcc_console.specs.WithConsole.{told_bytes}
use Rattle.dcc_console.proofs.KeyLaws.{key-taken}
use Rattle.dcc_crun.specs.Doing.{scene_in, names_at, IsKept, IsEnded, end_at, single, Kept, CallsForKey, CallsDos, IsArgument, IsSole, Does, CannotRead, CannotWrite, ComesTo, StaysIfRefused, Counts}
use Rattle.dcc_crun.proofs.StepLaws.{made_faults, write_faults}
use Rattle.dcc_crun.proofs.MomentLaws.{fits_here, scope_here, ended, goes_further, takes-quiet, takes-rest}

-- Bytes.

mod_twice : (n : ℕ) → n % 256 % 256 ≡ n % 256
mod_twice n = omega arith

byte_of : (o : Outcome Value) (w : Value) → and_then (λ v. Gives (converted (plain Uchar) v ∷ [])) o ≡ Gives (w ∷ []) → w.bits % 256 ≡ w.bits
byte_of (Gives v) w is =
    let same : converted (plain Uchar) v ≡ w = cc in
    ap (λ (x : Value). x.bits % 256) (sym same) ∙ mod_twice _ ∙ ap (λ (x : Value). x.bits) same
byte_of Divides w is = cc
byte_of Undefined w is = cc

gives_not : {w : List Value} → Undefined ≡ Gives w → ⊥
gives_not is = cc

none_given : (f : Value → Outcome (List Value)) (o : Outcome Value) (w : List Value) → ((v : Value) → f v ≡ Gives w → ⊥) → and_then f o ≡ Gives w → ⊥
none_given f (Gives v) w never is = never v is
none_given f Divides w never is = cc
none_given f Undefined w never is = cc

-- the value of an only argument that becomes an unsigned char is a byte
pub byte_argument : (scope : Scope) (es : List Expr) (w : Value) → arguments_of scope (plain Uchar ∷ []) es ≡ Gives (w ∷ []) → w.bits % 256 ≡ w.bits
byte_argument scope [] w is = cc
byte_argument scope (e ∷ []) w is = byte_of (value_of scope e) w is
byte_argument scope (e ∷ f ∷ es) w is = absurd (none_given (λ v. Undefined) (value_of scope e) (w ∷ []) (λ v h. gives_not h) is)

-- The argument of a call.

-- the arguments of a call come to what they come to in each scene
pub argument_is : (globals : List Bound) (m : Moment) (dos : DosCall) (arguments : List Resolved) (r : Result Held NoValue) (type : CType) (scene : Contents) → scene ≡ scene_in m globals →
    type ∷ [] ≡ (dos_signature (dos_call dos)).params →
    ((names : Names) (es : List Expr) → StandAll names es arguments → Fits names scene → outcome_of single r ≡ arguments_of (scope_over names scene) (type ∷ []) es) →
    IsArgument globals m dos arguments r
argument_is globals m dos arguments r type scene same takes is tree points s es are state stand =
    ap (λ types. arguments_of (scope_of tree s) types es) (sym takes)
    ∙ ap (λ sc. arguments_of sc (type ∷ []) es) (sym (scope_here tree points globals m s are state))
    ∙ ap (λ sc. arguments_of (scope_over (names_at tree s) sc) (type ∷ []) es) (sym same)
    ∙ sym (is (names_at tree s) es stand (subst (Fits (names_at tree s)) (sym same) (fits_here tree points globals m s are state)))

-- a DOS function that takes an argument gives nothing
no_result : (dos : DosCall) (target : Target) (v : Value) (line : ℕ) (s : State) → dos_step (dos_call dos) (Some target) (v ∷ []) line s ≡ with_end (Stuck line) s
no_result calls_putc target v line s = refl
no_result calls_getche target v line s = refl
no_result calls_getch target v line s = refl
no_result calls_puts target v line s = refl
no_result calls_leave target v line s = refl

module _ (globals : List Bound) (m : Moment) (dos : DosCall) (target : Option Place) (arguments : List Resolved) (line : ℕ)
    (tree : Tree) (points : ℕ → List Continuation) (s now : State) (call : CallsDos m globals dos target arguments line tree points s now) where
  -- a call whose argument gives nothing
  pub call_ended : (why : NoValue) → IsArgument globals m dos arguments (Err why) → IsEnded s now (end_at line why)
  call_ended why is =
      subst (λ t. IsEnded s t (end_at line why)) (sym call.is)
      (ended (arguments_of (scope_of tree s) (dos_signature (dos_call dos)).params call.exprs) why line s _ (is tree points s call.exprs call.globals_are call.state call.stand))

  -- a call whose argument has this value
  call_goes : (v : Held) → IsArgument globals m dos arguments (Ok v) →
      now ≡ dos_step (dos_call dos) (option_map (target_named (locals_declared s.frame.function)) target) (typed v ∷ []) line s
  call_goes v is =
      call.is ∙ goes_further (arguments_of (scope_of tree s) (dos_signature (dos_call dos)).params call.exprs) (typed v ∷ []) line s _ (is tree points s call.exprs call.globals_are call.state call.stand)

  -- a call whose result is wanted, and that gives none, is stuck
  pub result_missed : (v : Held) → IsArgument globals m dos arguments (Ok v) → is_some target ≡ true → IsEnded s now (Stuck line)
  result_missed v is some = by target some (call_goes v is)
    where
      by : (to : Option Place) → is_some to ≡ true → now ≡ dos_step (dos_call dos) (option_map (target_named (locals_declared s.frame.function)) to) (typed v ∷ []) line s → IsEnded s now (Stuck line)
      by None some step = cc
      by (Some to) some step =
          subst (λ (t : State). IsEnded s t (Stuck line)) (sym (step ∙ no_result dos _ (typed v) line s)) (record { is = refl; quiet = record { input = refl; events = refl } })

  -- a call whose result is not wanted is made
  pub call_made : (v : Held) → IsArgument globals m dos arguments (Ok v) → is_some target ≡ false → now ≡ dos_step (dos_call dos) None (typed v ∷ []) line s
  call_made v is none = by target none (call_goes v is)
    where
      by : (to : Option Place) → is_some to ≡ false → now ≡ dos_step (dos_call dos) (option_map (target_named (locals_declared s.frame.function)) to) (typed v ∷ []) line s →
          now ≡ dos_step (dos_call dos) None (typed v ∷ []) line s
      by None none step = step
      by (Some to) none step = cc

-- what a call comes to whose argument gives nothing
pub sole_err : (globals : List Bound) (m : Moment) (dos : DosCall) (target : Option Place) (arguments : List Resolved) (r : Result Held NoValue) (why : NoValue) →
    IsErrAnd r (λ y. y ≡ why) → IsArgument globals m dos arguments (Err why) → IsSole globals m dos target arguments r
sole_err globals m dos target arguments (Ok v) why is argument = absurd is
sole_err globals m dos target arguments (Err y) why is argument = λ line tree points s now call.
    subst (λ (w : NoValue). IsEnded s now (end_at line w)) (sym is) (call_ended globals m dos target arguments line tree points s now call why argument)

-- the types that the call takes, by which one it is
pub takes_as : (dos other : DosCall) → dos ≡ other → (dos_signature (dos_call other)).params ≡ (dos_signature (dos_call dos)).params
takes_as dos other is = ap (λ (d : DosCall). (dos_signature (dos_call d)).params) (sym is)

argument_at : (dos other : DosCall) (scope : Scope) (es : List Expr) (o : Outcome (List Value)) → dos ≡ other →
    arguments_of scope (dos_signature (dos_call dos)).params es ≡ o → arguments_of scope (dos_signature (dos_call other)).params es ≡ o
argument_at dos other scope es o is comes = ap (λ types. arguments_of scope types es) (takes_as dos other is) ∙ comes

-- Writes.

-- the call only writes these bytes
abbrev pub WritesOnly : List Bound → Moment → DosCall → Option Place → List Resolved → ℕ → List ℕ → Type 0
WritesOnly globals m dos target arguments line bytes =
    (tree : Tree) (points : ℕ → List Continuation) (s now : State) → CallsDos m globals dos target arguments line tree points s now → now ≡ with_events (writes bytes) s

pub putc_writes : (globals : List Bound) (m : Moment) (target : Option Place) (arguments : List Resolved) (line : ℕ) (v : Held) (dos : DosCall) →
    dos ≡ calls_putc → IsSole globals m dos target arguments (Ok v) → WritesOnly globals m dos target arguments line (v.bits % 256 ∷ [])
putc_writes globals m target arguments line v dos is sole tree points s now call =
    let byte = byte_argument (scope_of tree s) call.exprs (typed v) (argument_at dos calls_putc (scope_of tree s) call.exprs (Gives (typed v ∷ [])) is (sole.0 tree points s call.exprs call.globals_are call.state call.stand)) in
    call_made globals m dos target arguments line tree points s now call v sole.0 sole.1
    ∙ ap (λ (d : DosCall). dos_step (dos_call d) None (typed v ∷ []) line s) is
    ∙ ap (λ (b : ℕ). with_events (writes (b ∷ [])) s) (sym byte)

pub puts_writes : (globals : List Bound) (m : Moment) (target : Option Place) (arguments : List Resolved) (line : ℕ) (v : Held) (dos : DosCall) (memory : List ℕ) →
    memory ≡ m.memory.items →
    dos ≡ calls_puts → IsSole globals m dos target arguments (Ok v) → WritesOnly globals m dos target arguments line (string_in memory 0 v.bits)
puts_writes globals m target arguments line v dos memory same is sole tree points s now call =
    call_made globals m dos target arguments line tree points s now call v sole.0 sole.1
    ∙ ap (λ (d : DosCall). dos_step (dos_call d) None (typed v ∷ []) line s) is
    ∙ ap (λ (l : List ℕ). with_events (writes (string_at l v.bits)) s) (sym call.state.memory ∙ sym same)
    ∙ ap (λ (bytes : List ℕ). with_events (writes bytes) s) (sym (string_is memory v.bits))

-- the call that ends the run
pub leave_exits : (globals : List Bound) (m : Moment) (target : Option Place) (arguments : List Resolved) (line : ℕ) (v : Held) (dos : DosCall) →
    dos ≡ calls_leave → IsSole globals m dos target arguments (Ok v) →
    (tree : Tree) (points : ℕ → List Continuation) (s now : State) → CallsDos m globals dos target arguments line tree points s now →
    IsKept tree points (record m { end = KeptExit (v.bits % 256) }) s now
leave_exits globals m target arguments line v dos is sole tree points s now call =
    let byte = byte_argument (scope_of tree s) call.exprs (typed v) (argument_at dos calls_leave (scope_of tree s) call.exprs (Gives (typed v ∷ [])) is (sole.0 tree points s call.exprs call.globals_are call.state call.stand)) in
    let same : now ≡ record s { end = Exit (v.bits % 256) } =
    call_made globals m dos target arguments line tree points s now call v sole.0 sole.1
    ∙ ap (λ (d : DosCall). dos_step (dos_call d) None (typed v ∷ []) line s) is
    ∙ ap (λ (b : ℕ). with_end (Exit b) s) (sym byte) in
    subst (λ (t : State). IsKept tree points (record m { end = KeptExit (v.bits % 256) }) s t) (sym same)
    (record {
      state = record { call = call.state.call; waiting = call.state.waiting; fill = call.state.fill; memory = call.state.memory; end = refl };
      rest = refl;
      quiet = record { input = refl; events = refl };
    })

-- writes take nothing of the input
nothing-taken : (left : Option (List ℕ)) (bytes : List ℕ) → left ≡ prepend_told (taken_by (writes bytes)) left
nothing-taken left bytes = sym (prepend_told-nil left) ∙ ap (λ l. prepend_told l left) (sym (taken-writes bytes))

-- a call that only writes some bytes
pub dos_writes : (globals : List Bound) (m : Moment) (dos : DosCall) (target : Option Place) (arguments : List Resolved) (line : ℕ)
    (bytes : List ℕ) (left taken taken_now : Option (List ℕ)) →
    WritesOnly globals m dos target arguments line bytes →
    taken_now ≡ append_told taken bytes →
    Does (CallsDos m globals dos target arguments line) (Kept m) left taken left taken_now
dos_writes globals m dos target arguments line bytes left taken taken_now is wrote = record {
  happened = writes bytes;
  took = nothing-taken left bytes;
  wrote = wrote ∙ ap (append_told taken) (sym (written-writes bytes));
  made = λ tree points s now call has.
      let same = is tree points s now call in
      subst (λ t. (IsRunning tree points m t × (t.rest ≡ s.rest)) × (t.input ≡ told_bytes left) × (t.events ≡ s.events ++ writes bytes)) (sym same)
      ((record { call = call.state.call; waiting = call.state.waiting; fill = call.state.fill; memory = call.state.memory; end = call.state.end }, refl), has ∙ ap (λ l. l ++ told_bytes left) (taken-writes bytes), refl);
}

pub dos_unwritten : (globals : List Bound) (m : Moment) (dos : DosCall) (target : Option Place) (arguments : List Resolved) (line : ℕ)
    (bytes : List ℕ) (left taken taken_now : Option (List ℕ)) →
    WritesOnly globals m dos target arguments line bytes →
    AppendsProperPrefix taken taken_now bytes →
    CannotWrite (CallsDos m globals dos target arguments line) left taken left taken_now
dos_unwritten globals m dos target arguments line bytes left taken taken_now is part = record {
  happened = writes bytes;
  makes = λ tree points s now rest call has.
      let same = is tree points s now call in
      (ap (λ t. t.input) same ∙ has ∙ ap (λ l. l ++ rest) (taken-writes bytes), ap (λ t. t.events) same);
  took = nothing-taken left bytes;
  part = subst (AppendsProperPrefix taken taken_now) (sym (written-writes bytes)) part;
}

-- a write that is all that a call does, and what is told of it
pub dos_written : (globals : List Bound) (m : Moment) (dos : DosCall) (target : Option Place) (arguments : List Resolved) (line : ℕ)
    (bytes : List ℕ) (left taken taken_now : Option (List ℕ)) (written : Result (Unit {0}) Failed) (told : Result (Unit {0}) Stop) →
    WritesOnly globals m dos target arguments line bytes → told ≡ write_stop written →
    OnOk written (taken_now ≡ append_told taken bytes) → OnErr written (AppendsProperPrefix taken taken_now bytes) →
    ComesTo line told (CallsDos m globals dos target arguments line) (Kept m) left taken left taken_now
dos_written globals m dos target arguments line bytes left taken taken_now written told is same whole part =
    subst (λ (r : Result (Unit {0}) Stop). ComesTo line r (CallsDos m globals dos target arguments line) (Kept m) left taken left taken_now) (sym same) (by written whole part)
  where
    by : (w : Result (Unit {0}) Failed) → OnOk w (taken_now ≡ append_told taken bytes) → OnErr w (AppendsProperPrefix taken taken_now bytes) →
        ComesTo line (write_stop w) (CallsDos m globals dos target arguments line) (Kept m) left taken left taken_now
    by (Ok done) whole part = dos_writes globals m dos target arguments line bytes left taken taken_now is whole
    by (Err failed) whole part = dos_unwritten globals m dos target arguments line bytes left taken taken_now is part

pub written_faults : {reads writes writes_now : ℕ} (written : Result (Unit {0}) Failed) (told : Result (Unit {0}) Stop) → told ≡ write_stop written →
    writes ≤ writes_now → OnErr written (Rose writes writes_now) → Counts told reads reads writes writes_now
written_faults (Ok done) told same grows rose = made_faults told same (omega arith) grows
written_faults (Err failed) told same grows rose = write_faults told same grows rose

-- Keys.

result-input : (target : Option Target) (v : Value) (line : ℕ) (s : State) → (result_step target (Some v) line s).input ≡ s.input
result-input None v line s = refl
result-input (Some t) v line s = (takes-quiet t v s).input

result-events : (target : Option Target) (v : Value) (line : ℕ) (s : State) → (result_step target (Some v) line s).events ≡ s.events
result-events None v line s = refl
result-events (Some t) v line s = (takes-quiet t v s).events

result-rest : (target : Option Target) (v : Value) (line : ℕ) (s : State) → (result_step target (Some v) line s).rest ≡ s.rest
result-rest None v line s = refl
result-rest (Some t) v line s = takes-rest t v s

-- the state in which the target takes the next key
abbrev after_key : Bool → ℕ → List ℕ → State → State
after_key echo byte rest s = with_events (key_events echo byte) (record s { input = rest })

-- what is read and written besides changes nothing that a moment stands for
running-with : (tree : Tree) (points : ℕ → List Continuation) (m : Moment) (s : State) (input : List ℕ) (events : List Event) → IsRunning tree points m s →
    IsRunning tree points m (record s { input = input; events = events })
running-with tree points m s input events is =
    record { call = is.call; waiting = is.waiting; fill = is.fill; memory = is.memory; end = is.end }

-- what a call for a key leads to where there is a byte
next-key : (m : Moment) (echo : Bool) (target : Option Place) (line : ℕ) (tree : Tree) (points : ℕ → List Continuation) (s now : State) (byte : ℕ) (rest : List ℕ) →
    CallsForKey m echo target line tree points s now → s.input ≡ taken_by (key_events echo byte) ++ rest →
    now ≡ result_step (option_map (target_named (locals_declared s.frame.function)) target) (Some (number Uchar byte)) line (after_key echo byte rest s)
next-key m echo target line tree points s now byte rest call has =
    let to = option_map (target_named (locals_declared s.frame.function)) target in
    call.is ∙ ap (λ l. key_step echo l to line s) (has ∙ ap (λ l. l ++ rest) (key-taken echo byte))

-- a key was taken, and written where it is echoed
pub key_made : (m now : Moment) (echo : Bool) (target : Option Place) (line key : ℕ) (left taken left_now taken_now : Option (List ℕ)) →
    TakesKey echo left taken left_now taken_now key →
    ((tree : Tree) (points : ℕ → List Continuation) (s : State) → IsRunning tree points m s → IsTargetIf (locals_declared s.frame.function) target →
    IsRunning tree points now (result_step (option_map (target_named (locals_declared s.frame.function)) target) (Some (number Uchar key)) line s)) →
    Does (CallsForKey m echo target line) (Kept now) left taken left_now taken_now
key_made m now echo target line key left taken left_now taken_now (next_byte took wrote) made = record {
  happened = key_events echo key;
  took = took;
  wrote = wrote;
  made = λ tree points s after call has.
      let to = option_map (target_named (locals_declared s.frame.function)) target in
      let t : State = after_key echo key (told_bytes left_now) s in
      let is = next-key m echo target line tree points s after key (told_bytes left_now) call has in
      let there : IsRunning tree points m t = running-with tree points m s (told_bytes left_now) (s.events ++ key_events echo key) call.state in
      subst (λ (u : State). (IsRunning tree points now u × (u.rest ≡ s.rest)) × (u.input ≡ told_bytes left_now) × (u.events ≡ s.events ++ key_events echo key)) (sym is)
      ((made tree points t there call.lands, result-rest to (number Uchar key) line t), result-input to (number Uchar key) line t, result-events to (number Uchar key) line t);
}
key_made m now echo target line key left taken left_now taken_now (no_byte none took wrote) made = record {
  happened = MetEnd ∷ [];
  took = took;
  wrote = wrote;
  made = λ tree points s after call has.
      let to = option_map (target_named (locals_declared s.frame.function)) target in
      let t : State = with_events (MetEnd ∷ []) s in
      let step : State = result_step to (Some (number Uchar 0x1A)) line t in
      let is : after ≡ step = call.is ∙ ap (λ l. key_step echo l to line s) (has ∙ none) in
      let there : IsRunning tree points m t = running-with tree points m s s.input (s.events ++ MetEnd ∷ []) call.state in
      subst (λ (u : State). (IsRunning tree points now u × (u.rest ≡ s.rest)) × (u.input ≡ told_bytes left_now) × (u.events ≡ s.events ++ MetEnd ∷ [])) (sym is)
      ((made tree points t there call.lands, result-rest to (number Uchar 0x1A) line t), result-input to (number Uchar 0x1A) line t ∙ has, result-events to (number Uchar 0x1A) line t);
}

-- a key was not taken
pub key_unread : (m : Moment) (echo : Bool) (target : Option Place) (line : ℕ) (left taken left_now taken_now : Option (List ℕ)) →
    IsUntaken left taken left_now taken_now → CannotRead (CallsForKey m echo target line) left taken left_now taken_now
key_unread m echo target line left taken left_now taken_now untaken = record {
  takes = λ tree points s now byte rest call has.
      let to = option_map (target_named (locals_declared s.frame.function)) target in
      let here = has ∙ ap (λ l. l ++ rest) (sym (key-taken echo byte)) in
      ap (λ u. u.input) (next-key m echo target line tree points s now byte rest call here)
      ∙ result-input to (number Uchar byte) line (after_key echo byte rest s);
  same_left = untaken.same_left;
  same_taken = untaken.same_taken;
}

-- a key was taken, and not wholly written
pub key_unwritten : (m : Moment) (echo : Bool) (target : Option Place) (line : ℕ) (left taken left_now taken_now : Option (List ℕ)) →
    IsCutKey echo left taken left_now taken_now → CannotWrite (CallsForKey m echo target line) left taken left_now taken_now
key_unwritten m echo target line left taken left_now taken_now cut = record {
  happened = key_events echo cut.byte;
  makes = λ tree points s now rest call has.
      let to = option_map (target_named (locals_declared s.frame.function)) target in
      let is = next-key m echo target line tree points s now cut.byte rest call has in
      let t : State = after_key echo cut.byte rest s in
      (ap (λ u. u.input) is ∙ result-input to (number Uchar cut.byte) line t, ap (λ u. u.events) is ∙ result-events to (number Uchar cut.byte) line t);
  took = cut.took;
  part = cut.part;
}

-- A key that is refused, for this fault of the console.

pub key_refused : (m : Moment) (echo : Bool) (target : Option Place) (line : ℕ) (left taken left_now taken_now : Option (List ℕ)) (fault : Fault) (r : Result (Unit {0}) Stop) →
    IsErrAnd r (λ y. y ≡ Refused (refusal_of fault)) → IsRefusedKey echo left taken left_now taken_now fault →
    ComesTo line r (CallsForKey m echo target line) (Kept m) left taken left_now taken_now
key_refused m echo target line left taken left_now taken_now fault (Ok a) is refused = absurd is
key_refused m echo target line left taken left_now taken_now ReadFault (Err y) is refused =
    subst (λ (x : Stop). let e : Result (Unit {0}) Stop = Err x in ComesTo line e (CallsForKey m echo target line) (Kept m) left taken left_now taken_now) (sym is)
    (key_unread m echo target line left taken left_now taken_now refused)
key_refused m echo target line left taken left_now taken_now WriteFault (Err y) is refused =
    subst (λ (x : Stop). let e : Result (Unit {0}) Stop = Err x in ComesTo line e (CallsForKey m echo target line) (Kept m) left taken left_now taken_now) (sym is)
    (key_unwritten m echo target line left taken left_now taken_now refused)

pub key_stays : (m : Moment) (fault : Fault) (r : Result (Unit {0}) Stop) → IsErrAnd r (λ y. y ≡ Refused (refusal_of fault)) → StaysIfRefused r m m
key_stays m fault (Ok a) is = absurd is
key_stays m ReadFault (Err y) is = subst (λ (x : Stop). let e : Result (Unit {0}) Stop = Err x in StaysIfRefused e m m) (sym is) refl
key_stays m WriteFault (Err y) is = subst (λ (x : Stop). let e : Result (Unit {0}) Stop = Err x in StaysIfRefused e m m) (sym is) refl

pub key_faults : {reads reads_now writes writes_now : ℕ} (fault : Fault) (r : Result (Unit {0}) Stop) → IsErrAnd r (λ y. y ≡ Refused (refusal_of fault)) →
    reads ≤ reads_now → writes ≤ writes_now → (fault ≡ ReadFault → Rose reads reads_now) → (fault ≡ WriteFault → Rose writes writes_now) → Counts r reads reads_now writes writes_now
key_faults fault (Ok a) is read wrote unread unwritten = absurd is
key_faults ReadFault (Err y) is read wrote unread unwritten =
    record { input_faults = read; output_faults = wrote; read_failed = λ failed. unread refl; write_failed = λ failed. cc }
key_faults WriteFault (Err y) is read wrote unread unwritten =
    record { input_faults = read; output_faults = wrote; read_failed = λ failed. cc; write_failed = λ failed. unwritten refl }
