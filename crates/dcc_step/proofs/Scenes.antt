-- Operations on the machine and its console, made or refused.
use Rattle.std.proofs.Common.{◌≡◌, ◌≢◌, ℕ, zero, suc, ◌<◌, Bool, false, List, [], ◌∷◌, ◌++◌, refl, sym, ap, ◌∙◌, subst, arith}
use Rattle.std.specs.Prelude.{Option, Result, Ok, Err, OnOk, if◌then◌else◌, ◌==◌, slice_index}
use Rattle.std.proofs.lemmas.Bool.Decides.{nat_tests}
use Rattle.std.proofs.lemmas.List.{append-nil}
use Rattle.dcc_run.specs.End.{Outside}
use Rattle.dcc_run.specs.Event.{Event, MetEnd, taken_by, writes}
use Rattle.dcc_run.proofs.EventLaws.{written-writes, taken-writes}
use Rattle.dcc_num.specs.declared.Reg.TheVariants.{Ax}
use Rattle.dcc_num.specs.declared.Half.TheVariants.{High}
use Rattle.dcc_io.specs.Told.{append_told, prepend_told, AppendsProperPrefix}
use Rattle.dcc_io.proofs.ToldLemmas.{append_told-nil, prepend_told-nil}
use Rattle.dcc_machine.specs.declared.cpu.Cpu.{Cpu}
use Rattle.dcc_machine.specs.Machine.{State, word_in, half_of_word}
use Rattle.dcc_machine.specs.Operations.{with_end, with_al}
use Rattle.dcc_machine.specs.Dos.{bytes_from, dos_string, key_step, dos_step, dos_call}
use Rattle.dcc_console.specs.declared.fault.Fault.{Fault}
use Rattle.dcc_console.specs.declared.fault.Fault.TheVariants.{Input, Output}
use Rattle.dcc_console.specs.Key.{key_events, TakesKey, next_byte, no_byte, IsRefusedKey}
use Rattle.dcc_console.specs.WithConsole.{WithConsole, beside_console, told_bytes}
use Rattle.dcc_console.specs.Steps.{Comes, Makes, IsRefusedWrite, Steps, refusal_of}
use Rattle.dcc_console.proofs.KeyLaws.{key-taken}
use Rattle.dcc_step.specs.Core.{Core, with_console, core_of, state_of, changed_by}
use Rattle.dcc_step.specs.Stepped.{machine_by, LeadsOnBytes}

-- what follows for a call that answers
pub on_ok : {T E P Q : Type 0} (r : Result T E) → (P → Q) → OnOk r P → OnOk r Q
on_ok (Ok t) f p = f p
on_ok (Err e) f p = p

-- what an operation does to a state, from what it does to the machine beside the state's console
done_beside : (operation : Cpu → State → State) (cpu : Cpu) (old : Core) (s : State) (input : List ℕ) → core_of cpu s ≡ old → s.input ≡ input
    → operation cpu s ≡ operation old.cpu (with_console old input s.events)
done_beside operation cpu old s input stands has =
    ap (λ (c : Core). operation c.cpu (with_console c s.input s.events)) stands ∙ ap (λ i. operation old.cpu (with_console old i s.events)) has

-- where that is one equation
comes_by : (operation : Cpu → State → State) (old new : Core) (given rest : List ℕ) (happened : List Event) → new.cpu ≡ old.cpu
    → ((events : List Event) → operation old.cpu (with_console old (given ++ rest) events) ≡ with_console new rest (events ++ happened))
    → (cpu : Cpu) (s : State) → core_of cpu s ≡ old → s.input ≡ given ++ rest
    → Comes (machine_by operation) cpu new rest (s.events ++ happened) (operation cpu s)
comes_by operation old new given rest happened kept is cpu s stands has =
    let there : operation cpu s ≡ with_console new rest (s.events ++ happened) =
    done_beside operation cpu old s (given ++ rest) stands has ∙ is s.events in
    let same : cpu ≡ new.cpu = ap (λ (c : Core). c.cpu) stands ∙ sym kept in
    record {
      stands = ap (core_of cpu) there ∙ ap (λ (c : Cpu). record new { cpu = c }) same;
      left = ap (λ (t : State). t.input) there;
      events = ap (λ (t : State). t.events) there;
    }

-- an operation that does the same beside any console, and leaves that
pub made_quiet : (operation : Cpu → State → State) (old new : Core) (left taken : Option (List ℕ)) → new.cpu ≡ old.cpu
    → ((input : List ℕ) (events : List Event) → operation old.cpu (with_console old input events) ≡ with_console new input events)
    → Makes (machine_by operation) (beside_console old left taken) (beside_console new left taken)
made_quiet operation old new left taken kept is = record {
  happened = [];
  took = sym (prepend_told-nil left);
  wrote = sym (append_told-nil taken);
  made = λ w s stands has.
      comes_by operation old new [] (told_bytes left) [] kept
      (λ events. is (told_bytes left) events ∙ ap (λ (e : List Event). with_console new (told_bytes left) e) (sym (append-nil events))) w s stands has;
}

-- an operation that does, from one machine, what another does from another machine
pub made_as : (f g : Cpu → State → State) (from old : Core) (left taken : Option (List ℕ)) (now : WithConsole Core) → old.cpu ≡ from.cpu
    → ((input : List ℕ) (events : List Event) → g from.cpu (with_console from input events) ≡ f old.cpu (with_console old input events))
    → Makes (machine_by f) (beside_console old left taken) now
    → Makes (machine_by g) (beside_console from left taken) now
made_as f g from old left taken now kept same made = record {
  happened = made.happened;
  took = made.took;
  wrote = made.wrote;
  made = λ w s stands has.
      let is : g w s ≡ f old.cpu (with_console old s.input s.events) = done_beside g w from s s.input stands refl ∙ same s.input s.events in
      let cpu : w ≡ old.cpu = ap (λ (c : Core). c.cpu) stands ∙ sym kept in
      let comes = made.made old.cpu (with_console old s.input s.events) refl has in
      record {
        stands = ap (core_of w) is ∙ ap (λ c. core_of c (f old.cpu (with_console old s.input s.events))) cpu ∙ comes.stands;
        left = ap (λ (t : State). t.input) is ∙ comes.left;
        events = ap (λ (t : State). t.events) is ∙ comes.events;
      };
}

-- an operation that is refused, and does from one machine what another does from another machine, leaves the machine
-- as it was before
pub refused_as : (f g : Cpu → State → State) (fault : Fault) (from old new : Core) (left taken left_now taken_now : Option (List ℕ))
    → ((input : List ℕ) (events : List Event) → g from.cpu (with_console from input events) ≡ f old.cpu (with_console old input events))
    → Steps (machine_by f) (refusal_of fault) (beside_console old left taken) (beside_console new left_now taken_now)
    → Steps (machine_by g) (refusal_of fault) (beside_console from left taken) (beside_console from left_now taken_now)
refused_as f g Input from old new left taken left_now taken_now same refused = record {
  takes = λ w s byte rest stands has.
      ap (λ (t : State). t.input) (done_beside g w from s s.input stands refl ∙ same s.input s.events)
      ∙ refused.takes old.cpu (with_console old s.input s.events) byte rest refl has;
  unchanged = ap (λ (v : WithConsole Core). beside_console from v.left v.taken) refused.unchanged;
}
refused_as f g Output from old new left taken left_now taken_now same refused = record {
  happened = refused.happened;
  takes = λ w s rest stands has.
      ap (λ (t : State). t.input) (done_beside g w from s s.input stands refl ∙ same s.input s.events)
      ∙ refused.takes old.cpu (with_console old s.input s.events) rest refl has;
  happens = λ w s rest stands has.
      ap (λ (t : State). t.events) (done_beside g w from s s.input stands refl ∙ same s.input s.events)
      ∙ refused.happens old.cpu (with_console old s.input s.events) rest refl has;
  unchanged = refl;
  took = refused.took;
  part = refused.part;
}

-- What is taken is a byte.

none_bytes : (k : ℕ) → slice_index [] k < 256
none_bytes zero = omega arith
none_bytes (suc k) = omega arith

one_byte : (byte k : ℕ) → byte < 256 → slice_index (byte ∷ []) k < 256
one_byte byte zero small = small
one_byte byte (suc k) small = none_bytes k

-- an operation that needs no input
pub leads_quiet : (operation : Cpu → State → State) (old new : Core) → core_of old.cpu (operation old.cpu (state_of old)) ≡ new
    → LeadsOnBytes operation old new
leads_quiet operation old new is = record { input = []; bytes = none_bytes; leads = is }

-- a key of a byte, or 1Ah at the input's end
pub leads_by_key : (echo : Bool) (old new : Core) (key : ℕ) → key < 256 → new ≡ changed_by (with_al key) old
    → LeadsOnBytes (λ cpu. key_step echo) old new
leads_by_key echo old new key small is = record { input = key ∷ []; bytes = λ k. one_byte key k small; leads = sym is }

-- an operation that does, from one machine, what another does from another machine
pub leads_as : (f g : Cpu → State → State) (from old now : Core) → old.cpu ≡ from.cpu
    → ((input : List ℕ) (events : List Event) → g from.cpu (with_console from input events) ≡ f old.cpu (with_console old input events))
    → LeadsOnBytes f old now → LeadsOnBytes g from now
leads_as f g from old now kept same led = record {
  input = led.input;
  bytes = led.bytes;
  leads =
      ap (core_of from.cpu) (same led.input [])
      ∙ ap (λ c. core_of c (f old.cpu (with_console old led.input []))) (sym kept)
      ∙ led.leads;
}

-- a refused operation leaves the machine
pub refused_core : (f : Cpu → State → State) (fault : Fault) (old new : Core) (left taken left_now taken_now : Option (List ℕ))
    → Steps (machine_by f) (refusal_of fault) (beside_console old left taken) (beside_console new left_now taken_now)
    → new ≡ old
refused_core f Input old new left taken left_now taken_now refused = ap (λ (v : WithConsole Core). v.code)
    refused.unchanged
refused_core f Output old new left taken left_now taken_now refused = refused.unchanged

-- an operation that does what another does from one machine is refused where the other is, and leaves the machine
pub refused_here : (f g : Cpu → State → State) (fault : Fault) (old new : Core) (left taken left_now taken_now : Option (List ℕ))
    → ((input : List ℕ) (events : List Event) → g old.cpu (with_console old input events) ≡ f old.cpu (with_console old input events))
    → Steps (machine_by f) (refusal_of fault) (beside_console old left taken) (beside_console new left_now taken_now)
    → Steps (machine_by g) (refusal_of fault) (beside_console old left taken) (beside_console new left_now taken_now)
refused_here f g fault old new left taken left_now taken_now same refused =
    let kept : new ≡ old = refused_core f fault old new left taken left_now taken_now refused in
    subst (λ k. Steps (machine_by g) (refusal_of fault) (beside_console old left taken) (beside_console k left_now
    taken_now)) (sym kept)
    (refused_as f g fault old old new left taken left_now taken_now same refused)

-- bytes that are written take nothing
untaken : (bytes : List ℕ) (left : Option (List ℕ)) → left ≡ prepend_told (taken_by (writes bytes)) left
untaken bytes left = sym (prepend_told-nil left) ∙ ap (λ l. prepend_told l left) (sym (taken-writes bytes))

-- an operation that only writes some bytes
pub made_writing : (operation : Cpu → State → State) (m : Core) (bytes : List ℕ) (left taken taken_now : Option (List ℕ))
    → ((input : List ℕ) (events : List Event) → operation m.cpu (with_console m input events) ≡ with_console m input (events ++ writes bytes))
    → taken_now ≡ append_told taken bytes
    → Makes (machine_by operation) (beside_console m left taken) (beside_console m left taken_now)
made_writing operation m bytes left taken taken_now is wrote = record {
  happened = writes bytes;
  took = untaken bytes left;
  wrote = wrote ∙ ap (append_told taken) (sym (written-writes bytes));
  made = λ w s stands has.
      comes_by operation m m [] (told_bytes left) (writes bytes) refl (is (told_bytes left)) w s stands (has ∙ ap (λ l. l ++ told_bytes left) (taken-writes bytes));
}

pub refused_writing : (operation : Cpu → State → State) (m : Core) (bytes : List ℕ) (left taken taken_now : Option (List ℕ))
    → ((input : List ℕ) (events : List Event) → operation m.cpu (with_console m input events) ≡ with_console m input (events ++ writes bytes))
    → AppendsProperPrefix taken taken_now bytes
    → IsRefusedWrite (machine_by operation) (beside_console m left taken) (beside_console m left taken_now)
refused_writing operation m bytes left taken taken_now is part = record {
  happened = writes bytes;
  takes = λ w s rest stands has.
      (comes_by operation m m [] rest (writes bytes) refl (is rest) w s stands (has ∙ ap (λ l. l ++ rest) (taken-writes bytes))).left;
  happens = λ w s rest stands has.
      (comes_by operation m m [] rest (writes bytes) refl (is rest) w s stands (has ∙ ap (λ l. l ++ rest) (taken-writes bytes))).events;
  unchanged = refl;
  took = untaken bytes left;
  part = subst (AppendsProperPrefix taken taken_now) (sym (written-writes bytes)) part;
}

-- a key was taken into AL
pub key_made : (echo : Bool) (m new : Core) (key : ℕ) (left taken left_now taken_now : Option (List ℕ))
    → TakesKey echo left taken left_now taken_now key → new ≡ changed_by (with_al key) m
    → Makes (machine_by (λ cpu. key_step echo)) (beside_console m left taken) (beside_console new left_now taken_now)
key_made echo m new key left taken left_now taken_now (next_byte took wrote) is = record {
  happened = key_events echo key;
  took = took;
  wrote = wrote;
  made = λ w s stands has.
      comes_by (λ cpu. key_step echo) m new (key ∷ []) (told_bytes left_now) (key_events echo key) (ap (λ (c : Core). c.cpu) is)
      (λ events. ap (λ (c : Core). with_console c (told_bytes left_now) (events ++ key_events echo key)) (sym is)) w s stands
      (has ∙ ap (λ l. l ++ told_bytes left_now) (key-taken echo key));
}
key_made echo m new _ left taken left_now taken_now (no_byte none took wrote) is = record {
  happened = MetEnd ∷ [];
  took = took;
  wrote = wrote;
  made = λ w s stands has.
      comes_by (λ cpu. key_step echo) m new [] (told_bytes left_now) (MetEnd ∷ []) (ap (λ (c : Core). c.cpu) is)
      (λ events.
      ap (λ (l : List ℕ). key_step echo (with_console m l events)) none
      ∙ ap (λ (c : Core). with_console c [] (events ++ MetEnd ∷ [])) (sym is)
      ∙ ap (λ (l : List ℕ). with_console new l (events ++ MetEnd ∷ [])) (sym none)) w s stands has;
}

-- a key was not taken, or not wholly written
pub key_refused : (echo : Bool) (m : Core) (fault : Fault) (left taken left_now taken_now : Option (List ℕ))
    → IsRefusedKey echo left taken left_now taken_now fault
    → Steps (machine_by (λ cpu. key_step echo)) (refusal_of fault) (beside_console m left taken) (beside_console m
    left_now taken_now)
key_refused echo m Input left taken left_now taken_now refused = record {
  takes = λ w s byte rest stands has. ap (λ (t : State). t.input) (done_beside (λ cpu. key_step echo) w m s (byte ∷ rest) stands has);
  unchanged = ap (λ l. beside_console m l taken_now) refused.same_left ∙ ap (beside_console m left) refused.same_taken;
}
key_refused echo m Output left taken left_now taken_now refused = record {
  happened = key_events echo refused.byte;
  takes = λ w s rest stands has.
      let first : s.input ≡ refused.byte ∷ rest = has ∙ ap (λ l. l ++ rest) (key-taken echo refused.byte) in
      ap (λ (t : State). t.input) (done_beside (λ cpu. key_step echo) w m s (refused.byte ∷ rest) stands first);
  happens = λ w s rest stands has.
      let first : s.input ≡ refused.byte ∷ rest = has ∙ ap (λ l. l ++ rest) (key-taken echo refused.byte) in
      ap (λ (t : State). t.events) (done_beside (λ cpu. key_step echo) w m s (refused.byte ∷ rest) stands first);
  unchanged = refl;
  took = refused.took;
  part = refused.part;
}

-- INT 21h with a number in AH
pub numbered : (at number : ℕ) (m : Core) → number ≡ half_of_word High (word_in (state_of m) Ax)
    → (input : List ℕ) (events : List Event) → dos_call at (with_console m input events) ≡ dos_step number at (with_console m input events)
numbered at number m is input events = ap (λ n. dos_step n at (with_console m input events)) (sym is)

else_is : (b : Bool) (s t : State) → b ≡ false → (if b then s else t) ≡ t
else_is b s t is_false = ap (λ c. if c then s else t) is_false

-- a number that is none of the calls
pub no_call : (number at : ℕ) (s : State) → number ≢ 0x02 → number ≢ 0x4C → number ≢ 0x01 → number ≢ 0x08 → number ≢ 0x09
    → dos_step number at s ≡ with_end (Outside at) at s
no_call number at s a b c d e =
    let two : (number == 0x02) ≡ false = grind (arith, nat_tests) in
    let exit : (number == 0x4C) ≡ false = grind (arith, nat_tests) in
    let one : (number == 0x01) ≡ false = grind (arith, nat_tests) in
    let eight : (number == 0x08) ≡ false = grind (arith, nat_tests) in
    let nine : (number == 0x09) ≡ false = grind (arith, nat_tests) in
    else_is _ _ _ two ∙ else_is _ _ _ exit ∙ else_is _ _ _ one ∙ else_is _ _ _ eight ∙ else_is _ _ _ nine

-- the string is the same beside any console
pub string-keeps : (m : Core) (input : List ℕ) (events : List Event) → dos_string (with_console m input events) ≡ dos_string (state_of m)
unfolding dos_string bytes_from
string-keeps m input events = refl
