-- States in which a run is stuck only at the end of a function: what is left to be executed, the variables and the
-- calls that wait are those of functions of the text.
use Rattle.std.proofs.Common.{◌≡◌, ℕ, Bool, true, false, ◌||◌, List, [], ◌∷◌, Option, Some, None, refl, sym, ◌∙◌, subst}
use Rattle.std.specs.Prelude.{is_some, if◌then◌else◌}
use Rattle.dcc_run.specs.End.{Running, Exit, Divide, Stuck}
use Rattle.dcc_run.specs.Event.{Took, MetEnd, writes}
use Rattle.dcc_c.specs.declared.syntax.Base.TheVariants.{Uchar}
use Rattle.dcc_c.specs.declared.syntax.CType.{CType}
use Rattle.dcc_c.specs.Tree.{Function, Tree}
use Rattle.dcc_c.specs.Dos.{Dos, Putc, Getche, Getch, Puts, Leave, dos_signature}
use Rattle.dcc_c.specs.Value.{Value, number, Outcome, Gives, Divides, Undefined, converted, Target, ToVariable, ToMemory}
use Rattle.dcc_c.specs.Placement.{below}
use Rattle.dcc_c.specs.Run.{Continuation, Waiting, State, with_end, goes_on, on, takes, result_step, back_step, is_start, close_step, return_step, give_step, with_events, key_step, dos_step, enter_step}
use Rattle.dcc_progress.proofs.Declarations.{AreAs}
use Rattle.dcc_progress.proofs.Known.{IsKnown}
use Rattle.dcc_progress.proofs.Rests.{IsRest}
use Rattle.dcc_progress.proofs.Frames.{SameLength, own_declared, IsFrame, Lands, IfLands, frame-begins}
use Rattle.dcc_progress.proofs.Values.{Holds, Any}

-- The calls that wait for one of this function, the newest first: a result goes where one may go, and there is one where
-- it is wanted. The first call of all is one of `start`.
abbrev pub AreCalls : Tree → Function → List Waiting → Type 0
AreCalls tree f [] = is_start f ≡ true
AreCalls tree f (w ∷ waiting) =
    (is_some w.target ≡ true → is_some f.result ≡ true) × IfLands w.frame.variables w.target × IsFrame tree w.frame
    × IsRest tree w.frame.function w.rest × AreCalls tree w.frame.function waiting

pub record IsSound (tree : Tree) (s : State) : Type 0 where
  pub frame : IsFrame tree s.frame
  pub rest : IsRest tree s.frame.function s.rest
  pub calls : AreCalls tree s.frame.function s.waiting

-- A step leads to a sound state, or ends the run: by an exit, by a fault, or as stuck in one of these lines.
pub data IsStep (tree : Tree) (ways : ℕ → Type 0) (t : State) : Type 0 where
  still : t.end ≡ Running → IsSound tree t → IsStep tree ways t
  exits : (code : ℕ) → t.end ≡ Exit code → IsStep tree ways t
  divides : t.end ≡ Divide → IsStep tree ways t
  stuck : (at : ℕ) → t.end ≡ Stuck at → ways at → IsStep tree ways t

module _ (tree : Tree) (ways : ℕ → Type 0) where
  pub on-step : {A : Type 0} (P : A → Type 0) (o : Outcome A) (at : ℕ) (s : State) (next : A → State) → Holds P o → ((a : A) → P a → IsStep tree ways (next a)) → IsStep tree ways (on o at s next)
  on-step P (Gives a) at s next holds more = more a holds
  on-step P Divides at s next holds more = divides refl
  on-step P Undefined at s next holds more = absurd holds

  -- the state goes on elsewhere in the function
  pub goes-step : (rest : Continuation) (s : State) → s.end ≡ Running → IsFrame tree s.frame → AreCalls tree s.frame.function s.waiting → IsRest tree s.frame.function rest → IsStep tree ways (goes_on rest s)
  goes-step rest s runs_on frame calls is = still runs_on (record { frame = frame; rest = is; calls = calls })

  pub takes-step : (target : Target) (v : Value) (s : State) → s.end ≡ Running → IsSound tree s → Lands s.frame.variables target → IsStep tree ways (takes target v s)
  takes-step (ToVariable word) v s runs_on is lands = still runs_on (record {
    frame = record {
      known = is.frame.known;
      variables = subst (AreAs s.frame.function.body (own_declared s.frame.function)) (sym (lands v)) is.frame.variables;
    };
    rest = is.rest;
    calls = is.calls;
  })
  takes-step (ToMemory type at) v s runs_on is lands =
      still runs_on (record { frame = is.frame; rest = is.rest; calls = is.calls })

  pub result-step : (target : Option Target) (v : Option Value) (at : ℕ) (s : State) → s.end ≡ Running → IsSound tree s → IfLands s.frame.variables target → (is_some target ≡ true → is_some v ≡ true) → IsStep tree ways (result_step target v at s)
  result-step None v at s runs_on is lands has = still runs_on is
  result-step (Some target) (Some v) at s runs_on is lands has = takes-step target v s runs_on is lands
  result-step (Some target) None at s runs_on is lands has = let no : false ≡ true = has refl in absurd cc

  -- a call of the function ends, which is not one of `start`
  pub back-step : (f : Function) (waiting : List Waiting) (v : Option Value) (at : ℕ) (s : State) → s.end ≡ Running → AreCalls tree f waiting → is_start f ≡ false → (is_some f.result ≡ true → is_some v ≡ true) → IsStep tree ways (back_step waiting v at s)
  back-step f [] v at s runs_on calls other has = let no : false ≡ true = sym other ∙ calls in absurd cc
  back-step f (w ∷ waiting) v at s runs_on calls other has =
      result-step w.target v at (record s { rest = w.rest; frame = w.frame; waiting = waiting }) runs_on (record { frame = calls.2; rest = calls.3; calls = calls.4 }) calls.1 (λ some. has (calls.0 some))

  pub close-step : (at : ℕ) (s : State) → s.end ≡ Running → AreCalls tree s.frame.function s.waiting → (is_start s.frame.function ≡ true → ways at) → (is_some s.frame.function.result ≡ true → ways at) → IsStep tree ways (close_step at s)
  close-step at s runs_on calls start result = by (is_start s.frame.function) (is_some s.frame.function.result) refl refl
    where
      by : (b c : Bool) → is_start s.frame.function ≡ b → is_some s.frame.function.result ≡ c → IsStep tree ways (if b || c then with_end (Stuck at) s else back_step s.waiting None at s)
      by true c is has = stuck at refl (start is)
      by false true is has = stuck at refl (result has)
      by false false is has =
          back-step s.frame.function s.waiting None at s runs_on calls is (λ some. let no : false ≡ true = sym has ∙ some in absurd cc)

  pub return-step : (at : ℕ) (s : State) → s.end ≡ Running → AreCalls tree s.frame.function s.waiting → is_some s.frame.function.result ≡ false → (is_start s.frame.function ≡ true → ways at) → IsStep tree ways (return_step at s)
  return-step at s runs_on calls has start = by (is_start s.frame.function) refl
    where
      by : (b : Bool) → is_start s.frame.function ≡ b → IsStep tree ways (if b then with_end (Stuck at) s else back_step s.waiting None at s)
      by true is = stuck at refl (start is)
      by false is =
          back-step s.frame.function s.waiting None at s runs_on calls is (λ some. let no : false ≡ true = sym has ∙ some in absurd cc)

  pub give-step : (type : CType) (v : Outcome Value) (at : ℕ) (s : State) → s.end ≡ Running → AreCalls tree s.frame.function s.waiting → is_start s.frame.function ≡ false → Holds Any v → IsStep tree ways (give_step (Some type) v at s)
  give-step type v at s runs_on calls other holds =
      let given = on-step Any v at s (λ w. back_step s.waiting (Some (converted type w)) at s) holds (λ w is. back-step s.frame.function s.waiting (Some (converted type w)) at s runs_on calls other (λ some. refl)) in
      rw other given

  -- DOS calls

  key-step : (echo : Bool) (bytes : List ℕ) (target : Option Target) (at : ℕ) (s : State) → s.end ≡ Running → IsSound tree s → IfLands s.frame.variables target → IsStep tree ways (key_step echo bytes target at s)
  key-step echo [] target at s runs_on is lands =
      result-step target (Some (number Uchar 0x1A)) at (with_events (MetEnd ∷ []) s) runs_on (record { frame = is.frame; rest = is.rest; calls = is.calls }) lands (λ some. refl)
  key-step echo (byte ∷ rest) target at s runs_on is lands =
      let events = Took byte ∷ writes (if echo then byte ∷ [] else []) in
      result-step target (Some (number Uchar byte)) at (with_events events (record s { input = rest })) runs_on (record { frame = is.frame; rest = is.rest; calls = is.calls }) lands (λ some. refl)

  pub dos-step : (dos : Dos) (target : Option Target) (arguments : List Value) (at : ℕ) (s : State) → s.end ≡ Running → IsSound tree s → IfLands s.frame.variables target → (is_some target ≡ true → is_some (dos_signature dos).result ≡ true) → SameLength (dos_signature dos).params arguments →
      IsStep tree ways (dos_step dos target arguments at s)
  dos-step Putc None (v ∷ []) at s runs_on is lands has same =
      still runs_on (record { frame = is.frame; rest = is.rest; calls = is.calls })
  dos-step Puts None (v ∷ []) at s runs_on is lands has same =
      still runs_on (record { frame = is.frame; rest = is.rest; calls = is.calls })
  dos-step Leave None (v ∷ []) at s runs_on is lands has same = exits v.bits refl
  dos-step Getche target [] at s runs_on is lands has same = key-step true s.input target at s runs_on is lands
  dos-step Getch target [] at s runs_on is lands has same = key-step false s.input target at s runs_on is lands
  dos-step Getche target (v ∷ vs) at s runs_on is lands has same = absurd same
  dos-step Getch target (v ∷ vs) at s runs_on is lands has same = absurd same
  dos-step Putc (Some target) arguments at s runs_on is lands has same = let no : false ≡ true = has refl in absurd cc
  dos-step Puts (Some target) arguments at s runs_on is lands has same = let no : false ≡ true = has refl in absurd cc
  dos-step Leave (Some target) arguments at s runs_on is lands has same = let no : false ≡ true = has refl in absurd cc
  dos-step Putc None [] at s runs_on is lands has same = absurd same
  dos-step Puts None [] at s runs_on is lands has same = absurd same
  dos-step Leave None [] at s runs_on is lands has same = absurd same
  dos-step Putc None (v ∷ w ∷ vs) at s runs_on is lands has same = absurd same
  dos-step Puts None (v ∷ w ∷ vs) at s runs_on is lands has same = absurd same
  dos-step Leave None (v ∷ w ∷ vs) at s runs_on is lands has same = absurd same

  -- a function's body begins
  pub enter-step : (g : Function) (depth : ℕ) (target : Option Target) (arguments : List Value) (s : State) → s.end ≡ Running → IsSound tree s → IsKnown tree g → IfLands s.frame.variables target → (is_some target ≡ true → is_some g.result ≡ true) → SameLength g.params arguments →
      IsStep tree ways (enter_step g depth target arguments s)
  enter-step g depth target arguments s runs_on is known lands has same = still runs_on (record {
    frame = frame-begins tree g (below s.frame.base depth) s.fill arguments known same;
    rest = (λ stmt at stands. stands, known.formed.jumps, refl);
    calls = (has, lands, is.frame, is.rest, is.calls);
  })
