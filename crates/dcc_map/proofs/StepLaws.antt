-- What a step that the code has made has done at the console.
use Rattle.std.proofs.Common.{◌≡◌, ℕ, Bool, List, [], ◌∷◌, ◌++◌, Option, Some, refl, sym, ap, ◌∙◌, subst}
use Rattle.std.proofs.lemmas.List.{append-nil, append_cancel_left}
use Rattle.dcc_io.specs.Told.{append_told, prepend_told}
use Rattle.dcc_io.proofs.ToldLemmas.{TellsRest, tells_rest, append_told-some, prepend_told-some}
use Rattle.dcc_run.specs.Event.{Event, Took, MetEnd, written_by, taken_by, writes}
use Rattle.dcc_run.proofs.EventLaws.{written-writes}
use Rattle.dcc_console.specs.Console.{Console, Executor, step_in, left_in, events_in}
use Rattle.dcc_console.specs.Key.{key_events, echoed}
use Rattle.dcc_console.specs.Laws.{IsLawfulExecutor}
use Rattle.dcc_console.specs.Steps.{Comes, Makes, IsRefusedRead}
use Rattle.dcc_console.specs.WithConsole.{WithConsole, beside_console, told_bytes}
use Rattle.dcc_map.proofs.StepKinds.{IsApart, WritesBytes, TakesKey, StepKind, writes_bytes, takes_key}

some_same : {X : Type 0} (x y : X) → Some x ≡ Some y → x ≡ y
some_same x y e = cc

written_of : (echo : Bool) (byte : ℕ) → Took byte ∷ writes (written_by (key_events echo byte)) ≡ key_events echo byte
written_of echo byte = ap (λ (bytes : List ℕ). Took byte ∷ writes bytes) (written-writes (echoed echo byte))

-- the code stands for the next state now, this input is left, and this has happened
pub record HasStepped {W C S : Type 0} (executor : Executor W C S) (w : W) (s : S) (now : C) (input : List ℕ)
    (happened : List Event) : Type 0 where
  pub stands : executor.stands w now (step_in executor w s)
  pub left : left_in executor w (step_in executor w s) ≡ input
  pub events : events_in executor w (step_in executor w s) ≡ events_in executor w s ++ happened

module _ {W C S : Type 0} (executor : Executor W C S) (laws : IsLawfulExecutor executor) (w : W)
    (apart : IsApart (executor.console w)) (code : C) (s : S) (stands : executor.stands w code s)
    (kind : StepKind (executor.console w) (events_in executor w s)
    (λ input. step_in executor w ((executor.console w).with_left input s))) where
  abbrev console : Console S
  console = executor.console w

  abbrev next : List ℕ → S
  next input = console.system.step (console.with_left input s)

  -- the step on what the state has left
  its_step : (input : List ℕ) → console.left s ≡ input → next input ≡ console.system.step s
  its_step input is = ap (λ (l : List ℕ). next l) (sym is) ∙ ap console.system.step (apart.same s)

  -- from the step on some input
  stepped : (now : C) (input left : List ℕ) (happened : List Event) → console.left s ≡ input → executor.stands w now (next input)
      → console.left (next input) ≡ left → console.system.events (next input) ≡ console.system.events s ++ happened → HasStepped executor w s now left happened
  stepped now input left happened is stood has events =
      let e = its_step input is in
      record {
        stands = subst (λ (t : S). executor.stands w now t) e stood;
        left = ap console.left (sym e) ∙ has;
        events = ap console.system.events (sym e) ∙ events;
      }

  -- what the code says of a step on this input, of which it took some
  came : (input : List ℕ) (now : WithConsole C) (m : Makes executor (beside_console code (Some input) (Some [])) now)
      → Comes executor w now.code (told_bytes now.left) (console.system.events s ++ m.happened) (next input)
  came input now m =
      let told : TellsRest input now.left (taken_by m.happened) = tells_rest input now.left (taken_by m.happened) m.took in
      let has : console.left (console.with_left input s) ≡ taken_by m.happened ++ told_bytes now.left =
      apart.left input s ∙ told.split ∙ ap (λ l. taken_by m.happened ++ l) (sym (ap told_bytes told.told)) in
      subst (λ (e : List Event). Comes executor w now.code (told_bytes now.left) (e ++ m.happened) (next input)) (apart.events input s)
      (m.made w (console.with_left input s) (laws.stands_with w input code s stands) has)

  -- what was written
  wrote : (input : List ℕ) (now : WithConsole C) (out : List ℕ) → now.taken ≡ Some out
      → (m : Makes executor (beside_console code (Some input) (Some [])) now) → out ≡ written_by m.happened
  wrote input now out told m = some_same _ _ (sym told ∙ m.wrote ∙ append_told-some [] (written_by m.happened))

  -- a step that was made while a key was withheld
  pub made_withheld : (now : C) (out : List ℕ) → Makes executor (beside_console code (Some (0 ∷ [])) (Some [])) (beside_console now (Some (0 ∷ [])) (Some out))
      → HasStepped executor w s now (console.left s) (writes out)
  made_withheld now out m =
      let before = beside_console now (Some (0 ∷ [])) (Some out) in
      let c = came (0 ∷ []) before m in
      let bytes : out ≡ written_by m.happened = wrote (0 ∷ []) before out refl m in
      elim kind [
        | writes_bytes k ↦
            let same : m.happened ≡ writes k.bytes = append_cancel_left (console.system.events s) m.happened (writes k.bytes) (sym c.events ∙ k.events (0 ∷ [])) in
            let out_is : out ≡ k.bytes = bytes ∙ ap written_by same ∙ written-writes k.bytes in
            let moved = k.apart (console.left s) (0 ∷ []) in
            stepped now (console.left s) (console.left s) (writes out) refl
            (subst (λ (t : S). executor.stands w now t) (sym moved) (laws.stands_with w (console.left s) now (next (0 ∷ [])) c.stands))
            (ap console.left moved ∙ apart.left (console.left s) (next (0 ∷ [])))
            (k.events (console.left s) ∙ ap (λ l. console.system.events s ++ writes l) (sym out_is))
        | takes_key k ↦ absurd (clash (sym (k.key_left 0) ∙ c.left))
      ]
    where
      clash : ◌≡◌ {A = List ℕ} [] (0 ∷ []) → ⊥
      clash e = cc

  -- a step that failed while a key was withheld takes one
  pub refused_withheld : (now : WithConsole C) → IsRefusedRead executor (beside_console code (Some (0 ∷ [])) (Some [])) now
      → TakesKey console (console.system.events s) next
  refused_withheld now refused =
      let none : console.left (next (0 ∷ [])) ≡ [] =
      refused.takes w (console.with_left (0 ∷ []) s) 0 [] (laws.stands_with w (0 ∷ []) code s stands) (apart.left (0 ∷ []) s) in
      elim kind [
        | writes_bytes k ↦ absurd (clash (sym (apart.left (0 ∷ []) (next (0 ∷ []))) ∙ ap console.left (sym (k.apart (0 ∷ []) (0 ∷ []))) ∙ none))
        | takes_key k ↦ k
      ]
    where
      clash : ◌≡◌ {A = List ℕ} (0 ∷ []) [] → ⊥
      clash e = cc

  module _ (takes : TakesKey console (console.system.events s) next) where
    -- a step that took the next key
    pub made_key : (now : WithConsole C) (out : List ℕ) (byte : ℕ) (rest : List ℕ) → console.left s ≡ byte ∷ rest → now.taken ≡ Some out
        → Makes executor (beside_console code (Some (byte ∷ [])) (Some [])) now → HasStepped executor w s now.code rest (Took byte ∷ writes out)
    made_key now out byte rest is told m =
        let c = came (byte ∷ []) now m in
        let same : m.happened ≡ key_events takes.echo byte =
        append_cancel_left (console.system.events s) m.happened (key_events takes.echo byte) (sym c.events ∙ takes.key_happens byte) in
        let happened : Took byte ∷ writes out ≡ key_events takes.echo byte =
        ap (λ l. Took byte ∷ writes l) (wrote (byte ∷ []) now out told m ∙ ap written_by same) ∙ written_of takes.echo byte in
        let moved = takes.key byte rest in
        stepped now.code (byte ∷ rest) rest (Took byte ∷ writes out) is
        (subst (λ (t : S). executor.stands w now.code t) (sym moved) (laws.stands_with w rest now.code (next (byte ∷ [])) c.stands))
        (ap console.left moved ∙ apart.left rest (next (byte ∷ [])))
        (ap console.system.events moved ∙ apart.events rest (next (byte ∷ [])) ∙ takes.key_happens byte
        ∙ ap (λ l. console.system.events s ++ l) (sym happened))

    -- a step that met the end of the input
    pub made_at_end : (now : WithConsole C) (out : List ℕ) → console.left s ≡ [] → now.taken ≡ Some out
        → Makes executor (beside_console code (Some []) (Some [])) now → HasStepped executor w s now.code [] (MetEnd ∷ writes out)
    made_at_end now out is told m =
        let c = came [] now m in
        let same : m.happened ≡ MetEnd ∷ [] =
        append_cancel_left (console.system.events s) m.happened (MetEnd ∷ []) (sym c.events ∙ takes.end_happens) in
        let none : out ≡ [] = wrote [] now out told m ∙ ap written_by same in
        stepped now.code [] [] (MetEnd ∷ writes out) is c.stands takes.end_left
        (takes.end_happens ∙ ap (λ l. console.system.events s ++ MetEnd ∷ writes l) (sym none))
