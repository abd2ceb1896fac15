-- States of two runs that are alike: calls, calls that wait, values that go back to them, calls that begin.
use Rattle.std.proofs.Common.{◌≡◌, ℕ, Bool, true, false, ◌||◌, List, [], ◌∷◌, ◌++◌, Option, Some, None, refl, sym, ap, ap₂, ◌∙◌, subst}
use Rattle.std.specs.Prelude.{is_some, codes, if◌then◌else◌}
use Rattle.std.specs.List.{AllZip}
use Rattle.dcc_run.specs.End.{Running, Exit, Stuck, is_over}
use Rattle.dcc_run.specs.Event.{Event, Took, MetEnd, writes}
use Rattle.dcc_c.specs.declared.syntax.Base.TheVariants.{Uchar}
use Rattle.dcc_c.specs.declared.syntax.CType.{CType}
use Rattle.dcc_c.specs.Token.{same_bytes}
use Rattle.dcc_c.specs.Types.{size_of}
use Rattle.dcc_c.specs.Memory.{store}
use Rattle.dcc_c.specs.Tree.{Word, Function, Tree}
use Rattle.dcc_c.specs.Dos.{Dos, Putc, Getche, Getch, Puts, Leave, string_at}
use Rattle.dcc_c.specs.Placement.{below, params_of_call, locals_of_call}
use Rattle.dcc_c.specs.Value.{Value, value, number, converted, Outcome, Gives, Divides, Undefined, Binding, after_assignment, Target, ToVariable, ToMemory}
use Rattle.dcc_c.specs.Run.{Continuation, Frame, Waiting, State, with_end, goes_on, on, takes, result_step, back_step, is_start, close_step, return_step, give_step, with_events, key_step, dos_step, enter_step, frame_of, function_in, jump_step, param_types, param_bindings, local_bindings, with_arguments}
use Rattle.dcc_progress.proofs.Frames.{own_declared}
use Rattle.dcc_respell.specs.Respelled.{Both, AllBits, IsKept, BindingAlike, TargetAlike, IfTargetsAlike, TakesAlike, FunctionAlike}
use Rattle.dcc_respell.proofs.Rests.{RestAlike, goes, ends, IfRests}
use Rattle.dcc_respell.proofs.Kept.{IsWithin, kept-assigned, frame-kept}
use Rattle.dcc_respell.proofs.Variables.{room-bits, found-alike, assigned-alike, params-there, locals-there, params-alike, locals-alike, both-alike, arguments-written}

module _ (tree after : Tree) where
  -- a call of a function that is alike, with variables that hold the same
  pub record FrameAlike (frame other : Frame) : Type 0 where
    pub function : FunctionAlike tree after frame.function other.function
    pub base : other.base ≡ frame.base
    pub kept : AllZip IsKept (own_declared frame.function) frame.variables
    pub variables : AllZip BindingAlike frame.variables other.variables

  pub record WaitsAlike (w x : Waiting) : Type 0 where
    pub frame : FrameAlike w.frame x.frame
    pub rest : RestAlike tree after w.frame.function x.frame.function w.rest x.rest
    pub target : IfTargetsAlike w.target x.target

  pub record StateAlike (s t : State) : Type 0 where
    pub frame : FrameAlike s.frame t.frame
    pub rest : RestAlike tree after s.frame.function t.frame.function s.rest t.rest
    pub waiting : AllZip WaitsAlike s.waiting t.waiting
    pub fill : t.fill ≡ s.fill
    pub memory : t.memory ≡ s.memory
    pub input : t.input ≡ s.input
    pub events : t.events ≡ s.events
    pub running : s.end ≡ Running
    pub other_running : t.end ≡ Running

  -- the states are alike, or both runs are over alike, or the first one is stuck
  pub data AfterAlike (s t : State) : Type 0 where
    alike : StateAlike s t → AfterAlike s t
    over : is_over s.end ≡ true → t.end ≡ s.end → t.events ≡ s.events → AfterAlike s t
    stuck : (at : ℕ) → s.end ≡ Stuck at → AfterAlike s t

  pub on-alike : {A : Type 0} (P : A → A → Type 0) (o p : Outcome A) (at there : ℕ) (s t : State) (next other : A → State) → t.events ≡ s.events → Both P o p →
      ((a b : A) → o ≡ Gives a → p ≡ Gives b → P a b → AfterAlike (next a) (other b)) → AfterAlike (on o at s next) (on p there t other)
  on-alike P (Gives a) (Gives b) at there s t next other same both more = more a b refl refl both
  on-alike P Divides Divides at there s t next other same both more = over refl refl same
  on-alike P (Gives a) Divides at there s t next other same both more = absurd both
  on-alike P (Gives a) Undefined at there s t next other same both more = absurd both
  on-alike P Divides (Gives b) at there s t next other same both more = absurd both
  on-alike P Divides Undefined at there s t next other same both more = absurd both
  on-alike P Undefined p at there s t next other same both more = absurd both

  -- both go on elsewhere
  pub goes-alike : (rest other : Continuation) (s t : State) → StateAlike s t → RestAlike tree after s.frame.function t.frame.function rest other → AfterAlike (goes_on rest s) (goes_on other t)
  goes-alike rest other s t is same = alike (record {
    frame = is.frame;
    rest = same;
    waiting = is.waiting;
    fill = is.fill;
    memory = is.memory;
    input = is.input;
    events = is.events;
    running = is.running;
    other_running = is.other_running;
  })

  pub jump-alike : (to also : Option Continuation) (at there : ℕ) (s t : State) → StateAlike s t → IfRests tree after s.frame.function t.frame.function to also → AfterAlike (jump_step to at s) (jump_step also there t)
  jump-alike None None at there s t is same = stuck at refl
  jump-alike (Some rest) (Some other) at there s t is same = goes-alike rest other s t is same
  jump-alike None (Some other) at there s t is same = absurd same
  jump-alike (Some rest) None at there s t is same = absurd same

  -- Values that variables and memory take.

  pub takes-alike : (target to : Target) (v w : Value) (s t : State) → StateAlike s t → TargetAlike target to → TakesAlike s.frame.variables t.frame.variables target to v w → AfterAlike (takes target v s) (takes to w t)
  takes-alike (ToVariable word) (ToVariable other) v w s t is same bits = alike (record {
    frame = record {
      function = is.frame.function;
      base = is.frame.base;
      kept = kept-assigned (own_declared s.frame.function) s.frame.variables word v is.frame.kept;
      variables = subst (λ n. AllZip BindingAlike (after_assignment s.frame.variables word v) (after_assignment t.frame.variables n w)) (sym same) (assigned-alike s.frame.variables t.frame.variables word v w is.frame.variables bits);
    };
    rest = is.rest;
    waiting = is.waiting;
    fill = is.fill;
    memory = is.memory;
    input = is.input;
    events = is.events;
    running = is.running;
    other_running = is.other_running;
  })
  takes-alike (ToMemory type at) (ToMemory other there) v w s t is same bits = alike (record {
    frame = is.frame;
    rest = is.rest;
    waiting = is.waiting;
    fill = is.fill;
    memory = ap (λ k. store k t.memory there (converted other w).bits) same.1
        ∙ ap (λ m. store (size_of type) m there (converted other w).bits) is.memory
        ∙ ap (λ k. store (size_of type) s.memory k (converted other w).bits) same.0
        ∙ ap (store (size_of type) s.memory at) bits;
    input = is.input;
    events = is.events;
    running = is.running;
    other_running = is.other_running;
  })
  takes-alike (ToVariable word) (ToMemory other there) v w s t is same bits = absurd same
  takes-alike (ToMemory type at) (ToVariable other) v w s t is same bits = absurd same

  -- one value for both
  pub same-takes : (bs cs : List Binding) (target to : Target) (v : Value) → AllZip BindingAlike bs cs → TargetAlike target to → TakesAlike bs cs target to v v
  same-takes bs cs (ToVariable word) (ToVariable other) v are same = λ b c here there. room-bits b.type c.type v (found-alike bs cs word b c are here there).room
  same-takes bs cs (ToMemory type at) (ToMemory other there) v are same = room-bits type other v same.1
  same-takes bs cs (ToVariable word) (ToMemory other there) v are same = absurd same
  same-takes bs cs (ToMemory type at) (ToVariable other) v are same = absurd same

  pub result-alike : (target to : Option Target) (v : Option Value) (at there : ℕ) (s t : State) → StateAlike s t → IfTargetsAlike target to → AfterAlike (result_step target v at s) (result_step to v there t)
  result-alike None None v at there s t is same = alike is
  result-alike (Some target) (Some to) (Some v) at there s t is same =
      takes-alike target to v v s t is same (same-takes s.frame.variables t.frame.variables target to v is.frame.variables same)
  result-alike (Some target) (Some to) None at there s t is same = stuck at refl
  result-alike None (Some to) v at there s t is same = absurd same
  result-alike (Some target) None v at there s t is same = absurd same

  back-alike : (ws xs : List Waiting) (v : Option Value) (at there : ℕ) (s t : State) → AllZip WaitsAlike ws xs → StateAlike s t → AfterAlike (back_step ws v at s) (back_step xs v there t)
  back-alike [] [] v at there s t are is = stuck at refl
  back-alike [] (x ∷ xs) v at there s t are is = absurd are
  back-alike (w ∷ ws) [] v at there s t are is = absurd are
  back-alike (w ∷ ws) (x ∷ xs) v at there s t are is =
      result-alike w.target x.target v at there (record s { rest = w.rest; frame = w.frame; waiting = ws }) (record t { rest = x.rest; frame = x.frame; waiting = xs })
      (record {
        frame = are.0.frame;
        rest = are.0.rest;
        waiting = are.1;
        fill = is.fill;
        memory = is.memory;
        input = is.input;
        events = is.events;
        running = is.running;
        other_running = is.other_running;
      })
      are.0.target

  starts-alike : (f g : Function) → FunctionAlike tree after f g → is_start g ≡ is_start f
  starts-alike f g is = ap (λ n. same_bytes n (codes "start")) is.name

  stuck-or-back : (b c : Bool) (at there : ℕ) (s t : State) → c ≡ b → StateAlike s t →
      AfterAlike (if b then with_end (Stuck at) s else back_step s.waiting None at s) (if c then with_end (Stuck there) t else back_step t.waiting None there t)
  stuck-or-back true true at there s t same is = stuck at refl
  stuck-or-back false false at there s t same is = back-alike s.waiting t.waiting None at there s t is.waiting is
  stuck-or-back true false at there s t same is = absurd cc
  stuck-or-back false true at there s t same is = absurd cc

  pub close-alike : (at there : ℕ) (s t : State) → StateAlike s t → AfterAlike (close_step at s) (close_step there t)
  close-alike at there s t is =
      stuck-or-back (is_start s.frame.function || is_some s.frame.function.result) (is_start t.frame.function || is_some t.frame.function.result) at there s t (ap₂ (λ a r. a || is_some r) (starts-alike s.frame.function t.frame.function is.frame.function) is.frame.function.result) is

  pub return-alike : (at there : ℕ) (s t : State) → StateAlike s t → AfterAlike (return_step at s) (return_step there t)
  return-alike at there s t is =
      stuck-or-back (is_start s.frame.function) (is_start t.frame.function) at there s t (starts-alike s.frame.function t.frame.function is.frame.function) is

  give-one : (type : CType) (v w : Outcome Value) (b c : Bool) (at there : ℕ) (s t : State) → c ≡ b → StateAlike s t → Both (λ a d. (converted type d).bits ≡ (converted type a).bits) v w →
      AfterAlike (if b then with_end (Stuck at) s else on v at s (λ a. back_step s.waiting (Some (converted type a)) at s))
      (if c then with_end (Stuck there) t else on w there t (λ d. back_step t.waiting (Some (converted type d)) there t))
  give-one type v w true true at there s t same is both = stuck at refl
  give-one type v w false false at there s t same is both =
      on-alike (λ a d. (converted type d).bits ≡ (converted type a).bits) v w at there s t _ _ is.events both
      (λ a d here other bits. subst (λ x. AfterAlike (back_step s.waiting (Some (converted type a)) at s) (back_step t.waiting (Some (value type x)) there t)) (sym bits) (back-alike s.waiting t.waiting (Some (converted type a)) at there s t is.waiting is))
  give-one type v w true false at there s t same is both = absurd cc
  give-one type v w false true at there s t same is both = absurd cc

  pub give-alike : (type : Option CType) (v w : Outcome Value) (at there : ℕ) (s t : State) → StateAlike s t →
      ((own : CType) → type ≡ Some own → Both (λ a d. (converted own d).bits ≡ (converted own a).bits) v w) → AfterAlike (give_step type v at s) (give_step type w there t)
  give-alike None v w at there s t is both = stuck at refl
  give-alike (Some type) v w at there s t is both =
      give-one type v w (is_start s.frame.function) (is_start t.frame.function) at there s t (starts-alike s.frame.function t.frame.function is.frame.function) is (both type refl)

  -- DOS calls.

  events-alike : (events : List Event) (input other : List ℕ) (s t : State) → StateAlike s t → other ≡ input → StateAlike (with_events events (record s { input = input })) (with_events events (record t { input = other }))
  events-alike events input other s t is same = record {
    frame = is.frame;
    rest = is.rest;
    waiting = is.waiting;
    fill = is.fill;
    memory = is.memory;
    input = same;
    events = ap (λ es. es ++ events) is.events;
    running = is.running;
    other_running = is.other_running;
  }

  key-alike : (echo : Bool) (input : List ℕ) (target to : Option Target) (at there : ℕ) (s t : State) → StateAlike s t → t.input ≡ s.input → IfTargetsAlike target to → AfterAlike (key_step echo input target at s) (key_step echo input to there t)
  key-alike echo [] target to at there s t is left same =
      result-alike target to (Some (number Uchar 0x1A)) at there (with_events (MetEnd ∷ []) s) (with_events (MetEnd ∷ []) t) (events-alike (MetEnd ∷ []) s.input t.input s t is left) same
  key-alike echo (byte ∷ rest) target to at there s t is left same =
      let events = Took byte ∷ writes (if echo then byte ∷ [] else []) in
      result-alike target to (Some (number Uchar byte)) at there (with_events events (record s { input = rest })) (with_events events (record t { input = rest })) (events-alike events rest rest s t is refl) same

  pub dos-alike : (dos : Dos) (target to : Option Target) (vs ws : List Value) (at there : ℕ) (s t : State) → StateAlike s t → IfTargetsAlike target to → AllBits vs ws →
      AfterAlike (dos_step dos target vs at s) (dos_step dos to ws there t)
  dos-alike Putc None None (v ∷ []) (w ∷ []) at there s t is same bits =
      alike (subst (λ k. StateAlike (with_events (writes (v.bits ∷ [])) s) (with_events (writes (k ∷ [])) t)) (sym bits.0.bits) (events-alike (writes (v.bits ∷ [])) s.input t.input s t is is.input))
  dos-alike Puts None None (v ∷ []) (w ∷ []) at there s t is same bits =
      alike (subst (λ es. StateAlike (with_events (writes (string_at s.memory v.bits)) s) (with_events (writes es) t)) (sym (ap₂ string_at is.memory bits.0.bits)) (events-alike (writes (string_at s.memory v.bits)) s.input t.input s t is is.input))
  dos-alike Leave None None (v ∷ []) (w ∷ []) at there s t is same bits = over refl (ap Exit bits.0.bits) is.events
  dos-alike Getche target to [] [] at there s t is same bits =
      subst (λ bytes. AfterAlike (key_step true s.input target at s) (key_step true bytes to there t)) (sym is.input) (key-alike true s.input target to at there s t is is.input same)
  dos-alike Getch target to [] [] at there s t is same bits =
      subst (λ bytes. AfterAlike (key_step false s.input target at s) (key_step false bytes to there t)) (sym is.input) (key-alike false s.input target to at there s t is is.input same)
  dos-alike Putc None None [] ws at there s t is same bits = stuck at refl
  dos-alike Putc None None (v ∷ u ∷ vs) ws at there s t is same bits = stuck at refl
  dos-alike Putc None None (v ∷ []) [] at there s t is same bits = absurd bits
  dos-alike Putc None None (v ∷ []) (w ∷ x ∷ ws) at there s t is same bits = absurd bits.1
  dos-alike Putc (Some target) to vs ws at there s t is same bits = stuck at refl
  dos-alike Putc None (Some to) vs ws at there s t is same bits = absurd same
  dos-alike Puts None None [] ws at there s t is same bits = stuck at refl
  dos-alike Puts None None (v ∷ u ∷ vs) ws at there s t is same bits = stuck at refl
  dos-alike Puts None None (v ∷ []) [] at there s t is same bits = absurd bits
  dos-alike Puts None None (v ∷ []) (w ∷ x ∷ ws) at there s t is same bits = absurd bits.1
  dos-alike Puts (Some target) to vs ws at there s t is same bits = stuck at refl
  dos-alike Puts None (Some to) vs ws at there s t is same bits = absurd same
  dos-alike Leave None None [] ws at there s t is same bits = stuck at refl
  dos-alike Leave None None (v ∷ u ∷ vs) ws at there s t is same bits = stuck at refl
  dos-alike Leave None None (v ∷ []) [] at there s t is same bits = absurd bits
  dos-alike Leave None None (v ∷ []) (w ∷ x ∷ ws) at there s t is same bits = absurd bits.1
  dos-alike Leave (Some target) to vs ws at there s t is same bits = stuck at refl
  dos-alike Leave None (Some to) vs ws at there s t is same bits = absurd same
  dos-alike Getche target to (v ∷ vs) ws at there s t is same bits = stuck at refl
  dos-alike Getche target to [] (w ∷ ws) at there s t is same bits = absurd bits
  dos-alike Getch target to (v ∷ vs) ws at there s t is same bits = stuck at refl
  dos-alike Getch target to [] (w ∷ ws) at there s t is same bits = absurd bits

  -- Calls that begin.

  params-placed : (f g : Function) (base : ℕ) → FunctionAlike tree after f g → params_of_call g base ≡ params_of_call f base
  params-placed f g base is = params-there f.body g.body base 0 false f.params g.params is.addresses is.params

  locals-placed : (f g : Function) (base : ℕ) → FunctionAlike tree after f g → locals_of_call g base ≡ locals_of_call f base
  locals-placed f g base is = locals-there base 4 f.locals g.locals is.locals

  pub frames-begin : (f g : Function) (base fill : ℕ) (xs ys : List Value) → FunctionAlike tree after f g → AllBits xs ys → AllZip BindingAlike (frame_of f base fill xs).variables (frame_of g base fill ys).variables
  frames-begin f g base fill xs ys is same =
      both-alike (param_bindings f.params (params_of_call f base) xs) (param_bindings g.params (params_of_call g base) ys) (local_bindings fill f.locals (locals_of_call f base)) (local_bindings fill g.locals (locals_of_call g base))
      (subst (λ ps. AllZip BindingAlike (param_bindings f.params (params_of_call f base) xs) (param_bindings g.params ps ys)) (sym (params-placed f g base is)) (params-alike f.params g.params (params_of_call f base) xs ys is.params same))
      (subst (λ ps. AllZip BindingAlike (local_bindings fill f.locals (locals_of_call f base)) (local_bindings fill g.locals ps)) (sym (locals-placed f g base is)) (locals-alike fill f.locals g.locals (locals_of_call f base) is.locals))

  pub enter-alike : (f g : Function) (depth : ℕ) (target to : Option Target) (xs ys : List Value) (s t : State) → StateAlike s t → FunctionAlike tree after f g → IfTargetsAlike target to → AllBits xs ys → AllZip IsWithin (param_types f) xs →
      AfterAlike (enter_step f depth target xs s) (enter_step g depth to ys t)
  enter-alike f g depth target to xs ys s t is function same bits within =
      let base : below t.frame.base depth ≡ below s.frame.base depth = ap (λ b. below b depth) is.frame.base in
      alike (record {
        frame = record {
          function = function;
          base = base;
          kept = frame-kept f (below s.frame.base depth) s.fill xs within;
          variables = subst (λ b. AllZip BindingAlike (frame_of f (below s.frame.base depth) s.fill xs).variables (frame_of g b t.fill ys).variables) (sym base)
              (subst (λ k. AllZip BindingAlike (frame_of f (below s.frame.base depth) s.fill xs).variables (frame_of g (below s.frame.base depth) k ys).variables) (sym is.fill) (frames-begin f g (below s.frame.base depth) s.fill xs ys function bits));
        };
        rest = goes function.body ends;
        waiting = (record { frame = is.frame; rest = is.rest; target = same }, is.waiting);
        fill = is.fill;
        memory = ap (λ b. with_arguments (params_of_call g b) ys t.memory) base
            ∙ ap (λ ps. with_arguments ps ys t.memory) (params-placed f g (below s.frame.base depth) function)
            ∙ ap (with_arguments (params_of_call f (below s.frame.base depth)) ys) is.memory
            ∙ arguments-written (params_of_call f (below s.frame.base depth)) xs ys s.memory bits;
        input = is.input;
        events = is.events;
        running = is.running;
        other_running = is.other_running;
      })

  -- both texts have the function, or neither
  abbrev pub IfFunctions : Option Function → Option Function → Type 0
  IfFunctions None None = Unit {0}
  IfFunctions (Some f) (Some g) = FunctionAlike tree after f g
  IfFunctions None (Some g) = ⊥
  IfFunctions (Some f) None = ⊥

  pub functions-found : (fs gs : List Function) (word : Word) → AllZip (FunctionAlike tree after) fs gs → IfFunctions (function_in fs word) (function_in gs word)
  functions-found [] [] word are = tt
  functions-found [] (g ∷ gs) word are = absurd are
  functions-found (f ∷ fs) [] word are = absurd are
  functions-found (f ∷ fs) (g ∷ gs) word are =
      by (same_bytes f.name word) (same_bytes g.name word) (ap (λ n. same_bytes n word) are.0.name) (functions-found fs gs word are.1)
    where
      by : (p q : Bool) → q ≡ p → IfFunctions (function_in fs word) (function_in gs word) → IfFunctions (if p then Some f else function_in fs word) (if q then Some g else function_in gs word)
      by true true same others = are.0
      by false false same others = others
      by true false same others = absurd cc
      by false true same others = absurd cc
