-- Two states that agree on the locations that matter before a statement agree on those that matter after it.
use Rattle.std.proofs.Common.{◌≡◌, ℕ, ◌+◌, Bool, true, false, ◌&&◌, ◌||◌, ◌⊎◌, inl, inr, List, [], ◌∷◌, ◌++◌, Option, Some, None, refl, sym, ap, ap₂, ◌∙◌, subst, map, flat_map, true≢false, eqb-true}
use Rattle.std.specs.Prelude.{if◌then◌else◌, ◌==◌, ◌/◌, ◌%◌, ◌^◌, All, Contains, option_to_list}
use Rattle.std.proofs.lemmas.List.Elements.{All-nil, All-head, All-tail, All-contains, All-append, All-weaker}
use Rattle.std.proofs.lemmas.List.Concat.{flat_map-append}
use Rattle.dcc_run.specs.Event.{Event, Wrote, Took, MetEnd, writes}
use Rattle.dcc_run.specs.End.{End, Exit, Divide, Stuck, is_over}
use Rattle.dcc_run.proofs.KeptLaws.{right_part}
use Rattle.dcc_ir.specs.declared.syntax.Loc.{Loc}
use Rattle.dcc_ir.specs.Tree.{Expr, Const, Get, Load, Unary, Binary, Widen, Part, Join, Choose, Address, Stmt, Set, Fetch, Store, Div, Call, Dos}
use Rattle.dcc_ir.specs.Location.{same_location, Values, with_value}
use Rattle.dcc_ir.specs.Value.{Environment, value_of, unary_value, binary_value, bytes_at, division_of, division_at, width_of, pattern_at, signed_at}
use Rattle.dcc_ir.specs.Dos.{dos_string}
use Rattle.dcc_ir.specs.Use.{parts_of, got_by, reads_of, exprs_of, writes_of}
use Rattle.dcc_ir.specs.Demand.{uses_of, makes_of}
use Rattle.dcc_ir.specs.Run.{State, scene_of, value_in, is_call, ended, stuck, setting, storing, dividing, happening, writing, taking, keyed, argument_in, dos_step, stmt_step}
use Rattle.dcc_ir.specs.Passes.{AgreeOutside}
use Rattle.dcc_ir.specs.WellFormed.{is_byte_place, is_dos, is_stmt}
use Rattle.dcc_ir.proofs.LocationLaws.{location_same, Contains-here, Contains-none, contains_among}
use Rattle.dcc_ir.proofs.ListLaws.{left_part, all_had}

-- Expressions.

-- what holds of what the expressions of two lists read
both_parts : (P : Loc → Type 0) (xs ys : List Expr) → All P (flat_map got_by (xs ++ ys)) → All P (flat_map got_by xs) × All P (flat_map got_by ys)
both_parts P xs ys all =
    let all' = subst (All P) (flat_map-append got_by xs ys) all in
    (left_part P (flat_map got_by xs) (flat_map got_by ys) all', right_part P (flat_map got_by xs) (flat_map got_by ys) all')

-- an expression has one value where what it reads is the same
pub value_agrees : (s t : Environment) → t.bits ≡ s.bits → t.base ≡ s.base → t.memory ≡ s.memory → (e : Expr) → All (λ l. t.values l ≡ s.values l) (reads_of e) → value_of t e ≡ value_of s e
value_agrees s t bits base memory (Const width n) all = refl
value_agrees s t bits base memory (Get location) all = All-head (λ l. t.values l ≡ s.values l) location [] all
value_agrees s t bits base memory (Load width address) all = ap₂ (λ m n. bytes_at m (width / 8) n) memory (value_agrees s t bits base memory address all)
value_agrees s t bits base memory (Unary operator width a) all = ap (unary_value operator width) (value_agrees s t bits base memory a all)
value_agrees s t bits base memory (Binary operator width a b) all =
    let parts = both_parts (λ l. t.values l ≡ s.values l) (parts_of a) (parts_of b) all in
    ap₂ (binary_value operator width) (value_agrees s t bits base memory a parts.0) (value_agrees s t bits base memory b parts.1)
value_agrees s t bits base memory (Widen true width a) all = ap₂ (λ b n. pattern_at width (signed_at (width_of b a) n)) bits (value_agrees s t bits base memory a all)
value_agrees s t bits base memory (Widen false width a) all = value_agrees s t bits base memory a all
value_agrees s t bits base memory (Part width first a) all = ap (λ n. n / 2 ^ first % 2 ^ width) (value_agrees s t bits base memory a all)
value_agrees s t bits base memory (Join high low) all =
    let parts = both_parts (λ l. t.values l ≡ s.values l) (parts_of high) (parts_of low) all in
    let h = value_agrees s t bits base memory high parts.0 in
    let l = value_agrees s t bits base memory low parts.1 in
    cc
value_agrees s t bits base memory (Choose test a b) all =
    let P = λ (l : Loc). t.values l ≡ s.values l in
    let whole = both_parts P (parts_of test ++ parts_of a) (parts_of b) all in
    let parts = both_parts P (parts_of test) (parts_of a) whole.0 in
    let n = value_agrees s t bits base memory test parts.0 in
    ap (λ n. if n == 1 then value_of t a else value_of t b) n
    ∙ ap₂ (λ x y. if value_of s test == 1 then x else y) (value_agrees s t bits base memory a parts.1) (value_agrees s t bits base memory b whole.1)
value_agrees s t bits base memory (Address distance) all = ap (λ n. (n + distance) % 65536) base

-- States.

-- the two states have the same outside the locations, the same end, and the same values in these locations
pub record AgreeOn (Has : Loc → Type 0) (s t : State) : Type 0 where
  pub values : (l : Loc) → Has l → t.running.values l ≡ s.running.values l
  pub outside : AgreeOutside s t
  pub end : t.end ≡ s.end
  pub bits : t.running.graph.bits ≡ s.running.graph.bits
  pub entry : t.running.graph.entry ≡ s.running.graph.entry

-- the expression reads these locations alone
abbrev pub ReadsIn : (Loc → Type 0) → Expr → Type 0
ReadsIn Has e = All Has (reads_of e)

module _ (Has : Loc → Type 0) where
  pub value-on : (s t : State) → AgreeOn Has s t → (e : Expr) → ReadsIn Has e → value_in t e ≡ value_in s e
  value-on s t h e among =
      value_agrees (scene_of s) (scene_of t) h.bits h.outside.base h.outside.memory e (All-weaker Has (λ l. t.running.values l ≡ s.running.values l) h.values (reads_of e) among)

  pub values-on : (s t : State) → AgreeOn Has s t → (es : List Expr) → All (ReadsIn Has) es → map (value_in t) es ≡ map (value_in s) es
  values-on s t h [] among = refl
  values-on s t h (e ∷ es) among = ap₂ (λ n ns. n ∷ ns) (value-on s t h e (All-head (ReadsIn Has) e es among)) (values-on s t h es (All-tail (ReadsIn Has) e es among))

  happening-on : (events : List Event) (s t : State) → AgreeOn Has s t → AgreeOn Has (happening events s) (happening events t)
  happening-on events s t h = record {
    values = h.values;
    outside = record { memory = h.outside.memory; input = h.outside.input; events = ap (λ l. l ++ events) h.outside.events; base = h.outside.base };
    end = h.end;
    bits = h.bits;
    entry = h.entry;
  }

  ended-on : (end end' : End) (s t : State) → end' ≡ end → AgreeOn Has s t → AgreeOn Has (ended end s) (ended end' t)
  ended-on end end' s t same h = record {
    values = h.values;
    outside = record { memory = h.outside.memory; input = h.outside.input; events = h.outside.events; base = h.outside.base };
    end = same;
    bits = h.bits;
    entry = h.entry;
  }

  pub stuck-on : (s t : State) → AgreeOn Has s t → AgreeOn Has (stuck s) (stuck t)
  stuck-on s t h = ended-on _ _ s t (ap Stuck h.entry) h

  storing-on : (width address address' n n' : ℕ) (s t : State) → address' ≡ address → n' ≡ n → AgreeOn Has s t → AgreeOn Has (storing width address n s) (storing width address' n' t)
  storing-on width address address' n n' s t same same' h = record {
    values = h.values;
    outside = record { memory = let m = h.outside.memory in cc; input = h.outside.input; events = h.outside.events; base = h.outside.base };
    end = h.end;
    bits = h.bits;
    entry = h.entry;
  }

  division-on : (s t : State) → AgreeOn Has s t → (e : Expr) → ReadsIn Has e → division_of (scene_of t) e ≡ division_of (scene_of s) e
  division-on s t h (Binary operator width a b) among =
      let parts = both_parts Has (parts_of a) (parts_of b) among in
      ap₂ (division_at operator width) (value-on s t h a parts.0) (value-on s t h b parts.1)
  division-on s t h e among = refl

  argument-on : (s t : State) → AgreeOn Has s t → (argument : Option Expr) → All Has (flat_map reads_of (option_to_list argument)) → argument_in t argument ≡ argument_in s argument
  argument-on s t h (Some e) among = value-on s t h e (left_part Has (reads_of e) [] among)
  argument-on s t h None among = refl

-- What matters after a statement matters before it, or the statement writes it; a value that it makes is made of what
-- matters, if it matters itself; and what it uses matters.
pub record Before (bits : List ℕ) (Has After : Loc → Type 0) (stmt : Stmt) : Type 0 where
  pub used : (l : Loc) → Contains (uses_of stmt) l → Has l
  pub made_of : (l to : Loc) → Contains (writes_of stmt) to → Contains (makes_of stmt) l → After to → Has l
  pub left : (l : Loc) → After l → Has l ⊎ (Contains (writes_of stmt) l × (is_stmt bits stmt ≡ true))

-- the locations that matter, where the run goes on
abbrev pub StillOn : (Loc → Type 0) → State → Loc → Type 0
StillOn After s l = (is_over s.end ≡ false) × After l

-- two states that agree on these locations, where the run goes on
abbrev Alike : (Loc → Type 0) → State → State → Type 0
Alike After s t = AgreeOn (StillOn After s) s t

pub weaker-on : (Has After : Loc → Type 0) (s t : State) → ((l : Loc) → After l → Has l) → AgreeOn Has s t → AgreeOn After s t
weaker-on Has After s t less h = record { values = λ l a. h.values l (less l a); outside = h.outside; end = h.end; bits = h.bits; entry = h.entry }

-- the state with these values of its locations
abbrev pub revalued : Values → State → State
revalued v s = record s { running = record s.running { values = v } }

-- a DOS call that takes no byte has no place for one
no_place : (bits : List ℕ) (number : ℕ) (place : Option Loc) (argument : Option Expr) (l : Loc) → (number == 0x01 || number == 0x08) ≡ false → is_dos bits number place argument ≡ true →
    Contains (option_to_list place) l → ⊥
no_place bits number None argument l other formed c = Contains-none l c
no_place bits number (Some x) (Some e) l other formed c = true≢false (sym formed)
no_place bits number (Some x) None l other formed c = true≢false (sym formed ∙ ap (λ b. b && is_byte_place bits (Some x)) other)

module _ (Has After : Loc → Type 0) where
  -- values change, and nothing else
  pub revalued-on : (v v' : Values) (s t : State) → ((l : Loc) → After l → v' l ≡ v l) → AgreeOn Has s t → AgreeOn After (revalued v s) (revalued v' t)
  revalued-on v v' s t same h = record {
    values = same;
    outside = record { memory = h.outside.memory; input = h.outside.input; events = h.outside.events; base = h.outside.base };
    end = h.end;
    bits = h.bits;
    entry = h.entry;
  }

  -- a location takes the same value, if it matters
  pub setting-on : (location : Loc) (n n' : ℕ) (s t : State) → (After location → n' ≡ n) → ((l : Loc) → After l → Has l ⊎ Contains (location ∷ []) l) → AgreeOn Has s t →
      AgreeOn After (setting location n s) (setting location n' t)
  setting-on location n n' s t same left h =
      revalued-on (with_value s.running.values location n) (with_value t.running.values location n') s t (λ l a. here l a (same_location l location) refl) h
    where
      here : (l : Loc) → After l → (b : Bool) → same_location l location ≡ b → (if b then n' else t.running.values l) ≡ (if b then n else s.running.values l)
      here l a true e = same (subst After (location_same l location e) a)
      here l a false e = elim (left l a) [
        | inl held ↦ h.values l held
        | inr c ↦ absurd (true≢false (sym (contains_among (location ∷ []) l c) ∙ ap (λ b. b || false) e))
      ]

  happened-on : (events : List Event) (s t : State) → AgreeOn After s t → Alike After (happening events s) (happening events t)
  happened-on events s t h = weaker-on After (StillOn After s) (happening events s) (happening events t) (λ l a. a.1) (happening-on After events s t h)

  -- where the run is over, nothing matters any more
  over-on : (end end' : End) (s t : State) → is_over end ≡ true → end' ≡ end → AgreeOn Has s t → Alike After (ended end s) (ended end' t)
  over-on end end' s t over same h = weaker-on Has (StillOn After (ended end s)) (ended end s) (ended end' t) (λ l a. absurd (true≢false (sym over ∙ a.0))) (ended-on Has end end' s t same h)

  if-on : (b : Bool) (s s' t t' : State) → (b ≡ true → Alike After s t) → (b ≡ false → Alike After s' t') → Alike After (if b then s else s') (if b then t else t')
  if-on true s s' t t' h k = h refl
  if-on false s s' t t' h k = k refl

  dividing-on : (location : Loc) (n : Option ℕ) (s t : State) → ((l : Loc) → After l → Has l ⊎ Contains (location ∷ []) l) → AgreeOn Has s t → Alike After (dividing location n s) (dividing location n t)
  dividing-on location (Some n) s t left h = weaker-on After (StillOn After s) (setting location n s) (setting location n t) (λ l a. a.1) (setting-on location n n s t (λ a. refl) left h)
  dividing-on location None s t left h = over-on Divide Divide s t refl refl h

  taking-on : (place : Option Loc) (byte : ℕ) (s t : State) → ((l : Loc) → After l → Has l ⊎ Contains (option_to_list place) l) → AgreeOn Has s t → AgreeOn After (taking place byte s) (taking place byte t)
  taking-on (Some location) byte s t left h = setting-on location byte byte s t (λ a. refl) left h
  taking-on None byte s t left h = weaker-on Has After s t (λ l a. elim (left l a) [ inl held ↦ held | inr c ↦ absurd (Contains-none l c) ]) h

  keyed-on : (echo : Bool) (place : Option Loc) (input : List ℕ) (s t : State) → ((l : Loc) → After l → Has l ⊎ Contains (option_to_list place) l) → AgreeOn Has s t →
      Alike After (keyed echo place input s) (keyed echo place input t)
  keyed-on echo place [] s t left h = happened-on (MetEnd ∷ []) (taking place 0x1A s) (taking place 0x1A t) (taking-on place 0x1A s t left h)
  keyed-on echo place (byte ∷ input) s t left h =
      happened-on (Took byte ∷ (if echo then Wrote byte ∷ [] else [])) _ _
      (taking-on place byte (record s { input = input }) (record t { input = input }) left (record {
        values = h.values;
        outside = record { memory = h.outside.memory; input = refl; events = h.outside.events; base = h.outside.base };
        end = h.end;
        bits = h.bits;
        entry = h.entry;
      }))

  dos-on : (number : ℕ) (place : Option Loc) (argument : Option Expr) (n : ℕ) (s t : State) → Before s.running.graph.bits Has After (Dos number place argument) → AgreeOn Has s t →
      Alike After (dos_step number place n s) (dos_step number place n t)
  dos-on number place argument n s t before h =
      if-on (number == 0x02) _ _ _ _ (λ e. wrote (n ∷ []) (ap (λ m. m == 0x01 || m == 0x08) (eqb-true number 0x02 e)))
      (λ _. if-on (number == 0x4C) _ _ _ _ (λ e. over-on (Exit n) (Exit n) s t refl refl h)
      (λ _. if-on (number == 0x01) _ _ _ _ (λ e. key true)
      (λ _. if-on (number == 0x08) _ _ _ _ (λ e. key false)
      (λ _. if-on (number == 0x09) _ _ _ _
      (λ e. subst (λ m. Alike After (writing (dos_string s.memory n) s) (writing (dos_string m n) t)) (sym h.outside.memory) (wrote (dos_string s.memory n) (ap (λ m. m == 0x01 || m == 0x08) (eqb-true number 0x09 e))))
      (λ _. over-on (Stuck s.running.graph.entry) (Stuck t.running.graph.entry) s t refl (ap Stuck h.entry) h)))))
    where
      known : (l : Loc) → After l → Has l ⊎ Contains (option_to_list place) l
      known l a = elim (before.left l a) [ inl held ↦ inl held | inr c ↦ inr c.0 ]

      key : (echo : Bool) → Alike After (keyed echo place s.input s) (keyed echo place t.input t)
      key echo = subst (λ input. Alike After (keyed echo place s.input s) (keyed echo place input t)) (sym h.outside.input) (keyed-on echo place s.input s t known h)

      wrote : (bytes : List ℕ) → (number == 0x01 || number == 0x08) ≡ false → Alike After (writing bytes s) (writing bytes t)
      wrote bytes other = happened-on (writes bytes) s t (weaker-on Has After s t (λ l a. elim (before.left l a) [
        | inl held ↦ held
        | inr c ↦ absurd (no_place s.running.graph.bits number place argument l other c.1 c.0)
      ]) h)

  -- After a statement without a call the states agree on what matters there, if the run goes on.
  pub stmt-on : (stmt : Stmt) (s t : State) → is_call stmt ≡ false → Before s.running.graph.bits Has After stmt → AgreeOn Has s t → Alike After (stmt_step stmt s) (stmt_step stmt t)
  stmt-on (Set location e) s t plain before h =
      weaker-on After (StillOn After s) (stmt_step (Set location e) s) (stmt_step (Set location e) t) (λ l a. a.1)
      (setting-on location _ _ s t
      (λ a. value-on Has s t h e (all_had Has (reads_of e) (λ l c. before.made_of l location (Contains-here location []) c a)))
      (λ l a. elim (before.left l a) [ inl held ↦ inl held | inr c ↦ inr c.0 ]) h)
  stmt-on (Fetch location width address) s t plain before h =
      weaker-on After (StillOn After s) (stmt_step (Fetch location width address) s) (stmt_step (Fetch location width address) t) (λ l a. a.1)
      (setting-on location _ _ s t
      (λ a. ap₂ (λ m n. bytes_at m (width / 8) n) h.outside.memory
      (value-on Has s t h address (all_had Has (reads_of address) (λ l c. before.made_of l location (Contains-here location []) c a))))
      (λ l a. elim (before.left l a) [ inl held ↦ inl held | inr c ↦ inr c.0 ]) h)
  stmt-on (Store width address e) s t plain before h =
      let uses = all_had Has (reads_of address ++ reads_of e) before.used in
      weaker-on Has (StillOn After s) (stmt_step (Store width address e) s) (stmt_step (Store width address e) t)
      (λ l a. elim (before.left l a.1) [ inl held ↦ held | inr c ↦ absurd (Contains-none l c.0) ])
      (storing-on Has width _ _ _ _ s t (value-on Has s t h address (left_part Has (reads_of address) (reads_of e) uses))
      (value-on Has s t h e (right_part Has (reads_of address) (reads_of e) uses)) h)
  stmt-on (Div location e) s t plain before h =
      subst (λ n. Alike After (dividing location (division_of (scene_of s) e) s) (dividing location n t)) (sym (division-on Has s t h e (all_had Has (reads_of e) before.used)))
      (dividing-on location (division_of (scene_of s) e) s t (λ l a. elim (before.left l a) [ inl held ↦ inl held | inr c ↦ inr c.0 ]) h)
  stmt-on (Call results entry arguments depth) s t plain before h = absurd (true≢false plain)
  stmt-on (Dos number place argument) s t plain before h =
      subst (λ n. Alike After (dos_step number place (argument_in s argument) s) (dos_step number place n t))
      (sym (argument-on Has s t h argument (all_had Has (flat_map reads_of (option_to_list argument)) before.used)))
      (dos-on number place argument (argument_in s argument) s t before h)

-- The locations of a point are the same before and after the pass.

-- what holds of all that the elements give holds of all of it
flat_parts : {X A : Type 0} (P : A → Type 0) (f : X → List A) (xs : List X) → All (λ x. All P (f x)) xs → All P (flat_map f xs)
flat_parts P f [] all = All-nil P
flat_parts P f (x ∷ xs) all = All-append P (f x) (flat_map f xs) (All-head (λ x. All P (f x)) x xs all) (flat_parts P f xs (All-tail (λ x. All P (f x)) x xs all))

-- what a statement uses, and what it makes values of, is what it reads
uses-among : (P : Loc → Type 0) (stmt : Stmt) → All (ReadsIn P) (exprs_of stmt) → All P (uses_of stmt)
uses-among P (Set location e) all = All-nil P
uses-among P (Fetch location width address) all = All-nil P
uses-among P (Store width address e) all =
    All-append P (reads_of address) (reads_of e) (All-head (ReadsIn P) address (e ∷ []) all) (All-head (ReadsIn P) e [] (All-tail (ReadsIn P) address (e ∷ []) all))
uses-among P (Div location e) all = All-head (ReadsIn P) e [] all
uses-among P (Call results entry arguments depth) all = flat_parts P reads_of arguments all
uses-among P (Dos number place argument) all = flat_parts P reads_of (option_to_list argument) all

makes-among : (P : Loc → Type 0) (stmt : Stmt) → All (ReadsIn P) (exprs_of stmt) → All P (makes_of stmt)
makes-among P (Set location e) all = All-head (ReadsIn P) e [] all
makes-among P (Fetch location width address) all = All-head (ReadsIn P) address [] all
makes-among P (Store width address e) all = All-nil P
makes-among P (Div location e) all = All-nil P
makes-among P (Call results entry arguments depth) all = All-nil P
makes-among P (Dos number place argument) all = All-nil P

-- a statement without a call that reads these locations alone
pub stmt-agrees : (Has : Loc → Type 0) (stmt : Stmt) (s t : State) → is_call stmt ≡ false → All (ReadsIn Has) (exprs_of stmt) → AgreeOn Has s t → Alike Has (stmt_step stmt s) (stmt_step stmt t)
stmt-agrees Has stmt s t plain among h = stmt-on Has Has stmt s t plain (record {
  used = λ l c. All-contains Has (uses_of stmt) l (uses-among Has stmt among) c;
  made_of = λ l to w c a. All-contains Has (makes_of stmt) l (makes-among Has stmt among) c;
  left = λ l a. inl a;
}) h
