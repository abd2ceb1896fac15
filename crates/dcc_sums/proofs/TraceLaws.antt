-- What a run of a procedure holds of the values at its begin, along the trail that it goes.
use Rattle.std.proofs.Common.{◌≡◌, ℕ, Bool, true, false, ◌||◌, ◌&&◌, not, List, [], ◌∷◌, ◌++◌, Option, Some, None, refl, sym, ap, ◌∙◌, true≢false, map}
use Rattle.std.specs.Prelude.{if◌then◌else◌, ◌==◌, Contains, filter, option_to_list}
use Rattle.dcc_ir.specs.declared.syntax.Loc.{Loc}
use Rattle.dcc_ir.specs.declared.syntax.Loc.TheVariants.{Half, Flag, Cell, Temp}
use Rattle.dcc_ir.specs.Tree.{Expr, Get, Stmt, Set, Fetch, Store, Div, Call, Dos}
use Rattle.dcc_ir.specs.Location.{same_location, Values, with_value}
use Rattle.dcc_ir.specs.Value.{division_of}
use Rattle.dcc_ir.specs.Use.{writes_of}
use Rattle.dcc_ir.specs.Live.{is_among}
use Rattle.dcc_ir.specs.Passing.{passed as passing_locations}
use Rattle.dcc_ir.specs.Passes.{with_values}
use Rattle.dcc_ir.specs.Run.{State, scene_of, value_in, is_call, dividing, taking, keyed, argument_in, dos_step, stmt_step}
use Rattle.dcc_ir.proofs.LocationLaws.{contains_among}
use Rattle.dcc_demand.specs.Procedures.{Effect, Leaves, Copies, Pops, Makes, LeavesWord, Pushes, Overwrites, Action, Procedure, ChangeFamily, CallChanges}
use Rattle.dcc_demand.specs.Holds.{Holds, WordHolds}
use Rattle.dcc_sums.specs.Points.{Position}
use Rattle.dcc_sums.specs.Instance.{passes, is_half, is_pushed, written_by, effect_of, word_effect_of, action_of, only_using}
use Rattle.dcc_sums.proofs.GivenLaws.{other_value, own_value, given-none, given-first}

-- The values change as an action says, where words are the bytes of cells from that number on.
pub record Does (changed : ChangeFamily Loc) (pushed : ℕ) (action : Action Loc Loc) (v v' : Values) : Type 0 where
  pub left : (x : Loc) → action.effect x ≡ Leaves → ¬ CallChanges changed action.callee x → v' x ≡ v x
  pub copied : (x from : Loc) → action.effect x ≡ Copies from → v' x ≡ v from
  pub popped : (x word : Loc) → action.effect x ≡ Pops word → v' x ≡ v word
  pub pushes : (word from : Loc) → action.word_effect word ≡ Pushes from → v' word ≡ v from
  pub word_left : (word : Loc) → is_pushed pushed word ≡ true → action.word_effect word ≡ LeavesWord → v' word ≡ v word

module _ (changed : ChangeFamily Loc) (procedure : Procedure Position Loc Loc) (pushed : ℕ) where
  -- what holds the value that a location had first has it now
  pub record Traced (first v : Values) (passed : List Position) : Type 0 where
    pub held : (l x : Loc) → Holds changed procedure l passed x → v x ≡ first l
    pub words : (l word : Loc) → is_pushed pushed word ≡ true → WordHolds changed procedure l passed word → v word ≡ first l

  pub traced_first : (v : Values) → Traced v v []
  traced_first v = record { held = λ l x h. holding l x h; words = λ l w p h. none l w h }
    where
      holding : (l x : Loc) → Holds changed procedure l [] x → v x ≡ v l
      holding l x Holds.begun = refl

      none : (l w : Loc) → WordHolds changed procedure l [] w → v w ≡ v l
      none l w h = elim h [ ]

  pub traced_next : (private : (word : Loc) → procedure.is_private word ≡ is_pushed pushed word) (first v v' : Values) (passed : List Position) (a : Position) →
      Does changed pushed (procedure.action a) v v' → Traced first v passed → Traced first v' (a ∷ passed)
  traced_next private first v v' passed a does traced = record { held = λ l x h. holding l x h; words = λ l w p h. keeping l w p h }
    where
      holding : (l x : Loc) → Holds changed procedure l (a ∷ passed) x → v' x ≡ first l
      holding l x (Holds.left e n h) = does.left x e n ∙ traced.held l x h
      holding l x (Holds.copied {other = other} e n h) = does.copied x other e ∙ traced.held l other h
      holding l x (Holds.popped {word = word} e n is h) = does.popped x word e ∙ traced.words l word (sym (private word) ∙ is) h

      keeping : (l w : Loc) → is_pushed pushed w ≡ true → WordHolds changed procedure l (a ∷ passed) w → v' w ≡ first l
      keeping l w p (WordHolds.pushed {location = location} e h) = does.pushes w location e ∙ traced.held l location h
      keeping l w p (WordHolds.kept e h) = does.word_left w p e ∙ traced.words l w p h

-- Statements.

-- of two locations, one that is no other
out_of : (xs : List Loc) (x : Loc) → is_among xs x ≡ false → Contains xs x → ⊥
out_of xs x e c = true≢false (sym (contains_among xs x c) ∙ e)

alone : (b : Bool) → (b || false) ≡ b
alone true = refl
alone false = refl

-- another location is set
set_apart : (v : Values) (l x : Loc) (n : ℕ) → is_among (l ∷ []) x ≡ false → with_value v l n x ≡ v x
set_apart v l x n e = other_value x v l n (sym (alone (same_location x l)) ∙ e)

-- a DOS call leaves what it doesn't take a byte into
module _ (x : Loc) where
  taken_apart : (place : Option Loc) (byte : ℕ) (s : State) → is_among (option_to_list place) x ≡ false → (taking place byte s).running.values x ≡ s.running.values x
  taken_apart (Some l) byte s e = set_apart s.running.values l x byte e
  taken_apart None byte s e = refl

  keyed_apart : (echo : Bool) (place : Option Loc) (input : List ℕ) (s : State) → is_among (option_to_list place) x ≡ false → (keyed echo place input s).running.values x ≡ s.running.values x
  keyed_apart echo place [] s e = taken_apart place 0x1A s e
  keyed_apart echo place (byte ∷ input) s e = taken_apart place byte (record s { input = input }) e

  either_holds : (b : Bool) (n : ℕ) (u w : State) → u.running.values x ≡ n → w.running.values x ≡ n → (if b then u else w).running.values x ≡ n
  either_holds true n u w h k = h
  either_holds false n u w h k = k

  dos_apart : (number : ℕ) (place : Option Loc) (n : ℕ) (s : State) → is_among (option_to_list place) x ≡ false → (dos_step number place n s).running.values x ≡ s.running.values x
  dos_apart number place n s e =
      let m = s.running.values x in
      either_holds (number == 0x02) m _ _ refl (either_holds (number == 0x4C) m _ _ refl
      (either_holds (number == 0x01) m _ _ (keyed_apart true place s.input s e) (either_holds (number == 0x08) m _ _ (keyed_apart false place s.input s e)
      (either_holds (number == 0x09) m _ _ refl refl))))

  divided_apart : (l : Loc) (n : Option ℕ) (s : State) → is_among (l ∷ []) x ≡ false → (dividing l n s).running.values x ≡ s.running.values x
  divided_apart l (Some n) s e = set_apart s.running.values l x n e
  divided_apart l None s e = refl

  -- a statement leaves what it doesn't write
  unwritten : (stmt : Stmt) (s : State) → is_among (writes_of stmt) x ≡ false → (stmt_step stmt s).running.values x ≡ s.running.values x
  unwritten (Set l e) s out = set_apart s.running.values l x (value_in s e) out
  unwritten (Fetch l width address) s out = set_apart s.running.values l x _ out
  unwritten (Store width address e) s out = refl
  unwritten (Div l e) s out = divided_apart l (division_of (scene_of s) e) s out
  unwritten (Call results entry arguments depth) s out = refl
  unwritten (Dos number place argument) s out = dos_apart number place (argument_in s argument) s out

pub written_plain : (stmt : Stmt) → is_call stmt ≡ false → written_by stmt ≡ writes_of stmt
written_plain (Call results entry arguments depth) plain = absurd (true≢false plain)
written_plain stmt plain = refl

-- Effects that are others.

never_leaves : (pushed : ℕ) (stmt : Stmt) → effect_of pushed stmt ≡ Leaves → ⊥
never_leaves pushed (Set l (Get y)) e = go (is_half l && is_pushed pushed y) e
  where
    go : (c : Bool) → (if c then Pops y else Copies y) ≡ Leaves → ⊥
    go true e = absurd (cc)
    go false e = absurd (cc)
never_leaves pushed stmt e = absurd (cc)

never_leaves_word : (stmt : Stmt) → word_effect_of stmt ≡ LeavesWord → ⊥
never_leaves_word (Set l (Get y)) e = go (is_half y) e
  where
    go : (c : Bool) → (if c then Pushes y else Overwrites) ≡ LeavesWord → ⊥
    go true e = absurd (cc)
    go false e = absurd (cc)
never_leaves_word stmt e = absurd (cc)

left_out : (b : Bool) (pushed : ℕ) (stmt : Stmt) → (if b then effect_of pushed stmt else Leaves) ≡ Leaves → b ≡ false
left_out true pushed stmt e = absurd (never_leaves pushed stmt e)
left_out false pushed stmt e = refl

word_left_out : (b : Bool) (stmt : Stmt) → (if b then word_effect_of stmt else LeavesWord) ≡ LeavesWord → b ≡ false
word_left_out true stmt e = absurd (never_leaves_word stmt e)
word_left_out false stmt e = refl

made_no_copy : {A : Type 0} (b : Bool) (y : Loc) → if◌then◌else◌ {A = Effect Loc Loc} b Makes Leaves ≡ Copies y → A
made_no_copy true y e = absurd (cc)
made_no_copy false y e = absurd (cc)

made_no_pop : {A : Type 0} (b : Bool) (y : Loc) → if◌then◌else◌ {A = Effect Loc Loc} b Makes Leaves ≡ Pops y → A
made_no_pop true y e = absurd (cc)
made_no_pop false y e = absurd (cc)

no_push : {A : Type 0} (b : Bool) (y : Loc) → (if b then Overwrites else LeavesWord) ≡ Pushes y → A
no_push true y e = absurd (cc)
no_push false y e = absurd (cc)

-- A copy, a POP and a PUSH move a value.

told_copy : (b c : Bool) (y from : Loc) → (if b then (if c then Pops y else Copies y) else Leaves) ≡ Copies from → (b ≡ true) × (y ≡ from)
told_copy true false y from e = (refl, cc)
told_copy true true y from e = absurd (cc)
told_copy false c y from e = absurd (cc)

told_pop : (b c : Bool) (y from : Loc) → (if b then (if c then Pops y else Copies y) else Leaves) ≡ Pops from → (b ≡ true) × (y ≡ from)
told_pop true true y from e = (refl, cc)
told_pop true false y from e = absurd (cc)
told_pop false c y from e = absurd (cc)

told_push : (b c : Bool) (y from : Loc) → (if b then (if c then Pushes y else Overwrites) else LeavesWord) ≡ Pushes from → (b ≡ true) × (y ≡ from)
told_push true true y from e = (refl, cc)
told_push true false y from e = absurd (cc)
told_push false c y from e = absurd (cc)

module _ (pushed : ℕ) where
  -- the location that is set holds what the other holds
  moves : (l y : Loc) (s : State) (x from : Loc) → (is_among (l ∷ []) x ≡ true) × (y ≡ from) → with_value s.running.values l (s.running.values y) x ≡ s.running.values from
  moves l y s x from told = own_value x s.running.values l (s.running.values y) (sym (alone (same_location x l)) ∙ told.0) ∙ ap s.running.values told.1

  copies : (stmt : Stmt) (s : State) (x from : Loc) → (if is_among (written_by stmt) x then effect_of pushed stmt else Leaves) ≡ Copies from → (stmt_step stmt s).running.values x ≡ s.running.values from
  copies (Set l (Get y)) s x from e = moves l y s x from (told_copy (is_among (l ∷ []) x) (is_half l && is_pushed pushed y) y from e)
  copies stmt s x from e = made_no_copy (is_among (written_by stmt) x) from e

  pops : (stmt : Stmt) (s : State) (x from : Loc) → (if is_among (written_by stmt) x then effect_of pushed stmt else Leaves) ≡ Pops from → (stmt_step stmt s).running.values x ≡ s.running.values from
  pops (Set l (Get y)) s x from e = moves l y s x from (told_pop (is_among (l ∷ []) x) (is_half l && is_pushed pushed y) y from e)
  pops stmt s x from e = made_no_pop (is_among (written_by stmt) x) from e

  pushing : (stmt : Stmt) (s : State) (x from : Loc) → (if is_among (written_by stmt) x then word_effect_of stmt else LeavesWord) ≡ Pushes from → (stmt_step stmt s).running.values x ≡ s.running.values from
  pushing (Set l (Get y)) s x from e = moves l y s x from (told_push (is_among (l ∷ []) x) (is_half y) y from e)
  pushing stmt s x from e = no_push (is_among (written_by stmt) x) from e

  -- a statement without a call does what its action says
  pub stmt_does : (changed : ChangeFamily Loc) (stmt : Stmt) (s : State) → is_call stmt ≡ false → Does changed pushed (action_of pushed stmt) s.running.values (stmt_step stmt s).running.values
  stmt_does changed stmt s plain = record {
    left = λ x e n. unwritten x stmt s (out x (left_out (is_among (written_by stmt) x) pushed stmt e));
    copied = λ x from e. copies stmt s x from e;
    popped = λ x from e. pops stmt s x from e;
    pushes = λ w from e. pushing stmt s w from e;
    word_left = λ w p e. unwritten w stmt s (out w (word_left_out (is_among (written_by stmt) w) stmt e));
  }
    where
      out : (x : Loc) → is_among (written_by stmt) x ≡ false → is_among (writes_of stmt) x ≡ false
      out x e = ap (λ ls. is_among ls x) (sym (written_plain stmt plain)) ∙ e

  -- the end of a block does what its action says
  pub end_does : (changed : ChangeFamily Loc) (used : List Loc) (v : Values) → Does changed pushed (only_using used) v v
  end_does changed used v = record {
    left = λ x e n. refl;
    copied = λ x from e. absurd (cc);
    popped = λ x from e. absurd (cc);
    pushes = λ w from e. absurd (cc);
    word_left = λ w p e. refl;
  }

  -- Calls.

  no_passing_word : (w : Loc) → is_pushed pushed w ≡ true → passes w ≡ false
  no_passing_word (Cell n h) e = refl
  no_passing_word (Half r h) e = absurd (true≢false (sym e))
  no_passing_word (Flag f) e = absurd (true≢false (sym e))
  no_passing_word (Temp n) e = absurd (true≢false (sym e))

  pub temps_stay : (ts : List ℕ) → filter (λ l. not (passes l)) (map Temp ts) ≡ map Temp ts
  temps_stay [] = refl
  temps_stay (t ∷ ts) = ap (λ l. Temp t ∷ l) (temps_stay ts)

  -- A call does what its action says, where what it gives back of what it doesn't change is what it was.
  pub call_does : (changed : ChangeFamily Loc) (ts : List ℕ) (entry : ℕ) (arguments : List Expr) (depth : ℕ) (r : List ℕ) (v : Values) →
      ((x : Loc) → passes x ≡ true → ¬ changed entry x → with_values v (passing_locations ++ map Temp ts) r x ≡ v x) →
      Does changed pushed (action_of pushed (Call (passing_locations ++ map Temp ts) entry arguments depth)) v (with_values v (passing_locations ++ map Temp ts) r)
  call_does changed ts entry arguments depth r v keeps = record {
    left = λ x e n. left_by x (left_out (is_among (written_by call) x) pushed call e) n (passes x) refl;
    copied = λ x from e. made_no_copy (is_among (written_by call) x) from e;
    popped = λ x from e. made_no_pop (is_among (written_by call) x) from e;
    pushes = λ w from e. no_push (is_among (written_by call) w) from e;
    word_left = λ w p e. apart w (word_left_out (is_among (written_by call) w) call e) (no_passing_word w p);
  }
    where
      call : Stmt
      call = Call (passing_locations ++ map Temp ts) entry arguments depth

      apart : (x : Loc) → is_among (written_by (Call (passing_locations ++ map Temp ts) entry arguments depth)) x ≡ false → passes x ≡ false →
          with_values v (passing_locations ++ map Temp ts) r x ≡ v x
      apart x e p =
          given-first x passing_locations (map Temp ts) r v (out_of (map Temp ts) x (ap (λ ls. is_among ls x) (sym (temps_stay ts)) ∙ e))
          ∙ given-none x passing_locations r v (out_of passing_locations x p)

      left_by : (x : Loc) → is_among (written_by (Call (passing_locations ++ map Temp ts) entry arguments depth)) x ≡ false → ¬ changed entry x → (b : Bool) → passes x ≡ b →
          with_values v (passing_locations ++ map Temp ts) r x ≡ v x
      left_by x e n true p = keeps x p n
      left_by x e n false p = apart x e p
