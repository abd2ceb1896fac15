-- No run of a well-formed program with sound ends is ever stuck.
use Rattle.std.proofs.Common.{◌≡◌, ℕ, zero, suc, ◌+◌, ◌<◌, Bool, true, false, ◌&&◌, ◌||◌, not, inl, inr, List, [], ◌∷◌, length, map, Option, Some, None, refl, sym, ap, ◌∙◌, subst, true≢false, eqb-true, ltb-true, arith}
use Rattle.std.specs.Prelude.{if◌then◌else◌, ◌==◌, nat_lt, slice_get, get_or, All, Contains}
use Rattle.std.specs.List.{list_any, list_all}
use Rattle.std.proofs.lemmas.List.Elements.{All-head, All-contains}
use Rattle.std.proofs.lemmas.Option.{slice_get-get_or}
use Rattle.dcc_run.specs.End.{End, Running, Exit as ExitWith, Divide, Outside, Stuck, is_over}
use Rattle.dcc_run.proofs.RunLaws.{after-add}
use Rattle.dcc_ir.specs.declared.syntax.Loc.{Loc}
use Rattle.dcc_ir.specs.declared.syntax.Put.{Put}
use Rattle.dcc_ir.specs.declared.syntax.Put.TheVariants.{Memory, One, Two}
use Rattle.dcc_ir.specs.declared.syntax.Param.{Param}
use Rattle.dcc_ir.specs.Tree.{Expr, Stmt, Set, Fetch, Store, Div, Call, Dos, Exit, Goto, If, Switch, Ret, Stop, Block, Graph, Program}
use Rattle.dcc_ir.specs.Location.{filled}
use Rattle.dcc_ir.specs.Value.{division_of}
use Rattle.dcc_ir.specs.WellFormed.{is_expr_of, is_dos, is_stmt, is_exit, is_jump, IsCall, IsCalling, IsGraph, IsProgram}
use Rattle.dcc_ir.specs.Run.{State, Waiting, scene_of, value_in, keyed, dividing, argument_in, dos_step, stmt_step, is_call, activation, entering, going_to, putting, passing, callee_base, calling, graph_at, giving, returning, switching, exit_step, block_step, step, no_graph, first_state, reached}
use Rattle.dcc_ir.specs.Fitting.{AreBytes}
use Rattle.dcc_ir.specs.Ends.{IsNeverStuck, is_ret, is_switch, is_stop, is_exit_call, stops_soundly, HasPlace, SwitchesHavePlaces, HasNoSwitch, HasSoundEnds}
use Rattle.dcc_ir.proofs.FitLaws.{both, either}
use Rattle.dcc_ir.proofs.StepLaws.{stmt-within, passing-alike}
use Rattle.dcc_ir.proofs.ExecuteLaws.{execute_over, execute_first}
use Rattle.dcc_ir.proofs.ReachedLaws.{contained, found_contained, all_at, named_again, IsActive, AreCallers, IsGood, IsWithinAt, graph_of, exit_of, within-of, within-next, reached-good}

abbrev is_stuck : End → Bool
is_stuck (Stuck entry) = true
is_stuck _ = false

goes_on : (e : End) → is_over e ≡ false → is_stuck e ≡ false
goes_on Running on = refl
goes_on (ExitWith code) on = refl
goes_on Divide on = refl
goes_on (Outside at) on = refl
goes_on (Stuck entry) on = absurd (true≢false on)

-- Where a block of that number is entered, the run goes on.

entering_end : (blocks : List Block) (place : ℕ) (s : State) → place < length blocks → (entering (slice_get blocks place) s).end ≡ s.end
entering_end blocks place s less = subst (λ o. (entering o s).end ≡ s.end) (sym (slice_get-get_or blocks place s.running.block less)) refl

giving_end : (results : List Loc) (values : List ℕ) (s : State) → (giving results values s).end ≡ s.end
giving_end [] values s = refl
giving_end (location ∷ results) [] s = refl
giving_end (location ∷ results) (n ∷ values) s = giving_end results values _

putting_end : (j : ℕ) (put : Put) (n : ℕ) (s : State) → (putting j put n s).end ≡ s.end
putting_end j Memory n s = refl
putting_end j (One location) n s = refl
putting_end j (Two low high) n s = refl

passing_end : (j : ℕ) (params : List Param) (values : List ℕ) (s : State) → (passing j params values s).end ≡ s.end
passing_end j [] values s = refl
passing_end j (param ∷ params) [] s = refl
passing_end j (param ∷ params) (n ∷ values) s = passing_end (j + 1) params values (putting j param.put n s) ∙ putting_end j param.put n s

-- Statements.

keyed_end : (echo : Bool) (place : Option Loc) (input : List ℕ) (s : State) → (keyed echo place input s).end ≡ s.end
keyed_end echo None [] s = refl
keyed_end echo (Some location) [] s = refl
keyed_end echo None (byte ∷ input) s = refl
keyed_end echo (Some location) (byte ∷ input) s = refl

-- a DOS call that takes a byte is one of two
no_key : (a b c d : Bool) → a ≡ false → b ≡ false → ((a || b) && c) ≡ true → d ≡ true
no_key true b c d x y e = absurd (true≢false x)
no_key false true c d x y e = absurd (true≢false y)
no_key false false c d x y e = absurd (true≢false (sym e))

-- a well-formed DOS call is one of the five
number_is : (bits : List ℕ) (number : ℕ) (place : Option Loc) (argument : Option Expr) → is_dos bits number place argument ≡ true →
    (number == 0x02) ≡ false → (number == 0x4C) ≡ false → (number == 0x01) ≡ false → (number == 0x08) ≡ false → (number == 0x09) ≡ true
number_is bits number None (Some e) ok two exit echo key =
    elim (either ((number == 0x02 || number == 0x4C) && is_expr_of bits 8 e) ((number == 0x09) && is_expr_of bits 16 e) ok) [
      | inl l ↦ neither (number == 0x02) (number == 0x4C) _ two exit (both (number == 0x02 || number == 0x4C) (is_expr_of bits 8 e) l).0
      | inr r ↦ (both (number == 0x09) (is_expr_of bits 16 e) r).0
    ]
  where
    neither : (a b c : Bool) → a ≡ false → b ≡ false → (a || b) ≡ true → c ≡ true
    neither true b c x y e = absurd (true≢false x)
    neither false b c x y e = absurd (true≢false (sym e ∙ y))
number_is bits number None None ok two exit echo key = no_key (number == 0x01) (number == 0x08) _ _ echo key ok
number_is bits number (Some location) None ok two exit echo key = no_key (number == 0x01) (number == 0x08) _ _ echo key ok
number_is bits number (Some location) (Some e) ok two exit echo key = absurd (true≢false (sym ok))

IsNotStuck : State → Type 0
IsNotStuck s = is_stuck s.end ≡ false

unstuck_if : (test : Bool) (t u : State) → IsNotStuck t → (test ≡ false → IsNotStuck u) → IsNotStuck (if test then t else u)
unstuck_if true t u h k = h
unstuck_if false t u h k = k refl

dos-unstuck : (number : ℕ) (place : Option Loc) (argument : Option Expr) (s : State) → is_dos s.running.graph.bits number place argument ≡ true → is_over s.end ≡ false →
    IsNotStuck (dos_step number place (argument_in s argument) s)
unfolding IsNotStuck
dos-unstuck number place argument s ok on =
    let same = goes_on s.end on in
    unstuck_if (number == 0x02) _ _ same (λ two.
    unstuck_if (number == 0x4C) _ _ refl (λ exit.
    unstuck_if (number == 0x01) _ _ (ap is_stuck (keyed_end true place s.input s) ∙ same) (λ echo.
    unstuck_if (number == 0x08) _ _ (ap is_stuck (keyed_end false place s.input s) ∙ same) (λ key.
    unstuck_if (number == 0x09) _ _ same (λ string. absurd (true≢false (sym (number_is s.running.graph.bits number place argument ok two exit echo key) ∙ string)))))))

dividing-unstuck : (location : Loc) (o : Option ℕ) (s : State) → is_over s.end ≡ false → IsNotStuck (dividing location o s)
unfolding IsNotStuck
dividing-unstuck location (Some n) s on = goes_on s.end on
dividing-unstuck location None s on = refl

stmt-unstuck : (stmt : Stmt) (s : State) → is_call stmt ≡ false → is_stmt s.running.graph.bits stmt ≡ true → is_over s.end ≡ false → IsNotStuck (stmt_step stmt s)
unfolding IsNotStuck
stmt-unstuck (Set location e) s none ok on = goes_on s.end on
stmt-unstuck (Fetch location width address) s none ok on = goes_on s.end on
stmt-unstuck (Store width address e) s none ok on = goes_on s.end on
stmt-unstuck (Div location e) s none ok on = dividing-unstuck location (division_of (scene_of s) e) s on
stmt-unstuck (Dos number place argument) s none ok on = dos-unstuck number place argument s ok on
stmt-unstuck (Call results entry arguments depth) s none ok on = absurd (true≢false none)

-- the exit call ends the run
exit_call-over : (stmt : Stmt) (s : State) → is_exit_call stmt ≡ true → is_over (stmt_step stmt s).end ≡ true
exit_call-over (Dos number place argument) s e =
    let is : number ≡ 0x4C = eqb-true number 0x4C e in
    subst (λ n. is_over (dos_step n place (argument_in s argument) s).end ≡ true) (sym is) refl
exit_call-over (Set location e) s x = absurd (true≢false (sym x))
exit_call-over (Fetch location width address) s x = absurd (true≢false (sym x))
exit_call-over (Store width address e) s x = absurd (true≢false (sym x))
exit_call-over (Div location e) s x = absurd (true≢false (sym x))
exit_call-over (Call results entry arguments depth) s x = absurd (true≢false (sym x))

-- where a Stop is to come, a statement that ends the run comes before it
stops_later : (stmt : Stmt) (rest : List Stmt) (exit : Exit) → is_exit_call stmt ≡ false → stops_soundly (stmt ∷ rest) exit ≡ true → stops_soundly rest exit ≡ true
stops_later stmt rest exit none sound = subst (λ b. (not (is_stop exit) || (b || list_any is_exit_call rest)) ≡ true) none sound

module _ (p : Program) (well : IsProgram p) (sound : HasSoundEnds p) where
  entered-unstuck : (place : ℕ) (s : State) → place < length s.running.graph.blocks → is_over s.end ≡ false → IsNotStuck (going_to place s)
  unfolding IsNotStuck
  entered-unstuck place s less on = ap is_stuck (entering_end s.running.graph.blocks place s less) ∙ goes_on s.end on

  returning-unstuck : (values : List ℕ) (waiting : List Waiting) (s : State) → Contains s.running.graph.blocks s.running.block → is_ret s.running.block.exit ≡ true
      → AreCallers p s.running.graph waiting → is_over s.end ≡ false → IsNotStuck (returning values waiting s)
  unfolding IsNotStuck
  returning-unstuck values [] s stands ret callers on =
      let none = All-contains (λ b. is_ret b.exit ≡ false) s.running.graph.blocks s.running.block
      (All-contains (λ g. All (λ b. is_ret b.exit ≡ false) g.blocks) _ s.running.graph sound.returns callers) stands in
      absurd (true≢false (sym ret ∙ none))
  returning-unstuck values (w ∷ waiting) s stands ret callers on =
      ap is_stuck (giving_end w.results values (record s { running = w.caller; waiting = waiting })) ∙ goes_on s.end on

  -- the end of a block, of which `ok` says that it is well formed
  exit-unstuck : (exit : Exit) (s : State) → s.running.block.exit ≡ exit → is_exit s.running.graph.bits (length s.running.graph.blocks) exit ≡ true
      → IsWithinAt p [] s → stops_soundly [] exit ≡ true → HasPlace [] s → is_over s.end ≡ false → IsNotStuck (exit_step exit s)
  exit-unstuck (Goto place) s e ok w stops has on = entered-unstuck place s (ltb-true place (length s.running.graph.blocks) ok) on
  exit-unstuck (If test one other) s e ok w stops has on =
      let count = length s.running.graph.blocks in
      let three = both (is_expr_of s.running.graph.bits 1 test && nat_lt one count) (nat_lt other count) ok in
      let two = both (is_expr_of s.running.graph.bits 1 test) (nat_lt one count) three.0 in
      elim (value_in s test == 1) as (λ b. IsNotStuck (going_to (if b then one else other) s)) [
        | true ↦ entered-unstuck one s (ltb-true one count two.1) on
        | false ↦ entered-unstuck other s (ltb-true other count three.1) on
      ]
  exit-unstuck (Switch x places) s e ok w stops has on =
      let count = length s.running.graph.blocks in
      let less : value_in s x < length places = has x places e refl on in
      let all = (both _ (list_all (λ place. nat_lt place count) places) ok).1 in
      let found : slice_get places (value_in s x) ≡ Some (get_or places (value_in s x) 0) = slice_get-get_or places (value_in s x) 0 less in
      let inside : get_or places (value_in s x) 0 < count = ltb-true _ count (all_at (λ place. nat_lt place count) places _ all (contained places (value_in s x) _ found)) in
      subst (λ o. IsNotStuck (switching o s)) (sym found) (entered-unstuck (get_or places (value_in s x) 0) s inside on)
  exit-unstuck (Ret es) s e ok w stops has on = returning-unstuck (map (value_in s) es) s.waiting s w.stands (ap is_ret e) w.callers on
  exit-unstuck Stop s e ok w stops has on = absurd (true≢false (sym stops))

  calling-unstuck : (fill : ℕ) (results : List Loc) (entry : ℕ) (es : List Expr) (depth : ℕ) (rest : List Stmt) (s t : State) → IsWithinAt p (Call results entry es depth ∷ rest) s
      → is_over t.end ≡ false → IsNotStuck (calling fill results depth (map (value_in s) es) (graph_at p.graphs entry) t)
  unfolding IsNotStuck
  calling-unstuck fill results entry es depth rest s t w on =
      let call : IsCall p s.running.graph results entry es = All-head (IsCalling p s.running.graph) (Call results entry es depth) rest w.calls in
      let named = named_again p.graphs entry call.callee well.entries call.named in
      let known = found_contained (λ g. g.entry == entry) p.graphs call.callee named in
      let begun : State = record t {
        running = activation call.callee (filled call.callee.bits fill) (callee_base t.running.base depth);
        waiting = record { caller = t.running; results = results } ∷ t.waiting;
      }
      in
      let given : State = passing 0 call.callee.params (map (value_in s) es) begun in
      let same = passing-alike 0 call.callee.params (map (value_in s) es) begun in
      let some : 0 < length given.running.graph.blocks = subst (λ g. 0 < length g.blocks) (sym same.graph) (graph_of p well call.callee known).begins in
      let left = passing_end 0 call.callee.params (map (value_in s) es) begun in
      subst (λ o. is_stuck (calling fill results depth (map (value_in s) es) o t).end ≡ false) (sym named)
      (ap is_stuck (entering_end given.running.graph.blocks 0 given some ∙ left) ∙ goes_on t.end on)

  -- the Switch that is to come has its place after a statement too
  place-later : (stmt : Stmt) (rest : List Stmt) (s : State) → is_call stmt ≡ false → is_over s.end ≡ false → HasPlace (stmt ∷ rest) s → HasPlace rest (stmt_step stmt s)
  place-later stmt rest s none on has e places exit no_call over =
      let same = execute_first stmt rest s on in
      let at : s.running.block.exit ≡ Switch e places = sym (ap (λ b. b.exit) (stmt-within stmt s).block) ∙ exit in
      subst (λ t. value_in t e < length places) same (has e places at (ap (λ b. b || list_any is_call rest) none ∙ no_call) (ap (λ t. is_over t.end) same ∙ over))

  stmt-on : (fill : ℕ) (stmt : Stmt) (rest : List Stmt) (s : State) → is_call stmt ≡ false → IsWithinAt p (stmt ∷ rest) s → is_over s.end ≡ false
      → (is_over (stmt_step stmt s).end ≡ false → IsNotStuck (block_step p.graphs fill rest (stmt_step stmt s)))
      → IsNotStuck (if is_over (stmt_step stmt s).end then stmt_step stmt s else block_step p.graphs fill rest (stmt_step stmt s))
  stmt-on fill stmt rest s none w on later =
      let ok = (both (is_stmt s.running.graph.bits stmt) (list_all (is_stmt s.running.graph.bits) rest) w.stmts).0 in
      unstuck_if (is_over (stmt_step stmt s).end) (stmt_step stmt s) (block_step p.graphs fill rest (stmt_step stmt s)) (stmt-unstuck stmt s none ok on) later

  -- a statement that doesn't end the run is no exit call
  no_exit_call : (stmt : Stmt) (s : State) → is_over (stmt_step stmt s).end ≡ false → is_exit_call stmt ≡ false
  no_exit_call stmt s on = go (is_exit_call stmt) refl
    where
      go : (b : Bool) → is_exit_call stmt ≡ b → b ≡ false
      go true e = absurd (true≢false (sym (exit_call-over stmt s e) ∙ on))
      go false e = refl

  block-unstuck : (fill : ℕ) (stmts : List Stmt) (s : State) → IsWithinAt p stmts s → stops_soundly stmts s.running.block.exit ≡ true → HasPlace stmts s → is_over s.end ≡ false
      → IsNotStuck (block_step p.graphs fill stmts s)
  block-unstuck fill [] s w stops has on = exit-unstuck s.running.block.exit s refl (exit_of p well s.running.graph s.running.block w.known w.stands) w stops has on
  block-unstuck fill (Call results entry es depth ∷ rest) s w stops has on = calling-unstuck fill results entry es depth rest s _ w on
  block-unstuck fill (stmt ∷ rest) s w stops has on =
      stmt-on fill stmt rest s refl w on (λ on_still.
      block-unstuck fill rest (stmt_step stmt s) (within-next p well stmt rest s refl w)
      (subst (λ b. stops_soundly rest b.exit ≡ true) (sym (stmt-within stmt s).block) (stops_later stmt rest s.running.block.exit (no_exit_call stmt s on_still) stops))
      (place-later stmt rest s refl on has) on_still)

  -- what is left of a block stops soundly
  left-sound : (s : State) → IsActive p s.running → stops_soundly s.running.rest s.running.block.exit ≡ true
  left-sound s a = elim a.whole [
    | inl e ↦
        subst (λ l. stops_soundly l s.running.block.exit ≡ true) (sym e)
        (All-contains (λ b. stops_soundly b.stmts b.exit ≡ true) s.running.graph.blocks s.running.block
        (All-contains (λ g. All (λ b. stops_soundly b.stmts b.exit ≡ true) g.blocks) p.graphs s.running.graph sound.stops a.known) a.stands)
    | inr j ↦ no_stop s.running.block.exit s.running.rest j
  ]
    where
      no_stop : (exit : Exit) (stmts : List Stmt) → is_jump exit ≡ true → stops_soundly stmts exit ≡ true
      no_stop (Goto place) stmts j = refl
      no_stop (If test one other) stmts j = refl
      no_stop (Switch e places) stmts j = refl
      no_stop (Ret values) stmts j = refl
      no_stop Stop stmts j = absurd (true≢false (sym j))

  step-unstuck : (fill : ℕ) (s : State) → IsGood p s → HasPlace s.running.rest s → IsNotStuck s → IsNotStuck (step p fill s)
  step-unstuck fill s h has before = go (is_over s.end) refl
    where
      go : (b : Bool) → is_over s.end ≡ b → IsNotStuck (if b then s else block_step p.graphs fill s.running.rest s)
      go true over = before
      go false on = block-unstuck fill s.running.rest s (within-of p well s (h.active on) h.safe) (left-sound s (h.active on)) has on

  some_first : (graphs : List Graph) → 0 < length graphs → All IsGraph graphs → 0 < length (get_or graphs 0 no_graph).blocks
  some_first [] some well = absurd (omega (arith, some))
  some_first (g ∷ graphs) some well = (All-head IsGraph g graphs well).begins

  all-unstuck : (fill : ℕ) (input : List ℕ) → fill < 65536 → AreBytes input → (n : ℕ) → IsNotStuck (reached p fill input n)
  unfolding IsNotStuck
  all-unstuck fill input small bytes zero = ap is_stuck (entering_end (get_or p.graphs 0 no_graph).blocks 0 _ (some_first p.graphs well.begins well.graphs))
  all-unstuck fill input small bytes (suc n) =
      let e : suc n ≡ n + 1 = omega arith in
      let last : reached p fill input (suc n) ≡ step p fill (reached p fill input n) = ap (reached p fill input) e ∙ after-add (step p fill) n 1 (first_state p fill input) in
      ap (λ s. is_stuck s.end) last ∙ step-unstuck fill (reached p fill input n) (reached-good p well fill input bytes n) (sound.switches fill input small bytes n)
      (all-unstuck fill input small bytes n)

pub never_stuck : (p : Program) → IsProgram p → HasSoundEnds p → IsNeverStuck p
unfolding IsNotStuck
never_stuck p well sound fill input n entry small bytes stuck = absurd (true≢false (sym (ap is_stuck stuck) ∙ all-unstuck p well sound fill input small bytes n))

-- A state stands in a block of its program; so where no block ends in a Switch, it comes to none.
pub no_switch_places : (p : Program) → IsProgram p → HasNoSwitch p → SwitchesHavePlaces p
no_switch_places p well none fill input small bytes n e places exit no_call on =
    let s = reached p fill input n in
    let running : is_over s.end ≡ false = not_over (is_over s.end) refl in
    let a : IsActive p s.running = (reached-good p well fill input bytes n).active running in
    let no = All-contains (λ b. is_switch b.exit ≡ false) s.running.graph.blocks s.running.block
    (All-contains (λ g. All (λ b. is_switch b.exit ≡ false) g.blocks) p.graphs s.running.graph none a.known) a.stands in
    absurd (true≢false (sym (ap is_switch exit) ∙ no))
  where
    not_over : (b : Bool) → is_over (reached p fill input n).end ≡ b → is_over (reached p fill input n).end ≡ false
    not_over false go = go
    not_over true over = absurd (true≢false (sym over ∙ sym (ap (λ t. is_over t.end) (execute_over (reached p fill input n).running.rest (reached p fill input n) over)) ∙ on))
