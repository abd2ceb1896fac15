-- The points of statements, by those of their parts.
use Rattle.std.proofs.Common.{◌≡◌, ℕ, ◌+◌, ◌<◌, Bool, true, false, List, [], ◌∷◌, ◌++◌, length, get_or, drop, Option, Some, None, refl, sym, ap, ◌∙◌, subst}
use Rattle.std.specs.Prelude.{if◌then◌else◌, slice_get, slice_set, Result, IfOk, OnOk, ◌==◌}
use Rattle.std.specs.List.{list_any}
use Rattle.std.specs.declared.alloc.AllocError.{AllocError}
use Rattle.std.proofs.lemmas.List.{at_drop_more}
use Rattle.dcc_c.specs.declared.syntax.Line.{Line}
use Rattle.dcc_c.specs.declared.syntax.Arm.{Arm, out-Arm}
use Rattle.dcc_c.specs.Tree.{Word, Expr, Stmt, If, While, Switch, Lines, line, Arms, arm, Function, Tree}
use Rattle.dcc_c.specs.Value.{Outcome, Gives, Divides, Undefined, is_zero, value_of}
use Rattle.dcc_c.specs.Run.{Continuation, runs, tests, ends_switch, State, goes_on, on, scope_of, default_body, from_label, from_label_inside, from_label_in_arms, arm_for, after_break, after_continue}
use Rattle.dcc_c.specs.Views.{stmt_of, lines_of, arms_of, arm_before}
use Rattle.dcc_value.specs.declared.expression.Resolved.{Resolved}
use Rattle.dcc_prepare.specs.declared.program.Action.{Action}
use Rattle.dcc_prepare.specs.declared.program.Row.{Row}
use Rattle.dcc_prepare.specs.declared.program.Label.{Label}
use Rattle.dcc_prepare.specs.declared.program.Case.{Case}
use Rattle.dcc_prepare.specs.declared.code.Code.{Code}
use Rattle.dcc_prepare.specs.declared.emit.Following.{Following}
use Rattle.dcc_value.specs.Resolved.{Names, Stands}
use Rattle.dcc_prepare.specs.Points.{names_in, Goes, MayGo, label_named, point_named, case_point, IsTest, IsSwitch, IsRow, AreRows}
use Rattle.dcc_prepare.specs.Emission.{Stay, Grows, Emits, EmitsArms, Leads}
use Rattle.dcc_prepare.proofs.PointLaws.{get-last, stay_push, goes_new, goes_stay, may_stay}
use Rattle.dcc_prepare.proofs.EmissionLaws.{stay_after, with_open, reserved, closed, relabels_moved, pushed_ok, grows_after, emits_after, emits_after_ok}
use Rattle.dcc_c.proofs.RowLaws.{arm-parts}

-- the first of the lines that are left
pub first_line : (lines : List Line) (i n : ℕ) (l : Line) → i + 1 ≡ n → i < length lines → l ≡ get_or lines i l →
    lines_of (drop i lines) ≡ line (stmt_of l.stmt) l.line (lines_of (drop n lines))
first_line lines i n l more within is =
    ap lines_of (at_drop_more (λ xs. xs) lines i l within)
    ∙ ap (λ x. line (stmt_of x.stmt) x.line (lines_of (drop (i + 1) lines))) (sym is)
    ∙ ap (λ k. line (stmt_of l.stmt) l.line (lines_of (drop k lines))) more

-- a statement by another name
pub stmt_at : (tree : Tree) (f : Function) (is_open : ℕ → Bool) (points : List Continuation) (before now : Code)
    (at : ℕ) (lines : Lines) (rest : Continuation) (r : Result ℕ AllocError) (stmt other : Stmt) → stmt ≡ other →
    IfOk r (λ p. Emits tree f is_open points before now (λ word. from_label_inside word stmt at lines rest) p (runs (line stmt at lines) rest)) →
    IfOk r (λ p. Emits tree f is_open points before now (λ word. from_label_inside word other at lines rest) p (runs (line other at lines) rest))
stmt_at tree f is_open points before now at lines rest r stmt other same emits =
    subst (λ (st : Stmt). IfOk r (λ p. Emits tree f is_open points before now (λ word. from_label_inside word st at lines rest) p (runs (line st at lines) rest))) same emits

-- one statement more
pub lines_step : (tree : Tree) (f : Function) (is_open : ℕ → Bool) (points : List Continuation) (start mid now : Code)
    (lines : List Line) (i n : ℕ) (l : Line) (at next : ℕ) (rest : Continuation) → i + 1 ≡ n → i < length lines →
    l ≡ get_or lines i l →
    (had : Emits tree f is_open points start mid (λ word. from_label word (lines_of (drop n lines)) rest) next (runs (lines_of (drop n lines)) rest)) →
    Emits tree f is_open had.grows.grown mid now
    (λ word. from_label_inside word (stmt_of l.stmt) l.line (lines_of (drop n lines)) rest) at
    (runs (line (stmt_of l.stmt) l.line (lines_of (drop n lines))) rest) →
    Emits tree f is_open points start now (λ word. from_label word (lines_of (drop i lines)) rest) at (runs (lines_of (drop i lines)) rest)
lines_step tree f is_open points start mid now lines i n l at next rest more within is had one =
    subst (λ (left : Lines). Emits tree f is_open points start now (λ word. from_label word left rest) at (runs left rest))
    (sym (first_line lines i n l more within is))
    (emits_after tree f is_open points start mid now (λ word. from_label word (lines_of (drop n lines)) rest) _ at
    (runs (line (stmt_of l.stmt) l.line (lines_of (drop n lines))) rest) had.grows one)

-- The points after a statement.

pub leads_stay : (tree : Tree) (before now : List Continuation) (following : Following) (rest : Continuation) →
    Stay before now → Leads tree before following rest → Leads tree now following rest
leads_stay tree before now following rest stay leads = record {
  next = goes_stay tree before now following.next rest stay leads.next;
  on_break = may_stay tree before now following.on_break (after_break rest) stay leads.on_break;
  on_continue = may_stay tree before now following.on_continue (after_continue rest) stay leads.on_continue;
}

-- after another point, where the jumps lead to the same points
pub leads_after : (tree : Tree) (points : List Continuation) (following now : Following) (lines : Lines) (rest : Continuation) →
    now.on_break ≡ following.on_break → now.on_continue ≡ following.on_continue → Leads tree points following rest →
    Goes tree points now.next (runs lines rest) → Leads tree points now (runs lines rest)
leads_after tree points following now lines rest same_break same_continue leads goes = record {
  next = goes;
  on_break = subst (λ to. MayGo tree points to (after_break rest)) (sym same_break) leads.on_break;
  on_continue = subst (λ to. MayGo tree points to (after_continue rest)) (sym same_continue) leads.on_continue;
}

-- in the body of a loop: the turn is the next, and goes on where it is left
pub in_loop_leads : (tree : Tree) (points : List Continuation) (turn rest : Continuation) (at left : ℕ) (following : Following) →
    following ≡ record { next = at; on_break = Some left; on_continue = Some at } → after_break turn ≡ Some rest → after_continue turn ≡ Some turn →
    Goes tree points at turn → Goes tree points left rest → Leads tree points following turn
in_loop_leads tree points turn rest at left following is breaks continues goes leaves =
    subst (λ (b : Following). Leads tree points b turn) (sym is) (record {
      next = goes;
      on_break = subst (MayGo tree points (Some left)) (sym breaks) leaves;
      on_continue = subst (MayGo tree points (Some at)) (sym continues) goes;
    })

-- Tests.

-- the test of a loop
pub loop_test : (tree : Tree) (f : Function) (points : List Continuation) (e : Expr) (body : Lines) (at : ℕ)
    (rest : Continuation) (value : Resolved) (first second : ℕ) → Stands (names_in tree f) e value →
    Goes tree points first (runs body (tests e body at rest)) → Goes tree points second rest →
    IsTest tree f points (tests e body at rest) at value first second
loop_test tree f points e body at rest value first second stands goes other = record {
  expr = e;
  if_yes = runs body (tests e body at rest);
  if_no = rest;
  following = λ s. s.rest;
  stands = stands;
  goes_yes = goes;
  goes_no = other;
  does = λ s. refl;
}

-- Statements.

-- what stands under the names of the text stands under those that are given
pub stands_here : (names there : Names) (e : Expr) (r : Resolved) → names ≡ there → Stands names e r → Stands there e r
stands_here names there e r same stands = subst (λ (n : Names). Stands n e r) same stands

pub emits_push : (tree : Tree) (f : Function) (is_open : ℕ → Bool) (points : List Continuation) (before mid now : Code)
    (found : Word → Option Continuation) (own : Continuation) (at : ℕ) (action : Action) (r : Result ℕ AllocError)
    (g : Grows tree f is_open points before mid found) →
    IsRow tree f (g.grown ++ own ∷ []) mid.labels.items own at action →
    IfOk r (λ p. p ≡ length mid.rows.items) →
    OnOk r (now.rows.items ≡ mid.rows.items ++ record { action = action; line = at } ∷ []) → now.labels ≡ mid.labels →
    IfOk r (λ p. Emits tree f is_open points before now (λ word. found word) p own)
emits_push tree f is_open points before mid now found own at action r g acts place rows labels =
    emits_after_ok tree f is_open points before mid now found (λ word. None) r own g
    (pushed_ok tree f is_open g.grown mid now own at action r g.rows acts place rows labels)

pub emits_ok : (tree : Tree) (f : Function) (is_open : ℕ → Bool) (points : List Continuation) (before mid now : Code)
    (found : Word → Option Continuation) (own : Continuation) (r : Result ℕ AllocError)
    (g : Grows tree f is_open points before mid found) →
    IfOk r (λ p. Emits tree f is_open g.grown mid now (λ word. None) p own) →
    IfOk r (λ p. Emits tree f is_open points before now (λ word. found word) p own)
emits_ok tree f is_open points before mid now found own r g emits =
    emits_after_ok tree f is_open points before mid now found (λ word. None) r own g emits

-- the next point of a growing piece
pub goes_push : (tree : Tree) (before points : List Continuation) (own : Continuation) (at : ℕ) (rest : Continuation) →
    Stay before points → Goes tree before at rest → Goes tree (points ++ own ∷ []) at rest
goes_push tree before points own at rest stay goes =
    goes_stay tree points (points ++ own ∷ []) at rest (stay_push points own) (goes_stay tree before points at rest stay goes)

pub if_choice : (b : Bool) (first second : Lines) (rest : Continuation) →
    runs (if b then second else first) rest ≡ (if b then runs second rest else runs first rest)
if_choice true first second rest = refl
if_choice false first second rest = refl

on-same : {A : Type 0} (o : Outcome A) (at : ℕ) (s : State) (f g : A → State) → ((a : A) → f a ≡ g a) → on o at s f ≡ on o at s g
on-same (Gives a) at s f g same = same a
on-same Divides at s f g same = refl
on-same Undefined at s f g same = refl

-- the point of an `if`
pub if_test : (tree : Tree) (f : Function) (points : List Continuation) (e : Expr) (body otherwise lines : Lines) (at : ℕ)
    (rest : Continuation) (value : Resolved) (first second : ℕ) → Stands (names_in tree f) e value →
    Goes tree points first (runs body (runs lines rest)) → Goes tree points second (runs otherwise (runs lines rest)) →
    IsTest tree f points (runs (line (If e body otherwise) at lines) rest) at value first second
if_test tree f points e body otherwise lines at rest value first second stands goes other = record {
  expr = e;
  if_yes = runs body (runs lines rest);
  if_no = runs otherwise (runs lines rest);
  following = λ s. runs lines rest;
  stands = stands;
  goes_yes = goes;
  goes_no = other;
  does = λ s. on-same (value_of (scope_of tree s) e) at (goes_on (runs lines rest) s) _ _
      (λ v. ap (λ k. goes_on k s) (if_choice (is_zero v) body otherwise (runs lines rest)));
}

-- the point of a `while`
pub while_test : (tree : Tree) (f : Function) (points : List Continuation) (e : Expr) (body lines : Lines) (at : ℕ)
    (rest : Continuation) (value : Resolved) (first second : ℕ) → Stands (names_in tree f) e value →
    Goes tree points first (runs body (tests e body at (runs lines rest))) → Goes tree points second (runs lines rest) →
    IsTest tree f points (runs (line (While e body) at lines) rest) at value first second
while_test tree f points e body lines at rest value first second stands goes other = record {
  expr = e;
  if_yes = runs body (tests e body at (runs lines rest));
  if_no = runs lines rest;
  following = λ s. runs lines rest;
  stands = stands;
  goes_yes = goes;
  goes_no = other;
  does = λ s. refl;
}

-- the point of a `switch`
pub switch_test : (tree : Tree) (f : Function) (points : List Continuation) (e : Expr) (arms last : Arms) (lines : Lines)
    (at : ℕ) (rest : Continuation) (value : Resolved) (cases : List Case) (otherwise : ℕ) → Stands (names_in tree f) e value →
    ((n : ℕ) → Goes tree points (case_point cases n otherwise) (runs (arm_for n arms (default_body last)) (ends_switch (runs lines rest)))) →
    IsSwitch tree f points (runs (line (Switch e arms last) at lines) rest) at value cases otherwise
switch_test tree f points e arms last lines at rest value cases otherwise stands goes = record {
  expr = e;
  to = λ n. runs (arm_for n arms (default_body last)) (ends_switch (runs lines rest));
  following = runs lines rest;
  stands = stands;
  goes = goes;
  does = λ s. refl;
}

-- Loops.

-- the points of a body whose turn comes at a point before it
pub loop_made : (tree : Tree) (f : Function) (is_open : ℕ → Bool) (points : List Continuation) (before opened mid now : Code)
    (found : Word → Option Continuation) (turn : Continuation) (slot at : ℕ) (first : Continuation) (row : Row) (action : Action) →
    slot ≡ length before.rows.items → AreRows tree f is_open points before.rows.items before.labels.items →
    opened.rows.items ≡ before.rows.items ++ row ∷ [] → opened.labels ≡ before.labels →
    ((are : AreRows tree f (with_open is_open slot) (points ++ turn ∷ []) opened.rows.items opened.labels.items) →
    Goes tree (points ++ turn ∷ []) slot turn →
    (e : Emits tree f (with_open is_open slot) (points ++ turn ∷ []) opened mid found at first) ×
    IsRow tree f e.grows.grown mid.labels.items turn row.line action) →
    now.rows.items ≡ slice_set mid.rows.items slot (record { action = action; line = row.line }) → now.labels ≡ mid.labels →
    (e : Emits tree f is_open points before now found at first) × Goes tree e.grows.grown slot turn
loop_made tree f is_open points before opened mid now found turn slot at first row action place are rows_opened same made set labels =
    let open_rows : AreRows tree f (with_open is_open slot) (points ++ turn ∷ []) opened.rows.items opened.labels.items =
    subst (λ n. AreRows tree f (with_open is_open n) (points ++ turn ∷ []) opened.rows.items opened.labels.items) (sym place)
    (subst (λ (rs : List Row). AreRows tree f (with_open is_open (length before.rows.items)) (points ++ turn ∷ []) rs opened.labels.items) (sym rows_opened)
    (subst (λ (ls : List Label). AreRows tree f (with_open is_open (length before.rows.items)) (points ++ turn ∷ []) (before.rows.items ++ row ∷ []) ls) (sym (ap (λ v. v.items) same))
    (reserved tree f is_open points before.rows.items before.labels.items turn row are))) in
    let own : Goes tree (points ++ turn ∷ []) slot turn =
    subst (λ n. Goes tree (points ++ turn ∷ []) n turn) (are.same ∙ sym place) (goes_new tree points turn) in
    let one = made open_rows own in
    let grown = one.0.grows.grown in
    let here : slice_get (points ++ turn ∷ []) slot ≡ Some turn =
    ap (slice_get (points ++ turn ∷ [])) (place ∙ sym are.same) ∙ get-last points turn in
    let there = one.0.grows.stay slot turn here in (
      record {
        grows = record {
          grown = grown;
          stay = λ p rest is. one.0.grows.stay p rest (stay_push points turn p rest is);
          rows =
              subst (λ (rs : List Row). AreRows tree f is_open grown rs now.labels.items) (sym set)
              (subst (λ (ls : List Label). AreRows tree f is_open grown (slice_set mid.rows.items slot (record { action = action; line = row.line })) ls) (sym (ap (λ v. v.items) labels))
              (closed tree f is_open grown mid.rows.items mid.labels.items slot turn row.line action one.0.grows.rows there one.1));
          numbers = λ word number is. ap (λ v. label_named v.items word) labels ∙ one.0.grows.numbers word number (ap (λ v. label_named v.items word) same ∙ is);
          labels = λ word. relabels_moved tree grown before.labels.items opened.labels.items mid.labels.items now.labels.items word (found word)
              (ap (λ v. point_named v.items word) same) (ap (λ v. point_named v.items word) labels) (one.0.grows.labels word);
        };
        goes = one.0.goes;
      },
      record { own = turn; here = there; alike = λ s. refl; in_line = λ number is. is },
    )

-- Arms.

-- the first of the arms that are left
pub first_arm : (arms : List Arm) (i n : ℕ) (a : Arm) → i + 1 ≡ n → i < length arms → a ≡ get_or arms i a →
    arms_of (drop i arms) ≡ arm (out-Arm a).cases.items (lines_of (out-Arm a).body.items) (arms_of (drop n arms))
first_arm arms i n a more within is =
    ap arms_of (at_drop_more (λ xs. xs) arms i a within)
    ∙ ap (λ x. arm_before x (arms_of (drop (i + 1) arms))) (sym is)
    ∙ arm-parts a (arms_of (drop (i + 1) arms))
    ∙ ap (λ k. arm (out-Arm a).cases.items (lines_of (out-Arm a).body.items) (arms_of (drop k arms))) more

pub case_point-push : (cases : List Case) (c : Case) (n otherwise : ℕ) →
    case_point (cases ++ c ∷ []) n otherwise ≡ (if list_any (λ v. v == n) c.values.items then c.point else case_point cases n otherwise)
case_point-push [] c n otherwise = refl
case_point-push (d ∷ cases) c n otherwise = case_point-push cases c n (if list_any (λ v. v == n) d.values.items then d.point else otherwise)

goes_choice : (tree : Tree) (points : List Continuation) (b : Bool) (at other : ℕ) (body others : Lines) (rest : Continuation) →
    Goes tree points at (runs body rest) → Goes tree points other (runs others rest) →
    Goes tree points (if b then at else other) (runs (if b then body else others) rest)
goes_choice tree points true at other body others rest goes away = goes
goes_choice tree points false at other body others rest goes away = away

-- one arm more
pub arms_step : (tree : Tree) (f : Function) (is_open : ℕ → Bool) (points : List Continuation) (start mid now : Code)
    (left : Arms) (values : List ℕ) (body : Lines) (arms : Arms) (had_cases now_cases : List Case) (c : Case) (at : ℕ) (rest : Continuation) →
    left ≡ arm values body arms → c.values.items ≡ values → c.point ≡ at → now_cases ≡ had_cases ++ c ∷ [] →
    (had : EmitsArms tree f is_open points start mid (λ word. from_label_in_arms word arms rest) had_cases arms rest) →
    Emits tree f is_open had.grows.grown mid now (λ word. from_label word body rest) at (runs body rest) →
    EmitsArms tree f is_open points start now (λ word. from_label_in_arms word left rest) now_cases left rest
unfolding grows_after
arms_step tree f is_open points start mid now left values body arms had_cases now_cases c at rest is values_is point_is cases_is had one =
    subst (λ (a : Arms). EmitsArms tree f is_open points start now (λ word. from_label_in_arms word a rest) now_cases a rest) (sym is)
    (subst (λ (cs : List Case). EmitsArms tree f is_open points start now (λ word. from_label_in_arms word (arm values body arms) rest) cs (arm values body arms) rest) (sym cases_is)
    (record {
      grows = grows_after tree f is_open points start mid now (λ word. from_label_in_arms word arms rest) (λ word. from_label word body rest) had.grows one.grows;
      goes = λ later n p otherwise stay goes.
          subst (λ q. Goes tree later q (runs (if list_any (λ v. v == n) values then body else arm_for n arms otherwise) rest))
          (ap (λ q. if list_any (λ v. v == n) values then q else case_point had_cases n p) (sym point_is)
          ∙ ap (λ vs. if list_any (λ v. v == n) vs then c.point else case_point had_cases n p) (sym values_is)
          ∙ sym (case_point-push had_cases c n p))
          (goes_choice tree later (list_any (λ v. v == n) values) at (case_point had_cases n p) body (arm_for n arms otherwise) rest
          (goes_stay tree one.grows.grown later at (runs body rest) stay one.goes)
          (had.goes later n p otherwise (stay_after had.grows.grown one.grows.grown later one.grows.stay stay) goes));
    }))
