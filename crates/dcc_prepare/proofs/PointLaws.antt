-- Points and their actions while code grows.
use Rattle.std.proofs.Common.{◌≡◌, ◌≢◌, ℕ, zero, suc, ◌+◌, Bool, List, [], ◌∷◌, ◌++◌, length, Option, Some, None, inl, inr, refl, sym, ap, ◌∙◌, subst}
use Rattle.std.specs.Prelude.{slice_get}
use Rattle.std.proofs.lemmas.List.{length_push}
use Rattle.std.proofs.lemmas.Bool.{cases_eq}
use Rattle.dcc_c.specs.Tree.{Expr, Function, Tree}
use Rattle.dcc_c.specs.Run.{Continuation, State, step_at}
use Rattle.dcc_prepare.specs.declared.program.Action.{Action}
use Rattle.dcc_prepare.specs.declared.program.Action.TheVariants.{Pass, Assign as Assigns, Call as Calls, Test, Switch, Goto, Return as Returns, Close, Stuck}
use Rattle.dcc_prepare.specs.declared.program.Row.{Row}
use Rattle.dcc_prepare.specs.declared.program.Label.{Label}
use Rattle.dcc_prepare.specs.Lines.{next_line, IsLine}
use Rattle.dcc_prepare.specs.Points.{Goes, MayGo, Acts, IsRow, AreRows, StandAll}
use Rattle.dcc_value.specs.declared.expression.Resolved.{Resolved}
use Rattle.dcc_value.specs.Resolved.{Names, Stands}
use Rattle.dcc_prepare.specs.Emission.{Stay, KeepNumbers}

-- Elements of lists.

pub get-left : {X : Type 0} (xs ys : List X) (i : ℕ) (x : X) → slice_get xs i ≡ Some x → slice_get (xs ++ ys) i ≡ Some x
get-left [] ys i x is = cc
get-left (y ∷ xs) ys zero x is = is
get-left (y ∷ xs) ys (suc i) x is = get-left xs ys i x is

pub get-last : {X : Type 0} (xs : List X) (x : X) → slice_get (xs ++ x ∷ []) (length xs) ≡ Some x
get-last [] x = refl
get-last (y ∷ xs) x = get-last xs x

-- an element of a list with one more is in the list, or is the last one
pub get-push : {X : Type 0} (xs : List X) (y : X) (i : ℕ) (x : X) → slice_get (xs ++ y ∷ []) i ≡ Some x →
    i ≢ length xs → slice_get xs i ≡ Some x
get-push [] y zero x is other = absurd (other refl)
get-push [] y (suc i) x is other = cc
get-push (z ∷ xs) y zero x is other = is
get-push (z ∷ xs) y (suc i) x is other = get-push xs y i x is (λ same. other (ap suc same))

pub some_same : {X : Type 0} (x y : X) → Some x ≡ Some y → x ≡ y
some_same x y same = cc

-- Points that stay.

pub stay_all : (points : List Continuation) → Stay points points
stay_all points at rest is = is

pub stay_push : (points : List Continuation) (k : Continuation) → Stay points (points ++ k ∷ [])
stay_push points k at rest is = get-left points (k ∷ []) at rest is

pub goes_stay : (tree : Tree) (before now : List Continuation) (at : ℕ) (rest : Continuation) → Stay before now →
    Goes tree before at rest → Goes tree now at rest
goes_stay tree before now at rest stay goes =
    record { own = goes.own; here = stay at goes.own goes.here; alike = goes.alike; in_line = goes.in_line }

pub may_stay : (tree : Tree) (before now : List Continuation) (at : Option ℕ) (rest : Option Continuation) →
    Stay before now → MayGo tree before at rest → MayGo tree now at rest
may_stay tree before now None None stay goes = goes
may_stay tree before now (Some at) (Some rest) stay goes = goes_stay tree before now at rest stay goes
may_stay tree before now (Some at) None stay goes = absurd goes
may_stay tree before now None (Some rest) stay goes = absurd goes

-- a point goes on as another continuation that takes the same steps
pub goes_alike : (tree : Tree) (points : List Continuation) (at : ℕ) (rest other : Continuation) →
    ((s : State) → step_at tree rest s ≡ step_at tree other s) →
    ((number : ℕ) → IsLine (next_line rest) number → IsLine (next_line other) number) → Goes tree points at rest →
    Goes tree points at other
goes_alike tree points at rest other same in_line goes = record {
  own = goes.own;
  here = goes.here;
  alike = λ s. goes.alike s ∙ same s;
  in_line = λ number is. in_line number (goes.in_line number is);
}

-- a new point
pub goes_new : (tree : Tree) (points : List Continuation) (k : Continuation) → Goes tree (points ++ k ∷ []) (length points) k
goes_new tree points k = record { own = k; here = get-last points k; alike = λ s. refl; in_line = λ number is. is }

-- Actions that stay.

pub acts_stay : (tree : Tree) (f : Function) (before now : List Continuation) (labels more : List Label)
    (rest : Continuation) (line : ℕ) (action : Action) → Stay before now → KeepNumbers labels more →
    Acts tree f before labels rest line action → Acts tree f now more rest line action
acts_stay tree f before now labels more rest line (Pass next) stay keep acts =
    record { to = acts.to; goes = goes_stay tree before now next acts.to stay acts.goes; does = acts.does }
acts_stay tree f before now labels more rest line (Assigns place e next) stay keep acts = record {
  to = acts.to;
  place_expr = acts.place_expr;
  expr = acts.expr;
  place_stands = acts.place_stands;
  stands = acts.stands;
  goes = goes_stay tree before now next acts.to stay acts.goes;
  does = acts.does;
}
acts_stay tree f before now labels more rest line (Calls row) stay keep acts = record {
  to = acts.to;
  place = acts.place;
  word = acts.word;
  arguments = acts.arguments;
  place_stands = acts.place_stands;
  callee = acts.callee;
  stand = acts.stand;
  goes = goes_stay tree before now row.next acts.to stay acts.goes;
  does = acts.does;
}
acts_stay tree f before now labels more rest line (Test e first second) stay keep acts = record {
  expr = acts.expr;
  if_yes = acts.if_yes;
  if_no = acts.if_no;
  following = acts.following;
  stands = acts.stands;
  goes_yes = goes_stay tree before now first acts.if_yes stay acts.goes_yes;
  goes_no = goes_stay tree before now second acts.if_no stay acts.goes_no;
  does = acts.does;
}
acts_stay tree f before now labels more rest line (Switch e cases otherwise) stay keep acts = record {
  expr = acts.expr;
  to = acts.to;
  following = acts.following;
  stands = acts.stands;
  goes = λ n. goes_stay tree before now _ (acts.to n) stay (acts.goes n);
  does = acts.does;
}
acts_stay tree f before now labels more rest line (Goto number) stay keep acts = record {
  word = acts.word;
  following = acts.following;
  label = keep acts.word number acts.label;
  does = acts.does;
}
acts_stay tree f before now labels more rest line (Returns e) stay keep acts = acts
acts_stay tree f before now labels more rest line Close stay keep acts = acts
acts_stay tree f before now labels more rest line Stuck stay keep acts = acts

pub row_stays : (tree : Tree) (f : Function) (before now : List Continuation) (labels more : List Label)
    (rest : Continuation) (line : ℕ) (action : Action) → Stay before now → KeepNumbers labels more →
    IsRow tree f before labels rest line action → IsRow tree f now more rest line action
row_stays tree f before now labels more rest line action stay keep row = record {
  in_line = row.in_line;
  acts = acts_stay tree f before now labels more rest line action stay keep row.acts;
}

-- Rows that grow.

pub rows_push : (tree : Tree) (f : Function) (is_open : ℕ → Bool) (points : List Continuation) (rows : List Row)
    (labels : List Label) (k : Continuation) (line : ℕ) (action : Action) →
    AreRows tree f is_open points rows labels → IsRow tree f (points ++ k ∷ []) labels k line action →
    AreRows tree f is_open (points ++ k ∷ []) (rows ++ record { action = action; line = line } ∷ []) labels
rows_push tree f is_open points rows labels k line action are acts = record {
  same = length_push points k ∙ ap (λ n. n + 1) are.same ∙ sym (length_push rows (record { action = action; line = line }));
  acts = λ at rest row here has closed.
      elim (cases_eq at (length points)) [
        | inl is ↦
            let own : k ≡ rest = some_same _ _ (sym (get-last points k) ∙ ap (slice_get (points ++ k ∷ [])) (sym is) ∙ here) in
            let new : record { action = action; line = line } ≡ row =
            some_same _ _ (sym (get-last rows (record { action = action; line = line })) ∙ ap (slice_get (rows ++ record { action = action; line = line } ∷ [])) (sym are.same ∙ sym is) ∙ has) in
            subst (λ (r : Row). IsRow tree f (points ++ k ∷ []) labels rest r.line r.action) new
            (subst (λ (c : Continuation). IsRow tree f (points ++ k ∷ []) labels c line action) own acts)
        | inr other ↦
            row_stays tree f points (points ++ k ∷ []) labels labels rest row.line row.action (stay_push points k) (λ word number named. named)
            (are.acts at rest row (get-push points k at rest here other)
            (get-push rows (record { action = action; line = line }) at row has (λ same. other (same ∙ sym are.same))) closed)
      ];
}

-- Expressions.

pub stand_push : (names : Names) (es : List Expr) (rs : List Resolved) (e : Expr) (r : Resolved) → StandAll names es rs →
    Stands names e r → StandAll names (es ++ e ∷ []) (rs ++ r ∷ [])
stand_push names [] [] e r stand one = (one, tt)
stand_push names (x ∷ es) (y ∷ rs) e r stand one = (stand.0, stand_push names es rs e r stand.1 one)
stand_push names (x ∷ es) [] e r stand one = absurd stand
stand_push names [] (y ∷ rs) e r stand one = absurd stand
