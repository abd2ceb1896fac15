-- What is read of functions is what the grammar says.
use Rattle.std.proofs.Common.{◌≡◌, ℕ, zero, suc, ◌≤◌, ◌<◌, length, List, [], ◌∷◌, map, Bool, true, false, Option, Some, None, refl, sym, ap, ◌∙◌, subst, arith, inl, inr}
use Rattle.std.specs.Prelude.{codes, ◌||◌, ◌==◌, is_some}
use Rattle.std.specs.List.{list_all}
use Rattle.std.proofs.lemmas.Bool.{and_from, or_cases, eqb-true}
use Rattle.dcc_c.specs.declared.syntax.CType.{CType}
use Rattle.dcc_c.specs.Lexing.{Placed}
use Rattle.dcc_c.specs.Tree.{Function}
use Rattle.dcc_c.specs.Pieces.{Piece}
use Rattle.dcc_c.specs.Grammar.{mark, word, is_name, type_tokens, Begins, HasResult, no_result, result, AreParams, IsFunction, AreFunctions, last_function, more_functions, outermost, AreLines}
use Rattle.dcc_c.specs.Rules.{most_open}
use Rattle.dcc_c.specs.Token.{Mark}
use Rattle.dcc_c.specs.Partial.{PartialVariable, PartialFunction}
use Rattle.dcc_c.specs.Reading.{Reader, Got, got, is_stopped, next_token, skip, sees_word, take_mark, take_name, take_type, begins_type}
use Rattle.dcc_c.specs.ReadingStatements.{Block, read_lines, read_locals, read_params}
use Rattle.dcc_c.specs.ReadingText.{Begun, begun_by, read_begun, with_first_depth, read_function, read_functions}
use Rattle.dcc_c.specs.Stripped.{plain_name, plain_type, plain_function}
use Rattle.dcc_c.proofs.reading.Passing.{tokens_of, are_tokens, Took, if-cases, sees_word-took, take_mark-took}
use Rattle.dcc_c.proofs.reading.Words.{type-sound}
use Rattle.dcc_c.proofs.reading.Statements.{IsEnough, is_shallow}
use Rattle.dcc_c.proofs.reading.Stopping.{GoesOn}
use Rattle.dcc_c.proofs.reading.StmtStopping.{keeps_stmts}
use Rattle.dcc_c.proofs.reading.Steps.{Steps, then_steps, token_steps, opening_steps, closing_steps, with_depth, TookName, name-sound}
use Rattle.dcc_c.proofs.reading.LineSound.{begins_here}
use Rattle.dcc_c.proofs.reading.StmtRules.{sound_stmts}
use Rattle.dcc_c.proofs.reading.DeclSound.{ReadsLocals, ReadsParams, type_steps, locals-sound, params-sound}

-- Beginnings.

-- The reader passed a result and a name.
pub record ReadsBegun (r : Reader) (g : Got Begun) : Type 0 where
  pub steps : Steps 0 0 r g.following
  pub steady : g.following.depth ≡ r.depth
  pub shorter : length g.following.left < length r.left
  pub name_at : ℕ
  pub good : is_name (plain_name g.value.name) ≡ true
  pub result_is : HasResult (tokens_of r.left) g.value.result (word name_at (plain_name g.value.name) ∷ tokens_of g.following.left)
  pub typed : g.value.has_result ≡ true → Begins (tokens_of r.left) (type_tokens (plain_type g.value.result)) (word name_at (plain_name g.value.name) ∷ tokens_of g.following.left)
      × (g.value.result ≡ Some (plain_type g.value.result))

-- a name after a result
named : (r between : Reader) (at : ℕ) (has_result : Bool) (found : Option CType) → Steps 0 0 r between → between.depth ≡ r.depth → length between.left < length r.left →
    TookName between (take_name between) → HasResult (tokens_of r.left) found (tokens_of between.left) →
    (has_result ≡ true → Begins (tokens_of r.left) (type_tokens (plain_type found)) (tokens_of between.left) × (found ≡ Some (plain_type found))) →
    ReadsBegun r (begun_by at has_result found (take_name between))
named r between at has_result found steps steady shorter read result_is typed =
    let name = take_name between in
    let same : plain_name name.value ≡ read.name.word = ap plain_name read.is in
    let tokens : tokens_of between.left ≡ word read.took.line (plain_name name.value) ∷ tokens_of name.following.left = read.took.begins ∙ ap (λ w. word read.took.line w ∷ tokens_of name.following.left) (sym same) in
    record {
      steps = then_steps steps (token_steps 0 refl read.took);
      steady = read.took.steady ∙ steady;
      shorter = omega (arith, read.took.one_less);
      name_at = read.took.line;
      good = subst (λ w. is_name w ≡ true) (sym same) read.good;
      result_is = subst (λ ts. HasResult (tokens_of r.left) found ts) tokens result_is;
      typed = λ has. let both = typed has in (subst (λ ts. Begins (tokens_of r.left) (type_tokens (plain_type found)) ts) tokens both.0, both.1);
    }

pub begun-sound : (r : Reader) → (read_begun r).following.stop ≡ None → ReadsBegun r (read_begun r)
begun-sound r =
    if-cases (λ g. g.following.stop ≡ None → ReadsBegun r g) (sees_word (codes "void") r)
    (λ sees going.
    let took = sees_word-took (codes "void") r sees in
    named r (skip r) r.at false None (token_steps 0 refl took) took.steady (omega (arith, took.one_less)) (name-sound (skip r) going) (rw took.begins no_result) (λ has. absurd cc))
    (λ _ going.
    let type = take_type r in
    let read = name-sound type.following going in
    let typed = type-sound r read.took.passed.going in
    let same : plain_type type.value ≡ typed.type = ap plain_type typed.is in
    named r type.following r.at (begins_type (next_token r)) type.value (type_steps 0 typed) typed.steady typed.shorter read
    (subst (λ t. HasResult (tokens_of r.left) t (tokens_of type.following.left)) (sym typed.is) (result typed.type typed.derived))
    (λ _. (subst (λ t. Begins (tokens_of r.left) (type_tokens t) (tokens_of type.following.left)) (sym same) typed.derived, typed.is ∙ ap (λ t. Some t) (sym same))))

-- Functions.

-- The parts of a function, as they are read after its name.
module _ (calls : ℕ) (begun : Got Begun) where
  abbrev pub params_from : Reader
  params_from = take_mark (codes "(") begun.following

  abbrev pub params_read : Got (List PartialVariable)
  params_read = read_params calls params_from

  abbrev pub head_end : Reader
  head_end = with_first_depth (take_mark (codes ")") params_read.following)

  abbrev pub locals_from : Reader
  locals_from = take_mark (codes "{") head_end

  abbrev pub locals_read : Got (List PartialVariable)
  locals_read = read_locals calls locals_from

  abbrev pub body_read : Got Block
  body_read = read_lines calls outermost false false locals_read.following

  abbrev pub function_end : Reader
  function_end = take_mark (codes "}") body_read.following

  -- where its end is passed, so are its marks and its parts
  pub record PassesFunction : Type 0 where
    pub last : Took (Mark (codes "}")) body_read.following function_end
    pub locals : ReadsLocals locals_from locals_read
    pub opened : Took (Mark (codes "{")) head_end locals_from
    pub closed : Took (Mark (codes ")")) params_read.following (take_mark (codes ")") params_read.following)
    pub params : ReadsParams params_from params_read
    pub open_mark : Took (Mark (codes "(")) begun.following params_from

  pub passes-function : function_end.stop ≡ None → PassesFunction
  passes-function going =
      let last = take_mark-took (codes "}") body_read.following going in
      let locals = locals-sound calls locals_from ((keeps_stmts calls).lines outermost false false locals_read.following last.passed.going) in
      let opened = take_mark-took (codes "{") head_end locals.steps.passed.going in
      let closed = take_mark-took (codes ")") params_read.following opened.passed.going in
      let params = params-sound calls params_from closed.passed.going in
      let open_mark = take_mark-took (codes "(") begun.following params.steps.passed.going in
      record { last = last; locals = locals; opened = opened; closed = closed; params = params; open_mark = open_mark }

-- The reader passed a function.
pub record ReadsFunction (r : Reader) (g : Got PartialFunction) : Type 0 where
  pub steps : Steps 0 0 r g.following
  pub shorter : length g.following.left < length r.left
  pub derived : IsFunction 200 (tokens_of r.left) (plain_function g.value) (tokens_of g.following.left)
  pub shallow : is_shallow (plain_function g.value) ≡ true

pub function-sound : (calls : ℕ) (r : Reader) (begun : Got Begun) → (begun.following.stop ≡ None → ReadsBegun r begun) → IsEnough calls 0 r.left →
    (read_function calls begun).following.stop ≡ None → ReadsFunction r (read_function calls begun)
function-sound calls r begun begins enough going =
    let passed = passes-function calls begun going in
    let opened = passed.opened in
    let closed = passed.closed in
    let brace = locals_from calls begun in
    let locals = locals_read calls begun in
    let body = body_read calls begun in
    let end = function_end calls begun in
    let head = begins passed.open_mark.passed.going in
    let before : length locals.following.left < length r.left = omega (arith, head.shorter, passed.open_mark.one_less, passed.params.steps.passed.fewer, closed.one_less, opened.one_less, passed.locals.steps.passed.fewer) in
    let lines = (sound_stmts calls).lines outermost false false locals.following (omega arith) passed.last.passed.going in
    let first_depth : locals.following.depth ≡ 2 = passed.locals.steady ∙ opened.steady in
    let inner : Steps 0 0 (head_end calls begun) end = then_steps (token_steps 0 refl opened) (then_steps passed.locals.steps (then_steps lines.steps (token_steps 0 refl passed.last))) in
    let outer : Steps 0 0 r (head_end calls begun) = with_depth 2 (then_steps head.steps (then_steps (opening_steps 0 passed.open_mark) (then_steps passed.params.steps (closing_steps 0 (omega arith) closed)))) in
    let f = plain_function (read_function calls begun).value in
    record {
      steps = then_steps outer inner;
      shorter = omega (arith, lines.steps.passed.fewer, passed.last.one_less);
      derived = record {
        name_at = head.name_at;
        open_at = passed.open_mark.line;
        close_at = closed.line;
        brace_at = opened.line;
        depth = body.following.depth;
        params = tokens_of (params_from calls begun).left;
        locals = tokens_of brace.left;
        body = tokens_of locals.following.left;
        result_is = subst (λ ts. HasResult (tokens_of r.left) f.result (word head.name_at f.name ∷ ts)) passed.open_mark.begins head.result_is;
        name_is = head.good;
        params_are =
            subst (λ ts. AreParams (tokens_of (params_from calls begun).left) f.params ts) (closed.begins ∙ ap (λ ts. mark closed.line (codes ")") ∷ ts) opened.begins) passed.params.derived;
        locals_are = passed.locals.derived;
        body_is = subst (λ d. AreLines 200 outermost false d (tokens_of locals.following.left) f.body body.following.depth (mark f.last (codes "}") ∷ tokens_of end.left)) first_depth
            (subst (λ ts. AreLines 200 outermost false locals.following.depth (tokens_of locals.following.left) f.body body.following.depth ts) (begins_here passed.last) lines.derived);
      };
      shallow = lines.shallow;
    }

-- What was read after a function, up to the end of the text: there are only tokens, no parenthesis is one too many, and
-- all are functions.
pub record ReadsRest (r : Reader) (g : Got (List PartialFunction)) : Type 0 where
  pub going : r.stop ≡ None
  pub whole : are_tokens r.left ≡ true
  pub enclosed : most_open 0 (tokens_of r.left) ≤ 200
  pub derived : (all : List Placed) (f : Function) → IsFunction 200 all f (tokens_of r.left) → AreFunctions 200 all (f ∷ map plain_function g.value)
  pub shallow : list_all is_shallow (map plain_function g.value) ≡ true
  pub ends : g.following.left ≡ []

pub function-keeps : (calls : ℕ) (begun : Got Begun) → GoesOn begun.following (read_function calls begun).following
function-keeps calls begun going = (passes-function calls begun going).open_mark.passed.going

pub functions-keep : (calls : ℕ) (r : Reader) → GoesOn r (read_functions calls r).following
functions-keep zero r = λ going. going
functions-keep (suc calls) r =
    if-cases (λ (g : Got (List PartialFunction)). GoesOn r g.following) (is_stopped r || (length r.left == 0)) (λ _ going. going)
    (λ _ going. (begun-sound r (function-keeps calls (read_begun r) (functions-keep calls (read_function calls (read_begun r)).following going))).steps.passed.going)

nothing_left : (left : List Piece) → length left ≡ 0 → left ≡ []
nothing_left [] none = refl
nothing_left (p ∷ pieces) none = absurd (omega arith)

ends_here : (r : Reader) → r.stop ≡ None → (is_stopped r || (length r.left == 0)) ≡ true → r.left ≡ []
ends_here r going ends =
    elim (or_cases (is_stopped r) (length r.left == 0) ends) [
      | inl stopped ↦ absurd (let same : is_stopped r ≡ false = ap is_some going in cc)
      | inr none ↦ nothing_left r.left (eqb-true (length r.left) 0 none)
    ]

-- a function and what was read after it
joined_functions : (r : Reader) (first : Got PartialFunction) (others : Got (List PartialFunction)) → ReadsFunction r first → ReadsRest first.following others →
    ReadsRest r (got (first.value ∷ others.value) others.following)
joined_functions r first others read more =
    record {
      going = read.steps.passed.going;
      whole = read.steps.passed.whole ∙ more.whole;
      enclosed = read.steps.enclosed more.enclosed;
      derived = λ all f is. more_functions is (more.derived (tokens_of r.left) (plain_function first.value) read.derived);
      shallow = and_from _ _ read.shallow more.shallow;
      ends = more.ends;
    }

pub rest-sound : (calls : ℕ) (r : Reader) → IsEnough calls 1 r.left → (read_functions calls r).following.stop ≡ None → ReadsRest r (read_functions calls r)
rest-sound zero r enough = absurd (omega arith)
rest-sound (suc calls) r enough =
    if-cases (λ g. g.following.stop ≡ None → ReadsRest r g) (is_stopped r || (length r.left == 0))
    (λ ends going.
    let none = ends_here r going ends in
    record {
      going = going;
      whole = ap are_tokens none;
      enclosed = rw none (omega arith);
      derived = λ all f is. last_function (subst (λ (left : List Piece). IsFunction 200 all f (tokens_of left)) none is);
      shallow = refl;
      ends = none;
    })
    (λ _ going.
    let first = read_function calls (read_begun r) in
    let read = function-sound calls r (read_begun r) (begun-sound r) (omega arith) (functions-keep calls first.following going) in
    joined_functions r first (read_functions calls first.following) read (rest-sound calls first.following (omega (arith, read.shorter)) going))
