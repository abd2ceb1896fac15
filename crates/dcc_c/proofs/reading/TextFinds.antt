-- Functions of the grammar are read.
use Rattle.std.proofs.Common.{◌≡◌, ℕ, suc, ◌≤◌, ◌<◌, length, List, ◌∷◌, map, true, false, Bool, Option, Some, None, refl, ap, ap₂, ◌∙◌, arith, subst, inl, inr, ◌⊎◌}
use Rattle.std.specs.Prelude.{codes, ◌||◌}
use Rattle.std.proofs.lemmas.Bool.{or_from}
use Rattle.dcc_c.specs.declared.syntax.CType.{CType}
use Rattle.dcc_c.specs.Token.{Token, WordToken}
use Rattle.dcc_c.specs.Lexing.{Placed}
use Rattle.dcc_c.specs.Tree.{Word, Variable, Lines, Function}
use Rattle.dcc_c.specs.Grammar.{mark, word, is_name, type_tokens, Begins, HasResult, no_result, result, IsFunction, outermost, AreLines}
use Rattle.dcc_c.specs.Rules.{most_open}
use Rattle.dcc_c.specs.Partial.{PartialVariable, PartialFunction}
use Rattle.dcc_c.specs.Reading.{Got, got, line_of, is_the_word, take_mark, take_name, begins_type}
use Rattle.dcc_c.specs.ReadingStatements.{begins_stmt, Block, block_of, read_lines}
use Rattle.dcc_c.specs.ReadingText.{head_with, Begun, begun_by, read_begun, read_body, read_function}
use Rattle.dcc_c.specs.Stripped.{plain_variable, plain_lines, plain_function}
use Rattle.dcc_c.proofs.reading.Statements.{IsEnoughFor, on, first_of, is_shallow}
use Rattle.dcc_c.proofs.reading.Stopping.{if-false}
use Rattle.dcc_c.proofs.reading.Derivations.{begins-length, begins-enclosed, flat_type, flat_after}
use Rattle.dcc_c.proofs.reading.TypeComplete.{type-complete}
use Rattle.dcc_c.proofs.reading.PartsComplete.{take_name-is}
use Rattle.dcc_c.proofs.reading.LineComplete.{lines_begin, stmt_no_word}
use Rattle.dcc_c.proofs.reading.LineFinds.{rows_before, joined_none}
use Rattle.dcc_c.proofs.reading.BlockFinds.{brace_ends}
use Rattle.dcc_c.proofs.reading.StmtFinds.{lines_complete}
use Rattle.dcc_c.proofs.reading.DeclFinds.{type_no_word, params-complete, locals-complete}
use Rattle.dcc_c.proofs.reading.DeclLeads.{result_leads, params_leads, locals_leads, before_body}

-- Beginnings.

-- The result and the name were read.
pub record FindsBegun (r : Option CType) (name : Word) (rest : List Placed) (depth : ℕ) (g : Got Begun) : Type 0 where
  pub at : ℕ
  pub has_result : Bool
  pub name_at : ℕ
  pub following : ℕ
  pub is : g ≡ got (record { at = at; has_result = has_result; result = r; name = Some (record { word = name; at = name_at }) }) (on rest following depth)
  pub typed : (r ≡ None) ⊎ (has_result ≡ true)

pub begun-complete : {name_at : ℕ} {tokens rest : List Placed} {r : Option CType} {following : List Placed} (name : Word) → HasResult tokens r following → following ≡ word name_at name ∷ rest → is_name name ≡ true → (at depth : ℕ) →
    FindsBegun r name rest depth (read_begun (on tokens at depth))
begun-complete {name_at} {rest} name (no_result {rest = following}) same good at depth =
    record {
      at = at;
      has_result = false;
      name_at = suc at;
      following = suc (suc at);
      is = ap (λ ts. begun_by at false None (take_name (on ts (suc at) depth))) same ∙ ap (begun_by at false None) (take_name-is name_at (suc at) depth name rest good);
      typed = inl refl;
    }
begun-complete {name_at} {tokens} {rest} name (result {rest = following} type words) same good at depth =
    let here = subst (λ ts. Begins tokens (type_tokens type) ts) same words in
    let t = type-complete type tokens (word name_at name ∷ rest) at depth here refl in
    record {
      at = at;
      has_result = begins_type (first_of tokens);
      name_at = t.following;
      following = suc t.following;
      is = if-false (is_the_word (codes "void") (first_of tokens)) _ _ (type_no_word (codes "void") (first_of tokens) t.begins refl)
          ∙ (ap (λ (g : Got (Option CType)). begun_by at (begins_type (first_of tokens)) g.value (take_name g.following)) t.is ∙ ap (begun_by at (begins_type (first_of tokens)) (Some type)) (take_name-is name_at t.following depth name rest good));
      typed = inr t.begins;
    }

pub result_length : {tokens rest : List Placed} {r : Option CType} → HasResult tokens r rest → length rest ≤ length tokens
result_length no_result = omega arith
result_length (result type words) = omega (arith, begins-length words)

pub result_enclosed : {tokens rest : List Placed} {r : Option CType} → HasResult tokens r rest → most_open 0 tokens ≤ 200 → most_open 0 rest ≤ 200
result_enclosed (no_result {at} {rest}) few = flat_after (WordToken (codes "void")) 0 at rest refl few
result_enclosed (result type words) few = begins-enclosed words (flat_type type) 0 few

-- Functions.

-- no statement begins with a type or with `auto`
stmt_no_local : (token : Option Token) → begins_stmt token ≡ true → (is_the_word (codes "auto") token || begins_type token) ≡ false
stmt_no_local token begins =
    or_from _ _ (stmt_no_word (codes "auto") token begins refl) (or_from _ _ (or_from _ _ (stmt_no_word (codes "signed") token begins refl) (stmt_no_word (codes "unsigned") token begins refl)) (or_from _ _ (stmt_no_word (codes "int") token begins refl) (stmt_no_word (codes "long") token begins refl)))

body_no_local : {depth after last : ℕ} {body rest : List Placed} {lines : Lines} → AreLines 200 outermost false depth body lines after (mark last (codes "}") ∷ rest) →
    (is_the_word (codes "auto") (first_of body) || begins_type (first_of body)) ≡ false
body_no_local {last} {body} {rest} derived = by (lines_begin derived)
  where
    by : (begins_stmt (first_of body) ≡ true) ⊎ (body ≡ mark last (codes "}") ∷ rest) → (is_the_word (codes "auto") (first_of body) || begins_type (first_of body)) ≡ false
    by (inl begins) = stmt_no_local (first_of body) begins
    by (inr same) = ap (λ ts. is_the_word (codes "auto") (first_of ts) || begins_type (first_of ts)) same

-- the steps of reading a function after its head
abbrev lines_step : PartialFunction → List PartialVariable → Got Block → Got PartialFunction
lines_step head locals body =
    got (record head { locals = locals; body = body.value.lines; last = line_of body.following.left }) (take_mark (codes "}") body.following)

abbrev locals_step : ℕ → PartialFunction → Got (List PartialVariable) → Got PartialFunction
locals_step calls head locals = lines_step head locals.value (read_lines calls outermost false false locals.following)

-- The function was read, with exactly the rest left.
pub record FindsFunction (f : Function) (rest : List Placed) (g : Got PartialFunction) : Type 0 where
  pub partial : PartialFunction
  pub following : ℕ
  pub depth : ℕ
  pub same : plain_function partial ≡ f
  pub is : g ≡ got partial (on rest following depth)

-- what the function begins with was read
pub function_begun : (f : Function) (tokens rest : List Placed) (is : IsFunction 200 tokens f rest) (at depth : ℕ) →
    FindsBegun f.result f.name (mark is.open_at (codes "(") ∷ is.params) depth (read_begun (on tokens at depth))
function_begun f tokens rest is at depth = begun-complete f.name is.result_is refl is.name_is at depth

function_path : (f : Function) (params locals : List Variable) (body : Lines) → params ≡ f.params → locals ≡ f.locals → body ≡ f.body →
    record { name = f.name; result = f.result; params = params; locals = locals; body = body; last = f.last } ≡ f
function_path f params locals body one two three =
    ap (λ (ps : List Variable). record { name = f.name; result = f.result; params = ps; locals = locals; body = body; last = f.last }) one
    ∙ ap₂ (λ (ls : List Variable) (b : Lines). record { name = f.name; result = f.result; params = f.params; locals = ls; body = b; last = f.last }) two three

pub function-complete : (f : Function) (tokens rest : List Placed) → IsFunction 200 tokens f rest → (calls at depth : ℕ) → IsEnoughFor calls 0 tokens → most_open 0 tokens ≤ 200 → is_shallow f ≡ true →
    FindsFunction f rest (read_function calls (read_begun (on tokens at depth)))
function-complete f tokens rest is calls at depth enough few deep =
    let b = function_begun f tokens rest is at depth in
    let before = before_body is in
    let less : length is.params < length tokens = (let l = result_leads is.result_is in omega (arith, l.less)) in
    let less_locals : length is.locals < length tokens = (let l = params_leads is.params_are in omega (arith, l.less, less)) in
    let less_body : length is.body < length tokens = (let l = locals_leads is.locals_are in omega (arith, l.less, less_locals)) in
    let p = params-complete is.params_are calls (suc b.following) depth (omega (arith, less)) in
    let head_at : Got PartialFunction = head_with (got (record { at = b.at; has_result = b.has_result; result = f.result; name = Some (record { word = f.name; at = b.name_at }) }) (on (mark is.open_at (codes "(") ∷ is.params) b.following depth)) (on is.params (suc b.following) depth) (got p.partials (on (mark is.close_at (codes ")") ∷ mark is.brace_at (codes "{") ∷ is.locals) p.following depth)) in
    let l = locals-complete is.locals_are (body_no_local is.body_is) calls (suc (suc p.following)) 2 (omega (arith, less_locals)) in
    let s = lines_complete is.body_is calls l.following false (omega (arith, less_body)) (before.enclosed few) deep refl in
    let closing = on (mark f.last (codes "}") ∷ rest) s.following is.depth in
    record {
      partial = record head_at.value { locals = l.partials; body = s.partial; last = f.last };
      following = suc s.following;
      depth = is.depth;
      same = function_path f (map plain_variable p.partials) (map plain_variable l.partials) (plain_lines s.partial) p.same l.same s.same;
      is = ap (read_function calls) b.is
          ∙ (ap (λ (ps : Got (List PartialVariable)). read_body calls (head_with (got (record { at = b.at; has_result = b.has_result; result = f.result; name = Some (record { word = f.name; at = b.name_at }) }) (on (mark is.open_at (codes "(") ∷ is.params) b.following depth)) (on is.params (suc b.following) depth) ps)) p.is
          ∙ (ap (locals_step calls head_at.value) l.is
          ∙ (ap (lines_step head_at.value l.partials) (s.is ∙ ap (rows_before s.partial) (brace_ends s.calls outermost s.leaves f.last s.following is.depth rest s.enough))
          ∙ ap (λ rows. lines_step head_at.value l.partials (got (block_of rows s.leaves) closing)) (joined_none s.partial))));
    }
