-- Functions and global variables of the grammar are read, one after the other.
use Rattle.std.proofs.Common.{◌≡◌, ℕ, zero, suc, ◌+◌, ◌≤◌, ◌<◌, length, List, [], ◌∷◌, map, true, false, Option, Some, refl, ap, ap₂, ◌∙◌, arith, subst, ne_eqb}
use Rattle.std.specs.Prelude.{codes, not, ◌==◌}
use Rattle.std.specs.List.{list_all}
use Rattle.std.proofs.lemmas.Bool.{and_parts}
use Rattle.dcc_c.specs.declared.syntax.CType.{CType}
use Rattle.dcc_c.specs.declared.syntax.Class.TheVariants.{Plain}
use Rattle.dcc_c.specs.Token.{Token, WordToken, place_line}
use Rattle.dcc_c.specs.Lexing.{Placed}
use Rattle.dcc_c.specs.Tree.{Word, Global, Function}
use Rattle.dcc_c.specs.Placement.{after_global, bytes_of}
use Rattle.dcc_c.specs.Grammar.{mark, word, type_tokens, Begins, HasResult, no_result, result, HasSize, no_size, size, AreInitial, no_value, one_value, values, IsFunction, AreFunctions, last_function, more_functions, IsGlobal}
use Rattle.dcc_c.specs.Rules.{most_open}
use Rattle.dcc_c.specs.Partial.{NumberAt, PartialVariable, PartialFunction}
use Rattle.dcc_c.specs.Reading.{Got, got, is_stopped, is_the_mark, take_mark, begins_type}
use Rattle.dcc_c.specs.ReadingStatements.{is_the_head, read_init}
use Rattle.dcc_c.specs.ReadingText.{Begun, read_begun, read_functions, with_functions, read_global, size_in_bytes}
use Rattle.dcc_c.specs.Stripped.{plain_global, plain_function}
use Rattle.dcc_c.proofs.reading.Passing.{pieces_with}
use Rattle.dcc_c.proofs.reading.Statements.{IsEnoughFor, on, first_of, is_shallow}
use Rattle.dcc_c.proofs.reading.Stopping.{if-false}
use Rattle.dcc_c.proofs.reading.Derivations.{begins-length}
use Rattle.dcc_c.proofs.reading.Leads.{lines_leads}
use Rattle.dcc_c.proofs.reading.TypeComplete.{type-complete}
use Rattle.dcc_c.proofs.reading.DeclFinds.{size-complete, init-complete}
use Rattle.dcc_c.proofs.reading.DeclLeads.{result_leads, params_leads, locals_leads, size_leads, function_leads}
use Rattle.dcc_c.proofs.reading.TextFinds.{FindsBegun, function-complete}

-- Functions up to the end of the text.

function_shorter : {tokens rest : List Placed} {f : Function} → IsFunction 200 tokens f rest → length rest < length tokens
function_shorter is =
    let a = result_leads is.result_is in
    let b = params_leads is.params_are in
    let c = locals_leads is.locals_are in
    let d = lines_leads is.body_is in
    omega (arith, a.less, b.less, c.less, d.less)

-- The functions were read to the end of the text.
pub record FindsFunctions (fs : List Function) (g : Got (List PartialFunction)) : Type 0 where
  pub partials : List PartialFunction
  pub following : ℕ
  pub depth : ℕ
  pub same : map plain_function partials ≡ fs
  pub is : g ≡ got partials (on [] following depth)

abbrev then_functions : ℕ → Got PartialFunction → Got (List PartialFunction)
then_functions calls first = got (first.value ∷ (read_functions calls first.following).value) (read_functions calls first.following).following

no_functions : (calls at depth : ℕ) → read_functions calls (on [] at depth) ≡ got [] (on [] at depth)
no_functions zero at depth = refl
no_functions (suc calls) at depth = refl

more_here : (calls at depth : ℕ) (tokens : List Placed) → 0 < length tokens → read_functions (suc calls) (on tokens at depth) ≡ with_functions calls (read_begun (on tokens at depth))
more_here calls at depth [] some = absurd (omega arith)
more_here calls at depth (p ∷ tokens) some = if-false (length (pieces_with (p ∷ tokens)) == 0) _ _ (ne_eqb (length (pieces_with (p ∷ tokens))) 0 (λ none. omega arith))

functions_some : {tokens : List Placed} {fs : List Function} → AreFunctions 200 tokens fs → 0 < length tokens
functions_some (last_function is) = omega (arith, function_shorter is)
functions_some (more_functions is others) = omega (arith, function_shorter is)

pub functions-complete : {tokens : List Placed} {fs : List Function} → AreFunctions 200 tokens fs → (calls at depth : ℕ) → IsEnoughFor calls 0 tokens → most_open 0 tokens ≤ 200 → list_all is_shallow fs ≡ true →
    FindsFunctions fs (with_functions calls (read_begun (on tokens at depth)))
functions-complete (last_function {tokens} {f} is) calls at depth enough few deep =
    let first = function-complete f tokens [] is calls at depth enough few (and_parts _ true deep).0 in
    record {
      partials = first.partial ∷ [];
      following = first.following;
      depth = first.depth;
      same = ap (λ x. x ∷ []) first.same;
      is = ap (then_functions calls) first.is ∙ ap (λ (g : Got (List PartialFunction)). got (first.partial ∷ g.value) g.following) (no_functions calls first.following first.depth);
    }
functions-complete (more_functions is others) zero at depth enough few deep = absurd (omega (arith, function_shorter is))
functions-complete (more_functions {tokens} {rest} {f} {functions} is others) (suc calls) at depth enough few deep =
    let parts = and_parts (is_shallow f) (list_all is_shallow functions) deep in
    let first = function-complete f tokens rest is (suc calls) at depth enough few parts.0 in
    let leads = function_leads is in
    let found = functions-complete others calls first.following first.depth (omega (arith, function_shorter is)) (leads.enclosed few) parts.1 in
    record {
      partials = first.partial ∷ found.partials;
      following = found.following;
      depth = found.depth;
      same = ap (λ x. x ∷ map plain_function found.partials) first.same ∙ ap (λ xs. f ∷ xs) found.same;
      is = ap (then_functions (suc calls)) first.is ∙ ap (λ (g : Got (List PartialFunction)). got (first.partial ∷ g.value) g.following) (more_here calls first.following first.depth rest (functions_some others) ∙ found.is);
    }

-- Global variables.

-- no place line begins with a type
pub type_no_head : (token : Option Token) → begins_type token ≡ true → is_the_head place_line token ≡ false
type_no_head (Some (WordToken bytes)) begins = refl
type_no_head _ begins = absurd cc

pub type_here : {tokens rest : List Placed} {name_at : ℕ} {name : Word} (type : CType) → Begins tokens (type_tokens type) (word name_at name ∷ rest) → begins_type (first_of tokens) ≡ true
type_here {tokens} {rest} {name_at} {name} type words = (type-complete type tokens (word name_at name ∷ rest) 0 0 words refl).begins

result_no_head : {tokens rest following : List Placed} {name_at : ℕ} {name : Word} {r : Option CType} → HasResult tokens r following → following ≡ word name_at name ∷ rest → is_the_head place_line (first_of tokens) ≡ false
result_no_head no_result same = refl
result_no_head {tokens} {rest} {name_at} {name} (result type words) same =
    type_no_head (first_of tokens) (type_here {rest = rest} {name_at = name_at} {name = name} type (subst (λ ts. Begins tokens (type_tokens type) ts) same words))

pub functions_no_head : {tokens : List Placed} {fs : List Function} → AreFunctions 200 tokens fs → is_the_head place_line (first_of tokens) ≡ false
functions_no_head (last_function is) = result_no_head is.result_is refl
functions_no_head (more_functions is others) = result_no_head is.result_is refl

pub initial_no_mark : {end : ℕ} {tokens rest following : List Placed} {ns : List ℕ} → AreInitial tokens ns following → following ≡ mark end (codes ";") ∷ rest →
    (is_the_mark (codes "(") (first_of tokens) ≡ false) × (is_the_mark (codes "[") (first_of tokens) ≡ false)
initial_no_mark no_value same = (ap (λ ts. is_the_mark (codes "(") (first_of ts)) same, ap (λ ts. is_the_mark (codes "[") (first_of ts)) same)
initial_no_mark one_value same = (refl, refl)
initial_no_mark (values numbers) same = (refl, refl)

pub size_no_open : {tokens rest : List Placed} {len : Option ℕ} → HasSize tokens len rest → is_the_mark (codes "(") (first_of rest) ≡ false → is_the_mark (codes "(") (first_of tokens) ≡ false
size_no_open no_size ends = ends
size_no_open size ends = refl

-- the steps of reading a global variable after its name
abbrev init_step : ℕ → Got Begun → Option NumberAt → Got (List NumberAt) → Got PartialVariable
init_step address begun found init =
    let end = take_mark (codes ";") init.following in
    got (record { name = begun.value.name; type = begun.value.result; class = Plain; size = found; init = init.value; address = address; done = not (is_stopped end) }) end

abbrev size_step : ℕ → ℕ → Got Begun → Got (Option NumberAt) → Got PartialVariable
size_step calls address begun found = init_step address begun found.value (read_init calls found.following)

pub record FindsGlobal (g : Global) (rest : List Placed) (depth : ℕ) (v : Got PartialVariable) : Type 0 where
  pub partial : PartialVariable
  pub following : ℕ
  pub same : plain_global partial ≡ g
  pub next : g.at + size_in_bytes partial ≡ after_global g
  pub is : v ≡ got partial (on rest following depth)

pub global-complete : (g : Global) (tokens rest : List Placed) (is : IsGlobal tokens g rest) (calls at depth : ℕ) → IsEnoughFor calls 0 tokens →
    (b : FindsBegun (Some g.type) g.name is.after_name depth (read_begun (on tokens at depth))) → FindsGlobal g rest depth (read_global calls g.at (got (record { at = b.at; has_result = b.has_result; result = Some g.type; name = Some (record { word = g.name; at = b.name_at }) }) (on is.after_name b.following depth)))
global-complete g tokens rest is calls at depth enough b =
    let begun : Got Begun = got (record { at = b.at; has_result = b.has_result; result = Some g.type; name = Some (record { word = g.name; at = b.name_at }) }) (on is.after_name b.following depth) in
    let s = size-complete is.len_is (initial_no_mark is.init_is refl).1 b.following depth in
    let lengths = size_leads is.len_is in
    let i = init-complete is.init_is refl calls s.following depth (omega (arith, begins-length is.type_is, lengths.less)) in
    record {
      partial = record { name = Some (record { word = g.name; at = b.name_at }); type = Some g.type; class = Plain; size = s.partial; init = i.numbers; address = g.at; done = true };
      following = suc i.following;
      same = ap₂ (λ (l : Option ℕ) (ns : List ℕ). record { name = g.name; at = g.at; type = g.type; len = l; init = ns }) s.same i.same;
      next = ap (λ l. g.at + bytes_of g.type l) s.same;
      is = ap (size_step calls g.at begun) s.is ∙ ap (init_step g.at begun s.partial) i.is;
    }
