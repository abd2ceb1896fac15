-- A whole text of the grammar is read, and stands for one tree.
use Rattle.std.proofs.Common.{◌≡◌, ℕ, zero, suc, ◌+◌, ◌≤◌, ◌<◌, length, drop, List, [], ◌∷◌, map, true, false, Bool, Option, Some, None, refl, sym, ap, ap₂, ◌∙◌, arith, subst, inl, inr, ◌⊎◌}
use Rattle.std.specs.Prelude.{codes, not, ◌&&◌, if◌then◌else◌}
use Rattle.std.specs.List.{list_all}
use Rattle.std.proofs.lemmas.Bool.{and_right, and_from, not_from_false}
use Rattle.dcc_c.specs.Token.{Decimal, Pragma, plain_number as plain_suffix, version_line, stack_line, place_line}
use Rattle.dcc_c.specs.Lexing.{Placed, placed}
use Rattle.dcc_c.specs.Tree.{Global, Function, Tree}
use Rattle.dcc_c.specs.Grammar.{result, AreFunctions, last_function, more_functions, AreGlobals, no_global, placed_at, one_global}
use Rattle.dcc_c.specs.Rules.{most_open}
use Rattle.dcc_c.specs.Partial.{NumberAt, PartialVariable, PartialFunction, PartialText}
use Rattle.dcc_c.specs.Reading.{Reader, Got, got, line_of, skip, sees_mark}
use Rattle.dcc_c.specs.ReadingStatements.{sees_head, take_number_of_line}
use Rattle.dcc_c.specs.ReadingText.{Begun, read_begun, with_functions, read_global, size_in_bytes, address_of, Declared, declared, before_declared, read_declared, read_text, enough_calls, reading_of}
use Rattle.dcc_c.specs.Stripped.{plain_global, plain_function, plain_text}
use Rattle.dcc_c.proofs.reading.Passing.{pieces_with}
use Rattle.dcc_c.proofs.reading.Statements.{IsEnoughFor, on, first_of, is_shallow, IsText, CompleteText}
use Rattle.dcc_c.proofs.reading.Stopping.{if-true, if-false}
use Rattle.dcc_c.proofs.reading.Derivations.{begins-length, flat_after}
use Rattle.dcc_c.proofs.reading.LineFinds.{number_of_line-is}
use Rattle.dcc_c.proofs.reading.DeclLeads.{size_leads, initial_leads, global_leads}
use Rattle.dcc_c.proofs.reading.TextFinds.{begun-complete, function_begun}
use Rattle.dcc_c.proofs.reading.UnitFinds.{functions-complete, functions_no_head, type_no_head, type_here, initial_no_mark, size_no_open, global-complete}

-- What stands after place lines, where a beginning was read.
abbrev global_then : ℕ → ℕ → Got PartialVariable → Got Declared
global_then calls here v = before_declared v.value (read_declared calls (Some (here + size_in_bytes v.value)) v.following)

abbrev begun_here : ℕ → ℕ → Got Begun → Got Declared
begun_here calls here begun =
    if begun.value.has_result && not (sees_mark (codes "(") begun.following) then global_then calls here (read_global calls here begun)
    else declared [] (with_functions calls begun)

abbrev begun_with : ℕ → Option ℕ → Got Begun → Got Declared
begun_with calls address begun = elim address [ Some here ↦ begun_here calls here begun | None ↦ declared [] (with_functions calls begun) ]

abbrev placed_here : ℕ → Reader → Got Declared
placed_here calls r =
    let n = take_number_of_line (line_of r.left) (skip r) in read_declared calls (Some (address_of n.value)) n.following

-- no place line stands here
not_placed : (calls : ℕ) (address : Option ℕ) (r : Reader) → sees_head place_line r ≡ false → read_declared (suc calls) address r ≡ begun_with calls address (read_begun r)
not_placed calls address r is = if-false (sees_head place_line r) (placed_here calls r) (begun_with calls address (read_begun r)) is

-- The text was read to its end, from a place on.
record FindsDeclared (gs : List Global) (fs : List Function) (g : Got Declared) : Type 0 where
  globals : List PartialVariable
  functions : List PartialFunction
  following : ℕ
  depth : ℕ
  same : map plain_global globals ≡ gs
  same_functions : map plain_function functions ≡ fs
  is : g ≡ got (record { globals = globals; functions = functions }) (on [] following depth)

-- a function begins here, and no variable
function_here : {tokens : List Placed} {fs : List Function} → AreFunctions 200 tokens fs → (calls : ℕ) (address : Option ℕ) (at depth : ℕ) →
    begun_with calls address (read_begun (on tokens at depth)) ≡ declared [] (with_functions calls (read_begun (on tokens at depth)))
function_here derived calls None at depth = refl
function_here {tokens} derived calls (Some here) at depth =
    let begun = read_begun (on tokens at depth) in
    if-false (begun.value.has_result && not (sees_mark (codes "(") begun.following)) (global_then calls here (read_global calls here begun)) (declared [] (with_functions calls begun)) (opens derived)
  where
    opens : {fs : List Function} → AreFunctions 200 tokens fs →
        ((read_begun (on tokens at depth)).value.has_result && not (sees_mark (codes "(") (read_begun (on tokens at depth)).following)) ≡ false
    opens (last_function {f} is) =
        let b = function_begun f tokens [] is at depth in
        ap (λ (g : Got Begun). g.value.has_result && not (sees_mark (codes "(") g.following)) b.is ∙ and_right _ _ refl
    opens (more_functions {rest} {f} is others) =
        let b = function_begun f tokens rest is at depth in
        ap (λ (g : Got Begun). g.value.has_result && not (sees_mark (codes "(") g.following)) b.is ∙ and_right _ _ refl

declared-complete : {address : Option ℕ} {tokens following : List Placed} {gs : List Global} {fs : List Function} → AreGlobals address tokens gs following → AreFunctions 200 following fs → list_all is_shallow fs ≡ true →
    (calls at depth : ℕ) → IsEnoughFor calls 1 tokens → most_open 0 tokens ≤ 200 → FindsDeclared gs fs (read_declared calls address (on tokens at depth))
declared-complete no_global functions deep zero at depth enough few = absurd (omega arith)
declared-complete (placed_at others) functions deep zero at depth enough few = absurd (omega arith)
declared-complete (one_global is others) functions deep zero at depth enough few = absurd (omega arith)
declared-complete (no_global {place} {rest}) functions deep (suc calls) at depth enough few =
    let r : Reader = on rest at depth in
    let found = functions-complete functions calls at depth (omega arith) few deep in
    record {
      globals = [];
      functions = found.partials;
      following = found.following;
      depth = found.depth;
      same = refl;
      same_functions = found.same;
      is = not_placed calls place r (functions_no_head functions) ∙ (function_here functions calls place at depth ∙ ap (declared []) found.is);
    }
declared-complete (placed_at {place} {at = line} {n} {tokens} {rest} {globals} others) functions deep (suc calls) at depth enough few =
    let within : most_open 0 tokens ≤ 200 = flat_after (Decimal n plain_suffix) 0 line tokens refl (flat_after (Pragma place_line) 0 line (placed line (Decimal n plain_suffix) ∷ tokens) refl few) in
    let found = declared-complete others functions deep calls (suc (suc at)) depth (omega arith) within in
    record {
      globals = found.globals;
      functions = found.functions;
      following = found.following;
      depth = found.depth;
      same = found.same;
      same_functions = found.same_functions;
      is = ap (λ (g : Got (Option NumberAt)). read_declared calls (Some (address_of g.value)) g.following) (number_of_line-is line n (suc at) depth tokens) ∙ found.is;
    }
declared-complete {fs} (one_global {tokens} {others = more} {rest} {g} {globals} is others) functions deep (suc calls) at depth enough few =
    let r : Reader = on tokens at depth in
    let b = begun-complete g.name (result g.type is.type_is) refl is.name_is at depth in
    let begun : Got Begun = got (record { at = b.at; has_result = b.has_result; result = Some g.type; name = Some (record { word = g.name; at = b.name_at }) }) (on is.after_name b.following depth) in
    let no_open = size_no_open is.len_is (initial_no_mark is.init_is refl).0 in
    let sizes = size_leads is.len_is in
    let inits = initial_leads is.init_is in
    let leads = global_leads is in
    let less : length more < length tokens = omega (arith, begins-length is.type_is, sizes.less, inits.less) in
    let v = global-complete g tokens more is calls at depth (omega arith) b in
    let found = declared-complete others functions deep calls v.following depth (omega (arith, less)) (leads.enclosed few) in
    record {
      globals = v.partial ∷ found.globals;
      functions = found.functions;
      following = found.following;
      depth = found.depth;
      same = ap (λ x. x ∷ map plain_global found.globals) v.same ∙ ap (λ xs. g ∷ xs) found.same;
      same_functions = found.same_functions;
      is = not_placed calls (Some g.at) r (type_no_head (first_of tokens) (type_here {rest = is.after_name} {name_at = is.name_at} {name = g.name} g.type is.type_is))
          ∙ (ap (begun_here calls g.at) b.is
          ∙ (if-true (b.has_result && not (sees_mark (codes "(") begun.following)) (global_then calls g.at (read_global calls g.at begun)) (declared [] (with_functions calls begun)) (and_from _ _ (has b.typed) (not_from_false _ no_open))
          ∙ (ap (global_then calls g.at) v.is
          ∙ (ap (λ a. before_declared v.partial (read_declared calls (Some a) (on more v.following depth))) v.next ∙ ap (before_declared v.partial) found.is))));
    }
  where
    has : {x : Bool} → (Some g.type ≡ None) ⊎ (x ≡ true) → x ≡ true
    has (inl none) = absurd cc
    has (inr is_true) = is_true

-- The text.

length_with : (tokens : List Placed) → length (pieces_with tokens) ≡ length tokens
length_with [] = refl
length_with (p ∷ tokens) = ap suc (length_with tokens)

-- the steps of reading a text after its stack line
abbrev text_step : Option NumberAt → Option NumberAt → Got Declared → Got PartialText
text_step lo hi others = got (record { lo = lo; hi = hi; globals = others.value.globals; functions = others.value.functions }) others.following

abbrev hi_step : ℕ → Option NumberAt → Got (Option NumberAt) → Got PartialText
hi_step calls lo hi = text_step lo hi.value (read_declared calls None hi.following)

abbrev lo_step : ℕ → ℕ → Got (Option NumberAt) → Got PartialText
lo_step calls line lo = hi_step calls lo.value (take_number_of_line line lo.following)

-- The text was read to its end.
pub record FindsText (tree : Tree) (g : Got PartialText) : Type 0 where
  pub partial : PartialText
  pub following : ℕ
  pub depth : ℕ
  pub same : plain_text partial ≡ tree
  pub is : g ≡ got partial (on [] following depth)

abbrev tree_with : ℕ → ℕ → ℕ → List Global → List Function → Tree
tree_with version lo hi globals functions = record { version = version; lo = lo; hi = hi; globals = globals; functions = functions }

stack-complete : (line lo hi : ℕ) (tokens following : List Placed) (gs : List Global) (fs : List Function) → AreGlobals None tokens gs following → AreFunctions 200 following fs → list_all is_shallow fs ≡ true →
    (calls : ℕ) → IsEnoughFor calls 1 tokens → most_open 0 tokens ≤ 200 →
    FindsText (tree_with 1 lo hi gs fs) (read_text calls (on (placed line (Pragma stack_line) ∷ placed line (Decimal lo plain_suffix) ∷ placed line (Decimal hi plain_suffix) ∷ tokens) 0 2))
stack-complete line lo hi tokens following gs fs globals functions deep calls enough few =
    let found = declared-complete globals functions deep calls 3 2 enough few in
    let low : NumberAt = record { value = lo; at = 1 } in
    let high : NumberAt = record { value = hi; at = 2 } in
    record {
      partial = record { lo = Some low; hi = Some high; globals = found.globals; functions = found.functions };
      following = found.following;
      depth = found.depth;
      same = ap₂ (λ (a : List Global) (b : List Function). tree_with 1 lo hi a b) found.same found.same_functions;
      is = ap (lo_step calls line) (number_of_line-is line lo 1 2 (placed line (Decimal hi plain_suffix) ∷ tokens))
          ∙ (ap (hi_step calls (Some low)) (number_of_line-is line hi 2 2 tokens) ∙ ap (text_step (Some low) (Some high)) found.is);
    }

-- what was read of the tokens of a text
pub finds_text : (tokens : List Placed) (tree : Tree) → IsText tokens tree → FindsText tree (reading_of (pieces_with tokens))
finds_text tokens tree is = from (enough_calls (pieces_with tokens)) (omega (arith, length_with tokens))
  where
    line : ℕ
    line = is.formed.stack_at

    others : List Placed
    others = is.formed.globals

    all : List Placed
    all = placed line (Pragma stack_line) ∷ placed line (Decimal tree.lo plain_suffix) ∷ placed line (Decimal tree.hi plain_suffix) ∷ others

    same : tokens ≡ all
    same = ap (λ (ts : List Placed). drop 1 ts) is.formed.head_is

    few : most_open 0 others ≤ 200
    few =
        let first : most_open 0 all ≤ 200 = subst (λ ts. most_open 0 ts ≤ 200) same (flat_after (Pragma version_line) 0 1 tokens refl is.enclosed) in
        let second = flat_after (Pragma stack_line) 0 line (placed line (Decimal tree.lo plain_suffix) ∷ placed line (Decimal tree.hi plain_suffix) ∷ others) refl first in
        let third = flat_after (Decimal tree.lo plain_suffix) 0 line (placed line (Decimal tree.hi plain_suffix) ∷ others) refl second in
        flat_after (Decimal tree.hi plain_suffix) 0 line others refl third

    version : tree_with 1 tree.lo tree.hi tree.globals tree.functions ≡ tree
    version = ap (λ n. tree_with n tree.lo tree.hi tree.globals tree.functions) (sym is.formed.version_is)

    from : (calls : ℕ) → IsEnoughFor calls 16 tokens → FindsText tree (read_text calls (on tokens 0 2))
    from calls enough =
        let room : IsEnoughFor calls 16 all = subst (λ ts. IsEnoughFor calls 16 ts) same enough in
        let found = stack-complete line tree.lo tree.hi others is.formed.functions tree.globals tree.functions is.formed.globals_are is.formed.functions_are is.shallow calls (omega (arith, room)) few in
        record { partial = found.partial; following = found.following; depth = found.depth; same = found.same ∙ version; is = ap (λ ts. read_text calls (on ts 0 2)) same ∙ found.is }

-- a text of the grammar is read to its end
pub complete_text : CompleteText
complete_text tokens tree is =
    let found = finds_text tokens tree is in (ap (λ (g : Got PartialText). g.following.stop) found.is, ap (λ (g : Got PartialText). plain_text g.value) found.is ∙ found.same)

-- tokens stand for at most one tree
pub one_tree : (tokens : List Placed) (first second : Tree) → IsText tokens first → IsText tokens second → first ≡ second
one_tree tokens first second is also = sym (complete_text tokens first is).1 ∙ (complete_text tokens second also).1
