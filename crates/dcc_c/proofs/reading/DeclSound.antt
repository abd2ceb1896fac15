-- What is read of declarations is what the grammar says: sizes, initial values, local variables and parameters.
use Rattle.std.proofs.Common.{◌≡◌, ℕ, zero, suc, ◌<◌, length, List, [], ◌∷◌, ◌++◌, map, Bool, true, false, Option, Some, None, refl, sym, ap, ◌∙◌, subst, arith}
use Rattle.std.specs.Prelude.{codes, option_map, if◌then◌else◌, not, ◌||◌}
use Rattle.dcc_c.specs.declared.syntax.CType.{CType}
use Rattle.dcc_c.specs.declared.syntax.Class.{Class}
use Rattle.dcc_c.specs.declared.syntax.Class.TheVariants.{Plain, Auto}
use Rattle.dcc_c.specs.Token.{Decimal, Mark, plain_number as plain_suffix}
use Rattle.dcc_c.specs.Lexing.{Placed, placed}
use Rattle.dcc_c.specs.Tree.{Variable}
use Rattle.dcc_c.specs.Grammar.{mark, word, is_name, type_tokens, Begins, HasSize, no_size, size, AreNumbers, last_number, more_numbers, AreInitial, no_value, one_value, values, HasClass, no_class, auto_class, register_class, IsParam, AreSomeParams, last_param, more_params as more_of, AreParams, no_param, some_params, IsLocalClass, plain_local, array_local, auto_local, IsLocal, AreLocals, no_local, one_local}
use Rattle.dcc_c.specs.Partial.{NumberAt, PartialVariable}
use Rattle.dcc_c.specs.Reading.{Reader, Got, got, is_stopped, next_token, skip, sees_mark, sees_word, take_mark, take_name, take_plain, take_type, begins_type}
use Rattle.dcc_c.specs.ReadingStatements.{read_size, list_of, more_values, read_values, read_init, class_with, read_local, read_locals, read_class, read_param, more_params, read_params}
use Rattle.dcc_c.specs.Stripped.{plain_name, plain_type, plain_numbers, plain_variable}
use Rattle.dcc_c.proofs.reading.Passing.{tokens_of, Took, if-cases, sees_mark-took, sees_word-took, take_mark-took}
use Rattle.dcc_c.proofs.reading.Words.{type-sound}
use Rattle.dcc_c.proofs.reading.Statements.{ReadsType}
use Rattle.dcc_c.proofs.reading.Stopping.{GoesOn}
use Rattle.dcc_c.proofs.reading.StmtStopping.{plain-keeps}
use Rattle.dcc_c.proofs.reading.Steps.{Steps, then_steps, no_steps, token_steps, name-sound, plain-sound}

pub type_steps : {r : Reader} {g : Got (Option CType)} (opened : ℕ) → ReadsType r g → Steps opened opened r g.following
type_steps opened read = record { passed = read.passed; enclosed = read.enclosed opened }

-- Sizes.

pub record ReadsSize (r : Reader) (g : Got (Option NumberAt)) : Type 0 where
  pub steps : Steps 0 0 r g.following
  pub steady : g.following.depth ≡ r.depth
  pub derived : HasSize (tokens_of r.left) (option_map (λ n. n.value) g.value) (tokens_of g.following.left)

sized : (r : Reader) (value : Option NumberAt) (number : NumberAt) (following : Reader) → value ≡ Some number → ReadsSize r (got (Some number) following) → ReadsSize r (got value following)
sized r value number following is read = subst (λ v. ReadsSize r (got v following)) (sym is) read

pub size-sound : (r : Reader) → (read_size r).following.stop ≡ None → ReadsSize r (read_size r)
size-sound r =
    if-cases (λ g. g.following.stop ≡ None → ReadsSize r g) (sees_mark (codes "[") r)
    (λ sees going.
    let begun = sees_mark-took (codes "[") r sees in
    let n = take_plain (skip r) in
    let close = take_mark-took (codes "]") n.following going in
    let read = plain-sound (skip r) close.passed.going in
    sized r n.value read.number (take_mark (codes "]") n.following) read.is (record {
      steps = then_steps (token_steps 0 refl begun) (then_steps (token_steps 0 refl read.took) (token_steps 0 refl close));
      steady = close.steady ∙ (read.took.steady ∙ begun.steady);
      derived = rw (begun.begins, read.took.begins, close.begins) size;
    }))
    (λ _ going. record { steps = no_steps r going; steady = refl; derived = no_size })

-- Initial values.

pub values-keep : (calls : ℕ) (r : Reader) → GoesOn r (more_values calls r).following
values-keep zero r = λ going. going
values-keep (suc calls) r =
    if-cases (λ (g : Got (List NumberAt)). GoesOn r g.following) (sees_mark (codes ",") r)
    (λ _ going. plain-keeps (skip r) (values-keep calls (take_plain (skip r)).following going)) (λ _ going. going)

record ReadsMoreValues (r : Reader) (g : Got (List NumberAt)) : Type 0 where
  steps : Steps 0 0 r g.following
  steady : g.following.depth ≡ r.depth
  derived : (all : List Placed) (at n : ℕ) → all ≡ placed at (Decimal n plain_suffix) ∷ tokens_of r.left → AreNumbers all (n ∷ plain_numbers g.value) (tokens_of g.following.left)

no_more_values : (r : Reader) → r.stop ≡ None → ReadsMoreValues r (got [] r)
no_more_values r going = record { steps = no_steps r going; steady = refl; derived = λ all at n is. rw is last_number }

listed : (value : Option NumberAt) (number : NumberAt) (others : List NumberAt) → value ≡ Some number → plain_numbers (list_of value ++ others) ≡ number.value ∷ plain_numbers others
listed value number others is = ap (λ v. plain_numbers (list_of v ++ others)) is

more_values-sound : (calls : ℕ) (r : Reader) → (more_values calls r).following.stop ≡ None → ReadsMoreValues r (more_values calls r)
more_values-sound zero r = λ going. no_more_values r going
more_values-sound (suc calls) r =
    if-cases (λ g. g.following.stop ≡ None → ReadsMoreValues r g) (sees_mark (codes ",") r)
    (λ sees going.
    let comma = sees_mark-took (codes ",") r sees in
    let first = take_plain (skip r) in
    let others = more_values calls first.following in
    let read = plain-sound (skip r) (values-keep calls first.following going) in
    let more = more_values-sound calls first.following going in
    record {
      steps = then_steps (token_steps 0 refl comma) (then_steps (token_steps 0 refl read.took) more.steps);
      steady = more.steady ∙ (read.took.steady ∙ comma.steady);
      derived = λ all at n is.
          let tail : AreNumbers (tokens_of (skip r).left) (plain_numbers (list_of first.value ++ others.value)) (tokens_of others.following.left) =
          subst (λ ns. AreNumbers (tokens_of (skip r).left) ns (tokens_of others.following.left)) (sym (listed first.value read.number others.value read.is)) (more.derived (tokens_of (skip r).left) read.took.line read.number.value read.took.begins)
          in
          rw (is, comma.begins) (more_numbers tail);
    })
    (λ _ going. no_more_values r going)

pub record ReadsInit (r : Reader) (g : Got (List NumberAt)) : Type 0 where
  pub steps : Steps 0 0 r g.following
  pub steady : g.following.depth ≡ r.depth
  pub derived : AreInitial (tokens_of r.left) (plain_numbers g.value) (tokens_of g.following.left)

some_values : (calls : ℕ) (r : Reader) → Took (Mark (codes "=")) r (skip r) → (read_values calls (skip r)).following.stop ≡ None → ReadsInit r (read_values calls (skip r))
some_values calls r equals =
    if-cases (λ g. g.following.stop ≡ None → ReadsInit r g) (sees_mark (codes "{") (skip r))
    (λ sees going.
    let brace = sees_mark-took (codes "{") (skip r) sees in
    let first = take_plain (skip (skip r)) in
    let others = more_values calls first.following in
    let close = take_mark-took (codes "}") others.following going in
    let read = plain-sound (skip (skip r)) (values-keep calls first.following close.passed.going) in
    let more = more_values-sound calls first.following close.passed.going in
    let numbers : AreNumbers (tokens_of (skip (skip r)).left) (plain_numbers (list_of first.value ++ others.value)) (mark close.line (codes "}") ∷ tokens_of (take_mark (codes "}") others.following).left) =
    subst (λ ns. AreNumbers (tokens_of (skip (skip r)).left) ns (mark close.line (codes "}") ∷ tokens_of (take_mark (codes "}") others.following).left)) (sym (listed first.value read.number others.value read.is))
    (subst (λ ts. AreNumbers (tokens_of (skip (skip r)).left) (read.number.value ∷ plain_numbers others.value) ts) close.begins (more.derived (tokens_of (skip (skip r)).left) read.took.line read.number.value read.took.begins))
    in
    record {
      steps = then_steps (token_steps 0 refl equals) (then_steps (token_steps 0 refl brace) (then_steps (token_steps 0 refl read.took) (then_steps more.steps (token_steps 0 refl close))));
      steady = close.steady ∙ (more.steady ∙ (read.took.steady ∙ (brace.steady ∙ equals.steady)));
      derived = rw (equals.begins, brace.begins) (values numbers);
    })
    (λ _ going.
    let n = take_plain (skip r) in
    let read = plain-sound (skip r) going in
    record {
      steps = then_steps (token_steps 0 refl equals) (token_steps 0 refl read.took);
      steady = read.took.steady ∙ equals.steady;
      derived = subst (λ v. AreInitial (tokens_of r.left) (plain_numbers (list_of v)) (tokens_of n.following.left)) (sym read.is) (rw (equals.begins, read.took.begins) one_value);
    })

pub init-sound : (calls : ℕ) (r : Reader) → (read_init calls r).following.stop ≡ None → ReadsInit r (read_init calls r)
init-sound calls r =
    if-cases (λ g. g.following.stop ≡ None → ReadsInit r g) (sees_mark (codes "=") r) (λ sees. some_values calls r (sees_mark-took (codes "=") r sees))
    (λ _ going. record { steps = no_steps r going; steady = refl; derived = no_value })

-- Local variables.

pub record ReadsLocal (r : Reader) (g : Got PartialVariable) : Type 0 where
  pub steps : Steps 0 0 r g.following
  pub steady : g.following.depth ≡ r.depth
  pub shorter : length g.following.left < length r.left
  pub derived : IsLocal (tokens_of r.left) (plain_variable g.value) (tokens_of g.following.left)

-- a local variable after the word for its class
abbrev pub local_of : Class → Reader → Got PartialVariable
local_of class here =
    let type = take_type here in
    let name = take_name type.following in
    let size = read_size name.following in
    let end = take_mark (codes ";") size.following in
    got (record { name = name.value; type = type.value; class = class_with size.value class; size = size.value; init = []; address = 0; done = not (is_stopped end) }) end

stored_plain : (value : Option NumberAt) → IsLocalClass Plain (option_map (λ n. n.value) value) (class_with value Plain)
stored_plain None = plain_local
stored_plain (Some n) = array_local

stored_auto : (value : Option NumberAt) → IsLocalClass Auto (option_map (λ n. n.value) value) (class_with value Auto)
stored_auto None = auto_local
stored_auto (Some n) = auto_local

local_of-sound : (class : Class) (r here : Reader) → ((value : Option NumberAt) → IsLocalClass class (option_map (λ n. n.value) value) (class_with value class)) →
    (here.stop ≡ None → Steps 0 0 r here × (here.depth ≡ r.depth) × HasClass (tokens_of r.left) class (tokens_of here.left)) →
    (local_of class here).following.stop ≡ None → ReadsLocal r (local_of class here)
local_of-sound class r here stores before going =
    let type = take_type here in
    let name = take_name type.following in
    let size = read_size name.following in
    let end = take_mark-took (codes ";") size.following going in
    let sized = size-sound name.following end.passed.going in
    let named = name-sound type.following sized.steps.passed.going in
    let typed = type-sound here named.took.passed.going in
    let begun = before typed.passed.going in
    let name_is : plain_name name.value ≡ named.name.word = ap plain_name named.is in
    let type_is : plain_type type.value ≡ typed.type = ap plain_type typed.is in
    record {
      steps = then_steps begun.0 (then_steps (type_steps 0 typed) (then_steps (token_steps 0 refl named.took) (then_steps sized.steps (token_steps 0 refl end))));
      steady = end.steady ∙ (sized.steady ∙ (named.took.steady ∙ (typed.steady ∙ begun.1)));
      shorter = omega (arith, begun.0.passed.fewer, typed.shorter, named.took.one_less, sized.steps.passed.fewer, end.one_less);
      derived = record {
        name_at = named.took.line;
        end_at = end.line;
        spelled = class;
        typed = tokens_of here.left;
        after_name = tokens_of name.following.left;
        class_is = begun.2;
        type_is = subst (λ t. Begins (tokens_of here.left) (type_tokens t) (word named.took.line (plain_name name.value) ∷ tokens_of name.following.left)) (sym type_is) (subst (λ w. Begins (tokens_of here.left) (type_tokens typed.type) (word named.took.line w ∷ tokens_of name.following.left)) (sym name_is) (subst (λ ts. Begins (tokens_of here.left) (type_tokens typed.type) ts) named.took.begins typed.derived));
        name_is = subst (λ w. is_name w ≡ true) (sym name_is) named.good;
        len_is = subst (λ ts. HasSize (tokens_of name.following.left) (option_map (λ n. n.value) size.value) ts) end.begins sized.derived;
        stored_is = stores size.value;
      };
    }

local-sound : (r : Reader) → (read_local r).following.stop ≡ None → ReadsLocal r (read_local r)
local-sound r = by (sees_word (codes "auto") r) refl
  where
    by : (is : Bool) → sees_word (codes "auto") r ≡ is →
        (local_of (if is then Auto else Plain) (if is then skip r else r)).following.stop ≡ None → ReadsLocal r (local_of (if is then Auto else Plain) (if is then skip r else r))
    by true sees =
        let took = sees_word-took (codes "auto") r sees in
        local_of-sound Auto r (skip r) stored_auto (λ _. (token_steps 0 refl took, took.steady, rw took.begins auto_class))
    by false sees = local_of-sound Plain r r stored_plain (λ going. (no_steps r going, refl, no_class))

pub record ReadsLocals (r : Reader) (g : Got (List PartialVariable)) : Type 0 where
  pub steps : Steps 0 0 r g.following
  pub steady : g.following.depth ≡ r.depth
  pub derived : AreLocals (tokens_of r.left) (map plain_variable g.value) (tokens_of g.following.left)

pub locals-keep : (calls : ℕ) (r : Reader) → GoesOn r (read_locals calls r).following
locals-keep zero r = λ going. going
locals-keep (suc calls) r =
    if-cases (λ (g : Got (List PartialVariable)). GoesOn r g.following) (sees_word (codes "auto") r || begins_type (next_token r))
    (λ _ going. (local-sound r (locals-keep calls (read_local r).following going)).steps.passed.going) (λ _ going. going)

no_locals : (r : Reader) → r.stop ≡ None → ReadsLocals r (got [] r)
no_locals r going = record { steps = no_steps r going; steady = refl; derived = no_local }

pub locals-sound : (calls : ℕ) (r : Reader) → (read_locals calls r).following.stop ≡ None → ReadsLocals r (read_locals calls r)
locals-sound zero r = λ going. no_locals r going
locals-sound (suc calls) r =
    if-cases (λ g. g.following.stop ≡ None → ReadsLocals r g) (sees_word (codes "auto") r || begins_type (next_token r))
    (λ _ going.
    let first = local-sound r (locals-keep calls (read_local r).following going) in
    let others = locals-sound calls (read_local r).following going in
    record { steps = then_steps first.steps others.steps; steady = others.steady ∙ first.steady; derived = one_local first.derived others.derived })
    (λ _ going. no_locals r going)

-- Parameters.

record ReadsClass (r : Reader) (g : Got Class) : Type 0 where
  steps : Steps 1 1 r g.following
  steady : g.following.depth ≡ r.depth
  derived : HasClass (tokens_of r.left) g.value (tokens_of g.following.left)

class-sound : (r : Reader) → (read_class r).following.stop ≡ None → ReadsClass r (read_class r)
class-sound r =
    if-cases (λ g. g.following.stop ≡ None → ReadsClass r g) (sees_word (codes "register") r)
    (λ sees _. let took = sees_word-took (codes "register") r sees in record { steps = token_steps 1 refl took; steady = took.steady; derived = rw took.begins register_class })
    (λ _. if-cases (λ g. g.following.stop ≡ None → ReadsClass r g) (sees_word (codes "auto") r)
    (λ sees _. let took = sees_word-took (codes "auto") r sees in record { steps = token_steps 1 refl took; steady = took.steady; derived = rw took.begins auto_class })
    (λ _ going. record { steps = no_steps r going; steady = refl; derived = no_class }))

record ReadsParam (r : Reader) (g : Got PartialVariable) : Type 0 where
  steps : Steps 1 1 r g.following
  steady : g.following.depth ≡ r.depth
  derived : IsParam (tokens_of r.left) (plain_variable g.value) (tokens_of g.following.left)

param-sound : (r : Reader) → (read_param r).following.stop ≡ None → ReadsParam r (read_param r)
param-sound r going =
    let class = read_class r in
    let type = take_type class.following in
    let name = take_name type.following in
    let named = name-sound type.following going in
    let typed = type-sound class.following named.took.passed.going in
    let classed = class-sound r typed.passed.going in
    let name_is : plain_name name.value ≡ named.name.word = ap plain_name named.is in
    let type_is : plain_type type.value ≡ typed.type = ap plain_type typed.is in
    record {
      steps = then_steps classed.steps (then_steps (type_steps 1 typed) (token_steps 1 refl named.took));
      steady = named.took.steady ∙ (typed.steady ∙ classed.steady);
      derived = record {
        name_at = named.took.line;
        typed = tokens_of class.following.left;
        class_is = classed.derived;
        type_is = subst (λ t. Begins (tokens_of class.following.left) (type_tokens t) (word named.took.line (plain_name name.value) ∷ tokens_of name.following.left)) (sym type_is) (subst (λ w. Begins (tokens_of class.following.left) (type_tokens typed.type) (word named.took.line w ∷ tokens_of name.following.left)) (sym name_is) (subst (λ ts. Begins (tokens_of class.following.left) (type_tokens typed.type) ts) named.took.begins typed.derived));
        name_is = subst (λ w. is_name w ≡ true) (sym name_is) named.good;
        no_len = refl;
      };
    }

pub params_more-keep : (calls : ℕ) (r : Reader) → GoesOn r (more_params calls r).following
params_more-keep zero r = λ going. going
params_more-keep (suc calls) r =
    if-cases (λ (g : Got (List PartialVariable)). GoesOn r g.following) (sees_mark (codes ",") r)
    (λ _ going. (param-sound (skip r) (params_more-keep calls (read_param (skip r)).following going)).steps.passed.going) (λ _ going. going)

record ReadsMoreParams (r : Reader) (g : Got (List PartialVariable)) : Type 0 where
  steps : Steps 1 1 r g.following
  steady : g.following.depth ≡ r.depth
  derived : (all : List Placed) (v : Variable) → IsParam all v (tokens_of r.left) → AreSomeParams all (v ∷ map plain_variable g.value) (tokens_of g.following.left)

no_more_params : (r : Reader) → r.stop ≡ None → ReadsMoreParams r (got [] r)
no_more_params r going = record { steps = no_steps r going; steady = refl; derived = λ all v is. last_param is }

more_params-sound : (calls : ℕ) (r : Reader) → (more_params calls r).following.stop ≡ None → ReadsMoreParams r (more_params calls r)
more_params-sound zero r = λ going. no_more_params r going
more_params-sound (suc calls) r =
    if-cases (λ g. g.following.stop ≡ None → ReadsMoreParams r g) (sees_mark (codes ",") r)
    (λ sees going.
    let comma = sees_mark-took (codes ",") r sees in
    let first = read_param (skip r) in
    let read = param-sound (skip r) (params_more-keep calls first.following going) in
    let more = more_params-sound calls first.following going in
    record {
      steps = then_steps (token_steps 1 refl comma) (then_steps read.steps more.steps);
      steady = more.steady ∙ (read.steady ∙ comma.steady);
      derived = λ all v is. more_of (subst (λ ts. IsParam all v ts) comma.begins is) (more.derived (tokens_of (skip r).left) (plain_variable first.value) read.derived);
    })
    (λ _ going. no_more_params r going)

pub record ReadsParams (r : Reader) (g : Got (List PartialVariable)) : Type 0 where
  pub steps : Steps 1 1 r g.following
  pub steady : g.following.depth ≡ r.depth
  pub derived : AreParams (tokens_of r.left) (map plain_variable g.value) (tokens_of g.following.left)

pub params-sound : (calls : ℕ) (r : Reader) → (read_params calls r).following.stop ≡ None → ReadsParams r (read_params calls r)
params-sound calls r =
    if-cases (λ g. g.following.stop ≡ None → ReadsParams r g) (sees_word (codes "void") r)
    (λ sees _. let took = sees_word-took (codes "void") r sees in record { steps = token_steps 1 refl took; steady = took.steady; derived = rw took.begins no_param })
    (λ _ going.
    let first = read_param r in
    let read = param-sound r (params_more-keep calls first.following going) in
    let more = more_params-sound calls first.following going in
    record { steps = then_steps read.steps more.steps; steady = more.steady ∙ read.steady; derived = some_params (more.derived (tokens_of r.left) (plain_variable first.value) read.derived) })
