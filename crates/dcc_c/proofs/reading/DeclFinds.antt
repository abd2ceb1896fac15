-- Declarations of the grammar are read: sizes, initial values, local variables and parameters.
use Rattle.std.proofs.Common.{◌≡◌, ℕ, zero, suc, ◌≤◌, length, List, [], ◌∷◌, ◌++◌, map, true, false, Bool, Option, Some, None, refl, sym, ap, ap₂, ◌∙◌, arith, true≢false, ◌<◌}
use Rattle.std.specs.Prelude.{codes, not, ◌||◌, if◌then◌else◌, option_map}
use Rattle.std.proofs.lemmas.Bool.{or_right}
use Rattle.dcc_c.specs.declared.syntax.CType.{CType}
use Rattle.dcc_c.specs.declared.syntax.Class.{Class}
use Rattle.dcc_c.specs.declared.syntax.Class.TheVariants.{Plain, Auto}
use Rattle.dcc_c.specs.Token.{Token, WordToken}
use Rattle.dcc_c.specs.Lexing.{Placed}
use Rattle.dcc_c.specs.Tree.{Word, Variable}
use Rattle.dcc_c.specs.Grammar.{mark, word, is_name, type_tokens, Begins, HasSize, no_size, size, AreNumbers, last_number, more_numbers, AreInitial, no_value, one_value, values, HasClass, no_class, auto_class, register_class, IsParam, AreSomeParams, last_param, more_params as more_of, AreParams, no_param, some_params, IsLocalClass, plain_local, array_local, auto_local, IsLocal, AreLocals, no_local, one_local}
use Rattle.dcc_c.specs.Partial.{WordAt, NumberAt, PartialVariable}
use Rattle.dcc_c.specs.Reading.{Reader, Got, got, is_stopped, next_token, skip, is_the_mark, is_the_word, sees_mark, sees_word, take_mark, take_name, take_plain, take_type, begins_type}
use Rattle.dcc_c.specs.ReadingStatements.{read_size, list_of, more_values, read_init, class_with, read_local, read_locals, read_class, read_param, more_params, read_params}
use Rattle.dcc_c.specs.Stripped.{plain_numbers, plain_variable}
use Rattle.dcc_c.proofs.reading.Passing.{the_word-is}
use Rattle.dcc_c.proofs.reading.Statements.{IsEnoughFor, on, first_of}
use Rattle.dcc_c.proofs.reading.Stopping.{if-true, if-false}
use Rattle.dcc_c.proofs.reading.Derivations.{begins-length}
use Rattle.dcc_c.proofs.reading.TypeComplete.{type-complete}
use Rattle.dcc_c.proofs.reading.PartsComplete.{take_name-is}
use Rattle.dcc_c.proofs.reading.DeclSound.{local_of}

-- a word with which no type begins
pub type_no_word : (bytes : Word) (token : Option Token) → begins_type token ≡ true → begins_type (Some (WordToken bytes)) ≡ false → is_the_word bytes token ≡ false
type_no_word bytes token begins never = by (is_the_word bytes token) refl
  where
    by : (b : Bool) → is_the_word bytes token ≡ b → b ≡ false
    by true is = absurd (true≢false (sym begins ∙ (ap begins_type (the_word-is bytes token is) ∙ never)))
    by false is = refl

-- Sizes and initial values.

pub record FindsSize (len : Option ℕ) (rest : List Placed) (depth : ℕ) (g : Got (Option NumberAt)) : Type 0 where
  pub partial : Option NumberAt
  pub following : ℕ
  pub same : option_map (λ n. n.value) partial ≡ len
  pub is : g ≡ got partial (on rest following depth)

pub size-complete : {tokens rest : List Placed} {len : Option ℕ} → HasSize tokens len rest → is_the_mark (codes "[") (first_of rest) ≡ false → (at depth : ℕ) →
    FindsSize len rest depth (read_size (on tokens at depth))
size-complete (no_size {rest}) ends at depth = record { partial = None; following = at; same = refl; is = if-false (is_the_mark (codes "[") (first_of rest)) _ _ ends }
size-complete (size {n}) ends at depth = record { partial = Some (record { value = n; at = suc at }); following = suc (suc (suc at)); same = refl; is = refl }

pub record FindsNumbers (ns : List ℕ) (rest : List Placed) (depth : ℕ) (g : Got (List NumberAt)) : Type 0 where
  pub numbers : List NumberAt
  pub following : ℕ
  pub same : plain_numbers numbers ≡ ns
  pub is : g ≡ got numbers (on rest following depth)

abbrev some_values : ℕ → Reader → Got (List NumberAt)
some_values calls r =
    let first = take_plain r in
    let others = more_values calls first.following in
    got (list_of first.value ++ others.value) others.following

no_more_values : (calls : ℕ) (r : Reader) → sees_mark (codes ",") r ≡ false → more_values calls r ≡ got [] r
no_more_values zero r ends = refl
no_more_values (suc calls) r ends = if-false (sees_mark (codes ",") r) _ _ ends

numbers-complete : {tokens rest : List Placed} {ns : List ℕ} → AreNumbers tokens ns rest → is_the_mark (codes ",") (first_of rest) ≡ false → (calls at depth : ℕ) → IsEnoughFor calls 0 tokens →
    FindsNumbers ns rest depth (some_values calls (on tokens at depth))
numbers-complete (last_number {at = line} {n} {rest}) ends calls at depth enough =
    record {
      numbers = record { value = n; at = at } ∷ [];
      following = suc at;
      same = refl;
      is = ap (λ (g : Got (List NumberAt)). got (record { value = n; at = at } ∷ g.value) g.following) (no_more_values calls (on rest (suc at) depth) ends);
    }
numbers-complete (more_numbers others) ends zero at depth enough = absurd (omega arith)
numbers-complete (more_numbers {n} others) ends (suc calls) at depth enough =
    let found = numbers-complete others ends calls (suc (suc at)) depth (omega arith) in
    record {
      numbers = record { value = n; at = at } ∷ found.numbers;
      following = found.following;
      same = ap (λ ns. n ∷ ns) found.same;
      is = ap (λ (g : Got (List NumberAt)). got (record { value = n; at = at } ∷ g.value) g.following) found.is;
    }

pub init-complete : {tokens rest : List Placed} {ns : List ℕ} → AreInitial tokens ns rest → is_the_mark (codes "=") (first_of rest) ≡ false → (calls at depth : ℕ) → IsEnoughFor calls 0 tokens →
    FindsNumbers ns rest depth (read_init calls (on tokens at depth))
init-complete (no_value {rest}) ends calls at depth enough = record { numbers = []; following = at; same = refl; is = if-false (is_the_mark (codes "=") (first_of rest)) _ _ ends }
init-complete (one_value {n}) ends calls at depth enough = record { numbers = record { value = n; at = suc at } ∷ []; following = suc (suc at); same = refl; is = refl }
init-complete (values numbers) ends calls at depth enough =
    let found = numbers-complete numbers refl calls (suc (suc at)) depth (omega arith) in
    record {
      numbers = found.numbers;
      following = suc found.following;
      same = found.same;
      is = ap (λ (g : Got (List NumberAt)). got g.value (take_mark (codes "}") g.following)) found.is;
    }

-- Local variables.

pub record FindsVariable (v : Variable) (rest : List Placed) (depth : ℕ) (g : Got PartialVariable) : Type 0 where
  pub partial : PartialVariable
  pub following : ℕ
  pub same : plain_variable partial ≡ v
  pub is : g ≡ got partial (on rest following depth)

class_same : {spelled class : Class} {len : Option ℕ} → IsLocalClass spelled len class → (o : Option NumberAt) → option_map (λ n. n.value) o ≡ len → class_with o spelled ≡ class
class_same plain_local None is = refl
class_same plain_local (Some n) is = absurd cc
class_same array_local None is = absurd cc
class_same array_local (Some n) is = refl
class_same auto_local None is = refl
class_same auto_local (Some n) is = refl

-- a declaration after its class: the steps of reading it
abbrev size_step : Class → Option CType → Option WordAt → Got (Option NumberAt) → Got PartialVariable
size_step class type name found =
    let end = take_mark (codes ";") found.following in
    got (record { name = name; type = type; class = class_with found.value class; size = found.value; init = []; address = 0; done = not (is_stopped end) }) end

abbrev name_step : Class → Option CType → Got (Option WordAt) → Got PartialVariable
name_step class type name = size_step class type name.value (read_size name.following)

abbrev type_step : Class → Got (Option CType) → Got PartialVariable
type_step class type = name_step class type.value (take_name type.following)

after_class : (v : Variable) (class : Class) (name_at end_at : ℕ) (typed after_name rest : List Placed) → Begins typed (type_tokens v.type) (word name_at v.name ∷ after_name) → is_name v.name ≡ true →
    HasSize after_name v.len (mark end_at (codes ";") ∷ rest) → IsLocalClass class v.len v.class → (at depth : ℕ) → FindsVariable v rest depth (local_of class (on typed at depth))
after_class v class name_at end_at typed after_name rest words good len stored at depth =
    let t = type-complete v.type typed (word name_at v.name ∷ after_name) at depth words refl in
    let n : WordAt = record { word = v.name; at = t.following } in
    let s = size-complete len refl (suc t.following) depth in
    record {
      partial = record { name = Some n; type = Some v.type; class = class_with s.partial class; size = s.partial; init = []; address = 0; done = true };
      following = suc s.following;
      same = ap₂ (λ l c. record { name = v.name; type = v.type; len = l; class = c }) s.same (class_same stored s.partial s.same);
      is = ap (type_step class) t.is ∙ (ap (name_step class (Some v.type)) (take_name-is name_at t.following depth v.name after_name good) ∙ ap (size_step class (Some v.type) (Some n)) s.is);
    }

-- a type begins there
type_begins : {typed rest : List Placed} (type : CType) → Begins typed (type_tokens type) rest → is_the_mark (codes "*") (first_of rest) ≡ false → begins_type (first_of typed) ≡ true
type_begins {typed} {rest} type words ends = (type-complete type typed rest 0 0 words ends).begins

-- a local variable is read, and it is seen that one begins
local-complete : (v : Variable) (tokens rest : List Placed) → IsLocal tokens v rest → (at depth : ℕ) →
    FindsVariable v rest depth (read_local (on tokens at depth)) × ((sees_word (codes "auto") (on tokens at depth) || begins_type (next_token (on tokens at depth))) ≡ true)
local-complete v tokens rest is at depth = by is.class_is is.type_is is.stored_is
  where
    by : {all typed : List Placed} {spelled : Class} → HasClass all spelled typed → Begins typed (type_tokens v.type) (word is.name_at v.name ∷ is.after_name) → IsLocalClass spelled v.len v.class →
        FindsVariable v rest depth (read_local (on all at depth)) × ((sees_word (codes "auto") (on all at depth) || begins_type (next_token (on all at depth))) ≡ true)
    by (no_class {rest = typed}) words stored =
        let found = after_class v Plain is.name_at is.end_at typed is.after_name rest words is.name_is is.len_is stored at depth in
        let begins = type_begins v.type words refl in
        let no_auto : is_the_word (codes "auto") (first_of typed) ≡ false = type_no_word (codes "auto") (first_of typed) begins refl in
        (record { partial = found.partial; following = found.following; same = found.same; is = ap (λ b. local_of (if b then Auto else Plain) (if b then skip (on typed at depth) else on typed at depth)) no_auto ∙ found.is }, or_right _ _ begins)
    by (auto_class {rest = typed}) words stored =
        let found = after_class v Auto is.name_at is.end_at typed is.after_name rest words is.name_is is.len_is stored (suc at) depth in
        (record { partial = found.partial; following = found.following; same = found.same; is = found.is }, refl)
    by register_class words stored = elim stored [ ]

-- Local variables, one after the other.

pub record FindsVariables (vs : List Variable) (rest : List Placed) (depth : ℕ) (g : Got (List PartialVariable)) : Type 0 where
  pub partials : List PartialVariable
  pub following : ℕ
  pub same : map plain_variable partials ≡ vs
  pub is : g ≡ got partials (on rest following depth)

no_locals-complete : (calls at depth : ℕ) (rest : List Placed) → (is_the_word (codes "auto") (first_of rest) || begins_type (first_of rest)) ≡ false →
    read_locals calls (on rest at depth) ≡ got [] (on rest at depth)
no_locals-complete zero at depth rest ends = refl
no_locals-complete (suc calls) at depth rest ends = if-false (is_the_word (codes "auto") (first_of rest) || begins_type (first_of rest)) _ _ ends

abbrev local_then : ℕ → Got PartialVariable → Got (List PartialVariable)
local_then calls first = got (first.value ∷ (read_locals calls first.following).value) (read_locals calls first.following).following

class_length : {tokens typed : List Placed} {class : Class} → HasClass tokens class typed → length typed ≤ length tokens
class_length no_class = omega arith
class_length auto_class = omega arith
class_length register_class = omega arith

size_length : {tokens rest : List Placed} {len : Option ℕ} → HasSize tokens len rest → length rest ≤ length tokens
size_length no_size = omega arith
size_length size = omega arith

pub local_length : {v : Variable} {tokens rest : List Placed} → IsLocal tokens v rest → length rest < length tokens
local_length is = omega (arith, class_length is.class_is, begins-length is.type_is, size_length is.len_is)

pub locals-complete : {tokens rest : List Placed} {vs : List Variable} → AreLocals tokens vs rest → (is_the_word (codes "auto") (first_of rest) || begins_type (first_of rest)) ≡ false → (calls at depth : ℕ) →
    IsEnoughFor calls 0 tokens → FindsVariables vs rest depth (read_locals calls (on tokens at depth))
locals-complete (no_local {rest}) ends calls at depth enough = record { partials = []; following = at; same = refl; is = no_locals-complete calls at depth rest ends }
locals-complete (one_local is others) ends zero at depth enough = absurd (omega (arith, local_length is))
locals-complete (one_local {tokens} {others = more_tokens} {v} {locals} is others) ends (suc calls) at depth enough =
    let first = local-complete v tokens more_tokens is at depth in
    let found = locals-complete others ends calls first.0.following depth (omega (arith, local_length is)) in
    record {
      partials = first.0.partial ∷ found.partials;
      following = found.following;
      same = ap (λ x. x ∷ map plain_variable found.partials) first.0.same ∙ ap (λ xs. v ∷ xs) found.same;
      is = if-true (sees_word (codes "auto") (on tokens at depth) || begins_type (first_of tokens)) _ _ first.1
          ∙ (ap (local_then calls) first.0.is ∙ ap (λ (g : Got (List PartialVariable)). got (first.0.partial ∷ g.value) g.following) found.is);
    }

-- Parameters.

abbrev param_name : Class → Option CType → Got (Option WordAt) → Got PartialVariable
param_name class type name =
    got (record { name = name.value; type = type; class = class; size = None; init = []; address = 0; done = not (is_stopped name.following) }) name.following

abbrev param_type : Class → Got (Option CType) → Got PartialVariable
param_type class type = param_name class type.value (take_name type.following)

abbrev param_class : Got Class → Got PartialVariable
param_class class = param_type class.value (take_type class.following)

param_after : (v : Variable) (name_at : ℕ) (typed rest : List Placed) → Begins typed (type_tokens v.type) (word name_at v.name ∷ rest) → is_name v.name ≡ true → v.len ≡ None → (at depth : ℕ) →
    FindsVariable v rest depth (param_type v.class (take_type (on typed at depth)))
param_after v name_at typed rest words good no_len at depth =
    let t = type-complete v.type typed (word name_at v.name ∷ rest) at depth words refl in
    let n : WordAt = record { word = v.name; at = t.following } in
    record {
      partial = record { name = Some n; type = Some v.type; class = v.class; size = None; init = []; address = 0; done = true };
      following = suc t.following;
      same = ap (λ l. record { name = v.name; type = v.type; len = l; class = v.class }) (sym no_len);
      is = ap (param_type v.class) t.is ∙ ap (param_name v.class (Some v.type)) (take_name-is name_at t.following depth v.name rest good);
    }

class-complete : {tokens typed : List Placed} {class : Class} → HasClass tokens class typed → begins_type (first_of typed) ≡ true → (at depth : ℕ) →
    (following : ℕ) × (read_class (on tokens at depth) ≡ got class (on typed following depth)) × (is_the_word (codes "void") (first_of tokens) ≡ false)
class-complete (no_class {rest}) begins at depth =
    (at, if-false (is_the_word (codes "register") (first_of rest)) _ _ (type_no_word (codes "register") (first_of rest) begins refl) ∙ if-false (is_the_word (codes "auto") (first_of rest)) _ _ (type_no_word (codes "auto") (first_of rest) begins refl), type_no_word (codes "void") (first_of rest) begins refl)
class-complete auto_class begins at depth = (suc at, refl, refl)
class-complete register_class begins at depth = (suc at, refl, refl)

param-complete : (v : Variable) (tokens rest : List Placed) → IsParam tokens v rest → (at depth : ℕ) →
    FindsVariable v rest depth (read_param (on tokens at depth)) × (is_the_word (codes "void") (first_of tokens) ≡ false)
param-complete v tokens rest is at depth =
    let c = class-complete is.class_is (type_begins v.type is.type_is refl) at depth in
    let found = param_after v is.name_at is.typed rest is.type_is is.name_is is.no_len c.0 depth in
    (record { partial = found.partial; following = found.following; same = found.same; is = ap param_class c.1 ∙ found.is }, c.2)

pub param_length : {v : Variable} {tokens rest : List Placed} → IsParam tokens v rest → length rest < length tokens
param_length is = omega (arith, class_length is.class_is, begins-length is.type_is)

abbrev param_then : ℕ → Got PartialVariable → Got (List PartialVariable)
param_then calls first = got (first.value ∷ (more_params calls first.following).value) (more_params calls first.following).following

no_more_params : (calls : ℕ) (r : Reader) → sees_mark (codes ",") r ≡ false → more_params calls r ≡ got [] r
no_more_params zero r ends = refl
no_more_params (suc calls) r ends = if-false (sees_mark (codes ",") r) _ _ ends

some_params-complete : {tokens rest : List Placed} {vs : List Variable} → AreSomeParams tokens vs rest → is_the_mark (codes ",") (first_of rest) ≡ false → (calls at depth : ℕ) → IsEnoughFor calls 0 tokens →
    FindsVariables vs rest depth (param_then calls (read_param (on tokens at depth))) × (is_the_word (codes "void") (first_of tokens) ≡ false)
some_params-complete (last_param {tokens} {rest} {v} is) ends calls at depth enough =
    let first = param-complete v tokens rest is at depth in (
      record {
        partials = first.0.partial ∷ [];
        following = first.0.following;
        same = ap (λ x. x ∷ []) first.0.same;
        is = ap (param_then calls) first.0.is ∙ ap (λ (g : Got (List PartialVariable)). got (first.0.partial ∷ g.value) g.following) (no_more_params calls (on rest first.0.following depth) ends);
      },
      first.1,
    )
some_params-complete (more_of is others) ends zero at depth enough = absurd (omega (arith, param_length is))
some_params-complete (more_of {comma} {tokens} {others = more_tokens} {v} {params} is others) ends (suc calls) at depth enough =
    let first = param-complete v tokens (mark comma (codes ",") ∷ more_tokens) is at depth in
    let found = some_params-complete others ends calls (suc first.0.following) depth (omega (arith, param_length is)) in (
      record {
        partials = first.0.partial ∷ found.0.partials;
        following = found.0.following;
        same = ap (λ x. x ∷ map plain_variable found.0.partials) first.0.same ∙ ap (λ xs. v ∷ xs) found.0.same;
        is = ap (param_then (suc calls)) first.0.is ∙ ap (λ (g : Got (List PartialVariable)). got (first.0.partial ∷ g.value) g.following) found.0.is;
      },
      first.1,
    )

pub params-complete : {closing : ℕ} {tokens rest : List Placed} {vs : List Variable} → AreParams tokens vs (mark closing (codes ")") ∷ rest) → (calls at depth : ℕ) → IsEnoughFor calls 0 tokens →
    FindsVariables vs (mark closing (codes ")") ∷ rest) depth (read_params calls (on tokens at depth))
params-complete no_param calls at depth enough = record { partials = []; following = suc at; same = refl; is = refl }
params-complete (some_params {tokens} some) calls at depth enough =
    let found = some_params-complete some refl calls at depth enough in
    record { partials = found.0.partials; following = found.0.following; same = found.0.same; is = if-false (is_the_word (codes "void") (first_of tokens)) _ _ found.1 ∙ found.0.is }
