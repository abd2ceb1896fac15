-- A declaration that has been read is complete.
use Rattle.std.proofs.Common.{◌≡◌, ℕ, zero, suc, length, List, ◌∷◌, Bool, true, false, Option, Some, None, refl, sym, ap, ◌∙◌, arith}
use Rattle.std.specs.Prelude.{codes, ◌&&◌, ◌||◌, ◌==◌, is_some, if◌then◌else◌}
use Rattle.std.specs.List.{list_all}
use Rattle.std.proofs.lemmas.Bool.{and_from, or_left, or_right, false_from_ne_true, eqb-true}
use Rattle.dcc_c.specs.declared.syntax.Base.{Base}
use Rattle.dcc_c.specs.declared.syntax.CType.{CType}
use Rattle.dcc_c.specs.declared.syntax.Class.{Class}
use Rattle.dcc_c.specs.declared.syntax.Class.TheVariants.{Plain, Auto}
use Rattle.dcc_c.specs.Partial.{PartialVariable}
use Rattle.dcc_c.specs.Reading.{Reader, Got, got, next_token, skip, sees_mark, sees_word, take_mark, take_name, take_base, with_star, take_type, begins_type}
use Rattle.dcc_c.specs.ReadingStatements.{read_size, read_init, read_local, read_locals, read_class, read_param, more_params, read_params}
use Rattle.dcc_c.specs.ReadingText.{Begun, read_begun, read_global}
use Rattle.dcc_c.specs.Complete.{is_complete_variable, agree}
use Rattle.dcc_c.proofs.reading.Passing.{if-cases, fail-stops}
use Rattle.dcc_c.proofs.reading.Words.{type-sound}
use Rattle.dcc_c.proofs.reading.Stopping.{GoesOn}
use Rattle.dcc_c.proofs.reading.StmtStopping.{mark-keeps}
use Rattle.dcc_c.proofs.reading.Steps.{name-sound}
use Rattle.dcc_c.proofs.reading.DeclSound.{size-sound, init-sound, local_of, locals-keep, params_more-keep}
use Rattle.dcc_c.proofs.reading.SimpleWhole.{going-done}

-- reading that has not stopped has read the whole variable
abbrev pub EntireVariable : Got PartialVariable → Type 0
EntireVariable g = g.following.stop ≡ None → is_complete_variable g.value ≡ true

abbrev pub EntireVariables : Got (List PartialVariable) → Type 0
EntireVariables g = g.following.stop ≡ None → list_all is_complete_variable g.value ≡ true

-- a variable with a name, a type and an end
pub variable-whole : (v : PartialVariable) → is_some v.name ≡ true → is_some v.type ≡ true → v.done ≡ true → is_complete_variable v ≡ true
variable-whole v named typed done = and_from (is_some v.name) (is_some v.type && v.done) named (and_from (is_some v.type) v.done typed done)

pub is-there : {A : Type 0} (o : Option A) (a : A) → o ≡ Some a → is_some o ≡ true
is-there o a is = ap is_some is

-- Local variables.

local_of-entire : (class : Class) (here : Reader) → EntireVariable (local_of class here)
local_of-entire class here going =
    let type = take_type here in
    let name = take_name type.following in
    let size = read_size name.following in
    let sized = size-sound name.following (mark-keeps (codes ";") size.following going) in
    let named = name-sound type.following sized.steps.passed.going in
    let typed = type-sound here named.took.passed.going in
    variable-whole (local_of class here).value (is-there name.value named.name named.is) (is-there type.value typed.type typed.is) (going-done (take_mark (codes ";") size.following) going)

local-entire : (r : Reader) → EntireVariable (read_local r)
local-entire r = by (sees_word (codes "auto") r)
  where
    by : (is : Bool) → EntireVariable (local_of (if is then Auto else Plain) (if is then skip r else r))
    by true = local_of-entire Auto (skip r)
    by false = local_of-entire Plain r

pub locals-entire : (calls : ℕ) (r : Reader) → EntireVariables (read_locals calls r)
locals-entire zero r = λ going. refl
locals-entire (suc calls) r =
    if-cases EntireVariables (sees_word (codes "auto") r || begins_type (next_token r))
    (λ _ going. and_from (is_complete_variable (read_local r).value) (list_all is_complete_variable (read_locals calls (read_local r).following).value) (local-entire r (locals-keep calls (read_local r).following going)) (locals-entire calls (read_local r).following going))
    (λ _ going. refl)

-- Parameters.

param-entire : (r : Reader) → EntireVariable (read_param r)
param-entire r going =
    let class = read_class r in
    let type = take_type class.following in
    let name = take_name type.following in
    let named = name-sound type.following going in
    let typed = type-sound class.following named.took.passed.going in
    variable-whole (read_param r).value (is-there name.value named.name named.is) (is-there type.value typed.type typed.is) (going-done name.following going)

more_params-entire : (calls : ℕ) (r : Reader) → EntireVariables (more_params calls r)
more_params-entire zero r = λ going. refl
more_params-entire (suc calls) r =
    if-cases EntireVariables (sees_mark (codes ",") r)
    (λ _ going.
    let first = read_param (skip r) in
    and_from (is_complete_variable first.value) (list_all is_complete_variable (more_params calls first.following).value) (param-entire (skip r) (params_more-keep calls first.following going)) (more_params-entire calls first.following going))
    (λ _ going. refl)

pub params-entire : (calls : ℕ) (r : Reader) → EntireVariables (read_params calls r)
params-entire calls r =
    if-cases EntireVariables (sees_word (codes "void") r) (λ _ going. refl)
    (λ _ going.
    let first = read_param r in
    and_from (is_complete_variable first.value) (list_all is_complete_variable (more_params calls first.following).value) (param-entire r (params_more-keep calls first.following going)) (more_params-entire calls first.following going))

pub not-empty : {A : Type 0} (x : A) (xs : List A) → (length (x ∷ xs) == 0) ≡ false
not-empty x xs = false_from_ne_true (length (x ∷ xs) == 0) (λ is. absurd (let none : length (x ∷ xs) ≡ 0 = eqb-true (length (x ∷ xs)) 0 is in omega (arith, none)))

-- `void` stands where there are no parameters
pub params-agree : (calls : ℕ) (r : Reader) → agree (sees_word (codes "void") r) (length (read_params calls r).value == 0) ≡ true
params-agree calls r =
    if-cases (λ (g : Got (List PartialVariable)). agree (sees_word (codes "void") r) (length g.value == 0) ≡ true) (sees_word (codes "void") r)
    (λ sees. ap (λ b. agree b true) sees)
    (λ none. ap (agree (sees_word (codes "void") r)) (not-empty (read_param r).value (more_params calls (read_param r).following).value) ∙ ap (λ b. agree b false) none)

-- Types.

star-keeps : (base : Base) (following : Reader) → GoesOn following (with_star base following).following
star-keeps base following =
    if-cases (λ (g : Got (Option CType)). GoesOn following g.following) (sees_mark (codes "*") following) (λ _ going. going) (λ _ going. going)

-- the type after its base
abbrev typed_by : Option Base → Reader → Got (Option CType)
typed_by base following = elim base [ Some b ↦ with_star b following | None ↦ got None following ]

typed-keeps : (base : Option Base) (following : Reader) → GoesOn following (typed_by base following).following
typed-keeps (Some base) following = star-keeps base following
typed-keeps None following = λ going. going

base-begins : (r : Reader) → (take_base r).following.stop ≡ None → begins_type (next_token r) ≡ true
base-begins r =
    let result : Got (Option Base) → Type 0 = λ g. g.following.stop ≡ None → begins_type (next_token r) ≡ true in
    let signs : Bool = sees_word (codes "signed") r || sees_word (codes "unsigned") r in
    let sizes : Bool = sees_word (codes "int") r || sees_word (codes "long") r in
    if-cases result (sees_word (codes "int") r) (λ sees _. or_right signs sizes (or_left (sees_word (codes "int") r) (sees_word (codes "long") r) sees))
    (λ _. if-cases result (sees_word (codes "long") r) (λ sees _. or_right signs sizes (or_right (sees_word (codes "int") r) (sees_word (codes "long") r) sees))
    (λ _. if-cases result (sees_word (codes "signed") r) (λ sees _. or_left signs sizes (or_left (sees_word (codes "signed") r) (sees_word (codes "unsigned") r) sees))
    (λ _. if-cases result (sees_word (codes "unsigned") r) (λ sees _. or_left signs sizes (or_right (sees_word (codes "signed") r) (sees_word (codes "unsigned") r) sees))
    (λ _ going. absurd (fail-stops r going)))))

-- a type that was read begins as types do
pub type-begins : (r : Reader) → (take_type r).following.stop ≡ None → begins_type (next_token r) ≡ true
type-begins r going = base-begins r (typed-keeps (take_base r).value (take_base r).following going)

-- Beginnings, and global variables.

-- what was read of a result and a name is there
pub record EntireBegun (begun : Begun) : Type 0 where
  pub named : is_some begun.name ≡ true
  pub typed : agree begun.has_result (is_some begun.result) ≡ true

both-agree : (a b : Bool) → a ≡ true → b ≡ true → agree a b ≡ true
both-agree a b one other = ap (λ x. agree x b) one ∙ other

agreed : (a b : Bool) → a ≡ true → agree a b ≡ true → b ≡ true
agreed a b one both = sym (ap (λ x. agree x b) one) ∙ both

pub begun-entire : (r : Reader) → (read_begun r).following.stop ≡ None → EntireBegun (read_begun r).value
begun-entire r =
    if-cases (λ (g : Got Begun). g.following.stop ≡ None → EntireBegun g.value) (sees_word (codes "void") r)
    (λ _ going. let named = name-sound (skip r) going in record { named = is-there (take_name (skip r)).value named.name named.is; typed = refl })
    (λ _ going.
    let type = take_type r in
    let named = name-sound type.following going in
    let typed = type-sound r named.took.passed.going in
    record {
      named = is-there (take_name type.following).value named.name named.is;
      typed = both-agree (begins_type (next_token r)) (is_some type.value) (type-begins r named.took.passed.going) (is-there type.value typed.type typed.is);
    })

pub global-entire : (calls here : ℕ) (begun : Got Begun) → (begun.following.stop ≡ None → EntireBegun begun.value) → begun.value.has_result ≡ true →
    EntireVariable (read_global calls here begun)
global-entire calls here begun begins has going =
    let size = read_size begun.following in
    let init = read_init calls size.following in
    let values = init-sound calls size.following (mark-keeps (codes ";") init.following going) in
    let sized = size-sound begun.following values.steps.passed.going in
    let head = begins sized.steps.passed.going in
    let typed = agreed begun.value.has_result (is_some begun.value.result) has head.typed in
    variable-whole (read_global calls here begun).value head.named typed (going-done (take_mark (codes ";") init.following) going)
