-- What is known of each function of a text.
use Rattle.std.proofs.Common.{◌≡◌, ℕ, Bool, true, false, ◌||◌, not, List, [], ◌∷◌, ◌++◌, map, Option, Some, None, refl, sym, ap, ◌∙◌, subst}
use Rattle.std.specs.Prelude.{codes, is_some, if◌then◌else◌}
use Rattle.std.specs.List.{list_any}
use Rattle.std.proofs.lemmas.Bool.{and_parts, or_left}
use Rattle.dcc_c.specs.declared.syntax.Class.{Class}
use Rattle.dcc_c.specs.Token.{same_bytes}
use Rattle.dcc_c.specs.Lexing.{Placed}
use Rattle.dcc_c.specs.Tree.{Word, Variable, Function, Tree}
use Rattle.dcc_c.specs.Placement.{is_auto}
use Rattle.dcc_c.specs.Grammar.{is_among, AreSomeParams, last_param, more_params, AreParams, no_param, some_params, IsLocalClass, plain_local, array_local, auto_local, AreLocals, no_local, one_local, IsFunction, AreFunctions, last_function, more_functions, IsUnit}
use Rattle.dcc_c.specs.Dos.{dos_names}
use Rattle.dcc_c.specs.Rules.{all_differ, IsAllowedFunction, AreAllowed, no_more, one_more, IsAllowed}
use Rattle.dcc_c.specs.Run.{is_start, function_in}
use Rattle.dcc_progress.specs.Stuck.{IsOneOf, is_first, is_later}
use Rattle.dcc_progress.proofs.Bodies.{any_left}
use Rattle.dcc_c.proofs.NameLaws.{same_bytes-equal, same_bytes-refl}
use Rattle.dcc_progress.proofs.Jumps.{Jumps, lines_jumps}

-- parameters are no arrays
abbrev pub AreSingle : List Variable → Type 0
AreSingle [] = Unit {0}
AreSingle (v ∷ params) = (v.len ≡ None) × AreSingle params

-- local arrays are placed
abbrev pub AreStored : List Variable → Type 0
AreStored [] = Unit {0}
AreStored (v ∷ locals) = (is_some v.len ≡ true → is_auto v.class ≡ true) × AreStored locals

-- what the grammar says of a function
pub record IsFormed (f : Function) : Type 0 where
  pub jumps : Jumps false false f.body
  pub params : AreSingle f.params
  pub locals : AreStored f.locals

some-single : {tokens rest : List Placed} {params : List Variable} → AreSomeParams tokens params rest → AreSingle params
some-single (last_param p) = (p.no_len, tt)
some-single (more_params p others) = (p.no_len, some-single others)

all-single : {tokens rest : List Placed} {params : List Variable} → AreParams tokens params rest → AreSingle params
all-single no_param = tt
all-single (some_params params) = some-single params

class-stored : {spelled class : Class} {len : Option ℕ} → IsLocalClass spelled len class → is_some len ≡ true → is_auto class ≡ true
class-stored plain_local is = absurd cc
class-stored array_local is = refl
class-stored auto_local is = refl

all-stored : {tokens rest : List Placed} {locals : List Variable} → AreLocals tokens locals rest → AreStored locals
all-stored no_local = tt
all-stored (one_local l others) = (class-stored l.stored_is, all-stored others)

function-formed : {limit : ℕ} {tokens rest : List Placed} {f : Function} → IsFunction limit tokens f rest → IsFormed f
function-formed is =
    record { jumps = lines_jumps is.body_is; params = all-single is.params_are; locals = all-stored is.locals_are }

one-formed : {limit : ℕ} {tokens : List Placed} {f : Function} {functions : List Function} → AreFunctions limit tokens functions → IsOneOf f functions → IsFormed f
one-formed (last_function is) is_first = function-formed is
one-formed (last_function is) (is_later one) = elim one [ ]
one-formed (more_functions is others) is_first = function-formed is
one-formed (more_functions is others) (is_later one) = one-formed others one

one-allowed : {tree : Tree} {f : Function} {functions : List Function} → AreAllowed tree functions → IsOneOf f functions → IsAllowedFunction tree f
one-allowed no_more one = elim one [ ]
one-allowed (one_more is others) is_first = is
one-allowed (one_more is others) (is_later one) = one-allowed others one

-- what a search finds is one of the list
pub found-one : (functions : List Function) (word : Word) (g : Function) → function_in functions word ≡ Some g → IsOneOf g functions
found-one [] word g is = absurd cc
found-one (f ∷ functions) word g is =
    elim (same_bytes f.name word) as (λ same. (if same then Some f else function_in functions word) ≡ Some g → IsOneOf g (f ∷ functions)) [
      | true ↦ λ here. let own : f ≡ g = cc in subst (λ h. IsOneOf g (h ∷ functions)) (sym own) is_first
      | false ↦ λ further. is_later (found-one functions word g further)
    ] is

-- There is one function `start`.

differ-following : (front words : List Word) → all_differ (front ++ words) ≡ true → all_differ words ≡ true
differ-following [] words differ = differ
differ-following (word ∷ front) words differ =
    differ-following front words (and_parts (not (is_among (front ++ words) word)) (all_differ (front ++ words)) differ).1

named-among : {f : Function} {functions : List Function} (word : Word) → f.name ≡ word → IsOneOf f functions → list_any (same_bytes word) (map (λ g. g.name) functions) ≡ true
named-among {f} word is (is_first {functions}) =
    or_left (same_bytes word f.name) _ (ap (same_bytes word) is ∙ same_bytes-refl word)
named-among {f} word is (is_later {g} {functions} one) =
    any_left-of (same_bytes word g.name) (list_any (same_bytes word) (map (λ h. h.name) functions)) (named-among word is one)
  where
    any_left-of : (a b : Bool) → b ≡ true → (a || b) ≡ true
    any_left-of true b is = refl
    any_left-of false b is = is

-- a function with the name of the first one is the first one
same-first : {f start : Function} {others : List Function} → f.name ≡ start.name → all_differ (map (λ g. g.name) (start ∷ others) ++ dos_names) ≡ true → IsOneOf f (start ∷ others) → f ≡ start
same-first same differ is_first = refl
same-first {f} {start} {others} same differ (is_later one) =
    let words = map (λ g. g.name) others ++ dos_names in
    let (alone, _) = and_parts (not (is_among words start.name)) (all_differ words) differ in
    let there : is_among words start.name ≡ true =
    any_left (same_bytes start.name) (map (λ g. g.name) others) dos_names (named-among start.name same one)
    in
    let no : not true ≡ true = ap not (sym there) ∙ alone in
    absurd cc

-- What is known of a function of the text.
pub record IsKnown (tree : Tree) (f : Function) : Type 0 where
  pub one : IsOneOf f tree.functions
  pub allowed : IsAllowedFunction tree f
  pub formed : IsFormed f
  pub starts : is_start f ≡ true → f.result ≡ None

pub all-known : {limit : ℕ} {tokens : List Placed} {tree : Tree} {f : Function} → IsUnit limit tokens tree → IsAllowed tree → IsOneOf f tree.functions → IsKnown tree f
all-known {limit} {tokens} {tree} {f} unit rules one = record {
  one = one;
  allowed = one-allowed rules.functions one;
  formed = one-formed unit.functions_are one;
  starts = λ start.
      let same : f.name ≡ rules.start.name = same_bytes-equal f.name (codes "start") start ∙ sym rules.name in
      let differ : all_differ (map (λ g. g.name) tree.functions ++ dos_names) ≡ true = differ-following (map (λ g. g.name) tree.globals) _ rules.names in
      let first : f ≡ rules.start =
      same-first same (subst (λ fs. all_differ (map (λ g. g.name) fs ++ dos_names) ≡ true) rules.first differ) (subst (IsOneOf f) rules.first one)
      in
      ap (λ g. g.result) first ∙ rules.no_result;
}
