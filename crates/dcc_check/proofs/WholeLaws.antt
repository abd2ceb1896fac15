-- What the whole text knows, part by part.
use Rattle.std.proofs.Common.{◌≡◌, List, ◌++◌, Option, Some, None, refl, sym, ap, ◌∙◌}
use Rattle.std.specs.Prelude.{option_map}
use Rattle.dcc_c.specs.Dos as dos
use Rattle.dcc_c.specs.Known.{Known, known_as}
use Rattle.dcc_c.specs.Tree.{Word}
use Rattle.dcc_c.specs.Typing as typing
use Rattle.dcc_ctypes.specs.declared.names.Declared.{Declared}
use Rattle.dcc_check.specs.Declarations.{first_found}
use Rattle.dcc_ctypes.specs.NameViews.{unnamed}
use Rattle.dcc_check.specs.Contexts.{head_of}
use Rattle.dcc_check.proofs.MapLaws.{known-append, declared-append, map-found, found-group}

-- the functions of three lists
pub three-lists : (a b c : List Known) (word : Word) (none first second third : Option (Option dos.Signature)) → none ≡ None →
    first ≡ first_found none (option_map head_of (known_as a word)) → second ≡ first_found first (option_map head_of (known_as b word)) →
    third ≡ first_found second (option_map head_of (known_as c word)) → third ≡ option_map head_of (known_as (a ++ (b ++ c)) word)
three-lists a b c word none first second third none_is first_is second_is third_is =
    let A = option_map head_of (known_as a word) in
    let B = option_map head_of (known_as b word) in
    let C = option_map head_of (known_as c word) in
    third_is
    ∙ ap (λ o. first_found o C) (second_is ∙ ap (λ o. first_found o B) (first_is ∙ ap (λ o. first_found o A) none_is))
    ∙ found-group A B C
    ∙ ap (λ o. first_found A o) (sym (map-found head_of (known_as b word) (known_as c word)) ∙ ap (option_map head_of) (sym (known-append b c word)))
    ∙ sym (map-found head_of (known_as a word) (known_as (b ++ c) word))
    ∙ ap (option_map head_of) (sym (known-append a (b ++ c) word))

-- the variables of two lists
pub two-lists : (a b : List typing.Declared) (word : Word) (none first second : Option Declared) → none ≡ None →
    first ≡ first_found none (option_map unnamed (typing.declared_as a word)) → second ≡ first_found first (option_map unnamed (typing.declared_as b word)) →
    second ≡ option_map unnamed (typing.declared_as (a ++ b) word)
two-lists a b word none first second none_is first_is second_is =
    let A = option_map unnamed (typing.declared_as a word) in
    let B = option_map unnamed (typing.declared_as b word) in
    second_is
    ∙ ap (λ o. first_found o B) (first_is ∙ ap (λ o. first_found o A) none_is)
    ∙ sym (map-found unnamed (typing.declared_as a word) (typing.declared_as b word))
    ∙ ap (option_map unnamed) (sym (declared-append a b word))

-- local variables before global ones
pub locals-first : (a b g : List typing.Declared) (word : Word) (own outer : Option Declared) →
    own ≡ option_map unnamed (typing.declared_as (a ++ b) word) → outer ≡ option_map unnamed (typing.declared_as g word) →
    first_found own outer ≡ option_map unnamed (typing.declared_as (a ++ (b ++ g)) word)
locals-first a b g word own outer own_is outer_is =
    let A = typing.declared_as a word in
    let B = typing.declared_as b word in
    let G = typing.declared_as g word in
    ap (λ o. first_found o outer) own_is
    ∙ ap (λ o. first_found (option_map unnamed (typing.declared_as (a ++ b) word)) o) outer_is
    ∙ sym (map-found unnamed (typing.declared_as (a ++ b) word) G)
    ∙ ap (option_map unnamed)
    (ap (λ o. first_found o G) (declared-append a b word) ∙ found-group A B G
    ∙ ap (λ o. first_found A o) (sym (declared-append b g word)) ∙ sym (declared-append a (b ++ g) word))

pub variable-found : (own outer : Option Declared) → (elim own [ Some d ↦ Some d | None ↦ outer ]) ≡ first_found own outer
variable-found (Some d) outer = refl
variable-found None outer = refl
