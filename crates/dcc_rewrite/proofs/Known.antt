-- What is known of the names of a function, and the function that is made of parts.
use Rattle.std.proofs.Common.{◌≡◌, ℕ, ◌++◌, List, Option, Some, None, refl, sym, ap, ◌∙◌, append_assoc}
use Rattle.std.specs.Prelude.{option_map}
use Rattle.dcc_c.specs.declared.syntax.CType.{CType}
use Rattle.dcc_c.specs.Tree.{Word, Variable, Function, Lines}
use Rattle.dcc_c.specs.Typing as typing
use Rattle.dcc_ctypes.specs.declared.names.Declared.{Declared}
use Rattle.dcc_ctypes.specs.NameViews.{unnamed}
use Rattle.dcc_check.specs.Declarations.{first_found}
use Rattle.dcc_check.proofs.MapLaws.{declared-append, map-found}

first-of : (o other : Option Declared) → elim o [ Some d ↦ Some d | None ↦ other ] ≡ first_found o other
first-of (Some d) other = refl
first-of None other = refl

-- a name is one of a function's own, or else a global one
pub known-variable : (own global : Option Declared) (params locals globals : List typing.Declared) (word : Word) → own ≡ option_map unnamed (typing.declared_as (params ++ locals) word) → global ≡ option_map unnamed (typing.declared_as globals word) →
    elim own [ Some d ↦ Some d | None ↦ global ] ≡ option_map unnamed (typing.declared_as (params ++ (locals ++ globals)) word)
known-variable own global params locals globals word is other =
    first-of own global
    ∙ ap (λ o. first_found o global) is
    ∙ ap (λ o. first_found (option_map unnamed (typing.declared_as (params ++ locals) word)) o) other
    ∙ sym (ap (option_map unnamed) (declared-append (params ++ locals) globals word) ∙ map-found unnamed (typing.declared_as (params ++ locals) word) (typing.declared_as globals word))
    ∙ ap (λ names. option_map unnamed (typing.declared_as names word)) (append_assoc params locals globals)

-- a function of these parts
abbrev pub made : Option CType → ℕ → Word → List Variable → List Variable → Lines → Function
made result last name params locals body =
    record { name = name; result = result; params = params; locals = locals; body = body; last = last }

pub same-function : (result : Option CType) (last : ℕ) (name name' : Word) (params params' locals locals' : List Variable) (body body' : Lines) → name ≡ name' → params ≡ params' → locals ≡ locals' → body ≡ body' →
    made result last name params locals body ≡ made result last name' params' locals' body'
same-function result last name name' params params' locals locals' body body' names firsts seconds bodies =
    ap (λ x. made result last x params locals body) names
    ∙ ap (λ x. made result last name' x locals body) firsts
    ∙ ap (λ x. made result last name' params' x body) seconds
    ∙ ap (λ x. made result last name' params' locals' x) bodies
