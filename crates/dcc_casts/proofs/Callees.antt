-- What is known of the functions that a text calls.
use Rattle.std.proofs.Common.{◌≡◌, true≢false, List, [], Option, Some, None, refl, sym, ap, ◌∙◌}
use Rattle.std.specs.Prelude.{option_map, is_some}
use Rattle.std.specs.BTreeMap.{BTreeMap}
use denote.Ref.{Bor}
use Rattle.std.specs.Prelude.{ℕ}
use Rattle.dcc_c.specs.declared.syntax.CType.{CType}
use Rattle.dcc_c.specs.Dos.{Signature}
use Rattle.dcc_c.specs.Rules.{signature_in, declared_in}
use Rattle.dcc_c.specs.Tree.{Word, Expr, Function, Tree}
use Rattle.dcc_c.specs.Typing.{Declared}
use Rattle.dcc_check.specs.Contexts.{held}
use Rattle.dcc_casts.specs.Casts.{passed, arguments_by}
use Rattle.dcc_casts.specs.Views.{params_of, KnowsFunctions}
use Rattle.dcc_casts.specs.declared.functions.Params.{Params}

abbrev written : List Declared → List Expr → Option Signature → List Expr
written ds es o = elim o [ Some known ↦ passed ds known.params es | None ↦ es ]

abbrev types_in : Option (List CType) → List CType
types_in (Some types) = types
types_in None = []

by-types : (ds : List Declared) (es : List Expr) (o : Option Signature) (types : List CType) → Some types ≡ option_map params_of o → written ds es o ≡ passed ds types es
by-types ds es (Some known) types same = ap (λ ts. passed ds ts es) (ap types_in (sym same))
by-types ds es None types same = absurd (true≢false (ap is_some same))

by-none : (ds : List Declared) (es : List Expr) (o : Option Signature) → None ≡ option_map params_of o → written ds es o ≡ es
by-none ds es (Some known) same = absurd (true≢false (ap is_some (sym same)))
by-none ds es None same = refl

pub known-function : (functions : BTreeMap (Bor (List ℕ)) Params) (tree : Tree) (f : Function) (word : Word) (es : List Expr) (params : Params) → KnowsFunctions functions tree → held functions word ≡ Some params →
    arguments_by tree f word es ≡ passed (declared_in tree f) params.types.items es
known-function functions tree f word es params knows is =
    by-types (declared_in tree f) es (signature_in tree word) params.types.items (ap (λ o. option_map (λ (p : Params). p.types.items) o) (sym is) ∙ knows word)

pub unknown-function : (functions : BTreeMap (Bor (List ℕ)) Params) (tree : Tree) (f : Function) (word : Word) (es : List Expr) → KnowsFunctions functions tree → held functions word ≡ None →
    arguments_by tree f word es ≡ es
unknown-function functions tree f word es knows is =
    by-none (declared_in tree f) es (signature_in tree word) (ap (λ o. option_map (λ (p : Params). p.types.items) o) (sym is) ∙ knows word)
