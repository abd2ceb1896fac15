-- Calls that are alike of functions with the same declarations have the same scope; and what is said of written texts.
use Rattle.std.proofs.Common.{◌≡◌, ℕ, ◌+◌, Bool, true, false, List, [], ◌∷◌, ◌++◌, map, Option, Some, None, refl, sym, ap, ap₂, ◌∙◌, subst}
use Rattle.std.specs.Prelude.{option_map, if◌then◌else◌}
use Rattle.std.specs.List.{AllZip}
use Rattle.dcc_c.specs.declared.syntax.CType.{CType}
use Rattle.dcc_c.specs.Token.{same_bytes}
use Rattle.dcc_c.specs.Tree.{Word, Lines, Global, Function, Tree}
use Rattle.dcc_c.specs.Dos.{dos_of, dos_signature}
use Rattle.dcc_c.specs.Typing.{Declared}
use Rattle.dcc_c.specs.Value.{Storage, Binding, declared_by}
use Rattle.dcc_c.specs.Rules.{signature_of, signature_in}
use Rattle.dcc_c.specs.Run.{Frame, global_binding, function_in}
use Rattle.dcc_c.specs.Written.{written_globals}
use Rattle.dcc_c.specs.Numbered.{rows, numbered_function, numbered_functions, numbered}
use Rattle.dcc_progress.proofs.Declarations.{AreAs}
use Rattle.dcc_progress.proofs.Frames.{own_declared}
use Rattle.dcc_respell.specs.Respelled.{BindingAlike, CallsAlike, scope_in}
use Rattle.dcc_respell.specs.Writing.{Writing, function_by, text_by}

-- Scopes.

one-binding : (b c : Binding) → c.name ≡ b.name → c.type ≡ b.type → c.is_array ≡ b.is_array → c.storage ≡ b.storage → c ≡ b
one-binding b c name type array storage =
    ap (λ (n : Word). record { name = n; type = c.type; is_array = c.is_array; storage = c.storage }) name
    ∙ ap (λ (t : CType). record { name = b.name; type = t; is_array = c.is_array; storage = c.storage }) type
    ∙ ap (λ (a : Bool). record { name = b.name; type = b.type; is_array = a; storage = c.storage }) array
    ∙ ap (λ (s : Storage). record { name = b.name; type = b.type; is_array = b.is_array; storage = s }) storage

same-variables : (body lines : Lines) (ds : List Declared) (vs ws : List Binding) → AreAs body ds (map declared_by vs) → AreAs lines ds (map declared_by ws) → AllZip BindingAlike vs ws → ws ≡ vs
same-variables body lines [] [] [] is also are = refl
same-variables body lines (d ∷ ds) (v ∷ vs) (w ∷ ws) is also are =
    ap₂ (λ x xs. x ∷ xs) (one-binding v w are.0.name (sym also.0.type ∙ is.0.type) are.0.array are.0.storage) (same-variables body lines ds vs ws is.1 also.1 are.1)
same-variables body lines [] [] (w ∷ ws) is also are = absurd are
same-variables body lines [] (v ∷ vs) ws is also are = absurd is
same-variables body lines (d ∷ ds) [] ws is also are = absurd is
same-variables body lines (d ∷ ds) (v ∷ vs) [] is also are = absurd also

-- the scope of both calls is one, where the texts have the same global variables and the functions the same own ones
pub one-frame : (tree after : Tree) (f g : Function) (frame other : Frame) → own_declared g ≡ own_declared f → CallsAlike tree after f g frame other → other.variables ≡ frame.variables
one-frame tree after f g frame other same calls =
    let first = subst (λ (h : Function). AreAs h.body (own_declared h) (map declared_by frame.variables)) calls.function calls.is.variables in
    let second = subst (λ (h : Function). AreAs h.body (own_declared h) (map declared_by other.variables)) calls.other_function calls.other_is.variables in
    same-variables f.body g.body (own_declared f) frame.variables other.variables first (subst (λ ds. AreAs g.body ds (map declared_by other.variables)) same second) calls.variables

pub one-scope : (tree after : Tree) (f g : Function) (frame other : Frame) (memory : List ℕ) → after.globals ≡ tree.globals → own_declared g ≡ own_declared f → CallsAlike tree after f g frame other →
    scope_in after other memory ≡ scope_in tree frame memory
one-scope tree after f g frame other memory globals same calls =
    ap₂ (λ (vs : List Binding) (gs : List Global). record { variables = vs ++ map global_binding gs; memory = memory }) (one-frame tree after f g frame other same calls) globals

-- Signatures.

either-same : {A B : Type 0} (g : A → B) (test : Bool) (x y : A) (o p : Option A) → g x ≡ g y → option_map g o ≡ option_map g p →
    option_map g (if test then Some x else o) ≡ option_map g (if test then Some y else p)
either-same g true x y o p first later = ap Some first
either-same g false x y o p first later = later

numbered-signatures : (functions : List Function) (at : ℕ) (name : Word) → option_map signature_of (function_in (numbered_functions at functions) name) ≡ option_map signature_of (function_in functions name)
numbered-signatures [] at name = refl
numbered-signatures (f ∷ functions) at name =
    either-same signature_of (same_bytes f.name name) (numbered_function at f) f _ (function_in functions name) refl (numbered-signatures functions _ name)

written-signatures : (writing : Function → Writing) (functions : List Function) (name : Word) → option_map signature_of (function_in (map (function_by writing) functions) name) ≡ option_map signature_of (function_in functions name)
written-signatures writing [] name = refl
written-signatures writing (f ∷ functions) name =
    either-same signature_of (same_bytes f.name name) (function_by writing f) f _ (function_in functions name) refl (written-signatures writing functions name)

pub numbered-signature : (tree : Tree) (name : Word) → signature_in (numbered tree) name ≡ signature_in tree name
numbered-signature tree name =
    ap (λ own. elim (dos_of name) [ Some dos ↦ Some (dos_signature dos) | None ↦ own ]) (numbered-signatures tree.functions (3 + rows (written_globals None tree.globals)) name)

pub written-signature : (writing : Function → Writing) (tree : Tree) (name : Word) → signature_in (text_by writing tree) name ≡ signature_in tree name
written-signature writing tree name =
    ap (λ own. elim (dos_of name) [ Some dos ↦ Some (dos_signature dos) | None ↦ own ]) (written-signatures writing tree.functions name)
