-- Substitutes have the widths and the values of what they stand for.
use Rattle.std.proofs.Common.{◌≡◌, ℕ, List, [], ◌∷◌, ◌++◌, refl, sym, ap, ap₂, ◌∙◌, map, flat_map, suc, length, Some, slice_get}
use Rattle.std.specs.Prelude.{if◌then◌else◌, ◌==◌, ◌/◌, ◌%◌, ◌+◌, ◌*◌, ◌^◌}
use Rattle.std.specs.List.{AllZip}
use Rattle.dcc_ir.specs.declared.syntax.Loc.{Loc}
use Rattle.dcc_ir.specs.Tree.{Expr, Stmt, Exit, Block}
use Rattle.dcc_ir.specs.Location.{location_width}
use Rattle.dcc_ir.specs.Value.{Environment, value_of, unary_value, binary_value, bytes_at, width_of, pattern_at, signed_at}
use Rattle.dcc_ir.specs.Flow.{targets}
use Rattle.dcc_ir.specs.WellFormed.{is_jump, ret_widths}
use Rattle.dcc_passes.specs.Kinds.{call_kinds, BlockStaysInKind}
use Rattle.dcc_substitution.specs.Available.{Holds}
use Rattle.dcc_substitution.specs.Substitute.{IsSubstitute, itself, read, load, unary, binary, widen, part, join, choose}
use Rattle.dcc_substitution.specs.Substituted.{IsSubstituteStmt, set, fetch, store, div, call, dos, same, IsSubstituteExit, goto, test, switch, ret, stop, AreSubstitutes, done, both, gone}

-- blocks of one kind, place by place
pub kinds-zipped : (bits bits' : List ℕ) (bs cs : List Block) → length cs ≡ length bs
    → ((k : ℕ) (b c : Block) → slice_get bs k ≡ Some b → slice_get cs k ≡ Some c → BlockStaysInKind bits bits' b c) → AllZip (BlockStaysInKind bits bits') bs cs
kinds-zipped bits bits' [] [] long at = tt
kinds-zipped bits bits' [] (c ∷ cs) long at = absurd (cc)
kinds-zipped bits bits' (b ∷ bs) [] long at = absurd (cc)
kinds-zipped bits bits' (b ∷ bs) (c ∷ cs) long at = (at 0 b c refl refl, kinds-zipped bits bits' bs cs (cc) (λ k x y found there. at (suc k) x y found there))

module _ (bits : List ℕ) (Is : Loc → Expr → Type 0) (widths : (l : Loc) (e : Expr) → Is l e → width_of bits e ≡ location_width bits l) where
  pub width-substitute : (e e' : Expr) → IsSubstitute Is e e' → width_of bits e' ≡ width_of bits e
  width-substitute e e' itself = refl
  width-substitute e e' (read {location = l} is) = widths l e' is
  width-substitute e e' (load h) = refl
  width-substitute e e' (unary h) = refl
  width-substitute e e' (binary h k) = refl
  width-substitute e e' (widen h) = refl
  width-substitute e e' (part h) = refl
  width-substitute e e' (join {high = high} {high' = high'} {low = low} {low' = low'} h k) = ap₂ (λ m n. m + n) (width-substitute high high' h) (width-substitute low low' k)
  width-substitute e e' (choose {a = a} {a' = a'} h k m) = width-substitute a a' k

  pub widths-substitute : (es es' : List Expr) → AllZip (IsSubstitute Is) es es' → map (width_of bits) es' ≡ map (width_of bits) es
  widths-substitute [] [] all = refl
  widths-substitute [] (e' ∷ es') all = absurd all
  widths-substitute (e ∷ es) [] all = absurd all
  widths-substitute (e ∷ es) (e' ∷ es') all = ap₂ (λ n ns. n ∷ ns) (width-substitute e e' all.0) (widths-substitute es es' all.1)

  pub kinds-substitute : (stmt stmt' : Stmt) → IsSubstituteStmt Is stmt stmt' → call_kinds bits stmt' ≡ call_kinds bits stmt
  kinds-substitute stmt stmt' (set h) = refl
  kinds-substitute stmt stmt' (fetch h) = refl
  kinds-substitute stmt stmt' (store h k) = refl
  kinds-substitute stmt stmt' (div h k) = refl
  kinds-substitute stmt stmt' (call {results = results} {entry = entry} {depth = depth} {arguments = arguments} {arguments' = arguments'} all) =
      ap (λ ns. record { results = map (location_width bits) results; entry = entry; arguments = ns; depth = depth } ∷ []) (widths-substitute arguments arguments' all)
  kinds-substitute stmt stmt' (dos h) = refl
  kinds-substitute stmt stmt' same = refl

  pub rets-substitute : (exit exit' : Exit) → IsSubstituteExit Is exit exit' → ret_widths bits exit' ≡ ret_widths bits exit
  rets-substitute exit exit' goto = refl
  rets-substitute exit exit' (test h) = refl
  rets-substitute exit exit' (switch h) = refl
  rets-substitute exit exit' (ret {values = values} {values' = values'} all) = ap (λ ns. ns ∷ []) (widths-substitute values values' all)
  rets-substitute exit exit' stop = refl

module _ (Is : Loc → Expr → Type 0) where
  pub targets-substitute : (exit exit' : Exit) → IsSubstituteExit Is exit exit' → targets exit' ≡ targets exit
  targets-substitute exit exit' goto = refl
  targets-substitute exit exit' (test h) = refl
  targets-substitute exit exit' (switch h) = refl
  targets-substitute exit exit' (ret all) = refl
  targets-substitute exit exit' stop = refl

  pub jumps-substitute : (exit exit' : Exit) → IsSubstituteExit Is exit exit' → is_jump exit' ≡ is_jump exit
  jumps-substitute exit exit' goto = refl
  jumps-substitute exit exit' (test h) = refl
  jumps-substitute exit exit' (switch h) = refl
  jumps-substitute exit exit' (ret all) = refl
  jumps-substitute exit exit' stop = refl

pub calls-substitute : (bits : List ℕ) (available : List Stmt → Loc → Expr → Type 0) → ((rest : List Stmt) (l : Loc) (e : Expr) → available rest l e → width_of bits e ≡ location_width bits l)
    → (stmts news : List Stmt) → AreSubstitutes available stmts news → flat_map (call_kinds bits) news ≡ flat_map (call_kinds bits) stmts
calls-substitute bits available widths stmts news done = refl
calls-substitute bits available widths stmts news (both {stmt = stmt} {stmt' = stmt'} {rest = rest} {rest' = rest'} h w) =
    ap₂ (λ xs ys. xs ++ ys) (kinds-substitute bits (available (stmt ∷ rest)) (widths (stmt ∷ rest)) stmt stmt' h) (calls-substitute bits available widths rest rest' w)
calls-substitute bits available widths stmts news (gone {rest = rest} {rest' = rest'} h w) = calls-substitute bits available widths rest rest' w

-- a substitute has the value where what is told holds
module _ (scene : Environment) (Is : Loc → Expr → Type 0) (widths : (l : Loc) (e : Expr) → Is l e → width_of scene.bits e ≡ location_width scene.bits l) (holds : Holds Is scene) where
  abbrev wide : (e e' : Expr) → IsSubstitute Is e e' → width_of scene.bits e' ≡ width_of scene.bits e
  wide e e' h = width-substitute scene.bits Is widths e e' h

  pub value-substitute : (e e' : Expr) → IsSubstitute Is e e' → value_of scene e' ≡ value_of scene e
  value-substitute e e' itself = refl
  value-substitute e e' (read {location = l} is) = sym (holds l e' is)
  value-substitute e e' (load {width = width} {a = a} {a' = a'} h) = ap (bytes_at scene.memory (width / 8)) (value-substitute a a' h)
  value-substitute e e' (unary {operator = operator} {width = width} {a = a} {a' = a'} h) = ap (unary_value operator width) (value-substitute a a' h)
  value-substitute e e' (binary {operator = operator} {width = width} {a = a} {a' = a'} {b = b} {b' = b'} h k) = ap₂ (binary_value operator width) (value-substitute a a' h) (value-substitute b b' k)
  value-substitute e e' (widen {signed = signed} {width = width} {a = a} {a' = a'} h) =
      ap₂ (λ w n. if signed then pattern_at width (signed_at w n) else n) (wide a a' h) (value-substitute a a' h)
  value-substitute e e' (part {width = width} {first = first} {a = a} {a' = a'} h) = ap (λ n. n / 2 ^ first % 2 ^ width) (value-substitute a a' h)
  value-substitute e e' (join {high = high} {high' = high'} {low = low} {low' = low'} h k) =
      ap₂ (λ x n. x * 2 ^ width_of scene.bits low' + n) (value-substitute high high' h) (value-substitute low low' k)
      ∙ ap (λ w. value_of scene high * 2 ^ w + value_of scene low) (wide low low' k)
  value-substitute e e' (choose {test = c} {test' = c'} {a = a} {a' = a'} {b = b} {b' = b'} h k m) =
      ap (λ n. if n == 1 then value_of scene a' else value_of scene b') (value-substitute c c' h)
      ∙ ap₂ (λ x y. if value_of scene c == 1 then x else y) (value-substitute a a' k) (value-substitute b b' m)
