-- Values of locations, and what statements that set locations leave of what expressions read.
use Rattle.std.proofs.Common.{◌≡◌, ℕ, ◌^◌, ◌<◌, true, false, ◌==◌, List, [], ◌∷◌, ◌++◌, refl, sym, ap, ◌∙◌, subst, eqb-true}
use Rattle.std.specs.Prelude.{if◌then◌else◌}
use Rattle.std.specs.List.{list_all}
use Rattle.std.proofs.lemmas.Bool.{and_parts, and_right}
use Rattle.dcc_num.specs.declared.Reg.{Reg}
use Rattle.dcc_num.specs.declared.Half.TheVariants.{Low, High}
use Rattle.dcc_ir.specs.declared.syntax.Loc.{Loc}
use Rattle.dcc_ir.specs.declared.syntax.Loc.TheVariants.{Half}
use Rattle.dcc_ir.specs.Location.{register_number, same_location, location_width, Values, with_value}
use Rattle.dcc_ir.specs.Tree.{Stmt, Set, Fetch, Store, Div, Call, Dos}
use Rattle.dcc_ir.specs.Value.{width_of, Environment, value_of, Fits}
use Rattle.dcc_ir.specs.WellFormed.{is_location, is_expr, is_expr_of, is_stmt}
use Rattle.dcc_ir.proofs.FitLaws.{value_fits}
use Rattle.dcc_ir.proofs.LocationLaws.{location_same}
use Rattle.dcc_ops.specs.Executed.{executed}

-- Locations.

-- two values that agree everywhere
abbrev pub Alike : Values → Values → Type 0
Alike values others = (location : Loc) → values location ≡ others location

-- the high half of a register stays where a low half is set
pub high_kept : (values : Values) (q r : Reg) (v : ℕ)
    → with_value values (Half r Low) v (Half q High) ≡ values (Half q High)
high_kept values q r v =
    ap (λ b. if b then v else values (Half q High)) (and_right (register_number q == register_number r) false refl)

pub low_kept : (values : Values) (q r : Reg) (v : ℕ)
    → with_value values (Half r High) v (Half q Low) ≡ values (Half q Low)
low_kept values q r v =
    ap (λ b. if b then v else values (Half q Low)) (and_right (register_number q == register_number r) false refl)

-- writing again what the other half holds changes nothing
pub again_low : (values : Values) (r : Reg) (v : ℕ)
    → Alike (with_value (with_value values (Half r Low) v) (Half r High) (values (Half r High)))
    (with_value values (Half r Low) v)
again_low values r v location =
    elim (same_location location (Half r High)) as
    (λ b. same_location location (Half r High) ≡ b
    → (if b then values (Half r High) else with_value values (Half r Low) v location)
    ≡ with_value values (Half r Low) v location) [
      | true ↦ λ t. sym
          (ap (with_value values (Half r Low) v) (location_same location (Half r High) t) ∙ high_kept values r r v)
      | false ↦ λ _. refl
    ] refl

pub again_high : (values : Values) (r : Reg) (v : ℕ)
    → Alike (with_value (with_value values (Half r Low) (values (Half r Low))) (Half r High) v)
    (with_value values (Half r High) v)
again_high values r v location =
    ap (λ n. if same_location location (Half r High) then v else n)
    (elim (same_location location (Half r Low))
    as (λ b. same_location location (Half r Low) ≡ b
    → (if b then values (Half r Low) else values location) ≡ values location) [
      | true ↦ λ t. ap values (sym (location_same location (Half r Low) t))
      | false ↦ λ _. refl
    ] refl)

-- Statements that set locations.

pub executed_append : (first rest : List Stmt) (scene : Environment)
    → executed (first ++ rest) scene ≡ executed rest (executed first scene)
executed_append [] rest scene = refl
executed_append (Set location e ∷ first) rest scene =
    executed_append first rest (record scene { values = with_value scene.values location (value_of scene e) })
executed_append (Fetch location width address ∷ first) rest scene = executed_append first rest scene
executed_append (Store width address e ∷ first) rest scene = executed_append first rest scene
executed_append (Div location e ∷ first) rest scene = executed_append first rest scene
executed_append (Call results entry arguments depth ∷ first) rest scene = executed_append first rest scene
executed_append (Dos number place argument ∷ first) rest scene = executed_append first rest scene

-- a location takes a value of its width
pub fits_taking : (scene : Environment) (location : Loc) (v : ℕ) → v < 2 ^ location_width scene.bits location
    → Fits scene
    → Fits (record scene { values = with_value scene.values location v })
fits_taking scene location v small fits = record {
  values = λ other. elim (same_location other location)
      as (λ b. same_location other location ≡ b
      → (if b then v else scene.values other) < 2 ^ location_width scene.bits other) [
        | true ↦ λ t. subst (λ place. v < 2 ^ location_width scene.bits place) (sym (location_same other location t)) small
        | false ↦ λ _. fits.values other
      ] refl;
  len = fits.len;
  bytes = fits.bytes;
}

-- statements that are well formed keep what they read within its widths
pub executed_fits : (stmts : List Stmt) (scene : Environment) → list_all (is_stmt scene.bits) stmts ≡ true → Fits scene
    → Fits (executed stmts scene)
executed_fits [] scene ok fits = fits
executed_fits (Set location e ∷ rest) scene ok fits =
    let all = and_parts (is_stmt scene.bits (Set location e)) (list_all (is_stmt scene.bits) rest) ok in
    let one =
    and_parts (is_location scene.bits location) (is_expr_of scene.bits (location_width scene.bits location) e) all.0 in
    let two = and_parts (is_expr scene.bits e) (width_of scene.bits e == location_width scene.bits location) one.1 in
    let small : value_of scene e < 2 ^ location_width scene.bits location
    = subst (λ n. value_of scene e < 2 ^ n)
    (eqb-true (width_of scene.bits e) (location_width scene.bits location) two.1) (value_fits scene fits e two.0) in
    executed_fits rest (record scene { values = with_value scene.values location (value_of scene e) }) all.1
    (fits_taking scene location (value_of scene e) small fits)
executed_fits (Fetch location width address ∷ rest) scene ok fits =
    executed_fits rest scene (and_parts _ (list_all (is_stmt scene.bits) rest) ok).1 fits
executed_fits (Store width address e ∷ rest) scene ok fits =
    executed_fits rest scene (and_parts _ (list_all (is_stmt scene.bits) rest) ok).1 fits
executed_fits (Div location e ∷ rest) scene ok fits =
    executed_fits rest scene (and_parts _ (list_all (is_stmt scene.bits) rest) ok).1 fits
executed_fits (Call results entry arguments depth ∷ rest) scene ok fits =
    executed_fits rest scene (and_parts _ (list_all (is_stmt scene.bits) rest) ok).1 fits
executed_fits (Dos number place argument ∷ rest) scene ok fits =
    executed_fits rest scene (and_parts _ (list_all (is_stmt scene.bits) rest) ok).1 fits

-- well-formed statements that set locations change nothing but values
pub executed_values : (stmts : List Stmt) (scene : Environment)
    → executed stmts scene ≡ record scene { values = (executed stmts scene).values }
executed_values [] scene = refl
executed_values (Set location e ∷ rest) scene =
    executed_values rest (record scene { values = with_value scene.values location (value_of scene e) })
executed_values (Fetch location width address ∷ rest) scene = executed_values rest scene
executed_values (Store width address e ∷ rest) scene = executed_values rest scene
executed_values (Div location e ∷ rest) scene = executed_values rest scene
executed_values (Call results entry arguments depth ∷ rest) scene = executed_values rest scene
executed_values (Dos number place argument ∷ rest) scene = executed_values rest scene

pub values_fit : (stmts : List Stmt) (scene : Environment) → list_all (is_stmt scene.bits) stmts ≡ true → Fits scene
    → Fits (record scene { values = (executed stmts scene).values })
values_fit stmts scene ok fits = subst Fits (executed_values stmts scene) (executed_fits stmts scene ok fits)
