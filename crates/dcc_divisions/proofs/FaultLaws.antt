-- Divisions that fault alike, and statements that leave it to a division whether it faults.
use Rattle.std.proofs.Common.{◌≡◌, ℕ, Bool, true, false, ◌&&◌, ◌||◌, not, List, [], ◌∷◌, ◌++◌, Option, Some, None, refl, sym, ap, ap₂, ◌∙◌, subst, true≢false, Contains}
use Rattle.std.specs.Prelude.{if◌then◌else◌, ◌==◌, All}
use Rattle.std.specs.List.{list_any}
use Rattle.std.proofs.lemmas.Bool.{and_parts, and_from}
use Rattle.std.proofs.lemmas.List.Folds.{list_any-append}
use Rattle.std.proofs.lemmas.List.Elements.{All-weaker}
use Rattle.dcc_run.specs.End.{is_over}
use Rattle.dcc_ir.specs.declared.syntax.Loc.{Loc}
use Rattle.dcc_ir.specs.declared.syntax.BinOp.{BinOp}
use Rattle.dcc_ir.specs.declared.syntax.BinOp.TheVariants.{DivS, DivU, RemS, RemU}
use Rattle.dcc_ir.specs.Tree.{Expr, Binary, Stmt, Set, Fetch, Store, Div, Call, Dos}
use Rattle.dcc_ir.specs.Value.{Environment, value_of, faults_signed, division_at, division_of}
use Rattle.dcc_ir.specs.Use.{parts_of, reads_of, writes_of}
use Rattle.dcc_ir.specs.Joinable.{is_load}
use Rattle.dcc_ir.specs.Run.{State, scene_of, stmt_step, dividing}
use Rattle.dcc_ir.proofs.LocationLaws.{Contains-none, Contains-cases}
use Rattle.dcc_ir.proofs.ListLaws.{all_had}
use Rattle.dcc_passes.proofs.RenamingLaws.{in-both}
use Rattle.dcc_substitution.specs.Available.{loads, is_address, addresses, is_of_locations, leaves_outside}
use Rattle.dcc_substitution.proofs.AvailableLaws.{Changes, value-still}
use Rattle.dcc_substitution.proofs.RunLaws.{stmt-did}
use Rattle.dcc_divisions.specs.Divisions.{divides_signed, divides_unsigned, FaultAlike, signed, unsigned, Leaves, IsDivided, here, before}

-- Divisions that fault alike.

none-when : (c : Bool) (n : ℕ) → (if c then None else Some n) ≡ None → c ≡ true
none-when true n is = refl
none-when false n is = absurd (cc)

when-none : (c : Bool) (n : ℕ) → c ≡ true → (if c then None else Some n) ≡ None
when-none true n is = refl
when-none false n is = absurd (true≢false (sym is))

signed-faults : (operator : BinOp) (width a b : ℕ) → divides_signed operator ≡ true → division_at operator width a b ≡ None → faults_signed width a b ≡ true
signed-faults DivS width a b is none = none-when (faults_signed width a b) _ none
signed-faults RemS width a b is none = none-when (faults_signed width a b) _ none
signed-faults operator width a b is none = absurd (true≢false (sym is))

faults-signed : (operator : BinOp) (width a b : ℕ) → divides_signed operator ≡ true → faults_signed width a b ≡ true → division_at operator width a b ≡ None
faults-signed DivS width a b is faults = when-none (faults_signed width a b) _ faults
faults-signed RemS width a b is faults = when-none (faults_signed width a b) _ faults
faults-signed operator width a b is faults = absurd (true≢false (sym is))

unsigned-faults : (operator : BinOp) (width a b : ℕ) → divides_unsigned operator ≡ true → division_at operator width a b ≡ None → (b == 0) ≡ true
unsigned-faults DivU width a b is none = none-when (b == 0) _ none
unsigned-faults RemU width a b is none = none-when (b == 0) _ none
unsigned-faults operator width a b is none = absurd (true≢false (sym is))

faults-unsigned : (operator : BinOp) (width a b : ℕ) → divides_unsigned operator ≡ true → (b == 0) ≡ true → division_at operator width a b ≡ None
faults-unsigned DivU width a b is faults = when-none (b == 0) _ faults
faults-unsigned RemU width a b is faults = when-none (b == 0) _ faults
faults-unsigned operator width a b is faults = absurd (true≢false (sym is))

-- one faults where the other does
pub faults-alike : (scene : Environment) (e other : Expr) → FaultAlike e other → division_of scene e ≡ None → division_of scene other ≡ None
faults-alike scene e other (signed {operator = f} {other = g} {width = w} {a = a} {b = b} is is') none =
    faults-signed g w (value_of scene a) (value_of scene b) is' (signed-faults f w (value_of scene a) (value_of scene b) is none)
faults-alike scene e other (unsigned {operator = f} {other = g} {width = w} {a = a} {b = b} is is') none =
    faults-unsigned g w (value_of scene a) (value_of scene b) is' (unsigned-faults f w (value_of scene a) (value_of scene b) is none)

pub reads-alike : (e other : Expr) → FaultAlike e other → reads_of other ≡ reads_of e
reads-alike e other (signed is is') = refl
reads-alike e other (unsigned is is') = refl

-- A statement that writes nothing that a division reads.

neither : (a b : Bool) → not (a || b) ≡ true → (not a ≡ true) × (not b ≡ true)
neither true b is = absurd (true≢false (sym is))
neither false b is = (refl, is)

module _ (operator : BinOp) (width : ℕ) (a b : Expr) where
  neither-part : (f : Expr → Bool) → not (list_any f (parts_of a ++ parts_of b)) ≡ true → (not (list_any f (parts_of a)) ≡ true) × (not (list_any f (parts_of b)) ≡ true)
  neither-part f is = neither (list_any f (parts_of a)) (list_any f (parts_of b)) (sym (ap not (list_any-append f (parts_of a) (parts_of b))) ∙ is)

  leaves-both : (stmt : Stmt) → leaves_outside stmt (Binary operator width a b) ≡ true → (leaves_outside stmt a ≡ true) × (leaves_outside stmt b ≡ true)
  leaves-both (Store w x e) is = neither-part is_load is
  leaves-both (Call results entry arguments depth) is =
      let parts = and_parts (not (loads (Binary operator width a b))) (not (addresses (Binary operator width a b))) is in
      let memory = neither-part is_load parts.0 in
      let base = neither-part is_address parts.1 in
      (and_from (not (loads a)) (not (addresses a)) memory.0 base.0, and_from (not (loads b)) (not (addresses b)) memory.1 base.1)
  leaves-both (Set x e) is = (refl, refl)
  leaves-both (Fetch x w e) is = (refl, refl)
  leaves-both (Div x e) is = (refl, refl)
  leaves-both (Dos number place argument) is = (refl, refl)

pub division-still : (stmt : Stmt) (e : Expr) (s t : Environment) → Changes stmt s t → Leaves stmt e → division_of t e ≡ division_of s e
division-still stmt (Binary operator width a b) s t change leaves =
    let parts = leaves-both operator width a b stmt leaves.outside in
    let reads = in-both (λ r. ¬ Contains (writes_of stmt) r) (parts_of a) (parts_of b) leaves.locations in
    ap₂ (division_at operator width) (kept a parts.0 reads.0) (kept b parts.1 reads.1)
  where
    kept : (e : Expr) → leaves_outside stmt e ≡ true → All (λ r. ¬ Contains (writes_of stmt) r) (reads_of e) → value_of t e ≡ value_of s e
    kept e outside out =
        value-still s t change.bits e (change.memory e outside) (change.base e outside)
        (All-weaker (λ r. ¬ Contains (writes_of stmt) r) (λ r. t.values r ≡ s.values r) (λ r o. change.left r o) (reads_of e) out)
division-still stmt e s t change leaves = refl

-- What came to a number does so after a statement.

-- no division faults that came to a number at a statement that is passed
abbrev pub NoneFaults : List Stmt → Environment → Type 0
NoneFaults passed scene = (e : Expr) → IsDivided e passed → division_of scene e ≡ None → ⊥

pub nothing-divided : (passed : List Stmt) (scene : Environment) → passed ≡ [] → NoneFaults passed scene
nothing-divided passed scene empty e (here alike apart) none = absurd (cc)
nothing-divided passed scene empty e (before leaves told) none = absurd (cc)

-- what is left of what is known after a statement that is no division
pub none-faults-after : (stmt : Stmt) (passed : List Stmt) (s t : Environment) → Changes stmt s t → NoneFaults passed s
    → ((location : Loc) (f : Expr) → stmt ≡ Div location f → division_of s f ≡ None → ⊥) → NoneFaults (stmt ∷ passed) t
none-faults-after stmt passed s t change known passes e told none = go (stmt ∷ passed) refl told
  where
    go : (all : List Stmt) → all ≡ stmt ∷ passed → IsDivided e all → ⊥
    go all is (here {location = x} {other = f} alike apart) =
        let same : Div x f ≡ stmt = cc in
        let out : Leaves stmt e = subst (λ y. Leaves y e) same (record {
          locations = all_had (λ r. ¬ Contains (x ∷ []) r) (reads_of e) (λ r c w. Contains-cases x [] r ⊥ (λ is. apart (subst (Contains (reads_of e)) (sym is) c)) (Contains-none r) w);
          outside = refl;
        }) in
        passes x f (sym same) (faults-alike s e f alike (sym (division-still stmt e s t change out) ∙ none))
    go all is (before {stmt = stmt'} {passed = passed'} leaves told) =
        let same : stmt' ≡ stmt = cc in
        let rest : passed' ≡ passed = cc in
        known e (subst (IsDivided e) rest told) (sym (division-still stmt e s t change (subst (λ y. Leaves y e) same leaves)) ∙ none)

-- where a division doesn't end the run, it came to a number
pub passes-on : (location : Loc) (e : Expr) (s : State) → is_over (stmt_step (Div location e) s).end ≡ false → division_of (scene_of s) e ≡ None → ⊥
passes-on location e s on none = true≢false (sym (ap (λ o. is_over (dividing location o s).end) none) ∙ on)
