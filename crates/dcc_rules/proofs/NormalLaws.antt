-- Normal expressions: their parts are, and no rule has a place at their root.
use Rattle.std.proofs.Common.{◌≡◌, ℕ, zero, suc, Bool, true, false, not, List, [], ◌∷◌, ◌++◌, refl, sym, ap, ◌∙◌, true≢false}
use Rattle.std.specs.Prelude.{◌==◌, if◌then◌else◌, slice_get}
use Rattle.std.specs.List.{list_all}
use Rattle.std.proofs.lemmas.Bool.{and_parts}
use Rattle.std.proofs.lemmas.List.Folds.{list_all-append}
use Rattle.dcc_ir.specs.Tree.{Expr, Const, Get, Load, Unary, Binary, Widen, Part, Join, Choose, Address}
use Rattle.dcc_ir.specs.declared.syntax.BinOp.{BinOp}
use Rattle.dcc_ir.specs.Use.{parts_of}
use Rattle.dcc_ir.specs.Forms.{forms, passes}
use Rattle.dcc_rules.specs.Forms.{has_form_under, is_leaf, has_no_form, is_normal_under, has_normal_parts}
use Rattle.dcc_rules.proofs.AmongLaws.{both_hold}

pub normal_root : (ids bits : List ℕ) (e : Expr) → has_no_form ids bits e ≡ true → has_normal_parts ids bits e ≡ true → is_normal_under ids bits e ≡ true
normal_root ids bits (Const width n) h p = both_hold _ _ h p
normal_root ids bits (Get location) h p = both_hold _ _ h p
normal_root ids bits (Load width address) h p = both_hold _ _ h p
normal_root ids bits (Unary operator width a) h p = both_hold _ _ h p
normal_root ids bits (Binary operator width a b) h p = both_hold _ _ h p
normal_root ids bits (Widen signed width a) h p = both_hold _ _ h p
normal_root ids bits (Part width first a) h p = both_hold _ _ h p
normal_root ids bits (Join high low) h p = both_hold _ _ h p
normal_root ids bits (Choose test a b) h p = both_hold _ _ h p
normal_root ids bits (Address distance) h p = both_hold _ _ h p

side : (ids bits : List ℕ) (xs ys : List Expr) → list_all (has_no_form ids bits) xs ≡ true → list_all (has_no_form ids bits) ys ≡ true → list_all (has_no_form ids bits) (xs ++ ys) ≡ true
side ids bits xs ys p q = list_all-append (has_no_form ids bits) xs ys ∙ both_hold _ _ p q

pub normal_binary : (ids bits : List ℕ) (operator : BinOp) (width : ℕ) (a b : Expr) → is_normal_under ids bits a ≡ true → is_normal_under ids bits b ≡ true → has_normal_parts ids bits (Binary operator width a b) ≡ true
normal_binary ids bits operator width a b p q = side ids bits (parts_of a) (parts_of b) p q

pub normal_join : (ids bits : List ℕ) (high low : Expr) → is_normal_under ids bits high ≡ true → is_normal_under ids bits low ≡ true → has_normal_parts ids bits (Join high low) ≡ true
normal_join ids bits high low p q = side ids bits (parts_of high) (parts_of low) p q

pub normal_choose : (ids bits : List ℕ) (test a b : Expr) → is_normal_under ids bits test ≡ true → is_normal_under ids bits a ≡ true → is_normal_under ids bits b ≡ true → has_normal_parts ids bits (Choose test a b) ≡ true
normal_choose ids bits test a b p q r = side ids bits (parts_of test ++ parts_of a) (parts_of b) (side ids bits (parts_of test) (parts_of a) p q) r

-- A single node has no form.

fails : (b : Bool) → not b ≡ true → b ≡ false
fails true e = absurd (true≢false (sym e))
fails false e = refl

-- where each test of a list fails, that at any place does
passes_none : (tests : List (Expr → Bool)) (e : Expr) (id : ℕ) → list_all (λ test. not (test e)) tests ≡ true → passes (slice_get tests id) e ≡ false
passes_none [] e id all = refl
passes_none (test ∷ tests) e zero all = fails (test e) (and_parts (not (test e)) (list_all (λ test. not (test e)) tests) all).0
passes_none (test ∷ tests) e (suc id) all = passes_none tests e id (and_parts (not (test e)) (list_all (λ test. not (test e)) tests) all).1

either_way : (b x : Bool) → x ≡ false → (if b then false else x) ≡ false
either_way true x e = refl
either_way false x e = e

none_by_number : (id : ℕ) (x : Bool) → x ≡ false →
    (if id == 35 then false else if id == 36 then false else if id == 37 then false else if id == 38 then false else if id == 39 then false else x) ≡ false
none_by_number id x e = either_way (id == 35) _ (either_way (id == 36) _ (either_way (id == 37) _ (either_way (id == 38) _ (either_way (id == 39) x e))))

leaf_has_none : (id : ℕ) (bits : List ℕ) (e : Expr) → is_leaf e ≡ true → has_form_under id bits e ≡ false
leaf_has_none id bits (Const width n) leaf = none_by_number id _ (passes_none ((λ _. false) ∷ forms) (Const width n) id refl)
leaf_has_none id bits (Get location) leaf = none_by_number id _ (passes_none ((λ _. false) ∷ forms) (Get location) id refl)
leaf_has_none id bits (Address distance) leaf = none_by_number id _ (passes_none ((λ _. false) ∷ forms) (Address distance) id refl)
leaf_has_none id bits (Load width address) leaf = absurd (true≢false (sym leaf))
leaf_has_none id bits (Unary operator width a) leaf = absurd (true≢false (sym leaf))
leaf_has_none id bits (Binary operator width a b) leaf = absurd (true≢false (sym leaf))
leaf_has_none id bits (Widen signed width a) leaf = absurd (true≢false (sym leaf))
leaf_has_none id bits (Part width first a) leaf = absurd (true≢false (sym leaf))
leaf_has_none id bits (Join high low) leaf = absurd (true≢false (sym leaf))
leaf_has_none id bits (Choose test a b) leaf = absurd (true≢false (sym leaf))

leaf_has_no_form : (ids bits : List ℕ) (e : Expr) → is_leaf e ≡ true → has_no_form ids bits e ≡ true
leaf_has_no_form [] bits e leaf = refl
leaf_has_no_form (id ∷ ids) bits e leaf = both_hold _ _ (ap not (leaf_has_none id bits e leaf)) (leaf_has_no_form ids bits e leaf)

leaf_has_no_parts : (ids bits : List ℕ) (e : Expr) → is_leaf e ≡ true → has_normal_parts ids bits e ≡ true
leaf_has_no_parts ids bits (Const width n) leaf = refl
leaf_has_no_parts ids bits (Get location) leaf = refl
leaf_has_no_parts ids bits (Address distance) leaf = refl
leaf_has_no_parts ids bits (Load width address) leaf = absurd (true≢false (sym leaf))
leaf_has_no_parts ids bits (Unary operator width a) leaf = absurd (true≢false (sym leaf))
leaf_has_no_parts ids bits (Binary operator width a b) leaf = absurd (true≢false (sym leaf))
leaf_has_no_parts ids bits (Widen signed width a) leaf = absurd (true≢false (sym leaf))
leaf_has_no_parts ids bits (Part width first a) leaf = absurd (true≢false (sym leaf))
leaf_has_no_parts ids bits (Join high low) leaf = absurd (true≢false (sym leaf))
leaf_has_no_parts ids bits (Choose test a b) leaf = absurd (true≢false (sym leaf))

-- a single node is normal
pub normal_leaf : (ids bits : List ℕ) (e : Expr) → is_leaf e ≡ true → is_normal_under ids bits e ≡ true
normal_leaf ids bits e leaf = normal_root ids bits e (leaf_has_no_form ids bits e leaf) (leaf_has_no_parts ids bits e leaf)
