-- Parts of expressions in which reads of flags are replaced, and of the copies that take their operands.
use Rattle.std.proofs.Common.{◌≡◌, ℕ, Bool, true, false, ◌||◌, List, [], ◌∷◌, ◌++◌, refl, sym, ap, ◌∙◌, true≢false, flat_map}
use Rattle.std.specs.Prelude.{if◌then◌else◌, ◌==◌}
use Rattle.std.specs.List.{list_any}
use Rattle.std.proofs.lemmas.List.Folds.{list_any-append}
use Rattle.std.proofs.lemmas.List.Concat.{flat_map-append}
use Rattle.dcc_num.specs.declared.FlagName.{FlagName}
use Rattle.dcc_ir.specs.declared.syntax.Loc.TheVariants.{Half, Flag, Cell, Temp}
use Rattle.dcc_ir.specs.declared.syntax.UnOp.{UnOp}
use Rattle.dcc_ir.specs.declared.syntax.UnOp.TheVariants.{Neg, Not, IsZero}
use Rattle.dcc_ir.specs.declared.syntax.BinOp.{BinOp}
use Rattle.dcc_ir.specs.Tree.{Expr, Const, Get, Load, Unary, Binary, Widen, Part, Join, Choose, Address, Stmt}
use Rattle.dcc_ir.specs.Location.{same_location}
use Rattle.dcc_ir.specs.Live.{is_among, reads}
use Rattle.dcc_ir.specs.Use.{parts_of, got_by, reads_of, exprs_of}
use Rattle.dcc_ir.specs.FlagReads.{gets}
use Rattle.dcc_flags.specs.Folding.{Choices, choice, negated, with_operator, with_choices, has_truth, Taken, taken}

-- Tests of parts.

pub or_none : (a b : Bool) → (a || b) ≡ false → (a ≡ false) × (b ≡ false)
or_none true b e = absurd (true≢false e)
or_none false b e = (refl, e)

pub neither : (a b : Bool) → a ≡ false → b ≡ false → (a || b) ≡ false
neither a b p q = ap (λ z. z || b) p ∙ q

pub none_of : {A : Type 0} (f : A → Bool) (xs ys : List A) → list_any f (xs ++ ys) ≡ false → (list_any f xs ≡ false) × (list_any f ys ≡ false)
none_of f xs ys e = or_none (list_any f xs) (list_any f ys) (sym (list_any-append f xs ys) ∙ e)

pub none_in : {A : Type 0} (f : A → Bool) (xs ys : List A) → list_any f xs ≡ false → list_any f ys ≡ false → list_any f (xs ++ ys) ≡ false
none_in f xs ys p q = list_any-append f xs ys ∙ neither (list_any f xs) (list_any f ys) p q

-- some part of an expression passes the test
abbrev pub has_part : (Expr → Bool) → Expr → Bool
has_part test e = list_any test (parts_of e)

-- a test that looks at the kind of a part alone
pub record OfKind (test : Expr → Bool) : Type 0 where
  pub load : (w : ℕ) (a a' : Expr) → test (Load w a) ≡ test (Load w a')
  pub unary : (o : UnOp) (w : ℕ) (a a' : Expr) → test (Unary o w a) ≡ test (Unary o w a')
  pub binary : (o : BinOp) (w : ℕ) (a b a' b' : Expr) → test (Binary o w a b) ≡ test (Binary o w a' b')
  pub widen : (s : Bool) (w : ℕ) (a a' : Expr) → test (Widen s w a) ≡ test (Widen s w a')
  pub part : (w k : ℕ) (a a' : Expr) → test (Part w k a) ≡ test (Part w k a')
  pub join : (a b a' b' : Expr) → test (Join a b) ≡ test (Join a' b')
  pub choose : (x a b x' a' b' : Expr) → test (Choose x a b) ≡ test (Choose x' a' b')

-- Choices in place of flags.

-- the test at a part, and at what is chosen where that is the read of a flag
abbrev pub in_chosen : (Expr → Bool) → Choices → Expr → Bool
in_chosen test c (Get (Flag f)) = has_part test (choice c f)
in_chosen test c e = test e

pub negated_lacks : (test : Expr → Bool) (w : ℕ) (a : Expr) → test (Unary Not w a) ≡ false → has_part test a ≡ false → has_part test (negated w a) ≡ false
negated_lacks test w (Unary Not v x) p q = go (v == w)
  where
    go : (b : Bool) → has_part test (if b then x else Unary Not w (Unary Not v x)) ≡ false
    go true = (or_none (test (Unary Not v x)) (has_part test x) q).1
    go false = neither (test (Unary Not w (Unary Not v x))) (has_part test (Unary Not v x)) p q
negated_lacks test w (Unary Neg v x) p q = neither (test (Unary Not w (Unary Neg v x))) (has_part test (Unary Neg v x)) p q
negated_lacks test w (Unary IsZero v x) p q = neither (test (Unary Not w (Unary IsZero v x))) (has_part test (Unary IsZero v x)) p q
negated_lacks test w (Const v n) p q = neither (test (Unary Not w (Const v n))) (has_part test (Const v n)) p q
negated_lacks test w (Get l) p q = neither (test (Unary Not w (Get l))) (has_part test (Get l)) p q
negated_lacks test w (Load v a) p q = neither (test (Unary Not w (Load v a))) (has_part test (Load v a)) p q
negated_lacks test w (Binary o v a b) p q = neither (test (Unary Not w (Binary o v a b))) (has_part test (Binary o v a b)) p q
negated_lacks test w (Widen s v a) p q = neither (test (Unary Not w (Widen s v a))) (has_part test (Widen s v a)) p q
negated_lacks test w (Part v k a) p q = neither (test (Unary Not w (Part v k a))) (has_part test (Part v k a)) p q
negated_lacks test w (Join a b) p q = neither (test (Unary Not w (Join a b))) (has_part test (Join a b)) p q
negated_lacks test w (Choose x a b) p q = neither (test (Unary Not w (Choose x a b))) (has_part test (Choose x a b)) p q
negated_lacks test w (Address d) p q = neither (test (Unary Not w (Address d))) (has_part test (Address d)) p q

pub operator_lacks : (test : Expr → Bool) (o : UnOp) (w : ℕ) (a : Expr) → test (Unary o w a) ≡ false → has_part test a ≡ false → has_part test (with_operator o w a) ≡ false
operator_lacks test Not w a p q = negated_lacks test w a p q
operator_lacks test Neg w a p q = neither (test (Unary Neg w a)) (has_part test a) p q
operator_lacks test IsZero w a p q = neither (test (Unary IsZero w a)) (has_part test a) p q

module _ (test : Expr → Bool) (of : OfKind test) (c : Choices) where
  abbrev here : Expr → Bool
  here = in_chosen test c

  pub chosen_lacks : (e : Expr) → has_part (in_chosen test c) e ≡ false → has_part test (with_choices c e) ≡ false
  chosen_lacks (Const w n) p = p
  chosen_lacks (Get (Flag f)) p = (or_none (has_part test (choice c f)) false p).0
  chosen_lacks (Get (Half r h)) p = p
  chosen_lacks (Get (Cell n h)) p = p
  chosen_lacks (Get (Temp n)) p = p
  chosen_lacks (Load w a) p =
      let parts = or_none (test (Load w a)) (has_part here a) p in
      neither (test (Load w (with_choices c a))) (has_part test (with_choices c a)) (of.load w _ a ∙ parts.0) (chosen_lacks a parts.1)
  chosen_lacks (Unary o w a) p =
      let parts = or_none (test (Unary o w a)) (has_part here a) p in
      operator_lacks test o w (with_choices c a) (of.unary o w _ a ∙ parts.0) (chosen_lacks a parts.1)
  chosen_lacks (Binary o w a b) p =
      let parts = or_none (test (Binary o w a b)) (list_any here (parts_of a ++ parts_of b)) p in
      let two = none_of here (parts_of a) (parts_of b) parts.1 in
      neither (test (Binary o w (with_choices c a) (with_choices c b))) (list_any test (parts_of (with_choices c a) ++ parts_of (with_choices c b))) (of.binary o w _ _ a b ∙ parts.0)
      (none_in test (parts_of (with_choices c a)) (parts_of (with_choices c b)) (chosen_lacks a two.0) (chosen_lacks b two.1))
  chosen_lacks (Widen s w a) p =
      let parts = or_none (test (Widen s w a)) (has_part here a) p in
      neither (test (Widen s w (with_choices c a))) (has_part test (with_choices c a)) (of.widen s w _ a ∙ parts.0) (chosen_lacks a parts.1)
  chosen_lacks (Part w k a) p =
      let parts = or_none (test (Part w k a)) (has_part here a) p in
      neither (test (Part w k (with_choices c a))) (has_part test (with_choices c a)) (of.part w k _ a ∙ parts.0) (chosen_lacks a parts.1)
  chosen_lacks (Join a b) p =
      let parts = or_none (test (Join a b)) (list_any here (parts_of a ++ parts_of b)) p in
      let two = none_of here (parts_of a) (parts_of b) parts.1 in
      neither (test (Join (with_choices c a) (with_choices c b))) (list_any test (parts_of (with_choices c a) ++ parts_of (with_choices c b))) (of.join _ _ a b ∙ parts.0)
      (none_in test (parts_of (with_choices c a)) (parts_of (with_choices c b)) (chosen_lacks a two.0) (chosen_lacks b two.1))
  chosen_lacks (Choose x a b) p =
      let parts = or_none (test (Choose x a b)) (list_any here ((parts_of x ++ parts_of a) ++ parts_of b)) p in
      let two = none_of here (parts_of x ++ parts_of a) (parts_of b) parts.1 in
      let one = none_of here (parts_of x) (parts_of a) two.0 in
      neither (test (Choose (with_choices c x) (with_choices c a) (with_choices c b))) (list_any test ((parts_of (with_choices c x) ++ parts_of (with_choices c a)) ++ parts_of (with_choices c b)))
      (of.choose _ _ _ x a b ∙ parts.0)
      (none_in test (parts_of (with_choices c x) ++ parts_of (with_choices c a)) (parts_of (with_choices c b))
      (none_in test (parts_of (with_choices c x)) (parts_of (with_choices c a)) (chosen_lacks x one.0) (chosen_lacks a one.1)) (chosen_lacks b two.1))
  chosen_lacks (Address d) p = p

-- Copies.

-- no expression of these statements has such a part
abbrev pub none_has : (Expr → Bool) → List Stmt → Type 0
none_has test stmts = list_any (has_part test) (flat_map exprs_of stmts) ≡ false

none_more : (test : Expr → Bool) (cs ds : List Stmt) → none_has test cs → none_has test ds → none_has test (cs ++ ds)
none_more test cs ds p q =
    ap (list_any (has_part test)) (flat_map-append exprs_of cs ds) ∙ none_in (has_part test) (flat_map exprs_of cs) (flat_map exprs_of ds) p q

copy_has : (test : Expr → Bool) (e : Expr) → has_part test e ≡ false → (has_part test e || false) ≡ false
copy_has test e p = neither (has_part test e) false p refl

copies_if : (test : Expr → Bool) (b : Bool) (t u : Taken) → none_has test t.copies → none_has test u.copies → none_has test (if b then t else u).copies
copies_if test true t u p q = p
copies_if test false t u p q = q

-- copies are parts of what they are taken of
pub copies_lack : (test : Expr → Bool) (bits : List ℕ) (e : Expr) → has_part test e ≡ false → none_has test (taken bits e).copies
copies_lack test bits (Const w n) p = refl
copies_lack test bits (Get l) p = copy_has test (Get l) p
copies_lack test bits (Load w a) p = copy_has test (Load w a) p
copies_lack test bits (Unary o w a) p =
    copies_if test (has_truth (Unary o w a)) _ _ (copies_lack test bits a (or_none (test (Unary o w a)) (has_part test a) p).1) (copy_has test (Unary o w a) p)
copies_lack test bits (Binary o w a b) p =
    let two = none_of test (parts_of a) (parts_of b) (or_none (test (Binary o w a b)) (list_any test (parts_of a ++ parts_of b)) p).1 in
    copies_if test (has_truth (Binary o w a b)) _ _
    (none_more test (taken bits a).copies _ (copies_lack test bits a two.0) (copies_lack test (bits ++ (taken bits a).widths) b two.1)) (copy_has test (Binary o w a b) p)
copies_lack test bits (Widen s w a) p =
    copies_if test (has_truth a) _ _ (copies_lack test bits a (or_none (test (Widen s w a)) (has_part test a) p).1) (copy_has test (Widen s w a) p)
copies_lack test bits (Part w k a) p =
    copies_if test (has_truth a) _ _ (copies_lack test bits a (or_none (test (Part w k a)) (has_part test a) p).1) (copy_has test (Part w k a) p)
copies_lack test bits (Join a b) p =
    let two = none_of test (parts_of a) (parts_of b) (or_none (test (Join a b)) (list_any test (parts_of a ++ parts_of b)) p).1 in
    copies_if test (has_truth (Join a b)) _ _
    (none_more test (taken bits a).copies _ (copies_lack test bits a two.0) (copies_lack test (bits ++ (taken bits a).widths) b two.1)) (copy_has test (Join a b) p)
copies_lack test bits (Choose x a b) p =
    let t = taken bits x in
    let u = taken (bits ++ t.widths) a in
    let v = taken ((bits ++ t.widths) ++ u.widths) b in
    let two = none_of test (parts_of x ++ parts_of a) (parts_of b) (or_none (test (Choose x a b)) (list_any test ((parts_of x ++ parts_of a) ++ parts_of b)) p).1 in
    let one = none_of test (parts_of x) (parts_of a) two.0 in
    none_more test (t.copies ++ u.copies) v.copies
    (none_more test t.copies u.copies (copies_lack test bits x one.0) (copies_lack test (bits ++ t.widths) a one.1)) (copies_lack test ((bits ++ t.widths) ++ u.widths) b two.1)
copies_lack test bits (Address d) p = copy_has test (Address d) p

-- Values that are taken.

pub value_if : (test : Expr → Bool) (b : Bool) (t u : Taken) → has_part test t.value ≡ false → has_part test u.value ≡ false → has_part test (if b then t else u).value ≡ false
value_if test true t u p q = p
value_if test false t u p q = q

-- a test that no constant, no operator and no read of a temporary passes
pub record OfReads (test : Expr → Bool) : Type 0 where
  pub const : (w n : ℕ) → test (Const w n) ≡ false
  pub temp : (n : ℕ) → test (Get (Temp n)) ≡ false
  pub unary : (o : UnOp) (w : ℕ) (a : Expr) → test (Unary o w a) ≡ false
  pub binary : (o : BinOp) (w : ℕ) (a b : Expr) → test (Binary o w a b) ≡ false
  pub widen : (s : Bool) (w : ℕ) (a : Expr) → test (Widen s w a) ≡ false
  pub part : (w k : ℕ) (a : Expr) → test (Part w k a) ≡ false
  pub join : (a b : Expr) → test (Join a b) ≡ false
  pub choose : (x a b : Expr) → test (Choose x a b) ≡ false

module _ (test : Expr → Bool) (of : OfReads test) where
  copy_is : (n : ℕ) → has_part test (Get (Temp n)) ≡ false
  copy_is n = neither (test (Get (Temp n))) false (of.temp n) refl

  -- the values of copies read temporaries, and load nothing
  pub value_lacks : (bits : List ℕ) (e : Expr) → has_part test (taken bits e).value ≡ false
  value_lacks bits (Const w n) = neither (test (Const w n)) false (of.const w n) refl
  value_lacks bits (Get l) = copy_is _
  value_lacks bits (Load w a) = copy_is _
  value_lacks bits (Unary o w a) = value_if test (has_truth (Unary o w a)) _ _
      (neither (test (Unary o w (taken bits a).value)) (has_part test (taken bits a).value) (of.unary o w _) (value_lacks bits a)) (copy_is _)
  value_lacks bits (Binary o w a b) =
      let t = taken bits a in
      let u = taken (bits ++ t.widths) b in
      value_if test (has_truth (Binary o w a b)) _ _
      (neither (test (Binary o w t.value u.value)) (list_any test (parts_of t.value ++ parts_of u.value)) (of.binary o w _ _)
      (none_in test (parts_of t.value) (parts_of u.value) (value_lacks bits a) (value_lacks (bits ++ t.widths) b))) (copy_is _)
  value_lacks bits (Widen s w a) = value_if test (has_truth a) _ _
      (neither (test (Widen s w (taken bits a).value)) (has_part test (taken bits a).value) (of.widen s w _) (value_lacks bits a)) (copy_is _)
  value_lacks bits (Part w k a) = value_if test (has_truth a) _ _
      (neither (test (Part w k (taken bits a).value)) (has_part test (taken bits a).value) (of.part w k _) (value_lacks bits a)) (copy_is _)
  value_lacks bits (Join a b) =
      let t = taken bits a in
      let u = taken (bits ++ t.widths) b in
      value_if test (has_truth (Join a b)) _ _
      (neither (test (Join t.value u.value)) (list_any test (parts_of t.value ++ parts_of u.value)) (of.join _ _)
      (none_in test (parts_of t.value) (parts_of u.value) (value_lacks bits a) (value_lacks (bits ++ t.widths) b))) (copy_is _)
  value_lacks bits (Choose x a b) =
      let t = taken bits x in
      let u = taken (bits ++ t.widths) a in
      let v = taken ((bits ++ t.widths) ++ u.widths) b in
      neither (test (Choose t.value u.value v.value)) (list_any test ((parts_of t.value ++ parts_of u.value) ++ parts_of v.value)) (of.choose _ _ _)
      (none_in test (parts_of t.value ++ parts_of u.value) (parts_of v.value)
      (none_in test (parts_of t.value) (parts_of u.value) (value_lacks bits x) (value_lacks (bits ++ t.widths) a)) (value_lacks ((bits ++ t.widths) ++ u.widths) b))
  value_lacks bits (Address d) = copy_is _

-- Reads.

got_parts : (f : FlagName) (ps : List Expr) → is_among (flat_map got_by ps) (Flag f) ≡ list_any (gets f) ps
got_parts f [] = refl
got_parts f (Get l ∷ ps) = ap (λ z. same_location (Flag f) l || z) (got_parts f ps)
got_parts f (Const w n ∷ ps) = got_parts f ps
got_parts f (Load w a ∷ ps) = got_parts f ps
got_parts f (Unary o w a ∷ ps) = got_parts f ps
got_parts f (Binary o w a b ∷ ps) = got_parts f ps
got_parts f (Widen s w a ∷ ps) = got_parts f ps
got_parts f (Part w k a ∷ ps) = got_parts f ps
got_parts f (Join a b ∷ ps) = got_parts f ps
got_parts f (Choose x a b ∷ ps) = got_parts f ps
got_parts f (Address d ∷ ps) = got_parts f ps

-- a flag is read where some part gets it
pub got_is : (f : FlagName) (es : List Expr) → reads es (Flag f) ≡ list_any (has_part (gets f)) es
got_is f [] = refl
got_is f (e ∷ es) =
    list_any-append (same_location (Flag f)) (reads_of e) (flat_map reads_of es)
    ∙ ap (λ z. z || reads es (Flag f)) (got_parts f (parts_of e)) ∙ ap (λ z. has_part (gets f) e || z) (got_is f es)
