-- What stands in an expression adds nothing to it.
use Rattle.std.proofs.Common.{◌≡◌, ℕ, suc, ◌+◌, ◌<◌, ◌≤◌, max, cond, Bool, true, false, List, [], ◌∷◌, ◌++◌, length, refl, sym, ap, ◌∙◌, subst, arith, length-append}
use Rattle.std.specs.List.{list_all, flat_map, count_by, sum_by}
use Rattle.std.specs.Prelude.{◌==◌}
use Rattle.std.proofs.lemmas.List.Sums.{sum_by-cons, sum_by-append}
use Rattle.std.proofs.lemmas.Grind.{flat_map-append}
use Rattle.dcc_ir.specs.declared.syntax.Loc.{Loc}
use Rattle.dcc_ir.specs.declared.syntax.UnOp.{UnOp}
use Rattle.dcc_ir.specs.declared.syntax.BinOp.{BinOp}
use Rattle.dcc_ir.specs.Tree.{Expr, Const, Get, Load, Unary, Binary, Widen, Part, Join, Choose, Address}
use Rattle.dcc_ir.specs.Location.{same_location}
use Rattle.dcc_ir.specs.Live.{is_among}
use Rattle.dcc_ir.specs.Use.{parts_of, got_by, addressed_by, reads_of, addresses_of}
use Rattle.dcc_ir.specs.Value.{is_comparison}
use Rattle.dcc_ir.specs.Measure.{nodes_of, depth_of, is_truth, truths_of}
use Rattle.dcc_ir.proofs.LocationLaws.{location_same, location_itself}
use Rattle.dcc_rules.specs.Simpler.{is_distance_among, AddsNothing}
use Rattle.dcc_rules.proofs.AmongLaws.{among_itself, among_left, among_right, among_one, number_itself}
use Rattle.dcc_rules.proofs.ReducedLaws.{has_a_node, adds_through, adds_nothing_to_itself}

-- The other expression has fewer nodes and adds nothing.
pub record IsWithin (given other : Expr) : Type 0 where
  pub nodes : nodes_of other < nodes_of given
  pub adds : AddsNothing given other

pub within_through : (a b c : Expr) → IsWithin a b → IsWithin b c → IsWithin a c
within_through a b c p q = record { nodes = omega (arith, p.nodes, q.nodes); adds = adds_through a b c p.adds q.adds }

-- how many truth nodes stand at the root
abbrev root_truth : Expr → ℕ
root_truth e = cond (is_truth e) 1 0

truths_below : (x : Expr) (xs : List Expr) → count_by is_truth xs ≤ count_by is_truth (x ∷ xs)
truths_below x xs = let p = sum_by-cons root_truth x xs in omega (arith, p)

truths_left : (xs ys : List Expr) → count_by is_truth xs ≤ count_by is_truth (xs ++ ys)
truths_left xs ys = let p = sum_by-append root_truth xs ys in omega (arith, p)

truths_right : (xs ys : List Expr) → count_by is_truth ys ≤ count_by is_truth (xs ++ ys)
truths_right xs ys = let p = sum_by-append root_truth xs ys in omega (arith, p)

reads_left : (xs ys : List Expr) → list_all (is_among (flat_map got_by (xs ++ ys))) (flat_map got_by xs) ≡ true
reads_left xs ys =
    ap (λ l. list_all (is_among l) (flat_map got_by xs)) (flat_map-append got_by xs ys)
    ∙ among_left same_location (flat_map got_by xs) (flat_map got_by ys) (flat_map got_by xs) (among_itself same_location location_itself (flat_map got_by xs))

reads_right : (xs ys : List Expr) → list_all (is_among (flat_map got_by (xs ++ ys))) (flat_map got_by ys) ≡ true
reads_right xs ys =
    ap (λ l. list_all (is_among l) (flat_map got_by ys)) (flat_map-append got_by xs ys)
    ∙ among_right same_location (flat_map got_by xs) (flat_map got_by ys) (flat_map got_by ys) (among_itself same_location location_itself (flat_map got_by ys))

addresses_left : (xs ys : List Expr) → list_all (is_distance_among (flat_map addressed_by (xs ++ ys))) (flat_map addressed_by xs) ≡ true
addresses_left xs ys =
    ap (λ l. list_all (is_distance_among l) (flat_map addressed_by xs)) (flat_map-append addressed_by xs ys)
    ∙ among_left (λ m n. m == n) (flat_map addressed_by xs) (flat_map addressed_by ys) (flat_map addressed_by xs) (among_itself (λ m n. m == n) number_itself (flat_map addressed_by xs))

addresses_right : (xs ys : List Expr) → list_all (is_distance_among (flat_map addressed_by (xs ++ ys))) (flat_map addressed_by ys) ≡ true
addresses_right xs ys =
    ap (λ l. list_all (is_distance_among l) (flat_map addressed_by ys)) (flat_map-append addressed_by xs ys)
    ∙ among_right (λ m n. m == n) (flat_map addressed_by xs) (flat_map addressed_by ys) (flat_map addressed_by ys) (among_itself (λ m n. m == n) number_itself (flat_map addressed_by ys))

nodes_left : (xs ys : List Expr) → length xs < suc (length (xs ++ ys))
nodes_left xs ys = omega (arith, length-append xs ys)

nodes_right : (xs ys : List Expr) → length ys < suc (length (xs ++ ys))
nodes_right xs ys = omega (arith, length-append xs ys)

reads_between : (xs ys zs : List Expr) → list_all (is_among (flat_map got_by (xs ++ ys ++ zs))) (flat_map got_by ys) ≡ true
reads_between xs ys zs =
    ap (λ l. list_all (is_among l) (flat_map got_by ys)) (flat_map-append got_by (xs ++ ys) zs)
    ∙ among_left same_location (flat_map got_by (xs ++ ys)) (flat_map got_by zs) (flat_map got_by ys) (reads_right xs ys)

addresses_between : (xs ys zs : List Expr) → list_all (is_distance_among (flat_map addressed_by (xs ++ ys ++ zs))) (flat_map addressed_by ys) ≡ true
addresses_between xs ys zs =
    ap (λ l. list_all (is_distance_among l) (flat_map addressed_by ys)) (flat_map-append addressed_by (xs ++ ys) zs)
    ∙ among_left (λ m n. m == n) (flat_map addressed_by (xs ++ ys)) (flat_map addressed_by zs) (flat_map addressed_by ys) (addresses_right xs ys)

-- The operands.

pub within_unary : (f : UnOp) (w : ℕ) (a : Expr) → IsWithin (Unary f w a) a
within_unary f w a = record {
  nodes = omega arith;
  adds = record { depth = omega arith; truths = truths_below (Unary f w a) (parts_of a); reads = (adds_nothing_to_itself a).reads; addresses = (adds_nothing_to_itself a).addresses };
}

pub within_widen : (s : Bool) (w : ℕ) (a : Expr) → IsWithin (Widen s w a) a
within_widen s w a = record {
  nodes = omega arith;
  adds = record { depth = omega arith; truths = truths_below (Widen s w a) (parts_of a); reads = (adds_nothing_to_itself a).reads; addresses = (adds_nothing_to_itself a).addresses };
}

pub within_part : (w first : ℕ) (a : Expr) → IsWithin (Part w first a) a
within_part w first a = record {
  nodes = omega arith;
  adds = record { depth = omega arith; truths = truths_below (Part w first a) (parts_of a); reads = (adds_nothing_to_itself a).reads; addresses = (adds_nothing_to_itself a).addresses };
}

trans_le : (a b c : ℕ) → a ≤ b → b ≤ c → a ≤ c
trans_le a b c p q = omega (arith, p, q)

pub within_left : (f : BinOp) (w : ℕ) (a b : Expr) → IsWithin (Binary f w a b) a
within_left f w a b = record {
  nodes = nodes_left (parts_of a) (parts_of b);
  adds = record {
    depth = omega arith;
    truths = trans_le _ _ _ (truths_left (parts_of a) (parts_of b)) (truths_below (Binary f w a b) (parts_of a ++ parts_of b));
    reads = reads_left (parts_of a) (parts_of b);
    addresses = addresses_left (parts_of a) (parts_of b);
  };
}

pub within_right : (f : BinOp) (w : ℕ) (a b : Expr) → IsWithin (Binary f w a b) b
within_right f w a b = record {
  nodes = nodes_right (parts_of a) (parts_of b);
  adds = record {
    depth = omega arith;
    truths = trans_le _ _ _ (truths_right (parts_of a) (parts_of b)) (truths_below (Binary f w a b) (parts_of a ++ parts_of b));
    reads = reads_right (parts_of a) (parts_of b);
    addresses = addresses_right (parts_of a) (parts_of b);
  };
}

pub within_high : (a b : Expr) → IsWithin (Join a b) a
within_high a b = record {
  nodes = nodes_left (parts_of a) (parts_of b);
  adds = record {
    depth = omega arith;
    truths = trans_le _ _ _ (truths_left (parts_of a) (parts_of b)) (truths_below (Join a b) (parts_of a ++ parts_of b));
    reads = reads_left (parts_of a) (parts_of b);
    addresses = addresses_left (parts_of a) (parts_of b);
  };
}

pub within_low : (a b : Expr) → IsWithin (Join a b) b
within_low a b = record {
  nodes = nodes_right (parts_of a) (parts_of b);
  adds = record {
    depth = omega arith;
    truths = trans_le _ _ _ (truths_right (parts_of a) (parts_of b)) (truths_below (Join a b) (parts_of a ++ parts_of b));
    reads = reads_right (parts_of a) (parts_of b);
    addresses = addresses_right (parts_of a) (parts_of b);
  };
}

pub within_one : (x a b : Expr) → IsWithin (Choose x a b) a
within_one x a b = record {
  nodes = omega (arith, nodes_left (parts_of x ++ parts_of a) (parts_of b), nodes_right (parts_of x) (parts_of a));
  adds = record {
    depth = omega arith;
    truths = trans_le _ _ _ (trans_le _ _ _ (truths_right (parts_of x) (parts_of a)) (truths_left (parts_of x ++ parts_of a) (parts_of b)))
        (truths_below (Choose x a b) (parts_of x ++ parts_of a ++ parts_of b));
    reads = reads_between (parts_of x) (parts_of a) (parts_of b);
    addresses = addresses_between (parts_of x) (parts_of a) (parts_of b);
  };
}

pub within_other : (x a b : Expr) → IsWithin (Choose x a b) b
within_other x a b = record {
  nodes = nodes_right (parts_of x ++ parts_of a) (parts_of b);
  adds = record {
    depth = omega arith;
    truths = trans_le _ _ _ (truths_right (parts_of x ++ parts_of a) (parts_of b)) (truths_below (Choose x a b) (parts_of x ++ parts_of a ++ parts_of b));
    reads = reads_right (parts_of x ++ parts_of a) (parts_of b);
    addresses = addresses_right (parts_of x ++ parts_of a) (parts_of b);
  };
}

-- an expression is at least 1 deep
pub is_deep : (e : Expr) → 1 ≤ depth_of e
is_deep (Const width n) = omega arith
is_deep (Get location) = omega arith
is_deep (Load width address) = omega arith
is_deep (Unary operator width a) = omega arith
is_deep (Binary operator width a b) = omega arith
is_deep (Widen signed width a) = omega arith
is_deep (Part width first a) = omega arith
is_deep (Join high low) = omega arith
is_deep (Choose test a b) = omega arith
is_deep (Address distance) = omega arith

-- a constant adds nothing
pub constant_within : (given : Expr) (w n : ℕ) → 1 < nodes_of given → IsWithin given (Const w n)
constant_within given w n more = record {
  nodes = omega (arith, more);
  adds = record { depth = is_deep given; truths = omega arith; reads = refl; addresses = refl };
}

pub binary_nodes : (f : BinOp) (w : ℕ) (a b : Expr) → 1 < nodes_of (Binary f w a b)
binary_nodes f w a b = omega (arith, length-append (parts_of a) (parts_of b), has_a_node a)

pub unary_nodes : (f : UnOp) (w : ℕ) (a : Expr) → 1 < nodes_of (Unary f w a)
unary_nodes f w a = omega (arith, has_a_node a)

-- An operator that is no comparison, on what stands in the given expression and a constant, adds nothing where it isn't
-- deeper.
pub beside_constant : (given x : Expr) (f : BinOp) (w v n : ℕ) → IsWithin given x → is_comparison f ≡ false → suc (max (depth_of x) 1) ≤ depth_of given
    → AddsNothing given (Binary f w x (Const v n))
beside_constant given x f w v n within plain shallow = record {
  depth = shallow;
  truths =
      let p = sum_by-cons root_truth (Binary f w x (Const v n)) (parts_of x ++ Const v n ∷ []) in
      let q = sum_by-append root_truth (parts_of x) (Const v n ∷ []) in
      let root : root_truth (Binary f w x (Const v n)) ≡ 0 = ap (λ c. cond c 1 0) plain in
      let last : sum_by root_truth (Const v n ∷ []) ≡ 0 = refl in
      let few : sum_by root_truth (Binary f w x (Const v n) ∷ (parts_of x ++ Const v n ∷ [])) ≤ sum_by root_truth (parts_of x) = omega (arith, p, q, root, last) in
      trans_le _ _ _ few within.adds.truths;
  reads =
      ap (λ l. list_all (is_among (reads_of given)) l) (flat_map-append got_by (parts_of x) (Const v n ∷ []))
      ∙ among_one same_location (reads_of given) (reads_of x) [] within.adds.reads refl;
  addresses =
      ap (λ l. list_all (is_distance_among (addresses_of given)) l) (flat_map-append addressed_by (parts_of x) (Const v n ∷ []))
      ∙ among_one (λ a b. a == b) (addresses_of given) (addresses_of x) [] within.adds.addresses refl;
}

pub beside_constant_nodes : (f : BinOp) (w v n : ℕ) (x : Expr) → nodes_of (Binary f w x (Const v n)) ≡ suc (suc (nodes_of x))
beside_constant_nodes f w v n x = omega (arith, length-append (parts_of x) (Const v n ∷ []))
