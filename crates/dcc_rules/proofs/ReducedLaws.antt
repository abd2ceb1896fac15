-- Reduced expressions: a chain of them, and expressions of which the parts are reduced.
use Rattle.std.proofs.Common.{◌≡◌, ℕ, ◌+◌, ◌*◌, ◌/◌, ◌%◌, ◌^◌, ◌<◌, ◌≤◌, cond, Bool, true, false, ◌&&◌, ◌||◌, not, List, ◌∷◌, ◌++◌, length, refl, sym, ap, ◌∙◌, subst, arith, length-append, true≢false}
use Rattle.std.specs.Prelude.{if◌then◌else◌, ◌==◌, nat_lt, nat_le}
use Rattle.std.specs.List.{list_all, flat_map, count_by}
use Rattle.std.proofs.lemmas.List.Sums.{sum_by-cons, sum_by-append}
use Rattle.std.proofs.lemmas.Grind.{flat_map-append}
use Rattle.dcc_ir.specs.declared.syntax.UnOp.{UnOp}
use Rattle.dcc_ir.specs.declared.syntax.BinOp.{BinOp}
use Rattle.dcc_ir.specs.Tree.{Expr, Const, Get, Load, Unary, Binary, Widen, Part, Join, Choose, Address}
use Rattle.dcc_ir.specs.Location.{same_location}
use Rattle.dcc_ir.specs.Value.{width_of, signed_at, pattern_at, unary_value, binary_value, bytes_at, value_of}
use Rattle.dcc_ir.specs.WellFormed.{is_width, is_stored_width, is_division, divides_safely, is_expr}
use Rattle.dcc_ir.specs.Use.{parts_of, got_by, addressed_by, reads_of, addresses_of}
use Rattle.dcc_ir.specs.Live.{is_among}
use Rattle.dcc_ir.specs.Measure.{nodes_of, is_truth}
use Rattle.dcc_ir.proofs.FitLaws.{both}
use Rattle.dcc_ir.proofs.LocationLaws.{location_same, location_itself}
use Rattle.dcc_rules.specs.Simpler.{is_distance_among, MeansSame, KeepsMeaning, AddsNothing, IsSimplerUnder, IsReduced}
use Rattle.dcc_rules.proofs.AmongLaws.{both_hold, among_itself, among_two, among_through, number_itself, number_same}

-- Chains.

pub means_itself : (bits : List ℕ) (e : Expr) → is_expr bits e ≡ true → MeansSame bits e e
means_itself bits e ok = record { formed = ok; width = refl; value = λ scene is fits. refl }

pub adds_nothing_to_itself : (e : Expr) → AddsNothing e e
adds_nothing_to_itself e = record {
  depth = omega arith;
  truths = omega arith;
  reads = among_itself same_location location_itself (reads_of e);
  addresses = among_itself (λ a b. a == b) number_itself (addresses_of e);
}

pub reduced_itself : (bits : List ℕ) (e : Expr) → IsReduced bits e e
reduced_itself bits e = record {
  meaning = λ widths ok. means_itself bits e ok;
  nodes = omega arith;
  adds = adds_nothing_to_itself e;
  constant = λ width n is. refl;
}

pub adds_through : (a b c : Expr) → AddsNothing a b → AddsNothing b c → AddsNothing a c
adds_through a b c p q = record {
  depth = omega (arith, p.depth, q.depth);
  truths = omega (arith, p.truths, q.truths);
  reads = among_through same_location location_same (reads_of a) (reads_of b) (reads_of c) p.reads q.reads;
  addresses = among_through (λ x y. x == y) number_same (addresses_of a) (addresses_of b) (addresses_of c) p.addresses q.addresses;
}

pub meaning_through : (bits : List ℕ) (a b c : Expr) → KeepsMeaning bits a b → KeepsMeaning bits b c → KeepsMeaning bits a c
meaning_through bits a b c p q widths ok =
    let m = p widths ok in
    let n = q widths m.formed in
    record { formed = n.formed; width = n.width ∙ m.width; value = λ scene is fits. n.value scene is fits ∙ m.value scene is fits }

pub reduced_through : (bits : List ℕ) (a b c : Expr) → IsReduced bits a b → IsReduced bits b c → IsReduced bits a c
reduced_through bits a b c p q = record {
  meaning = meaning_through bits a b c p.meaning q.meaning;
  nodes = omega (arith, p.nodes, q.nodes);
  adds = adds_through a b c p.adds q.adds;
  constant = λ width n is. let same = p.constant width n is in q.constant width n (same ∙ is) ∙ same;
}

-- an expression has a node
pub has_a_node : (e : Expr) → 0 < nodes_of e
has_a_node (Const width n) = omega arith
has_a_node (Get location) = omega arith
has_a_node (Load width address) = omega arith
has_a_node (Unary operator width a) = omega arith
has_a_node (Binary operator width a b) = omega arith
has_a_node (Widen signed width a) = omega arith
has_a_node (Part width first a) = omega arith
has_a_node (Join high low) = omega arith
has_a_node (Choose test a b) = omega arith
has_a_node (Address distance) = omega arith

-- a constant has one node, so nothing is simpler
pub reduced_simpler : (bits : List ℕ) (a b : Expr) → IsSimplerUnder bits a b → IsReduced bits a b
reduced_simpler bits a b p = record {
  meaning = p.meaning;
  nodes = omega (arith, p.nodes);
  adds = p.adds;
  constant = λ width n is.
      let few : nodes_of b < 1 = subst (λ e. nodes_of b < nodes_of e) is p.nodes in
      absurd (omega (arith, few, has_a_node b));
}

-- Parts.

-- the width that is asked of a part is that of what takes its place
asked : (w v n : ℕ) → v ≡ w → (w == n) ≡ true → (v == n) ≡ true
asked w v n e t = subst (λ m. (m == n) ≡ true) (sym e) t

-- how many truth nodes stand at the root
abbrev root_truth : Expr → ℕ
root_truth e = cond (is_truth e) 1 0

-- as many truth nodes at the root, and no more in the parts
no_more_truths : (x y : Expr) (xs ys : List Expr) → root_truth y ≡ root_truth x → count_by is_truth ys ≤ count_by is_truth xs
    → count_by is_truth (y ∷ ys) ≤ count_by is_truth (x ∷ xs)
no_more_truths x y xs ys e h =
    let p = sum_by-cons root_truth x xs in
    let q = sum_by-cons root_truth y ys in
    omega (arith, p, q, e, h)

-- Each kind with one part. A value is that of the part, and so are sizes.

pub reduced_load : (bits : List ℕ) (width : ℕ) (a b : Expr) → IsReduced bits a b → IsReduced bits (Load width a) (Load width b)
reduced_load bits width a b r = record {
  meaning = λ widths ok.
      let two = both (is_stored_width width && is_expr bits a) (width_of bits a == 16) ok in
      let one = both (is_stored_width width) (is_expr bits a) two.0 in
      let m = r.meaning widths one.1 in
      record {
        formed = both_hold (is_stored_width width && is_expr bits b) (width_of bits b == 16) (both_hold (is_stored_width width) (is_expr bits b) one.0 m.formed) (asked (width_of bits a) (width_of bits b) 16 m.width two.1);
        width = refl;
        value = λ scene is fits. ap (λ v. bytes_at scene.memory (width / 8) v) (m.value scene is fits);
      };
  nodes = omega (arith, r.nodes);
  adds = record { depth = omega (arith, r.adds.depth); truths = omega (arith, r.adds.truths); reads = r.adds.reads; addresses = r.adds.addresses };
  constant = λ w n is. cc;
}

pub reduced_unary : (bits : List ℕ) (operator : UnOp) (width : ℕ) (a b : Expr) → IsReduced bits a b → IsReduced bits (Unary operator width a) (Unary operator width b)
reduced_unary bits operator width a b r = record {
  meaning = λ widths ok.
      let two = both (is_width width && is_expr bits a) (width_of bits a == width) ok in
      let one = both (is_width width) (is_expr bits a) two.0 in
      let m = r.meaning widths one.1 in
      record {
        formed = both_hold (is_width width && is_expr bits b) (width_of bits b == width) (both_hold (is_width width) (is_expr bits b) one.0 m.formed) (asked (width_of bits a) (width_of bits b) width m.width two.1);
        width = refl;
        value = λ scene is fits. ap (unary_value operator width) (m.value scene is fits);
      };
  nodes = omega (arith, r.nodes);
  adds = record { depth = omega (arith, r.adds.depth); truths = no_more_truths (Unary operator width a) (Unary operator width b) (parts_of a) (parts_of b) refl r.adds.truths; reads = r.adds.reads; addresses = r.adds.addresses };
  constant = λ w n is. cc;
}

widened_alike : (signed : Bool) (w w' to v v' : ℕ) → w' ≡ w → v' ≡ v → (if signed then pattern_at to (signed_at w' v') else v') ≡ (if signed then pattern_at to (signed_at w v) else v)
widened_alike signed w w' to v v' e f = ap (λ k. if signed then pattern_at to (signed_at k v') else v') e ∙ ap (λ x. if signed then pattern_at to (signed_at w x) else x) f

-- the width in a state with these bits
width_there : (bits bits' : List ℕ) (a b : Expr) → bits' ≡ bits → width_of bits b ≡ width_of bits a → width_of bits' b ≡ width_of bits' a
width_there bits bits' a b is e = subst (λ (k : List ℕ). width_of k b ≡ width_of k a) (sym is) e

pub reduced_widen : (bits : List ℕ) (signed : Bool) (width : ℕ) (a b : Expr) → IsReduced bits a b → IsReduced bits (Widen signed width a) (Widen signed width b)
reduced_widen bits signed width a b r = record {
  meaning = λ widths ok.
      let two = both (is_width width && is_expr bits a) (nat_lt (width_of bits a) width) ok in
      let one = both (is_width width) (is_expr bits a) two.0 in
      let m = r.meaning widths one.1 in
      record {
        formed = both_hold (is_width width && is_expr bits b) (nat_lt (width_of bits b) width) (both_hold (is_width width) (is_expr bits b) one.0 m.formed) (subst (λ k. nat_lt k width ≡ true) (sym m.width) two.1);
        width = refl;
        value = λ scene is fits. widened_alike signed (width_of scene.bits a) (width_of scene.bits b) width (value_of scene a) (value_of scene b) (width_there bits scene.bits a b is m.width) (m.value scene is fits);
      };
  nodes = omega (arith, r.nodes);
  adds = record { depth = omega (arith, r.adds.depth); truths = omega (arith, r.adds.truths); reads = r.adds.reads; addresses = r.adds.addresses };
  constant = λ w n is. cc;
}

pub reduced_part : (bits : List ℕ) (width first : ℕ) (a b : Expr) → IsReduced bits a b → IsReduced bits (Part width first a) (Part width first b)
reduced_part bits width first a b r = record {
  meaning = λ widths ok.
      let two = both (is_width width && is_expr bits a) (nat_le (first + width) (width_of bits a)) ok in
      let one = both (is_width width) (is_expr bits a) two.0 in
      let m = r.meaning widths one.1 in
      record {
        formed = both_hold (is_width width && is_expr bits b) (nat_le (first + width) (width_of bits b)) (both_hold (is_width width) (is_expr bits b) one.0 m.formed) (subst (λ k. nat_le (first + width) k ≡ true) (sym m.width) two.1);
        width = refl;
        value = λ scene is fits. ap (λ v. v / 2 ^ first % 2 ^ width) (m.value scene is fits);
      };
  nodes = omega (arith, r.nodes);
  adds = record { depth = omega (arith, r.adds.depth); truths = omega (arith, r.adds.truths); reads = r.adds.reads; addresses = r.adds.addresses };
  constant = λ w n is. cc;
}

-- Two parts side by side.

nodes_side : (xs ys xs' ys' : List Expr) → length xs' ≤ length xs → length ys' ≤ length ys → length (xs' ++ ys') ≤ length (xs ++ ys)
nodes_side xs ys xs' ys' e f = omega (arith, length-append xs ys, length-append xs' ys')

truths_side : (xs ys xs' ys' : List Expr) → count_by is_truth xs' ≤ count_by is_truth xs → count_by is_truth ys' ≤ count_by is_truth ys → count_by is_truth (xs' ++ ys') ≤ count_by is_truth (xs ++ ys)
truths_side xs ys xs' ys' e f =
    let f1 = sum_by-append (λ x. cond (is_truth x) 1 0) xs ys in
    let f2 = sum_by-append (λ x. cond (is_truth x) 1 0) xs' ys' in
    omega (arith, f1, f2, e, f)

reads_side : (xs ys xs' ys' : List Expr) → list_all (is_among (flat_map got_by xs)) (flat_map got_by xs') ≡ true → list_all (is_among (flat_map got_by ys)) (flat_map got_by ys') ≡ true → list_all (is_among (flat_map got_by (xs ++ ys))) (flat_map got_by (xs' ++ ys')) ≡ true
reads_side xs ys xs' ys' e f =
    let p : flat_map got_by (xs ++ ys) ≡ flat_map got_by xs ++ flat_map got_by ys = flat_map-append got_by xs ys in
    let q : flat_map got_by (xs' ++ ys') ≡ flat_map got_by xs' ++ flat_map got_by ys' = flat_map-append got_by xs' ys' in
    ap (λ l. list_all (is_among l) (flat_map got_by (xs' ++ ys'))) p ∙ ap (λ l. list_all (is_among (flat_map got_by xs ++ flat_map got_by ys)) l) q
    ∙ among_two same_location (flat_map got_by xs) (flat_map got_by ys) (flat_map got_by xs') (flat_map got_by ys') e f

addresses_side : (xs ys xs' ys' : List Expr) → list_all (is_distance_among (flat_map addressed_by xs)) (flat_map addressed_by xs') ≡ true → list_all (is_distance_among (flat_map addressed_by ys)) (flat_map addressed_by ys') ≡ true → list_all (is_distance_among (flat_map addressed_by (xs ++ ys))) (flat_map addressed_by (xs' ++ ys')) ≡ true
addresses_side xs ys xs' ys' e f =
    let p : flat_map addressed_by (xs ++ ys) ≡ flat_map addressed_by xs ++ flat_map addressed_by ys = flat_map-append addressed_by xs ys in
    let q : flat_map addressed_by (xs' ++ ys') ≡ flat_map addressed_by xs' ++ flat_map addressed_by ys' = flat_map-append addressed_by xs' ys' in
    ap (λ l. list_all (is_distance_among l) (flat_map addressed_by (xs' ++ ys'))) p ∙ ap (λ l. list_all (is_distance_among (flat_map addressed_by xs ++ flat_map addressed_by ys)) l) q
    ∙ among_two (λ x y. x == y) (flat_map addressed_by xs) (flat_map addressed_by ys) (flat_map addressed_by xs') (flat_map addressed_by ys') e f

-- where a constant divides, nothing takes its place
still_divides : (bits : List ℕ) (operator : BinOp) (width : ℕ) (b b' : Expr) → IsReduced bits b b' → (not (is_division operator) || divides_safely operator width b) ≡ true → (not (is_division operator) || divides_safely operator width b') ≡ true
still_divides bits operator width b b' r t =
    either_way (not (is_division operator)) (divides_safely operator width b) (divides_safely operator width b') (λ s. go b s r) t
  where
    either_way : (x y z : Bool) → (y ≡ true → z ≡ true) → (x || y) ≡ true → (x || z) ≡ true
    either_way true y z more e = refl
    either_way false y z more e = more e

    go : (b : Expr) → divides_safely operator width b ≡ true → IsReduced bits b b' → divides_safely operator width b' ≡ true
    go (Const w n) s r = subst (λ (e : Expr). divides_safely operator width e ≡ true) (sym (r.constant w n refl)) s
    go (Get location) s r = absurd (true≢false (sym s))
    go (Load w a) s r = absurd (true≢false (sym s))
    go (Unary op w a) s r = absurd (true≢false (sym s))
    go (Binary op w a c) s r = absurd (true≢false (sym s))
    go (Widen signed w a) s r = absurd (true≢false (sym s))
    go (Part w first a) s r = absurd (true≢false (sym s))
    go (Join high low) s r = absurd (true≢false (sym s))
    go (Choose test a c) s r = absurd (true≢false (sym s))
    go (Address distance) s r = absurd (true≢false (sym s))

pub reduced_binary : (bits : List ℕ) (operator : BinOp) (width : ℕ) (a b a' b' : Expr) → IsReduced bits a a' → IsReduced bits b b' → IsReduced bits (Binary operator width a b) (Binary operator width a' b')
reduced_binary bits operator width a b a' b' r s = record {
  meaning = λ widths ok.
      let five = both (is_width width && is_expr bits a && is_expr bits b && (width_of bits a == width) && (width_of bits b == width)) (not (is_division operator) || divides_safely operator width b) ok in
      let four = both (is_width width && is_expr bits a && is_expr bits b && (width_of bits a == width)) (width_of bits b == width) five.0 in
      let three = both (is_width width && is_expr bits a && is_expr bits b) (width_of bits a == width) four.0 in
      let two = both (is_width width && is_expr bits a) (is_expr bits b) three.0 in
      let one = both (is_width width) (is_expr bits a) two.0 in
      let m = r.meaning widths one.1 in
      let n = s.meaning widths two.1 in
      let f1 = both_hold (is_width width) (is_expr bits a') one.0 m.formed in
      let f2 = both_hold (is_width width && is_expr bits a') (is_expr bits b') f1 n.formed in
      let f3 = both_hold (is_width width && is_expr bits a' && is_expr bits b') (width_of bits a' == width) f2 (asked (width_of bits a) (width_of bits a') width m.width three.1) in
      let f4 = both_hold (is_width width && is_expr bits a' && is_expr bits b' && (width_of bits a' == width)) (width_of bits b' == width) f3 (asked (width_of bits b) (width_of bits b') width n.width four.1) in
      record {
        formed = both_hold (is_width width && is_expr bits a' && is_expr bits b' && (width_of bits a' == width) && (width_of bits b' == width)) (not (is_division operator) || divides_safely operator width b') f4 (still_divides bits operator width b b' s five.1);
        width = refl;
        value = λ scene is fits. ap (λ v. binary_value operator width v (value_of scene b')) (m.value scene is fits) ∙ ap (λ v. binary_value operator width (value_of scene a) v) (n.value scene is fits);
      };
  nodes = omega (arith, nodes_side (parts_of a) (parts_of b) (parts_of a') (parts_of b') r.nodes s.nodes);
  adds = record {
    depth = omega (arith, r.adds.depth, s.adds.depth);
    truths = no_more_truths (Binary operator width a b) (Binary operator width a' b') (parts_of a ++ parts_of b) (parts_of a' ++ parts_of b') refl (truths_side (parts_of a) (parts_of b) (parts_of a') (parts_of b') r.adds.truths s.adds.truths);
    reads = reads_side (parts_of a) (parts_of b) (parts_of a') (parts_of b') r.adds.reads s.adds.reads;
    addresses = addresses_side (parts_of a) (parts_of b) (parts_of a') (parts_of b') r.adds.addresses s.adds.addresses;
  };
  constant = λ w n is. cc;
}

pub reduced_join : (bits : List ℕ) (a b a' b' : Expr) → IsReduced bits a a' → IsReduced bits b b' → IsReduced bits (Join a b) (Join a' b')
reduced_join bits a b a' b' r s = record {
  meaning = λ widths ok.
      let three = both (is_expr bits a && is_expr bits b && (width_of bits a == width_of bits b)) (width_of bits b == 8 || width_of bits b == 16) ok in
      let two = both (is_expr bits a && is_expr bits b) (width_of bits a == width_of bits b) three.0 in
      let one = both (is_expr bits a) (is_expr bits b) two.0 in
      let m = r.meaning widths one.0 in
      let n = s.meaning widths one.1 in
      let f1 = both_hold (is_expr bits a') (is_expr bits b') m.formed n.formed in
      let alike : (width_of bits a' == width_of bits b') ≡ true = subst (λ k. (width_of bits a' == k) ≡ true) (sym n.width) (asked (width_of bits a) (width_of bits a') (width_of bits b) m.width two.1) in
      let f2 = both_hold (is_expr bits a' && is_expr bits b') (width_of bits a' == width_of bits b') f1 alike in
      record {
        formed = both_hold (is_expr bits a' && is_expr bits b' && (width_of bits a' == width_of bits b')) (width_of bits b' == 8 || width_of bits b' == 16) f2 (subst (λ k. (k == 8 || k == 16) ≡ true) (sym n.width) three.1);
        width = ap (λ k. k + width_of bits b') m.width ∙ ap (λ k. width_of bits a + k) n.width;
        value = λ scene is fits.
            ap (λ k. value_of scene a' * 2 ^ k + value_of scene b') (width_there bits scene.bits b b' is n.width)
            ∙ ap (λ v. v * 2 ^ width_of scene.bits b + value_of scene b') (m.value scene is fits)
            ∙ ap (λ v. value_of scene a * 2 ^ width_of scene.bits b + v) (n.value scene is fits);
      };
  nodes = omega (arith, nodes_side (parts_of a) (parts_of b) (parts_of a') (parts_of b') r.nodes s.nodes);
  adds = record {
    depth = omega (arith, r.adds.depth, s.adds.depth);
    truths = omega (arith, truths_side (parts_of a) (parts_of b) (parts_of a') (parts_of b') r.adds.truths s.adds.truths);
    reads = reads_side (parts_of a) (parts_of b) (parts_of a') (parts_of b') r.adds.reads s.adds.reads;
    addresses = addresses_side (parts_of a) (parts_of b) (parts_of a') (parts_of b') r.adds.addresses s.adds.addresses;
  };
  constant = λ w n is. cc;
}

pub reduced_choose : (bits : List ℕ) (t a b t' a' b' : Expr) → IsReduced bits t t' → IsReduced bits a a' → IsReduced bits b b' → IsReduced bits (Choose t a b) (Choose t' a' b')
reduced_choose bits t a b t' a' b' q r s = record {
  meaning = λ widths ok.
      let four = both (is_expr bits t && is_expr bits a && is_expr bits b && (width_of bits t == 1)) (width_of bits a == width_of bits b) ok in
      let three = both (is_expr bits t && is_expr bits a && is_expr bits b) (width_of bits t == 1) four.0 in
      let two = both (is_expr bits t && is_expr bits a) (is_expr bits b) three.0 in
      let one = both (is_expr bits t) (is_expr bits a) two.0 in
      let l = q.meaning widths one.0 in
      let m = r.meaning widths one.1 in
      let n = s.meaning widths two.1 in
      let f1 = both_hold (is_expr bits t') (is_expr bits a') l.formed m.formed in
      let f2 = both_hold (is_expr bits t' && is_expr bits a') (is_expr bits b') f1 n.formed in
      let f3 = both_hold (is_expr bits t' && is_expr bits a' && is_expr bits b') (width_of bits t' == 1) f2 (asked (width_of bits t) (width_of bits t') 1 l.width three.1) in
      let alike : (width_of bits a' == width_of bits b') ≡ true = subst (λ k. (width_of bits a' == k) ≡ true) (sym n.width) (asked (width_of bits a) (width_of bits a') (width_of bits b) m.width four.1) in
      record {
        formed = both_hold (is_expr bits t' && is_expr bits a' && is_expr bits b' && (width_of bits t' == 1)) (width_of bits a' == width_of bits b') f3 alike;
        width = m.width;
        value = λ scene is fits.
            ap (λ v. if v == 1 then value_of scene a' else value_of scene b') (l.value scene is fits)
            ∙ ap (λ v. if value_of scene t == 1 then v else value_of scene b') (m.value scene is fits)
            ∙ ap (λ v. if value_of scene t == 1 then value_of scene a else v) (n.value scene is fits);
      };
  nodes = omega (arith, nodes_side (parts_of t ++ parts_of a) (parts_of b) (parts_of t' ++ parts_of a') (parts_of b') (nodes_side (parts_of t) (parts_of a) (parts_of t') (parts_of a') q.nodes r.nodes) s.nodes);
  adds = record {
    depth = omega (arith, q.adds.depth, r.adds.depth, s.adds.depth);
    truths = no_more_truths (Choose t a b) (Choose t' a' b') (parts_of t ++ parts_of a ++ parts_of b) (parts_of t' ++ parts_of a' ++ parts_of b') refl (truths_side (parts_of t ++ parts_of a) (parts_of b) (parts_of t' ++ parts_of a') (parts_of b') (truths_side (parts_of t) (parts_of a) (parts_of t') (parts_of a') q.adds.truths r.adds.truths) s.adds.truths);
    reads = reads_side (parts_of t ++ parts_of a) (parts_of b) (parts_of t' ++ parts_of a') (parts_of b') (reads_side (parts_of t) (parts_of a) (parts_of t') (parts_of a') q.adds.reads r.adds.reads) s.adds.reads;
    addresses = addresses_side (parts_of t ++ parts_of a) (parts_of b) (parts_of t' ++ parts_of a') (parts_of b') (addresses_side (parts_of t) (parts_of a) (parts_of t') (parts_of a') q.adds.addresses r.adds.addresses) s.adds.addresses;
  };
  constant = λ w n is. cc;
}
