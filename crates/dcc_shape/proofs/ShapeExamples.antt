-- Two loops, one in the other: 0, 3, 5 (to 9 or 7), 7 (to 7 or 9), 9, 10 (to 5).
use Rattle.std.proofs.Common.{◌≡◌, ℕ, true, false, List, [], ◌∷◌, refl, arith}
use Rattle.dcc_c.specs.Tree.{Expr, If, DoWhile, Forever, Goto, Label, Lines, no_lines, line}
use Rattle.dcc_interval.specs.Intervals.{Interval}
use Rattle.dcc_interval.specs.Derived.{ends_in_one}
use Rattle.dcc_shape.specs.Procedures.{Flow, edges_to, edges, headers}
use Rattle.dcc_shape.specs.Spots.{spots}
use Rattle.dcc_shape.specs.Shape.{label_of, goes_where_edges_meet, goes_on_or_round, leaves_innermost_alone, loops_are_labelled, each_labels_one, is_shallow, HasLoops, IsCounted}

abbrev flow : Flow
flow = record {
  nodes = (0, 3 ∷ []) ∷ (3, 5 ∷ []) ∷ (5, 9 ∷ 7 ∷ []) ∷ (7, 7 ∷ 9 ∷ []) ∷ (9, 10 ∷ []) ∷ (10, 5 ∷ []) ∷ [];
  entry = 0;
  branches = 2;
}

abbrev of : ℕ → List ℕ → Interval
of header members = record { header = header; members = members }

abbrev levels : List (List Interval)
levels =
    (of 0 (0 ∷ 1 ∷ []) ∷ of 2 (2 ∷ []) ∷ of 4 (4 ∷ 5 ∷ []) ∷ of 3 (3 ∷ []) ∷ [])
    ∷ (of 0 (0 ∷ []) ∷ of 1 (1 ∷ 3 ∷ 2 ∷ []) ∷ [])
    ∷ (of 0 (0 ∷ 1 ∷ []) ∷ [])
    ∷ (of 0 (0 ∷ []) ∷ [])
    ∷ []

-- the loop headers
heads : headers flow levels ≡ 5 ∷ 7 ∷ []
heads = refl

-- the derived sequence ends in one node
one_node : ends_in_one levels ≡ true
one_node = refl

-- Two edges lead to 9 and one to 10. The way into the procedure alone leads to 0. There are eight edges in all.
meetings : edges_to flow 9 ∷ edges_to flow 10 ∷ edges_to flow 0 ∷ edges flow ∷ [] ≡ 2 ∷ 1 ∷ 1 ∷ 8 ∷ []
meetings = refl

module _ (zero_set not_zero : Expr) where
  -- L_0005: for (;;) { if (zero_set) { } else { L_0007: do { } while (not_zero); } }
  abbrev inner : Lines
  inner = line (Label (label_of 7)) 0 (line (DoWhile no_lines not_zero) 0 no_lines)

  abbrev body : Lines
  body = line (Label (label_of 5)) 0 (line (Forever (line (If zero_set no_lines inner) 0 no_lines)) 0 no_lines)

  shallow : is_shallow flow (headers flow levels) (spots body) ≡ true
  shallow = refl

  loops : HasLoops flow levels (spots body)
  loops = record { jumps = refl; labelled = refl; one_each = refl; innermost = refl; forwards = λ e. refl }

  counted : IsCounted flow (headers flow levels) (spots body)
  counted = record { blocks = omega arith; labels = omega arith; jumps = omega arith; empty = omega arith }

  -- L_0005: for (;;) { L_0007: do { goto ..; } while (not_zero); }
  abbrev jumping : ℕ → Lines
  jumping to =
      line (Label (label_of 5)) 0 (line (Forever (line (Label (label_of 7)) 0 (line (DoWhile (line (Goto (label_of to)) 0 no_lines) not_zero) 0 no_lines))) 0 no_lines)

  -- a jump from the inner loop to the label of the outer one
  round : goes_on_or_round (spots (jumping 5)) ≡ true
  round = refl

  outer : leaves_innermost_alone (spots (jumping 5)) ≡ true
  outer = refl

  -- a jump from the inner loop to the label of the inner loop
  own : leaves_innermost_alone (spots (jumping 7)) ≡ false
  own = refl

  -- a jump to an instruction to which one edge leads
  lone : goes_where_edges_meet flow (spots (jumping 10)) ≡ false
  lone = refl

  -- a loop without a label
  unlabelled : loops_are_labelled (headers flow levels) (spots (line (Forever no_lines) 0 no_lines)) ≡ false
  unlabelled = refl

  -- a header that labels no loop
  unused : each_labels_one (headers flow levels) (spots inner) ≡ false
  unused = refl
