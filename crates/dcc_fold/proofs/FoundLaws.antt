-- What is found in the parts of an expression is found in it, and what is joinable is found.
use Rattle.std.proofs.Common.{◌≡◌, ◌⊎◌, ℕ, suc, ◌+◌, ◌<◌, ◌≤◌, Bool, true, false, ◌&&◌, ◌||◌, not, inl, inr, List, [], ◌∷◌, ◌++◌, map, Option, Some, None, refl, sym, ap, ap₂, ◌∙◌, subst, arith, true≢false, slice_get, Contains}
use Rattle.std.specs.Prelude.{All, flat_map}
use Rattle.std.specs.List.{list_any}
use Rattle.std.proofs.lemmas.List.Concat.{flat_map-append}
use Rattle.std.proofs.lemmas.List.Folds.{list_any-append}
use Rattle.std.proofs.lemmas.List.Elements.{All-append, Contains-append_left}
use Rattle.dcc_ir.specs.declared.syntax.Loc.{Loc}
use Rattle.dcc_ir.specs.declared.syntax.Loc.TheVariants.{Temp}
use Rattle.dcc_ir.specs.Joinable.{with_value_for, next_exprs}
use Rattle.dcc_ir.specs.Live.{is_among}
use Rattle.dcc_ir.specs.Location.{same_location}
use Rattle.dcc_ir.specs.Measure.{depth_of}
use Rattle.dcc_ir.specs.Tree.{Expr, Get, Stmt, Set, Block, Graph}
use Rattle.dcc_ir.specs.Use.{parts_of, got_by, reads_of}
use Rattle.dcc_ir.proofs.FitLaws.{either}
use Rattle.dcc_ir.proofs.LocationLaws.{location_same}
use Rattle.dcc_fold.specs.Chain.{Step, statement, edge, IsFirst, IsAlong, IsLed}
use Rattle.dcc_fold.specs.Joinable.{IsAlone, IsCarried, IsReader, IsJoinable}
use Rattle.dcc_fold.specs.Known.{Known, told}
use Rattle.dcc_fold.specs.Carried.{carried, IsTrue}
use Rattle.dcc_fold.specs.Found.{IsFoundIn, IsFoundBy, IsFoundAmong, JoinsAmong, JoinsIn, JoinsAlong}
use Rattle.dcc_fold.proofs.CarriedLaws.{statements, SetsIt, IsOf, edge-of, statement-of, sets-it, carried-there, carried-is, is-carried, all-along, all-over}

-- Reads of an expression's parts.

pub reads-two : (a b : List Expr) (l : Loc) → list_any (same_location l) (flat_map got_by (a ++ b)) ≡ (is_among (flat_map got_by a) l || is_among (flat_map got_by b) l)
reads-two a b l = ap (list_any (same_location l)) (flat_map-append got_by a b) ∙ list_any-append (same_location l) (flat_map got_by a) (flat_map got_by b)

pub got-one : (l : Loc) (t : ℕ) → is_among (l ∷ []) (Temp t) ≡ true → l ≡ Temp t
got-one l t is = sym (location_same (Temp t) l (or-off (same_location (Temp t) l) is))
  where
    or-off : (b : Bool) → (b || false) ≡ true → b ≡ true
    or-off true is = refl
    or-off false is = is

module _ (graph : Graph) where
  -- Between what a walk knows and what is carried.

  pub found-joins : (known : Known) (steps : List Step) (es : List Expr) (t : ℕ) → IsTrue known steps → IsFoundAmong graph known es t → JoinsAmong graph steps es t
  found-joins known steps es t is found = record {
    alone = found.found.1.alone;
    value = found.found.1.value;
    carried_is = sym (is.true_of t) ∙ found.found.1.is_told;
    reader = found.reader;
    there = found.there;
    is_reader = record { reads = found.found.0; shallow = found.found.1.shallow };
  }

  pub joins-found : (known : Known) (steps : List Step) (es : List Expr) (t : ℕ) → IsTrue known steps → JoinsAmong graph steps es t → IsFoundAmong graph known es t
  joins-found known steps es t is joins = record {
    reader = joins.reader;
    there = joins.there;
    found = (
      joins.is_reader.reads,
      record {
        alone = joins.alone;
        value = joins.value;
        is_told = is.true_of t ∙ joins.carried_is;
        shallow = joins.is_reader.shallow;
      },
    );
  }

  -- Between what is found along chains and what is joinable.

  all-of : (first place : ℕ) (lead : List Step) (block : Block) (passed rest : List Stmt) → IsAlong graph first place lead → slice_get graph.blocks place ≡ Some block → block.stmts ≡ passed ++ rest
      → (P : Step → Type 0) → P edge → ((s : Stmt) → Contains (statements graph) s → P (statement s)) → All P (lead ++ map statement passed)
  all-of first place lead block passed rest along placed split P crossed holds =
      All-append P lead (map statement passed) (all-along graph P crossed holds first place lead along)
      (all-over graph P crossed holds place block passed placed (λ s there. subst (λ xs. Contains xs s) (sym split) (Contains-append_left passed rest s there)))

  pub joinable-along : (t : ℕ) → IsJoinable graph t → (first : ℕ) × IsFirst graph first × JoinsAlong graph first t
  joinable-along t is =
      let of-graph : All (IsOf graph) (is.lead ++ map statement is.passed) =
      all-of is.led.first is.place is.lead is.block is.passed is.rest is.led.along is.placed is.split (IsOf graph) (edge-of graph) (statement-of graph) in
      let there = carried-there graph t is.value (is.lead ++ map statement is.passed) of-graph is.carried in
      let sets : All (SetsIt t is.value) (is.lead ++ map statement is.passed) =
      all-of is.led.first is.place is.lead is.block is.passed is.rest is.led.along is.placed is.split (SetsIt t is.value) (λ fails. absurd (true≢false (sym fails)))
      (sets-it graph t is.value is.alone.written_once there) in (
        is.led.first,
        is.led.is_first,
        record {
          place = is.place;
          block = is.block;
          placed = is.placed;
          lead = is.lead;
          along = is.led.along;
          joins = record {
            passed = is.passed;
            rest = is.rest;
            split = is.split;
            joins = record {
              alone = is.alone;
              value = is.value;
              carried_is = is-carried t is.value (is.lead ++ map statement is.passed) sets is.carried;
              reader = is.reader;
              there = is.read_next;
              is_reader = is.is_reader;
            };
          };
        },
      )

  pub along-joinable : (t first : ℕ) → IsFirst graph first → JoinsAlong graph first t → IsJoinable graph t
  along-joinable t first is_first is = record {
    alone = is.joins.joins.alone;
    place = is.place;
    block = is.block;
    placed = is.placed;
    lead = is.lead;
    led = record { first = first; is_first = is_first; along = is.along };
    passed = is.joins.passed;
    rest = is.joins.rest;
    split = is.joins.split;
    value = is.joins.joins.value;
    carried = carried-is t is.joins.joins.value (is.lead ++ map statement is.joins.passed) is.joins.joins.carried_is;
    reader = is.joins.joins.reader;
    read_next = is.joins.joins.there;
    is_reader = is.joins.joins.is_reader;
  }
