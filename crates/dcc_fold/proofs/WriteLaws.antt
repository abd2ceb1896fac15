-- What a walk knows after a location was written, and after a statement.
use Rattle.std.proofs.Common.{◌≡◌, ◌≢◌, ℕ, ◌<◌, Bool, true, false, ◌||◌, inl, inr, List, [], ◌∷◌, ◌++◌, length, map, get_or, slice_set, refl, sym, ap, ◌∙◌, subst, arith, true≢false}
use Rattle.std.specs.Prelude.{if◌then◌else◌}
use Rattle.std.proofs.lemmas.List.{append-nil, get_or-set_same, get_or-set_other}
use Rattle.dcc_ir.specs.declared.syntax.Loc.{Loc}
use Rattle.dcc_ir.specs.declared.syntax.Loc.TheVariants.{Half, Flag, Cell, Temp}
use Rattle.dcc_ir.specs.Live.{is_among}
use Rattle.dcc_ir.specs.Location.{same_location}
use Rattle.dcc_ir.specs.Tree.{Expr, Stmt, Set, Fetch, Store, Div, Call, Dos}
use Rattle.dcc_ir.proofs.LocationLaws.{location_same, location_itself}
use Rattle.dcc_ir.proofs.PathLaws.{decided}
use Rattle.dcc_flow.specs.Marks.{location_number}
use Rattle.dcc_flow.proofs.MarkLaws.{number_same}
use Rattle.dcc_fold.specs.Chain.{Step, statement, edge}
use Rattle.dcc_fold.specs.Known.{Fact, Known, stamp, facts_of, places_of, is_store, is_edge, is_calling, IsWritten, IsAfter}

pub written-stamps : (old room : List ℕ) (now : ℕ) (location : Loc) → ((n : ℕ) → get_or room n 0 ≡ get_or old n 0) → location_number location < length room → (other : Loc)
    → get_or (slice_set room (location_number location) now) (location_number other) 0 ≡ (if is_among (location ∷ []) other then now else get_or old (location_number other) 0)
written-stamps old room now location same inside other = by (same_location other location) refl
  where
    by : (b : Bool) → same_location other location ≡ b → get_or (slice_set room (location_number location) now) (location_number other) 0 ≡ (if b || false then now else get_or old (location_number other) 0)
    by true is =
        ap (λ l. get_or (slice_set room (location_number location) now) (location_number l) 0) (location_same other location is)
        ∙ get_or-set_same room (location_number location) now 0 inside
    by false is =
        get_or-set_other room (location_number location) (location_number other) now 0
        (λ one. true≢false (sym (ap (λ l. same_location l location) (number_same other location one) ∙ location_itself location) ∙ is))
        ∙ same (location_number other)

-- a location was written, and nothing else
pub after-written : (step : Step) (location : Loc) (known new : Known) → IsWritten location known new → places_of step ≡ location ∷ [] → facts_of step ≡ [] → is_store step ≡ false → is_edge step ≡ false
    → is_calling step ≡ false → IsAfter step known new
after-written step location known new is places facts store crossing calling = record {
  facts = ap (λ (k : Known). k.facts) is.rest ∙ sym (append-nil known.facts) ∙ ap (λ fs. known.facts ++ fs) (sym facts);
  stamps = λ l. is.stamps l ∙ ap (λ ls. if is_among ls l then length known.facts else stamp known l) (sym places);
  stored = ap (λ (k : Known). k.stored) is.rest ∙ ap (λ b. if b then length known.facts else known.stored) (sym store);
  crossed = ap (λ (k : Known). k.crossed) is.rest ∙ ap (λ b. if b then length known.facts else known.crossed) (sym crossing);
  called = ap (λ (k : Known). k.called) is.rest ∙ ap (λ b. if b then length known.facts else known.called) (sym calling);
}

-- and a fact was noted of it
pub after-noted : (n : ℕ) (value : Expr) (known written new : Known) → IsWritten (Temp n) known written → new ≡ record written { facts = written.facts ++ record { temporary = n; value = value } ∷ [] }
    → IsAfter (statement (Set (Temp n) value)) known new
after-noted n value known written new is noted = record {
  facts = ap (λ (k : Known). k.facts) noted ∙ ap (λ (k : Known). k.facts ++ record { temporary = n; value = value } ∷ []) is.rest;
  stamps = λ l. ap (λ (k : Known). stamp k l) noted ∙ is.stamps l;
  stored = ap (λ (k : Known). k.stored) noted ∙ ap (λ (k : Known). k.stored) is.rest;
  crossed = ap (λ (k : Known). k.crossed) noted ∙ ap (λ (k : Known). k.crossed) is.rest;
  called = ap (λ (k : Known). k.called) noted ∙ ap (λ (k : Known). k.called) is.rest;
}

pub after-other : (location : Loc) (value : Expr) (known new : Known) → ((n : ℕ) → location ≢ Temp n) → IsWritten location known new → IsAfter (statement (Set location value)) known new
after-other (Half r h) value known new other is = after-written (statement (Set (Half r h) value)) (Half r h) known new is refl refl refl refl refl
after-other (Flag f) value known new other is = after-written (statement (Set (Flag f) value)) (Flag f) known new is refl refl refl refl refl
after-other (Cell n h) value known new other is = after-written (statement (Set (Cell n h) value)) (Cell n h) known new is refl refl refl refl refl
after-other (Temp n) value known new other is = absurd (other n refl)
