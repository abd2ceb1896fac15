-- Moves of bytes beside statements, one by one: each moves to a place what the statements make of its location.
use Rattle.std.proofs.Common.{◌≡◌, ℕ, ℤ, Bool, true, false, ◌&&◌, ◌||◌, if◌then◌else◌, ◌⊎◌, inl, inr, List, [], ◌∷◌, ◌++◌, Option, refl, sym, ap, ◌∙◌, subst, true≢false}
use Rattle.std.specs.Prelude.{Contains}
use Rattle.dcc_ir.specs.declared.syntax.Loc.{Loc}
use Rattle.dcc_ir.specs.Location.{same_location}
use Rattle.dcc_ir.specs.Tree.{Stmt}
use Rattle.dcc_ir.specs.Live.{is_among}
use Rattle.dcc_ir.proofs.LocationLaws.{location_same, Contains-here}
use Rattle.dcc_ir.proofs.PathLaws.{decided}
use Rattle.dcc_lift.proofs.ListTests.{and_left, and_right, and_both, or_here, or_there, or_cases}
use Rattle.dcc_simulation.specs.Procedures.{Procedure}
use Rattle.dcc_demand.specs.Procedures.{Leaves, Pops, LeavesWord, Pushes, Procedures}
use Rattle.dcc_machine_demand.specs.Bodies.{Body, Point, op_of}
use Rattle.dcc_machine_demand.specs.Holders.{Holder, held, in_frame, Spot, placed, in_memory, nowhere, is_holder, is_at}
use Rattle.dcc_machine_demand.specs.Holders.{is_memory, is_same_holder}
use Rattle.dcc_machine_demand.specs.Moves.{Move, moves_of, moved_effect, moved_made_of, moved_uses}
use Rattle.dcc_machine_demand.proofs.PlaceLaws.{places-apart}
use Rattle.dcc_lifted_demand.proofs.ListLaws.{only}
use Rattle.dcc_sums.specs.Points.{Position}
use Rattle.dcc_refinement.specs.Refinement.{Refinement, EffectsAgree, WordEffectsAgree, Carries, Takes}
use Rattle.dcc_lifted_demand.specs.Sources.{sources, used, effect_after, word_effect_after}
use Rattle.dcc_lifted_demand.specs.LiftedRefinement.{IsSame}
use Rattle.dcc_instruction_demand.specs.Agreement.{Quiet, Agrees}
use Rattle.dcc_instruction_demand.proofs.IdleLaws.{same_once}
use Rattle.dcc_instruction_demand.proofs.ShownLaws.{Shows}
use Rattle.dcc_instruction_demand.proofs.ValueLaws.{is_written, effect_left}
use Rattle.dcc_instruction_demand.proofs.AlikeLaws.{same_lasts}
use Rattle.dcc_instruction_demand.proofs.StageLaws.{is_lasting}
use Rattle.dcc_instruction_demand.proofs.SpotLaws.{place_itself, IsOpenSpot, same_half, open_apart, memory_open}
use Rattle.dcc_instruction_demand.proofs.MovingLaws.{moved_to, moved_left, IsMovingOperation, effect_there, made_there}
use Rattle.dcc_instruction_demand.proofs.MovingLaws.{uses_there, callee_there, writes_if, if_writes, CarriesOn}
use Rattle.dcc_instruction_demand.proofs.MovingLaws.{carries_on, on_carries}
use Rattle.dcc_instruction_demand.proofs.MoveStmts.{sources_left}

module _ (coarse : Procedures ℕ Holder ℤ) (fine : Procedures Position Loc Loc) (r : Refinement ℕ Holder ℤ Position Loc Loc) (entry at pushed : ℕ) (o : Option Procedure) (bodies : List Body) (body : Body) (point : Point) where
  -- what may be read anywhere in the procedure
  abbrev pub exposed_there : Holder → Bool
  exposed_there = (coarse.procedure entry).is_exposed

  -- Moves to places that no location stands for, or to such that one does: what is moved there is just what the
  -- statements make the location of. These are all of the locations.
  pub data ArePaired (stmts : List Stmt) : List Move → List Loc → Type 0 where
    no_more : ArePaired stmts [] []
    nowhere_more : {move : Move} {moves : List Move} {outs : List Loc} → move.to ≡ nowhere → ArePaired stmts moves outs → ArePaired stmts (move ∷ moves) outs
    open_more : {move : Move} {moves : List Move} {outs : List Loc} → IsOpenSpot o body (coarse.procedure entry).is_exposed move.to → ArePaired stmts moves outs → ArePaired stmts (move ∷ moves) outs
    one_more : {L : Holder} {l : Loc} {move : Move} {moves : List Move} {outs : List Loc} → move.to ≡ placed L → IsSame o L l
        → Shows (IsSame o) (λ M. (is_holder body M ≡ true) × (move.made_of M ≡ true)) (sources stmts l)
        → (coarse.passes L ≡ true → EffectsAgree coarse fine r entry move.effect (effect_after pushed stmts l))
        → ArePaired stmts moves outs → ArePaired stmts (move ∷ moves) (l ∷ outs)

  pub paired_append : {stmts : List Stmt} {xs ys : List Move} {ls ms : List Loc} → ArePaired stmts xs ls → ArePaired stmts ys ms → ArePaired stmts (xs ++ ys) (ls ++ ms)
  paired_append ArePaired.no_more more = more
  paired_append (ArePaired.nowhere_more e rest) more = ArePaired.nowhere_more e (paired_append rest more)
  paired_append (ArePaired.open_more opens rest) more = ArePaired.open_more opens (paired_append rest more)
  paired_append (ArePaired.one_more e s shown agree rest) more = ArePaired.one_more e s shown agree (paired_append rest more)

  -- a move to memory, or to what may be read anywhere, is made of the place
  abbrev pub IsStored : List Move → Holder → Type 0
  IsStored [] L = ⊥
  IsStored (move ∷ moves) L = (IsOpenSpot o body (coarse.procedure entry).is_exposed move.to × (move.made_of L ≡ true)) ⊎ IsStored moves L

  module _ (v : IsMovingOperation coarse fine r entry at pushed o bodies body point) (stmts : List Stmt) where
    half_there : (L A : Holder) (l a : Loc) → IsSame o L l → IsSame o A a → is_same_holder A L ≡ same_location a l
    half_there = same_half o body exposed_there v.one v.unexposed

    open_there : (s : Spot) → IsOpenSpot o body exposed_there s → (A : Holder) (a : Loc) → IsSame o A a → is_at s A ≡ false
    open_there = open_apart o body exposed_there v.one v.unexposed

    -- Which places are moved to.

    pub moved_where : {moves : List Move} {outs : List Loc} → ArePaired stmts moves outs → (A : Holder) (a : Loc) → IsSame o A a → moved_to moves A ≡ is_among outs a
    moved_where ArePaired.no_more A a s = refl
    moved_where (ArePaired.nowhere_more {moves = moves} e rest) A a s = ap (λ spot. is_at spot A || moved_to moves A) e ∙ moved_where rest A a s
    moved_where (ArePaired.open_more {move = move} {moves = moves} opens rest) A a s = ap (λ b. b || moved_to moves A) (open_there move.to opens A a s) ∙ moved_where rest A a s
    moved_where (ArePaired.one_more {L = L} {l = l} {moves = moves} e t shown agree rest) A a s =
        ap (λ spot. is_at spot A || moved_to moves A) e ∙ ap (λ b. b || moved_to moves A) (half_there L A l a t s) ∙ ap (λ b. same_location a l || b) (moved_where rest A a s)

    -- a move to the place of a location is one to this location
    at_location : (spot : Spot) (L A : Holder) (l a : Loc) → spot ≡ placed L → IsSame o L l → IsSame o A a → is_at spot A ≡ true → a ≡ l
    at_location spot L A l a e t s i = location_same a l (sym (half_there L A l a t s) ∙ ap (λ x. is_at x A) (sym e) ∙ i)

    -- What is made.

    made_has : {moves : List Move} {outs : List Loc} → ArePaired stmts moves outs → (A : Holder) (a : Loc) → IsSame o A a → (M : Holder) (m : Loc) → IsSame o M m → is_holder body M ≡ true
        → moved_made_of moves A M ≡ true → Contains (sources stmts a) m
    made_has ArePaired.no_more A a s M m t p q = absurd (true≢false (sym q))
    made_has (ArePaired.nowhere_more {move = move} {moves = moves} e rest) A a s M m t p q =
        made_has rest A a s M m t p (sym (ap (λ spot. (is_at spot A && move.made_of M) || moved_made_of moves A M) e) ∙ q)
    made_has (ArePaired.open_more {move = move} {moves = moves} opens rest) A a s M m t p q =
        made_has rest A a s M m t p (sym (ap (λ b. (b && move.made_of M) || moved_made_of moves A M) (open_there move.to opens A a s)) ∙ q)
    made_has (ArePaired.one_more {L = L} {l = l} {move = move} {moves = moves} e u shown agree rest) A a s M m t p q =
        elim (or_cases (is_at move.to A && move.made_of M) (moved_made_of moves A M) q) [
          | inl both ↦
              let same : a ≡ l = at_location move.to L A l a e u s (and_left (is_at move.to A) (move.made_of M) both) in
              subst (λ b. Contains (sources stmts b) m) (sym same) (shown.has M m t (p, and_right (is_at move.to A) (move.made_of M) both))
          | inr other ↦ made_has rest A a s M m t p other
        ]

    made_comes : {moves : List Move} {outs : List Loc} → ArePaired stmts moves outs → (A : Holder) (a : Loc) → IsSame o A a → moved_to moves A ≡ true → (m : Loc) → Contains (sources stmts a) m
        → (M : Holder) × IsSame o M m × ((is_holder body M ≡ true) × (moved_made_of moves A M ≡ true))
    made_comes ArePaired.no_more A a s w m c = absurd (true≢false (sym w))
    made_comes (ArePaired.nowhere_more {move = move} {moves = moves} e rest) A a s w m c =
        let found = made_comes rest A a s (sym (ap (λ spot. is_at spot A || moved_to moves A) e) ∙ w) m c in
        (found.0, found.1, (found.2.0, or_there (is_at move.to A && move.made_of found.0) (moved_made_of moves A found.0) found.2.1))
    made_comes (ArePaired.open_more {move = move} {moves = moves} opens rest) A a s w m c =
        let found = made_comes rest A a s (sym (ap (λ b. b || moved_to moves A) (open_there move.to opens A a s)) ∙ w) m c in
        (found.0, found.1, (found.2.0, or_there (is_at move.to A && move.made_of found.0) (moved_made_of moves A found.0) found.2.1))
    made_comes (ArePaired.one_more {L = L} {l = l} {move = move} {moves = moves} e u shown agree rest) A a s w m c = elim (or_cases (is_at move.to A) (moved_to moves A) w) [
      | inl i ↦
          let same : a ≡ l = at_location move.to L A l a e u s i in
          let found = shown.comes m (subst (λ b. Contains (sources stmts b) m) same c) in
          (found.0, found.1, (found.2.0, or_here (is_at move.to A && move.made_of found.0) (moved_made_of moves A found.0) (and_both (is_at move.to A) (move.made_of found.0) i found.2.1)))
      | inr other ↦
          let found = made_comes rest A a s other m c in
          (found.0, found.1, (found.2.0, or_there (is_at move.to A && move.made_of found.0) (moved_made_of moves A found.0) found.2.1))
    ]

    -- What changes.

    effect_moved : {moves : List Move} {outs : List Loc} → ArePaired stmts moves outs → (A : Holder) (a : Loc) → IsSame o A a → coarse.passes A ≡ true → moved_to moves A ≡ true
        → EffectsAgree coarse fine r entry (moved_effect moves A) (effect_after pushed stmts a)
    effect_moved ArePaired.no_more A a s p w = absurd (true≢false (sym w))
    effect_moved (ArePaired.nowhere_more {move = move} {moves = moves} e rest) A a s p w =
        subst (λ y. EffectsAgree coarse fine r entry y (effect_after pushed stmts a)) (sym (ap (λ spot. if is_at spot A then move.effect else moved_effect moves A) e))
        (effect_moved rest A a s p (sym (ap (λ spot. is_at spot A || moved_to moves A) e) ∙ w))
    effect_moved (ArePaired.open_more {move = move} {moves = moves} opens rest) A a s p w =
        subst (λ y. EffectsAgree coarse fine r entry y (effect_after pushed stmts a)) (sym (ap (λ b. if b then move.effect else moved_effect moves A) (open_there move.to opens A a s)))
        (effect_moved rest A a s p (sym (ap (λ b. b || moved_to moves A) (open_there move.to opens A a s)) ∙ w))
    effect_moved (ArePaired.one_more {L = L} {l = l} {move = move} {moves = moves} e u shown agree rest) A a s p w = by (is_at move.to A) refl w (λ other. effect_moved rest A a s p other)
      where
        by : (b : Bool) → is_at move.to A ≡ b → (b || moved_to moves A) ≡ true → (moved_to moves A ≡ true → EffectsAgree coarse fine r entry (moved_effect moves A) (effect_after pushed stmts a))
            → EffectsAgree coarse fine r entry (if b then move.effect else moved_effect moves A) (effect_after pushed stmts a)
        by true i w later =
            let same : a ≡ l = at_location move.to L A l a e u s i in
            let place : A ≡ L = v.one A L l (subst (λ b. IsSame o A b) same s) u in
            subst (λ b. EffectsAgree coarse fine r entry move.effect (effect_after pushed stmts b)) (sym same) (agree (subst (λ B. coarse.passes B ≡ true) place p))
        by false i w later = later w

    moved_reached : {moves : List Move} {outs : List Loc} → ArePaired stmts moves outs → (A : Holder) → moved_to moves A ≡ true → (exposed_there A ≡ true) ⊎ ((l : Loc) × IsSame o A l)
    moved_reached ArePaired.no_more A w = absurd (true≢false (sym w))
    moved_reached (ArePaired.nowhere_more {moves = moves} e rest) A w = moved_reached rest A (sym (ap (λ spot. is_at spot A || moved_to moves A) e) ∙ w)
    moved_reached (ArePaired.open_more {move = move} {moves = moves} opens rest) A w = by move.to opens w (λ other. moved_reached rest A other)
      where
        by : (s : Spot) → IsOpenSpot o body exposed_there s → (is_at s A || moved_to moves A) ≡ true → (moved_to moves A ≡ true → (exposed_there A ≡ true) ⊎ ((l : Loc) × IsSame o A l))
            → (exposed_there A ≡ true) ⊎ ((l : Loc) × IsSame o A l)
        by _ IsOpenSpot.in_no_cell w later = later w
        by _ (IsOpenSpot.in_open_cell {k = k} e) w later = elim (or_cases (is_same_holder A (in_frame k)) (moved_to moves A) w) [
          | inl i ↦ inl (subst (λ B. exposed_there B ≡ true) (sym (places-apart A (in_frame k) i)) e)
          | inr other ↦ later other
        ]
    moved_reached (ArePaired.one_more {L = L} {l = l} {move = move} {moves = moves} e u shown agree rest) A w = elim (or_cases (is_at move.to A) (moved_to moves A) w) [
      | inl i ↦ inr (l, subst (λ B. IsSame o B l) (sym (places-apart A L (ap (λ x. is_at x A) (sym e) ∙ i))) u)
      | inr other ↦ moved_reached rest A other
    ]

    -- What is used.

    exposed_open : (L : Holder) → exposed_there L ≡ true → IsOpenSpot o body exposed_there (placed L)
    exposed_open (held l) e = absurd (true≢false (sym e ∙ v.exposed (held l)))
    exposed_open (in_frame k) e = IsOpenSpot.in_open_cell e

    used_stored : (moves : List Move) (L : Holder) → moved_uses moves L ≡ true → IsStored moves L
    used_stored [] L u = absurd (true≢false (sym u))
    used_stored (move ∷ moves) L u = elim (or_cases (is_memory move.to && move.made_of L) (moved_uses moves L) u) [
      | inl both ↦ inl (memory_open o body exposed_there move.to (and_left (is_memory move.to) (move.made_of L) both), and_right (is_memory move.to) (move.made_of L) both)
      | inr other ↦ inr (used_stored moves L other)
    ]

    at_open : (s : Spot) (A : Holder) → exposed_there A ≡ true → is_at s A ≡ true → IsOpenSpot o body exposed_there s
    at_open (placed L) A e i = exposed_open L (subst (λ B. exposed_there B ≡ true) (places-apart A L i) e)
    at_open in_memory A e i = absurd (true≢false (sym i))
    at_open nowhere A e i = absurd (true≢false (sym i))

    made_stored : (moves : List Move) (A L : Holder) → exposed_there A ≡ true → moved_made_of moves A L ≡ true → IsStored moves L
    made_stored [] A L e m = absurd (true≢false (sym m))
    made_stored (move ∷ moves) A L e m = elim (or_cases (is_at move.to A && move.made_of L) (moved_made_of moves A L) m) [
      | inl both ↦ inl (at_open move.to A e (and_left (is_at move.to A) (move.made_of L) both), and_right (is_at move.to A) (move.made_of L) both)
      | inr other ↦ inr (made_stored moves A L e other)
    ]

    -- a place of which something is stored
    data IsStoredOf (moves : List Move) (L : Holder) : Type 0 where
      to_memory : moved_uses moves L ≡ true → IsStoredOf moves L
      to_exposed : (A : Holder) → exposed_there A ≡ true → moved_to moves A ≡ true → moved_made_of moves A L ≡ true → IsStoredOf moves L

    stored_of : (moves : List Move) (L : Holder) → IsStored moves L → IsStoredOf moves L
    stored_of [] L t = absurd t
    stored_of (move ∷ moves) L (inl (opens, m)) = by move.to opens
      where
        by : (s : Spot) → IsOpenSpot o body exposed_there s → IsStoredOf (record move { to = s } ∷ moves) L
        by _ IsOpenSpot.in_no_cell = IsStoredOf.to_memory (or_here (move.made_of L) (moved_uses moves L) m)
        by _ (IsOpenSpot.in_open_cell {k = k} e) =
            let here = place_itself (in_frame k) in
            IsStoredOf.to_exposed (in_frame k) e (or_here (is_same_holder (in_frame k) (in_frame k)) (moved_to moves (in_frame k)) here)
            (or_here (is_same_holder (in_frame k) (in_frame k) && move.made_of L) (moved_made_of moves (in_frame k) L) (and_both (is_same_holder (in_frame k) (in_frame k)) (move.made_of L) here m))
    stored_of (move ∷ moves) L (inr rest) = by (stored_of moves L rest)
      where
        by : IsStoredOf moves L → IsStoredOf (move ∷ moves) L
        by (IsStoredOf.to_memory u) = IsStoredOf.to_memory (or_there (is_memory move.to && move.made_of L) (moved_uses moves L) u)
        by (IsStoredOf.to_exposed A e w m) =
            IsStoredOf.to_exposed A e (or_there (is_at move.to A) (moved_to moves A) w) (or_there (is_at move.to A && move.made_of L) (moved_made_of moves A L) m)

    abbrev own : List Move
    own = moves_of body point.height (op_of point)

    abbrev StoredHere : Holder → Type 0
    StoredHere L = (is_holder body L ≡ true) × IsStored (moves_of body point.height (op_of point)) L

    takes_stored : (L : Holder) → Takes coarse fine r entry at L → StoredHere L
    takes_stored L (inl u) =
        let both = sym (uses_there coarse fine r entry at pushed o bodies body point v L) ∙ u in
        (and_left (is_holder body L) (moved_uses own L) both, used_stored own L (and_right (is_holder body L) (moved_uses own L) both))
    takes_stored L (inr (to, b, e, c, w, m)) =
        let both = sym (made_there coarse fine r entry at pushed o bodies body point v to L) ∙ m in
        (and_left (is_holder body L) (moved_made_of own to L) both, made_stored own to L e (and_right (is_holder body L) (moved_made_of own to L) both))

    stored_takes : (L : Holder) → StoredHere L → Takes coarse fine r entry at L
    stored_takes L (p, stored) = by (stored_of own L stored)
      where
        by : IsStoredOf own L → Takes coarse fine r entry at L
        by (IsStoredOf.to_memory u) = inl (uses_there coarse fine r entry at pushed o bodies body point v L ∙ and_both (is_holder body L) (moved_uses own L) p u)
        by (IsStoredOf.to_exposed A e w m) =
            inr (
              A,
              v.goes.0,
              e,
              v.goes.1,
              if_writes coarse fine r entry at pushed o bodies body point v A w,
              made_there coarse fine r entry at pushed o bodies body point v A L ∙ and_both (is_holder body L) (moved_made_of own A L) p m,
            )

    -- All that is to be shown.

    pub record Pairing (moves : List Move) (outs : List Loc) : Type 0 where
      pub paired : ArePaired stmts moves outs
      pub unwritten : (m : Loc) → is_lasting m ≡ true → is_among outs m ≡ false → is_written stmts m ≡ false
      pub stored : Shows (IsSame o) (λ L. (is_holder body L ≡ true) × IsStored moves L) (used stmts [])
      pub quiet : Quiet stmts

    pub record MovesBytes : Type 0 where
      pub outs : List Loc
      pub pairing : Pairing (moves_of body point.height (op_of point)) outs
      pub words : (L : Holder) (l : Loc) (k : ℤ) (w : Loc) → IsSame o L l → coarse.passes L ≡ true → r.same_word entry k w
          → WordEffectsAgree coarse fine r L l (((coarse.procedure entry).action at).word_effect k) (word_effect_after pushed stmts w)
      -- what is pushed stays, and where something is popped its word does
      pub saved : (L : Holder) (k : ℤ) → coarse.passes L ≡ true → ((coarse.procedure entry).action at).word_effect k ≡ Pushes L → moved_to (moves_of body point.height (op_of point)) L ≡ false
      pub popped : (L : Holder) (k : ℤ) (w : Loc) → coarse.passes L ≡ true → moved_to (moves_of body point.height (op_of point)) L ≡ true → r.same_word entry k w
          → word_effect_after pushed stmts w ≡ LeavesWord

    module _ (f : MovesBytes) where
      abbrev Making : Holder → Holder → Type 0
      Making A L = Carries coarse fine r entry at L A ⊎ Takes coarse fine r entry at L

      abbrev Carrying : Holder → Holder → Type 0
      Carrying L A = CarriesOn coarse fine r entry at pushed o bodies body point v L A

      using : Shows (r.same entry) (Takes coarse fine r entry at) (used stmts [])
      using = record {
        has = λ L l s t. f.pairing.stored.has L l (v.same L l s) (takes_stored L t);
        comes = λ l c. let found = f.pairing.stored.comes l c in (found.0, v.as_same found.0 l found.1, stored_takes found.0 found.2);
      }

      left_alone : (A : Holder) (a : Loc) → IsSame o A a → moved_to own A ≡ false → is_written stmts a ≡ false
      left_alone A a s e = f.pairing.unwritten a (same_lasts o A a s) (sym (moved_where f.pairing.paired A a s) ∙ e)

      carried_there : (A : Holder) (a : Loc) → IsSame o A a → (L : Holder) (l : Loc) → IsSame o L l → Carrying L A → Contains (sources stmts a) l
      carried_there A a s L l t (CarriesOn.made w p m) = made_has f.pairing.paired A a s L l t p m
      carried_there A a s L l t (CarriesOn.stays same w) =
          let one : l ≡ a = same_once t (subst (λ B. IsSame o B a) (sym same) s) in
          subst (λ ls. Contains ls l) (sym (sources_left stmts a (left_alone A a s w))) (subst (λ m. Contains (a ∷ []) m) (sym one) (Contains-here a []))

      flows_there : (A : Holder) (a : Loc) → IsSame o A a → (l : Loc) → Contains (sources stmts a) l → (L : Holder) × IsSame o L l × Carrying L A
      flows_there A a s l c = elim (decided (moved_to own A)) [
        | inl w ↦ let found = made_comes f.pairing.paired A a s w l c in (found.0, found.1, CarriesOn.made w found.2.0 found.2.1)
        | inr e ↦
            (A, subst (λ m. IsSame o A m) (only a l (subst (λ ls. Contains ls l) (sources_left stmts a (left_alone A a s e)) c)) s, CarriesOn.stays refl e)
      ]

      effects : (A : Holder) (a : Loc) → IsSame o A a → coarse.passes A ≡ true → EffectsAgree coarse fine r entry (((coarse.procedure entry).action at).effect A) (effect_after pushed stmts a)
      effects A a s p =
          subst (λ y. EffectsAgree coarse fine r entry y (effect_after pushed stmts a)) (sym (effect_there coarse fine r entry at pushed o bodies body point v A)) (by (moved_to own A) refl)
        where
          by : (b : Bool) → moved_to own A ≡ b → EffectsAgree coarse fine r entry (moved_effect own A) (effect_after pushed stmts a)
          by true e = effect_moved f.pairing.paired A a s p e
          by false e =
              subst (λ y. EffectsAgree coarse fine r entry y (effect_after pushed stmts a)) (sym (moved_left own A e))
              (subst (λ y. EffectsAgree coarse fine r entry Leaves y) (sym (effect_left (fine.procedure entry) pushed stmts a (left_alone A a s e))) EffectsAgree.both_leave)

      pops : (A : Holder) (k : ℤ) → ((coarse.procedure entry).action at).effect A ≡ Pops k → moved_to own A ≡ true
      pops A k e = elim (decided (moved_to own A)) [
        | inl w ↦ w
        | inr n ↦ let none : Leaves ≡ Pops k = sym (moved_left own A n) ∙ sym (effect_there coarse fine r entry at pushed o bodies body point v A) ∙ e in absurd (cc none)
      ]

      pub moves_agree : Agrees coarse fine r entry at pushed stmts []
      moves_agree = record {
        effect = λ A a s p. effects A a (v.same A a s) p;
        word_effect = λ A a k w s p t. f.words A a k w (v.same A a s) p t;
        saved = λ A a k s p e. (
          callee_there coarse fine r entry at pushed o bodies body point v,
          effect_left (fine.procedure entry) pushed stmts a (left_alone A a (v.same A a s) (f.saved A k p e)),
        );
        popped = λ A a k w s p t e. f.popped A k w p (pops A k e) t;
        callees = inl (callee_there coarse fine r entry at pushed o bodies body point v, f.pairing.quiet);
        carried = λ L A l a s t c. inl (carried_there A a (v.same A a t) L l (v.same L l s) (carries_on coarse fine r entry at pushed o bodies body point v L A c));
        taken = λ L l s t. using.has L l s t;
        flows = λ A l a s c.
            let found = flows_there A a (v.same A a s) l c in
            (found.0, v.as_same found.0 l found.1, inl (on_carries coarse fine r entry at pushed o bodies body point v found.0 A found.2));
        uses = λ l c. using.comes l c;
        made = λ L A w m. elim (moved_reached f.pairing.paired A (writes_if coarse fine r entry at pushed o bodies body point v A w)) [
          | inl e ↦ inl e
          | inr found ↦ inr (found.0, v.as_same A found.0 found.1)
        ];
      }
