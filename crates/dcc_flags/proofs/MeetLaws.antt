-- The local runs of a block and of the block in which flags are folded meet.
use Rattle.std.proofs.Common.{◌≡◌, ℕ, suc, ◌/◌, Bool, true, false, ◌&&◌, ◌||◌, not, inl, inr, List, [], ◌∷◌, ◌++◌, Option, Some, None, refl, sym, ap, ap₂, ◌∙◌, subst, true≢false, flat_map, Contains, append-nil}
use Rattle.std.specs.Prelude.{if◌then◌else◌, ◌==◌}
use Rattle.dcc_run.specs.Event.{Event, Wrote, Took, MetEnd, writes}
use Rattle.dcc_run.specs.End.{End, Exit as ExitWith, Divide, Stuck}
use Rattle.dcc_num.specs.declared.FlagName.{FlagName}
use Rattle.dcc_ir.specs.declared.syntax.Loc.{Loc}
use Rattle.dcc_ir.specs.declared.syntax.Loc.TheVariants.{Half, Flag, Cell, Temp}
use Rattle.dcc_ir.specs.Tree.{Expr, Const, Get, Load, Unary, Binary, Widen, Part, Join, Choose, Address, Stmt, Set, Fetch, Store, Div, Call, Dos, Graph}
use Rattle.dcc_ir.specs.Location.{location_width, Values}
use Rattle.dcc_ir.specs.Value.{division_at, bytes_at}
use Rattle.dcc_ir.specs.Dos.{dos_string}
use Rattle.dcc_ir.specs.WellFormed.{is_stored_width, is_location, is_expr, is_expr_of, is_dividing, is_division, is_byte_place, is_stmt, IsGraph}
use Rattle.dcc_ir.specs.Use.{parts_of, got_by, reads_of, exprs_of, writes_of}
use Rattle.dcc_ir.specs.Live.{is_among, reads, block_in}
use Rattle.dcc_ir.specs.Joinable.{next_exprs}
use Rattle.dcc_ir.specs.Run.{State, is_call, scene_of, value_in, ended, stuck, setting, storing, dividing, happening, writing, taking, keyed, dos_step, stmt_step}
use Rattle.dcc_ir.specs.Passes.{AgreeOutside}
use Rattle.dcc_ir.proofs.FitLaws.{both}
use Rattle.std.proofs.lemmas.List.Concat.{flat_map-append}
use Rattle.dcc_ir.proofs.PathLaws.{decided}
use Rattle.dcc_ir.proofs.FitStates.{IsFit, scene-fits}
use Rattle.dcc_ir.proofs.LocationLaws.{Contains-here, Contains-later, Contains-none, Contains-cases, contains_among, among_contains}
use Rattle.dcc_flags.specs.declared.kept.Kept.{Kept}
use Rattle.dcc_flags.specs.Reaching.{defines, chooses, rest_at, passes, reads_at, IsKept}
use Rattle.dcc_flags.specs.Folding.{is_kept, Choices, choice, with_choice, with_choices, stmt_with_choices, taken, Folded, stmt_folded}
use Rattle.dcc_flags.proofs.SpotLaws.{Spot, walked_more}
use Rattle.dcc_flags.proofs.PlanLaws.{sets_of, Plan}
use Rattle.dcc_flags.proofs.HoldLaws.{old, stmts, spot, plain, Holding, Moves, holding_moves, holding_set, no_result, value_holds, in_append_left, in_append_right, in_flat}

-- what an operand reads, the operator reads
in_left : (x y : Expr) (l : Loc) → Contains (reads_of x) l → Contains (flat_map got_by (parts_of x ++ parts_of y)) l
in_left x y l d = subst (λ ls. Contains ls l) (sym (flat_map-append got_by (parts_of x) (parts_of y))) (in_append_left (reads_of x) (reads_of y) l d)

in_right : (x y : Expr) (l : Loc) → Contains (reads_of y) l → Contains (flat_map got_by (parts_of x ++ parts_of y)) l
in_right x y l d = subst (λ ls. Contains ls l) (sym (flat_map-append got_by (parts_of x) (parts_of y))) (in_append_right (reads_of x) (reads_of y) l d)

argued : (a c x y z : Bool) → ((a && (x && y)) || (c && (x && z))) ≡ true → x ≡ true
argued a c true y z ok = refl
argued true true false y z ok = absurd (true≢false (sym ok))
argued true false false y z ok = absurd (true≢false (sym ok))
argued false true false y z ok = absurd (true≢false (sym ok))
argued false false false y z ok = absurd (true≢false (sym ok))

-- what stands in place of a definition, where its flag is kept and where it isn't
abbrev pub by_kept : Bool → List ℕ → Choices → FlagName → Expr → Folded
by_kept x bits c g e =
    if x then record { stmts = Set (Flag g) e ∷ []; widths = []; choices = c }
    else record { stmts = (taken bits e).copies; widths = (taken bits e).widths; choices = with_choice c g (taken bits e).value }

set_same : (bits : List ℕ) (c : Choices) (g : FlagName) (e : Expr) (x : Bool) → x ≡ true → (by_kept x bits c g e).choices ≡ c
set_same bits c g e true so = refl
set_same bits c g e false so = absurd (true≢false (sym so))

module _ (graph after : Graph) (kept : Kept) (is : IsGraph graph) (exact : (f : FlagName) → is_kept kept f ≡ false → IsKept graph f → ⊥) (plan : Plan graph after kept) where
  abbrev Holds : ℕ → ℕ → Values → Values → Type 0
  Holds b k v v' = Holding graph after kept is exact plan b k v v'

  abbrev the_spot : ℕ → ℕ → Spot
  the_spot b k = spot graph after kept is exact plan b k

  abbrev is_plain : Loc → Bool
  is_plain l = plain graph after kept is exact plan l

  -- both states stand in a block, after so many statements
  pub record Both (b k : ℕ) (s t : State) : Type 0 where
    pub outside : AgreeOutside s t
    pub end : t.end ≡ s.end
    pub entry : t.running.graph.entry ≡ s.running.graph.entry
    pub holds : Holds b k s.running.values t.running.values

  module _ (b k : ℕ) where
    set_both : (l : Loc) (n n' : ℕ) (s t : State) → is_plain l ≡ true → n' ≡ n → Both b k s t → Both b k (setting l n s) (setting l n' t)
    set_both l n n' s t fine same h = subst (λ m. Both b k (setting l n s) (setting l m t)) (sym same) (record {
      outside = record { memory = h.outside.memory; input = h.outside.input; events = h.outside.events; base = h.outside.base };
      end = h.end;
      entry = h.entry;
      holds = holding_set graph after kept is exact plan b k l fine n s.running.values t.running.values h.holds;
    })

    happening_both : (events : List Event) (s t : State) → Both b k s t → Both b k (happening events s) (happening events t)
    happening_both events s t h = record {
      outside = record { memory = h.outside.memory; input = h.outside.input; events = ap (λ l. l ++ events) h.outside.events; base = h.outside.base };
      end = h.end;
      entry = h.entry;
      holds = h.holds;
    }

    ended_both : (end end' : End) (s t : State) → end' ≡ end → Both b k s t → Both b k (ended end s) (ended end' t)
    ended_both end end' s t same h = record {
      outside = record { memory = h.outside.memory; input = h.outside.input; events = h.outside.events; base = h.outside.base };
      end = same;
      entry = h.entry;
      holds = h.holds;
    }

    pub stuck_both : (s t : State) → Both b k s t → Both b k (stuck s) (stuck t)
    stuck_both s t h = ended_both (Stuck s.running.graph.entry) (Stuck t.running.graph.entry) s t (ap Stuck h.entry) h

    storing_both : (width address address' n n' : ℕ) (s t : State) → address' ≡ address → n' ≡ n → Both b k s t → Both b k (storing width address n s) (storing width address' n' t)
    storing_both width address address' n n' s t same same' h = record {
      outside = record { memory = let m = h.outside.memory in cc; input = h.outside.input; events = h.outside.events; base = h.outside.base };
      end = h.end;
      entry = h.entry;
      holds = h.holds;
    }

    dividing_both : (l : Loc) (n n' : Option ℕ) (s t : State) → is_plain l ≡ true → n' ≡ n → Both b k s t → Both b k (dividing l n s) (dividing l n' t)
    dividing_both l n n' s t fine same h = subst (λ m. Both b k (dividing l n s) (dividing l m t)) (sym same) (go n)
      where
        go : (n : Option ℕ) → Both b k (dividing l n s) (dividing l n t)
        go (Some n) = set_both l n n s t fine refl h
        go None = ended_both Divide Divide s t refl h

    abbrev PlainPlace : Option Loc → Type 0
    PlainPlace (Some l) = is_plain l ≡ true
    PlainPlace None = Unit {0}

    taking_both : (place : Option Loc) (byte : ℕ) (s t : State) → PlainPlace place → Both b k s t → Both b k (taking place byte s) (taking place byte t)
    taking_both (Some l) byte s t fine h = set_both l byte byte s t fine refl h
    taking_both None byte s t fine h = h

    keyed_both : (echo : Bool) (place : Option Loc) (input : List ℕ) (s t : State) → PlainPlace place → Both b k s t → Both b k (keyed echo place input s) (keyed echo place input t)
    keyed_both echo place [] s t fine h = happening_both (MetEnd ∷ []) (taking place 0x1A s) (taking place 0x1A t) (taking_both place 0x1A s t fine h)
    keyed_both echo place (byte ∷ input) s t fine h =
        happening_both (Took byte ∷ (if echo then Wrote byte ∷ [] else [])) _ _
        (taking_both place byte (record s { input = input }) (record t { input = input }) fine (record {
          outside = record { memory = h.outside.memory; input = refl; events = h.outside.events; base = h.outside.base };
          end = h.end;
          entry = h.entry;
          holds = h.holds;
        }))

    if_both : (x : Bool) (s s' t t' : State) → Both b k s t → Both b k s' t' → Both b k (if x then s else s') (if x then t else t')
    if_both true s s' t t' h g = h
    if_both false s s' t t' h g = g

    dos_both : (number : ℕ) (place : Option Loc) (n n' : ℕ) (s t : State) → PlainPlace place → n' ≡ n → Both b k s t → Both b k (dos_step number place n s) (dos_step number place n' t)
    dos_both number place n n' s t fine same h = subst (λ m. Both b k (dos_step number place n s) (dos_step number place m t)) (sym same)
        (if_both (number == 0x02) _ _ _ _ (happening_both (writes (n ∷ [])) s t h)
        (if_both (number == 0x4C) _ _ _ _ (ended_both (ExitWith n) (ExitWith n) s t refl h)
        (if_both (number == 0x01) _ _ _ _ (key true)
        (if_both (number == 0x08) _ _ _ _ (key false)
        (if_both (number == 0x09) _ _ _ _
        (subst (λ m. Both b k (writing (dos_string s.memory n) s) (writing (dos_string m n) t)) (sym h.outside.memory) (happening_both (writes (dos_string s.memory n)) s t h))
        (stuck_both s t h))))))
      where
        key : (echo : Bool) → Both b k (keyed echo place s.input s) (keyed echo place t.input t)
        key echo = subst (λ input. Both b k (keyed echo place s.input s) (keyed echo place input t)) (sym h.outside.input) (keyed_both echo place s.input s t fine h)

  -- A statement that defines no flag that isn't kept.

  pub record Stays (b k : ℕ) (stmt : Stmt) (rest : List Stmt) : Type 0 where
    pub at : rest_at graph b k ≡ stmt ∷ rest
    pub fine : is_stmt (old graph after kept is exact plan) stmt ≡ true
    pub sets_kept : (g : FlagName) (e : Expr) → stmt ≡ Set (Flag g) e → is_kept kept g ≡ true

  module _ (b k : ℕ) (known : plan.known b ≡ true) (stmt : Stmt) (rest : List Stmt) (stays : Stays b k stmt rest) where
    abbrev bits : List ℕ
    bits = old graph after kept is exact plan

    undefined : (f : FlagName) → is_kept kept f ≡ false → defines f stmt ≡ false
    undefined f none = elim (decided (defines f stmt)) [
      | inl so ↦
          let s = sets_of bits f stmt stays.fine (no_result graph after kept is exact plan f none b k stmt rest known stays.at) so in
          absurd (true≢false (sym (stays.sets_kept f s.value s.is) ∙ none))
      | inr other ↦ other
    ]

    pub moves : Moves graph after kept is exact plan b k
    moves = record {
      on = λ f none d r. passes r stays.at (ap (λ z. not z || chooses f stmt) (undefined f none));
      choices = λ f none. ap (λ (s : Spot). choice s.choices f) (walked_more kept (stmts graph after kept is exact plan b) k (plan.start b) stmt rest stays.at)
          ∙ ap (λ c. choice c f) (same_choices (the_spot b k).bits (the_spot b k).choices stmt stays.sets_kept);
    }
      where
        same_choices : (bits : List ℕ) (c : Choices) (stmt : Stmt) → ((g : FlagName) (e : Expr) → stmt ≡ Set (Flag g) e → is_kept kept g ≡ true) → (stmt_folded kept bits c stmt).choices ≡ c
        same_choices bits c (Set (Flag g) e) sets = set_same bits c g (with_choices c e) (is_kept kept g) (sets g e refl)
        same_choices bits c (Set (Half r h) e) sets = refl
        same_choices bits c (Set (Cell n h) e) sets = refl
        same_choices bits c (Set (Temp n) e) sets = refl
        same_choices bits c (Fetch l w a) sets = refl
        same_choices bits c (Store w a e) sets = refl
        same_choices bits c (Div l e) sets = refl
        same_choices bits c (Call r n a d) sets = refl
        same_choices bits c (Dos n p a) sets = refl

    -- each location that a statement with choices writes is plain
    pub written_plain : (l : Loc) → is_location bits l ≡ true → is_among (writes_of stmt) l ≡ true → is_plain l ≡ true
    written_plain (Half r h) ok among = refl
    written_plain (Cell n h) ok among = refl
    written_plain (Temp n) ok among = ok
    written_plain (Flag g) ok among = elim (decided (is_kept kept g)) [
      | inl so ↦ so
      | inr none ↦ absurd (true≢false (sym among ∙ undefined g none))
    ]

    -- The step of the statement, and of the statement with the choices in it.
    module _ (s t : State) (s_graph : s.running.graph ≡ graph) (t_graph : t.running.graph ≡ after) (fits : IsFit t) (h : Both b k s t) where
      abbrev c : Choices
      c = (the_spot b k).choices

      moved : Both b (suc k) s t
      moved = record { outside = h.outside; end = h.end; entry = h.entry; holds = holding_moves graph after kept is exact plan b k s.running.values t.running.values moves h.holds }

      read_at : (f : FlagName) → reads (exprs_of stmt) (Flag f) ≡ true → reads_at graph f b k ≡ true
      read_at f r = ap (λ l. reads (next_exprs l (block_in graph b).exit) (Flag f)) stays.at ∙ r

      pub step_value : (e : Expr) → Contains (exprs_of stmt) e → is_expr bits e ≡ true → value_in t (with_choices c e) ≡ value_in s e
      step_value e there ok =
          value_holds graph after kept is exact plan b k s.running.values t.running.values h.holds (exprs_of stmt) read_at (scene_of s) (scene_of t)
          (ap (λ (g : Graph). g.bits) s_graph) (ap (λ (g : Graph). g.bits) t_graph) h.outside.base h.outside.memory (scene-fits t fits) (λ l. refl) (λ l. refl) e there ok

      -- a part of an expression of the statement has one value before and after the choices are put in
      step_part : (e x : Expr) → Contains (exprs_of stmt) e → ((l : Loc) → Contains (reads_of x) l → Contains (reads_of e) l) → is_expr bits x ≡ true → value_in t (with_choices c x) ≡ value_in s x
      step_part e x there part ok =
          value_holds graph after kept is exact plan b k s.running.values t.running.values h.holds (x ∷ [])
          (λ f r. read_at f (contains_among (flat_map reads_of (exprs_of stmt)) (Flag f) (in_flat (exprs_of stmt) e (Flag f) there (part (Flag f) (from_one (Flag f) (among_contains (flat_map reads_of (x ∷ [])) (Flag f) r))))))
          (scene_of s) (scene_of t) (ap (λ (g : Graph). g.bits) s_graph) (ap (λ (g : Graph). g.bits) t_graph) h.outside.base h.outside.memory (scene-fits t fits) (λ l. refl) (λ l. refl) x (Contains-here x []) ok
        where
          from_one : (l : Loc) → Contains (reads_of x ++ []) l → Contains (reads_of x) l
          from_one l d = subst (λ ls. Contains ls l) (append-nil (reads_of x)) d

  -- a statement, and the same with its choices, do alike to both states
  pub step_both : (b k : ℕ) → plan.known b ≡ true → (stmt : Stmt) (rest : List Stmt) → is_call stmt ≡ false → Stays b k stmt rest → (s t : State) → s.running.graph ≡ graph → t.running.graph ≡ after → IsFit t → Both b k s t →
      Both b (suc k) (stmt_step stmt s) (stmt_step (stmt_with_choices (the_spot b k).choices stmt) t)
  step_both b k known (Set l e) rest plain_stmt stays s t sg tg fits h =
      let stmt = Set l e in
      let parts = both (is_location (old graph after kept is exact plan) l) (is_expr_of (old graph after kept is exact plan) (location_width (old graph after kept is exact plan) l) e) stays.fine in
      let e_ok = (both (is_expr (old graph after kept is exact plan) e) _ parts.1).0 in
      set_both b (suc k) l _ _ s t (written_plain b k known stmt rest stays l parts.0 (contains_among (l ∷ []) l (Contains-here l [])))
      (step_value b k known stmt rest stays s t sg tg fits h e (Contains-here e []) e_ok) (moved b k known stmt rest stays s t sg tg fits h)
  step_both b k known (Fetch l width a) rest plain_stmt stays s t sg tg fits h =
      let stmt = Fetch l width a in
      let three = both (is_location (old graph after kept is exact plan) l && is_stored_width width && (location_width (old graph after kept is exact plan) l == width)) (is_expr_of (old graph after kept is exact plan) 16 a) stays.fine in
      let two = both (is_location (old graph after kept is exact plan) l && is_stored_width width) (location_width (old graph after kept is exact plan) l == width) three.0 in
      let one = both (is_location (old graph after kept is exact plan) l) (is_stored_width width) two.0 in
      let a_ok = (both (is_expr (old graph after kept is exact plan) a) _ three.1).0 in
      set_both b (suc k) l _ _ s t (written_plain b k known stmt rest stays l one.0 (contains_among (l ∷ []) l (Contains-here l [])))
      (ap₂ (λ m n. bytes_at m (width / 8) n) h.outside.memory (step_value b k known stmt rest stays s t sg tg fits h a (Contains-here a []) a_ok)) (moved b k known stmt rest stays s t sg tg fits h)
  step_both b k known (Store width a e) rest plain_stmt stays s t sg tg fits h =
      let stmt = Store width a e in
      let two = both (is_stored_width width && is_expr_of (old graph after kept is exact plan) 16 a) (is_expr_of (old graph after kept is exact plan) width e) stays.fine in
      let one = both (is_stored_width width) (is_expr_of (old graph after kept is exact plan) 16 a) two.0 in
      let a_ok = (both (is_expr (old graph after kept is exact plan) a) _ one.1).0 in
      let e_ok = (both (is_expr (old graph after kept is exact plan) e) _ two.1).0 in
      storing_both b (suc k) width _ _ _ _ s t (step_value b k known stmt rest stays s t sg tg fits h a (Contains-here a (e ∷ [])) a_ok)
      (step_value b k known stmt rest stays s t sg tg fits h e (Contains-later a (e ∷ []) e (Contains-here e [])) e_ok) (moved b k known stmt rest stays s t sg tg fits h)
  step_both b k known (Div l (Binary o n x y)) rest plain_stmt stays s t sg tg fits h =
      let stmt = Div l (Binary o n x y) in
      let parts = both (is_location (old graph after kept is exact plan) l) (is_dividing (old graph after kept is exact plan) (location_width (old graph after kept is exact plan) l) (Binary o n x y)) stays.fine in
      let three = both (is_division o && (n == location_width (old graph after kept is exact plan) l) && is_stored_width (location_width (old graph after kept is exact plan) l) && is_expr_of (old graph after kept is exact plan) (location_width (old graph after kept is exact plan) l) x)
      (is_expr_of (old graph after kept is exact plan) (location_width (old graph after kept is exact plan) l) y) parts.1 in
      let two = both (is_division o && (n == location_width (old graph after kept is exact plan) l) && is_stored_width (location_width (old graph after kept is exact plan) l)) (is_expr_of (old graph after kept is exact plan) (location_width (old graph after kept is exact plan) l) x) three.0 in
      let x_ok = (both (is_expr (old graph after kept is exact plan) x) _ two.1).0 in
      let y_ok = (both (is_expr (old graph after kept is exact plan) y) _ three.1).0 in
      dividing_both b (suc k) l _ _ s t (written_plain b k known stmt rest stays l parts.0 (contains_among (l ∷ []) l (Contains-here l [])))
      (ap₂ (division_at o n)
      (step_part b k known stmt rest stays s t sg tg fits h (Binary o n x y) x (Contains-here (Binary o n x y) []) (λ l d. in_left x y l d) x_ok)
      (step_part b k known stmt rest stays s t sg tg fits h (Binary o n x y) y (Contains-here (Binary o n x y) []) (λ l d. in_right x y l d) y_ok))
      (moved b k known stmt rest stays s t sg tg fits h)
  step_both b k known (Div l (Const n m)) rest plain_stmt stays s t sg tg fits h = absurd (true≢false (sym (both (is_location (old graph after kept is exact plan) l) false stays.fine).1))
  step_both b k known (Div l (Get x)) rest plain_stmt stays s t sg tg fits h = absurd (true≢false (sym (both (is_location (old graph after kept is exact plan) l) false stays.fine).1))
  step_both b k known (Div l (Load n a)) rest plain_stmt stays s t sg tg fits h = absurd (true≢false (sym (both (is_location (old graph after kept is exact plan) l) false stays.fine).1))
  step_both b k known (Div l (Unary o n a)) rest plain_stmt stays s t sg tg fits h = absurd (true≢false (sym (both (is_location (old graph after kept is exact plan) l) false stays.fine).1))
  step_both b k known (Div l (Widen u n a)) rest plain_stmt stays s t sg tg fits h = absurd (true≢false (sym (both (is_location (old graph after kept is exact plan) l) false stays.fine).1))
  step_both b k known (Div l (Part n j a)) rest plain_stmt stays s t sg tg fits h = absurd (true≢false (sym (both (is_location (old graph after kept is exact plan) l) false stays.fine).1))
  step_both b k known (Div l (Join x y)) rest plain_stmt stays s t sg tg fits h = absurd (true≢false (sym (both (is_location (old graph after kept is exact plan) l) false stays.fine).1))
  step_both b k known (Div l (Choose x y z)) rest plain_stmt stays s t sg tg fits h = absurd (true≢false (sym (both (is_location (old graph after kept is exact plan) l) false stays.fine).1))
  step_both b k known (Div l (Address d)) rest plain_stmt stays s t sg tg fits h = absurd (true≢false (sym (both (is_location (old graph after kept is exact plan) l) false stays.fine).1))
  step_both b k known (Call results entry arguments depth) rest plain_stmt stays s t sg tg fits h = absurd (true≢false plain_stmt)
  step_both b k known (Dos number None None) rest plain_stmt stays s t sg tg fits h =
      dos_both b (suc k) number None 0 0 s t tt refl (moved b k known (Dos number None None) rest stays s t sg tg fits h)
  step_both b k known (Dos number None (Some e)) rest plain_stmt stays s t sg tg fits h =
      let stmt = Dos number None (Some e) in
      dos_both b (suc k) number None _ _ s t tt (step_value b k known stmt rest stays s t sg tg fits h e (Contains-here e []) (dos_argument number e stays.fine)) (moved b k known stmt rest stays s t sg tg fits h)
    where
      dos_argument : (number : ℕ) (e : Expr) → is_stmt (old graph after kept is exact plan) (Dos number None (Some e)) ≡ true → is_expr (old graph after kept is exact plan) e ≡ true
      dos_argument number e ok = argued ((number == 0x02) || (number == 0x4C)) (number == 0x09) (is_expr (old graph after kept is exact plan) e) _ _ ok
  step_both b k known (Dos number (Some l) None) rest plain_stmt stays s t sg tg fits h =
      let stmt = Dos number (Some l) None in
      let parts = both ((number == 0x01) || (number == 0x08)) (is_byte_place (old graph after kept is exact plan) (Some l)) stays.fine in
      let there = both (is_location (old graph after kept is exact plan) l) (location_width (old graph after kept is exact plan) l == 8) parts.1 in
      dos_both b (suc k) number (Some l) 0 0 s t (written_plain b k known stmt rest stays l there.0 (contains_among (l ∷ []) l (Contains-here l []))) refl (moved b k known stmt rest stays s t sg tg fits h)
  step_both b k known (Dos number (Some l) (Some e)) rest plain_stmt stays s t sg tg fits h = absurd (true≢false (sym stays.fine))
