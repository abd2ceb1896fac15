-- What holds between the values of a graph and those of the graph in which its flags are folded, and how statements keep
-- it.
use Rattle.std.proofs.Common.{◌≡◌, ℕ, zero, suc, ◌<◌, ◌≤◌, Bool, true, false, ◌&&◌, ◌||◌, not, ◌⊎◌, inl, inr, List, [], ◌∷◌, ◌++◌, length, drop, refl, sym, ap, ap₂, ◌∙◌, subst, true≢false, flat_map, Contains, eqb-true, eq-eqb, ltb-true, lt-ltb, arith, append_assoc, length-append}
use Rattle.std.specs.Prelude.{if◌then◌else◌, ◌==◌, nat_lt, nat_le, All}
use Rattle.std.specs.List.{list_all}
use Rattle.std.proofs.lemmas.Bool.{cases_lt}
use Rattle.std.proofs.lemmas.List.Elements.{All-head, All-tail, All-contains, All-weaker}
use Rattle.dcc_num.specs.declared.FlagName.{FlagName}
use Rattle.dcc_ir.specs.declared.syntax.Loc.{Loc}
use Rattle.dcc_ir.specs.declared.syntax.Loc.TheVariants.{Half, Flag, Cell, Temp}
use Rattle.dcc_ir.specs.Tree.{Expr, Stmt, Set, Graph}
use Rattle.dcc_ir.specs.Location.{flag_number, same_location, Values, with_value}
use Rattle.dcc_ir.specs.Value.{Environment, value_of, width_of, Fits}
use Rattle.dcc_ir.specs.WellFormed.{is_location, is_expr, is_stmt, is_exit, is_block, IsGraph}
use Rattle.dcc_ir.specs.Use.{reads_of}
use Rattle.dcc_ir.specs.Live.{is_among, reads, block_in}
use Rattle.dcc_ir.specs.Passes.{with_values}
use Rattle.dcc_ir.proofs.FitLaws.{both}
use Rattle.dcc_ir.proofs.PathLaws.{decided}
use Rattle.dcc_ir.proofs.LocationLaws.{flag_same, contains_among, Contains-here, Contains-later, Contains-none, Contains-cases}
use Rattle.dcc_ir.proofs.ReachedLaws.{contained, all_at}
use Rattle.dcc_ir.proofs.ListLaws.{all_had}
use Rattle.dcc_flags.specs.declared.kept.Kept.{Kept}
use Rattle.dcc_flags.specs.Reaching.{Definition, Start, At, defines, chooses, rest_at, Reaches, begins, defined, passes, goes, reads_at, has_result, IsKept, result, both as both_reach}
use Rattle.dcc_flags.specs.Folding.{is_kept, choice, with_choice, with_choices, chosen, taken, Taken, Folded, stmt_folded}
use Rattle.dcc_flags.specs.Fresh.{is_between, is_over}
use Rattle.dcc_flow.proofs.FormedExprs.{and_both, reads_placed}
use Rattle.dcc_flags.proofs.ExprLaws.{expr_more, AreBits, choices-value}
use Rattle.dcc_flags.proofs.TakenLaws.{IsTaken, taken_value, after_sets, after_bits, sets_same, over_value, temp_outside, le_true}
use Rattle.dcc_flags.proofs.SpotLaws.{Spot, past, walked_more, walked_later, walked_front, past_grows, choice_itself, choice_other, Fine, fine_walked, def_taken, expr_still}
use Rattle.dcc_flags.proofs.PlanLaws.{same_definition, same_is, other_is, sets_of, stmts_at, spot_at, left_by, end_bits, IsLeft, Plan}

some_stmt : (a b : Stmt) (xs ys : List Stmt) → a ∷ xs ≡ b ∷ ys → a ≡ b
some_stmt a b xs ys e = cc

at_most : (low n : ℕ) → n < low ⊎ low ≤ n
at_most low n = cases_lt n low

-- an element of a list, by what is left from it on
pub drop_all : {X : Type 0} (f : X → Bool) (xs : List X) (k : ℕ) (x : X) (rest : List X) → list_all f xs ≡ true → drop k xs ≡ x ∷ rest → f x ≡ true
drop_all f [] zero x rest all e = absurd (cc)
drop_all f [] (suc k) x rest all e = absurd (cc)
drop_all f (y ∷ ys) zero x rest all e = let same : y ≡ x = cc in subst (λ z. f z ≡ true) same (both (f y) (list_all f ys) all).0
drop_all f (y ∷ ys) (suc k) x rest all e = drop_all f ys k x rest (both (f y) (list_all f ys) all).1 e

pub drop_contains : {X : Type 0} (xs : List X) (k : ℕ) (x : X) (rest : List X) → drop k xs ≡ x ∷ rest → Contains xs x
drop_contains [] zero x rest e = absurd (cc)
drop_contains [] (suc k) x rest e = absurd (cc)
drop_contains (y ∷ ys) zero x rest e = let same : y ≡ x = cc in subst (Contains (y ∷ ys)) same (0, omega arith, refl)
drop_contains (y ∷ ys) (suc k) x rest e = let c = drop_contains ys k x rest e in let less = c.1 in (suc c.0, omega arith, c.2)

pub drop_next : {X : Type 0} (xs : List X) (k : ℕ) (x : X) (rest : List X) → drop k xs ≡ x ∷ rest → drop (suc k) xs ≡ rest
drop_next [] zero x rest e = absurd (cc)
drop_next [] (suc k) x rest e = absurd (cc)
drop_next (y ∷ ys) zero x rest e = cc
drop_next (y ∷ ys) (suc k) x rest e = drop_next ys k x rest e

drop_below : {X : Type 0} (xs : List X) (k : ℕ) (x : X) (rest : List X) → drop k xs ≡ x ∷ rest → k < length xs
drop_below [] zero x rest e = absurd (cc)
drop_below [] (suc k) x rest e = absurd (cc)
drop_below (y ∷ ys) zero x rest e = omega arith
drop_below (y ∷ ys) (suc k) x rest e = let less = drop_below ys k x rest e in omega arith

pub drop_end : {X : Type 0} (xs : List X) → drop (length xs) xs ≡ []
drop_end [] = refl
drop_end (x ∷ xs) = drop_end xs

-- the temporaries of a spot are the first of all
pub spot_whole : (graph after : Graph) (kept : Kept) (is : IsGraph graph) (plan : Plan graph after kept) (b k : ℕ) → plan.known b ≡ true → (more : List ℕ) × (after.bits ≡ (spot_at graph after kept plan.start b k).bits ++ more)
spot_whole graph after kept is plan b k known =
    let front = walked_front kept (stmts_at graph after kept b) k (plan.start b) in
    let whole = plan.prefix b known in
    (front.0 ++ whole.0, whole.1 ∙ ap (λ l. l ++ whole.0) front.1 ∙ append_assoc (spot_at graph after kept plan.start b k).bits front.0 whole.0)

-- What an expression of a list reads, the list reads.

pub in_append_left : (xs ys : List Loc) (l : Loc) → Contains xs l → Contains (xs ++ ys) l
in_append_left [] ys l c = absurd (Contains-none l c)
in_append_left (x ∷ xs) ys l c = Contains-cases x xs l (Contains (x ∷ (xs ++ ys)) l) (λ e. subst (Contains (x ∷ (xs ++ ys))) e (Contains-here x (xs ++ ys))) (λ d. Contains-later x (xs ++ ys) l (in_append_left xs ys l d)) c

pub in_append_right : (xs ys : List Loc) (l : Loc) → Contains ys l → Contains (xs ++ ys) l
in_append_right [] ys l c = c
in_append_right (x ∷ xs) ys l c = Contains-later x (xs ++ ys) l (in_append_right xs ys l c)

pub in_flat : (es : List Expr) (e : Expr) (l : Loc) → Contains es e → Contains (reads_of e) l → Contains (flat_map reads_of es) l
in_flat [] e l c d = absurd (Contains-none e c)
in_flat (x ∷ es) e l c d = Contains-cases x es e (Contains (flat_map reads_of (x ∷ es)) l)
    (λ same. in_append_left (reads_of x) (flat_map reads_of es) l (subst (λ y. Contains (reads_of y) l) (sym same) d))
    (λ further. in_append_right (reads_of x) (flat_map reads_of es) l (in_flat es e l further d)) c

module _ (graph after : Graph) (kept : Kept) (is : IsGraph graph) (exact : (f : FlagName) → is_kept kept f ≡ false → IsKept graph f → ⊥) (plan : Plan graph after kept) where
  abbrev pub old : List ℕ
  old = graph.bits

  abbrev pub stmts : ℕ → List Stmt
  stmts b = stmts_at graph after kept b

  abbrev pub spot : ℕ → ℕ → Spot
  spot b k = spot_at graph after kept plan.start b k

  abbrev pub left : FlagName → Definition → Expr
  left f d = left_by graph after kept plan.start f d

  abbrev pub Left : FlagName → ℕ → ℕ → Expr → Type 0
  Left f b k e = IsLeft graph after kept plan.start f b k e

  -- The blocks that runs reach.

  pub stmts_fine : (b : ℕ) → plan.known b ≡ true → (list_all (is_stmt old) (stmts b) ≡ true) × (is_exit old (length graph.blocks) (block_in graph b).exit ≡ true)
  stmts_fine b k = both (list_all (is_stmt old) (stmts b)) (is_exit old (length graph.blocks) (block_in graph b).exit)
      (all_at (is_block old (length graph.blocks)) graph.blocks (block_in graph b) is.blocks (contained graph.blocks b (block_in graph b) (plan.within b k)))

  pub spot_fine : (b k : ℕ) → plan.known b ≡ true → Fine old kept (spot b k)
  spot_fine b k known = fine_walked old kept (stmts b) k (plan.start b) (stmts_fine b known).0 (plan.fine b known)

  pub reach_known : (f : FlagName) (d : Definition) (b k : ℕ) → Reaches graph f d b k → plan.known b ≡ true
  reach_known f d b k begins = plan.first
  reach_known f d b k (defined {d = e} {block = block} {place = place} r at yes') = reach_known f e block place r
  reach_known f d b k (passes {d = e} {block = block} {place = place} r at yes') = reach_known f e block place r
  reach_known f d b k (goes {d = e} {block = block} {place = place} r at edge) = plan.edges block b (reach_known f e block place r) edge

  -- a definition that reaches a place is one
  pub record IsDefinition (f : FlagName) (x j : ℕ) : Type 0 where
    pub known : plan.known x ≡ true
    pub stmt : Stmt
    pub rest : List Stmt
    pub at : rest_at graph x j ≡ stmt ∷ rest
    pub defines_it : defines f stmt ≡ true

  abbrev pub Defined : FlagName → Definition → Type 0
  Defined f Start = Unit {0}
  Defined f (At x j) = IsDefinition f x j

  pub reach_defined : (f : FlagName) (d : Definition) (b k : ℕ) → Reaches graph f d b k → Defined f d
  reach_defined f d b k begins = tt
  reach_defined f d b k (defined {d = e} {block = block} {place = place} {stmt = stmt} {rest = rest} r at yes') = record { known = reach_known f e block place r; stmt = stmt; rest = rest; at = at; defines_it = yes' }
  reach_defined f d b k (passes {d = e} {block = block} {place = place} r at yes') = reach_defined f e block place r
  reach_defined f d b k (goes {d = e} {block = block} {place = place} r at edge) = reach_defined f e block place r

  -- a flag that isn't kept is set by Sets alone
  pub no_result : (f : FlagName) → is_kept kept f ≡ false → (b k : ℕ) (stmt : Stmt) (rest : List Stmt) → plan.known b ≡ true → rest_at graph b k ≡ stmt ∷ rest → has_result f stmt ≡ false
  no_result f none b k stmt rest known at = elim (decided (has_result f stmt)) [
    | inl yes' ↦ absurd (exact f none (result (contained graph.blocks b (block_in graph b) (plan.within b known)) (drop_contains (stmts b) k stmt rest at) yes'))
    | inr none' ↦ none'
  ]

  pub sets_it : (f : FlagName) → is_kept kept f ≡ false → (x j : ℕ) → IsDefinition f x j → (e : Expr) × (rest_at graph x j ≡ Set (Flag f) e ∷ (drop (suc j) (stmts x)))
  sets_it f none x j h =
      let s = sets_of old f h.stmt (drop_all (is_stmt old) (stmts x) j h.stmt h.rest (stmts_fine x h.known).0 h.at) (no_result f none x j h.stmt h.rest h.known h.at) h.defines_it in
      (s.value, h.at ∙ ap₂ (λ a l. a ∷ l) s.is (sym (drop_next (stmts x) j h.stmt h.rest h.at)))

  -- what a definition has left: its own temporaries
  pub record Own (f : FlagName) (x j : ℕ) : Type 0 where
    pub value : Expr
    pub at : rest_at graph x j ≡ Set (Flag f) value ∷ drop (suc j) (stmts x)
    pub taken_it : IsTaken (spot x j).bits (with_choices (spot x j).choices value) (taken (spot x j).bits (with_choices (spot x j).choices value))
    pub next : spot x (suc j) ≡ past kept (spot x j) (Set (Flag f) value)
    pub bits_next : (spot x (suc j)).bits ≡ (spot x j).bits ++ (taken (spot x j).bits (with_choices (spot x j).choices value)).widths
    pub choices_next : (spot x (suc j)).choices ≡ with_choice (spot x j).choices f (taken (spot x j).bits (with_choices (spot x j).choices value)).value
    pub left_is : left f (At x j) ≡ (taken (spot x j).bits (with_choices (spot x j).choices value)).value

  pub own : (f : FlagName) → is_kept kept f ≡ false → (x j : ℕ) (e : Expr) → plan.known x ≡ true → rest_at graph x j ≡ Set (Flag f) e ∷ drop (suc j) (stmts x) → Own f x j
  own f none x j e known at =
      let w = spot x j in
      let ok = drop_all (is_stmt old) (stmts x) j (Set (Flag f) e) (drop (suc j) (stmts x)) (stmts_fine x known).0 at in
      let next = walked_more kept (stmts x) j (plan.start x) (Set (Flag f) e) (drop (suc j) (stmts x)) at in
      let t = taken w.bits (with_choices w.choices e) in
      let folded : stmt_folded kept w.bits w.choices (Set (Flag f) e) ≡ record { stmts = t.copies; widths = t.widths; choices = with_choice w.choices f t.value } =
      ap (λ b. if b then record { stmts = Set (Flag f) (with_choices w.choices e) ∷ []; widths = []; choices = w.choices } else record { stmts = t.copies; widths = t.widths; choices = with_choice w.choices f t.value }) none in
      record {
        value = e;
        at = at;
        taken_it = def_taken old kept w (spot_fine x j known) f e ok;
        next = next;
        bits_next = ap (λ (s : Spot). s.bits) next ∙ ap (λ (x : Folded). w.bits ++ x.widths) folded;
        choices_next = ap (λ (s : Spot). s.choices) next ∙ ap (λ (x : Folded). x.choices) folded;
        left_is = ap (λ (s : Spot). choice s.choices f) next ∙ ap (λ (x : Folded). choice x.choices f) folded ∙ choice_itself w.choices f t.value;
      }

  pub own_bits : (f : FlagName) (none : is_kept kept f ≡ false) (x j : ℕ) (e : Expr) → plan.known x ≡ true → rest_at graph x j ≡ Set (Flag f) e ∷ drop (suc j) (stmts x) →
      (spot x (suc j)).bits ≡ (spot x j).bits ++ (taken (spot x j).bits (with_choices (spot x j).choices e)).widths
  unfolding own
  own_bits f none x j e known at = (own f none x j e known at).bits_next

  -- The values that hold.

  abbrev pub plain : Loc → Bool
  plain (Flag f) = is_kept kept f
  plain (Temp n) = nat_lt n (length old)
  plain l = true

  abbrev pub told : Values → Environment
  told v' = record { bits = after.bits; values = v'; base = 0; memory = [] }

  pub record Held (f : FlagName) (b k : ℕ) (v v' : Values) : Type 0 where
    pub definition : Definition
    pub reaches : Reaches graph f definition b k
    pub value : value_of (told v') (left f definition) ≡ v (Flag f)

  pub record Holding (b k : ℕ) (v v' : Values) : Type 0 where
    pub known : plan.known b ≡ true
    pub same : (l : Loc) → plain l ≡ true → v' l ≡ v l
    pub flags : (f : FlagName) → is_kept kept f ≡ false → Held f b k v v'
    pub leaves : (f : FlagName) → is_kept kept f ≡ false → Left f b k (choice (spot b k).choices f)

  -- what a definition has left reads fresh temporaries alone
  pub left_over : (f : FlagName) → is_kept kept f ≡ false → (d : Definition) → Defined f d → (high : ℕ) × (is_over (length old) high (left f d) ≡ true)
  left_over f none Start h = (suc (length old), and_both (nat_le (length old) (length old)) (nat_lt (length old) (suc (length old))) (le_true (length old) (length old) (omega arith)) (lt-ltb (length old) (suc (length old)) (omega arith)))
  left_over f none (At x j) h = (length (spot x (suc j)).bits, ((spot_fine x (suc j) h.known).told f).over none)

  -- Reads.

  read_choice : (f : FlagName) → is_kept kept f ≡ false → (b k : ℕ) (v v' : Values) → Holding b k v v' → reads_at graph f b k ≡ true → (t : Environment) → t.bits ≡ after.bits → ((n : ℕ) → t.values (Temp n) ≡ v' (Temp n)) →
      value_of t (choice (spot b k).choices f) ≡ v (Flag f)
  read_choice f none b k v v' h read t bits same =
      let held = h.flags f none in
      let leaves = h.leaves f none in
      elim (decided (same_definition held.definition leaves.definition)) [
        | inl e ↦
            let one = same_is held.definition leaves.definition e in
            let over = left_over f none held.definition (reach_defined f held.definition b k held.reaches) in
            ap (value_of t) (leaves.left ∙ ap (left f) (sym one))
            ∙ over_value (length old) (told v') t bits over.0 (λ n low high. same n) (left f held.definition) over.1
            ∙ held.value
        | inr n ↦ absurd (exact f none (both_reach held.reaches leaves.reaches (other_is held.definition leaves.definition n) read))
      ]

  pub read_location : (b k : ℕ) (v v' : Values) → Holding b k v v' → (es : List Expr) → ((f : FlagName) → reads es (Flag f) ≡ true → reads_at graph f b k ≡ true) →
      (t : Environment) → t.bits ≡ after.bits → ((l : Loc) → t.values l ≡ v' l) → (l : Loc) → is_location old l ≡ true → is_among (flat_map reads_of es) l ≡ true → value_of t (chosen (spot b k).choices l) ≡ v l
  read_location b k v v' h es at t bits values (Half r x) ok among = values (Half r x) ∙ h.same (Half r x) refl
  read_location b k v v' h es at t bits values (Cell n x) ok among = values (Cell n x) ∙ h.same (Cell n x) refl
  read_location b k v v' h es at t bits values (Temp n) ok among = values (Temp n) ∙ h.same (Temp n) ok
  read_location b k v v' h es at t bits values (Flag f) ok among = go (is_kept kept f) refl
    where
      go : (z : Bool) → is_kept kept f ≡ z → value_of t (choice (spot b k).choices f) ≡ v (Flag f)
      go true yes' =
          ap (value_of t) (((spot_fine b k h.known).told f).kept_is yes') ∙ values (Flag f) ∙ h.same (Flag f) yes'
      go false none = read_choice f none b k v v' h (at f among) t bits (λ n. values (Temp n))

  -- all reads of some expressions have the values of before
  pub reads_hold : (b k : ℕ) (v v' : Values) → Holding b k v v' → (es : List Expr) → ((f : FlagName) → reads es (Flag f) ≡ true → reads_at graph f b k ≡ true) →
      (t : Environment) → t.bits ≡ after.bits → ((l : Loc) → t.values l ≡ v' l) → (e : Expr) → Contains es e → is_expr old e ≡ true → All (λ l. value_of t (chosen (spot b k).choices l) ≡ v l) (reads_of e)
  reads_hold b k v v' h es at t bits values e c ok =
      all_had (λ l. value_of t (chosen (spot b k).choices l) ≡ v l) (reads_of e)
      (λ l d. read_location b k v v' h es at t bits values l (All-contains (λ l. is_location old l ≡ true) (reads_of e) l (reads_placed old e ok) d)
      (contains_among (flat_map reads_of es) l (in_flat es e l c d)))

  -- an expression has the value that it had before
  pub value_holds : (b k : ℕ) (v v' : Values) → Holding b k v v' → (es : List Expr) → ((f : FlagName) → reads es (Flag f) ≡ true → reads_at graph f b k ≡ true) →
      (s t : Environment) → s.bits ≡ old → t.bits ≡ after.bits → t.base ≡ s.base → t.memory ≡ s.memory → Fits t → ((l : Loc) → s.values l ≡ v l) → ((l : Loc) → t.values l ≡ v' l) →
      (e : Expr) → Contains es e → is_expr old e ≡ true → value_of t (with_choices (spot b k).choices e) ≡ value_of s e
  value_holds b k v v' h es at s t s_bits t_bits base memory fits s_values t_values e c ok =
      let w = spot b k in
      let fine = spot_fine b k h.known in
      let grown = whole b k h.known in
      let all_fine = fine_more w fine grown.0 in
      choices-value old (fine.fresh ++ grown.0) w.choices (all_fine grown.1) s t s_bits (t_bits ∙ grown.1 ∙ ap (λ l. l ++ grown.0) fine.bits ∙ append_assoc old fine.fresh grown.0) base memory fits e ok
      (All-weaker (λ l. value_of t (chosen w.choices l) ≡ v l) (λ l. value_of t (chosen w.choices l) ≡ s.values l) (λ l q. q ∙ sym (s_values l)) (reads_of e)
      (reads_hold b k v v' h es at t t_bits t_values e c ok))
    where
      -- the temporaries of the spot are the first of all
      whole : (b k : ℕ) → plan.known b ≡ true → (more : List ℕ) × (after.bits ≡ (spot b k).bits ++ more)
      whole b k known = spot_whole graph after kept is plan b k known

      fine_more : (w : Spot) (fine : Fine old kept w) (more : List ℕ) → after.bits ≡ w.bits ++ more → AreBits (old ++ (fine.fresh ++ more)) w.choices
      fine_more w fine more e f =
          let m = expr_more w.bits more (choice w.choices f) (fine.told f).formed in
          subst (λ l. (is_expr l (choice w.choices f) ≡ true) × (width_of l (choice w.choices f) ≡ 1)) (ap (λ l. l ++ more) fine.bits ∙ append_assoc old fine.fresh more)
          (m.formed, m.width ∙ (fine.told f).width)

  -- Statements that set no flag that isn't kept.

  -- the definitions that reach a place reach past the statement, and what is chosen stays
  pub record Moves (b k : ℕ) : Type 0 where
    pub on : (f : FlagName) → is_kept kept f ≡ false → (d : Definition) → Reaches graph f d b k → Reaches graph f d b (suc k)
    pub choices : (f : FlagName) → is_kept kept f ≡ false → choice (spot b (suc k)).choices f ≡ choice (spot b k).choices f

  pub holding_moves : (b k : ℕ) (v v' : Values) → Moves b k → Holding b k v v' → Holding b (suc k) v v'
  holding_moves b k v v' m h = record {
    known = h.known;
    same = h.same;
    flags = λ f none. let x = h.flags f none in record { definition = x.definition; reaches = m.on f none x.definition x.reaches; value = x.value };
    leaves = λ f none. let x = h.leaves f none in record { definition = x.definition; reaches = m.on f none x.definition x.reaches; left = m.choices f none ∙ x.left };
  }

  -- a plain location takes the same value
  plain_set : (l : Loc) → plain l ≡ true → (v v' : Values) (n : ℕ) → ((x : Loc) → plain x ≡ true → v' x ≡ v x) → (x : Loc) → plain x ≡ true → with_value v' l n x ≡ with_value v l n x
  plain_set l is v v' n same x ok = ap (λ m. if same_location x l then n else m) (same x ok)

  -- a fresh temporary is not plain
  plain_apart : (l : Loc) → plain l ≡ true → (m : ℕ) → length old ≤ m → same_location (Temp m) l ≡ false
  plain_apart (Half r h) is m low = refl
  plain_apart (Cell n h) is m low = refl
  plain_apart (Flag f) is m low = refl
  plain_apart (Temp n) is m low = elim (decided (m == n)) [
    | inl e ↦ let one = eqb-true m n e in let less = ltb-true n (length old) is in absurd (omega arith)
    | inr other ↦ other
  ]

  -- a flag that isn't kept is not plain
  flag_apart : (l : Loc) → plain l ≡ true → (f : FlagName) → is_kept kept f ≡ false → same_location (Flag f) l ≡ false
  flag_apart (Half r h) is f none = refl
  flag_apart (Cell n h) is f none = refl
  flag_apart (Temp n) is f none = refl
  flag_apart (Flag g) is f none = elim (decided (flag_number f == flag_number g)) [
    | inl e ↦ let one = flag_same f g (eqb-true (flag_number f) (flag_number g) e) in absurd (true≢false (sym is ∙ ap (is_kept kept) (sym one) ∙ none))
    | inr other ↦ other
  ]

  pub holding_set : (b k : ℕ) (l : Loc) → plain l ≡ true → (n : ℕ) (v v' : Values) → Holding b k v v' → Holding b k (with_value v l n) (with_value v' l n)
  holding_set b k l is n v v' h = record {
    known = h.known;
    same = plain_set l is v v' n h.same;
    flags = λ f none.
        let x = h.flags f none in
        let over = left_over f none x.definition (reach_defined f x.definition b k x.reaches) in
        record {
          definition = x.definition;
          reaches = x.reaches;
          value = over_value (length old) (told v') (told (with_value v' l n)) refl over.0 (λ m low high. ap (λ z. if z then n else v' (Temp m)) (plain_apart l is m low)) (left f x.definition) over.1
              ∙ x.value ∙ sym (ap (λ z. if z then n else v (Flag f)) (flag_apart l is f none));
        };
    leaves = h.leaves;
  }

  pub holding_results : (b k : ℕ) (results : List Loc) (r : List ℕ) (v v' : Values) → All (λ l. plain l ≡ true) results → Holding b k v v' → Holding b k (with_values v results r) (with_values v' results r)
  holding_results b k [] r v v' all h = h
  holding_results b k (l ∷ results) [] v v' all h = h
  holding_results b k (l ∷ results) (n ∷ r) v v' all h =
      holding_results b k results r (with_value v l n) (with_value v' l n) (All-tail (λ l. plain l ≡ true) l results all)
      (holding_set b k l (All-head (λ l. plain l ≡ true) l results all) n v v' h)

  -- A definition of a flag that isn't kept.

  end_length : (x : ℕ) (j : ℕ) → length (spot x j).bits ≤ length (end_bits graph after kept plan.start x)
  end_length x j =
      let front = walked_front kept (stmts x) j (plan.start x) in
      let e = ap length front.1 ∙ length-append (spot x j).bits front.0 in
      omega arith

  start_length : (x : ℕ) (j : ℕ) → length (plan.start x).bits ≤ length (spot x j).bits
  start_length x j =
      let grown = past_grows kept (plan.start x) (stmts x) j in
      let e = ap length grown.1 ∙ length-append (plan.start x).bits grown.0 in
      omega arith

  later_length : (x j k : ℕ) → j ≤ k → length (spot x j).bits ≤ length (spot x k).bits
  later_length x j k le =
      let grown = walked_later kept (stmts x) j k (plan.start x) le in
      let e = ap length grown.1 ∙ length-append (spot x j).bits grown.0 in
      omega arith

  -- two places where temporaries are made have no temporary in common
  apart_from : (x j b k : ℕ) → plan.known x ≡ true → plan.known b ≡ true → ((x ≡ b) → (j ≡ k) → ⊥) → (length (spot x (suc j)).bits ≤ length (spot b k).bits) ⊎ (length (spot b (suc k)).bits ≤ length (spot x j).bits)
  apart_from x j b k kx kb other = elim (decided (x == b)) [
    | inl e ↦ same_block (eqb-true x b e)
    | inr n ↦ elim (plan.apart x b kx kb n) [
      | inl before ↦ let p = end_length x (suc j) in let q = start_length b k in inl (omega arith)
      | inr behind ↦ let p = end_length b (suc k) in let q = start_length x j in inr (omega arith)
    ]
  ]
    where
      same_block : x ≡ b → (length (spot x (suc j)).bits ≤ length (spot b k).bits) ⊎ (length (spot b (suc k)).bits ≤ length (spot x j).bits)
      same_block one = elim (cases_lt j k) [
        | inl less ↦ inl (subst (λ y. length (spot x (suc j)).bits ≤ length (spot y k).bits) one (later_length x (suc j) k (omega arith)))
        | inr more ↦ elim (cases_lt k j) [
          | inl less ↦ inr (subst (λ y. length (spot y (suc k)).bits ≤ length (spot x j).bits) one (later_length x (suc k) j (omega arith)))
          | inr equal ↦ let same : j ≡ k = omega arith in absurd (other one same)
        ]
      ]

  -- the temporaries that some definition has left, none of which is made at another place
  left_apart : (f g : FlagName) → is_kept kept f ≡ false → is_kept kept g ≡ false → (flag_number f == flag_number g) ≡ false → (d : Definition) → Defined f d → (b k : ℕ) (e : Expr) → plan.known b ≡ true → rest_at graph b k ≡ Set (Flag g) e ∷ drop (suc k) (stmts b) →
      (s t : Environment) → t.bits ≡ s.bits → ((n : ℕ) → is_between (length (spot b k).bits) (length (spot b (suc k)).bits) (Temp n) ≡ false → t.values (Temp n) ≡ s.values (Temp n)) → value_of t (left f d) ≡ value_of s (left f d)
  left_apart f g none none' other Start h b k e known at s t bits same =
      same (length old) (temp_outside (length (spot b k).bits) (length (spot b (suc k)).bits) (length old) (let p = plan.above b known in let q = start_length b k in omega arith))
  left_apart f g none none' other (At x j) h b k e known at s t bits same =
      let sets = sets_it f none x j h in
      let o = own f none x j sets.0 h.known sets.1 in
      let t' = taken (spot x j).bits (with_choices (spot x j).choices o.value) in
      let high = length ((spot x j).bits ++ t'.widths) in
      let high_is : high ≡ length (spot x (suc j)).bits = ap length (sym o.bits_next) in
      let over = o.taken_it.over in
      ap (value_of t) o.left_is
      ∙ over_value (length (spot x j).bits) s t bits high (λ n low up. same n (outside n low (subst (λ m. n < m) high_is up)
      (apart_from x j b k h.known known (λ one two. true≢false (sym (defines_same one two sets.0 sets.1) ∙ other))))) t'.value over
      ∙ ap (value_of s) (sym o.left_is)
    where
      defines_same : x ≡ b → j ≡ k → (a : Expr) → rest_at graph x j ≡ Set (Flag f) a ∷ drop (suc j) (stmts x) → (flag_number f == flag_number g) ≡ true
      defines_same one two a here =
          let there : rest_at graph x j ≡ Set (Flag g) e ∷ drop (suc k) (stmts b) = ap₂ (λ y i. rest_at graph y i) one two ∙ at in
          let stmt : Set (Flag f) a ≡ Set (Flag g) e = some_stmt (Set (Flag f) a) (Set (Flag g) e) (drop (suc j) (stmts x)) (drop (suc k) (stmts b)) (sym here ∙ there) in
          let flag : f ≡ g = cc in
          eq-eqb (flag_number f) (flag_number g) (ap flag_number flag)

      outside : (n : ℕ) → length (spot x j).bits ≤ n → n < length (spot x (suc j)).bits → (length (spot x (suc j)).bits ≤ length (spot b k).bits) ⊎ (length (spot b (suc k)).bits ≤ length (spot x j).bits) →
          is_between (length (spot b k).bits) (length (spot b (suc k)).bits) (Temp n) ≡ false
      outside n low up (inl before) = temp_outside (length (spot b k).bits) (length (spot b (suc k)).bits) n (omega arith)
      outside n low up (inr behind) = beyond n (length (spot b k).bits) (length (spot b (suc k)).bits) (omega arith)
        where
          not_lt : (a b : ℕ) → b ≤ a → nat_lt a b ≡ false
          not_lt a b le = grind arith

          and_false : (a b : Bool) → b ≡ false → (a && b) ≡ false
          and_false true b e = e
          and_false false b e = refl

          beyond : (n low high : ℕ) → high ≤ n → (nat_le low n && nat_lt n high) ≡ false
          beyond n low high le = and_false (nat_le low n) (nat_lt n high) (not_lt n high le)

  module _ (b k : ℕ) (g : FlagName) (e : Expr) (none : is_kept kept g ≡ false) (known : plan.known b ≡ true) (at : rest_at graph b k ≡ Set (Flag g) e ∷ drop (suc k) (stmts b))
      (v : Values) (t : Environment) (n : ℕ) (bits : t.bits ≡ after.bits) (h : Holding b k v t.values) (value : value_of t (with_choices (spot b k).choices e) ≡ n) where
    abbrev here : Taken
    here = taken (spot b k).bits (with_choices (spot b k).choices e)

    abbrev t' : Environment
    t' = after_sets here.copies t

    o : Own g b k
    o = own g none b k e known at

    same_value : o.value ≡ e
    unfolding o own
    same_value = refl

    taken_here : IsTaken (spot b k).bits (with_choices (spot b k).choices e) here
    taken_here = def_taken old kept (spot b k) (spot_fine b k known) g e (drop_all (is_stmt old) (stmts b) k (Set (Flag g) e) (drop (suc k) (stmts b)) (stmts_fine b known).0 at)

    bits_here : (spot b (suc k)).bits ≡ (spot b k).bits ++ here.widths
    unfolding o own
    bits_here = o.bits_next

    left_here : left g (At b k) ≡ here.value
    unfolding o own
    left_here = o.left_is

    choices_here : (spot b (suc k)).choices ≡ with_choice (spot b k).choices g here.value
    unfolding o own
    choices_here = o.choices_next

    untouched : (l : Loc) → is_between (length (spot b k).bits) (length ((spot b k).bits ++ here.widths)) l ≡ false → t'.values l ≡ t.values l
    untouched l out = sets_same (length (spot b k).bits) ((spot b k).bits ++ here.widths) here.copies taken_here.copies t l out

    plain_old : (l : Loc) → plain l ≡ true → is_between (length (spot b k).bits) (length ((spot b k).bits ++ here.widths)) l ≡ false
    plain_old (Half r x) is = refl
    plain_old (Cell m x) is = refl
    plain_old (Flag f) is = refl
    plain_old (Temp m) is = temp_outside (length (spot b k).bits) (length ((spot b k).bits ++ here.widths)) m
        (let less = ltb-true m (length old) is in let p = plan.above b known in let q = start_length b k in omega arith)

    not_flag : (l : Loc) → plain l ≡ true → same_location l (Flag g) ≡ false
    not_flag (Half r x) is = refl
    not_flag (Cell m x) is = refl
    not_flag (Temp m) is = refl
    not_flag (Flag f) is = elim (decided (flag_number f == flag_number g)) [
      | inl same ↦ let one = flag_same f g (eqb-true (flag_number f) (flag_number g) same) in absurd (true≢false (sym is ∙ ap (is_kept kept) one ∙ none))
      | inr other ↦ other
    ]

    -- a definition of another flag that reaches the statement reaches past it
    past_it : (f : FlagName) → (flag_number f == flag_number g) ≡ false → (d : Definition) → Reaches graph f d b k → Reaches graph f d b (suc k)
    past_it f other d r = passes r at (ap (λ z. not (z || false) || chooses f (Set (Flag g) e)) other)

    it_defines : Reaches graph g (At b k) b (suc k)
    it_defines = defined (h.flags g none).reaches at (ap (λ z. z || false) (eq-eqb (flag_number g) (flag_number g) refl))

    -- the value of the expression over the copies
    copied_holds : value_of (told t'.values) (left g (At b k)) ≡ n
    copied_holds =
        let w = spot b k in
        let fine = spot_fine b k known in
        let whole = spot_whole graph after kept is plan b (suc k) known in
        let ok = drop_all (is_stmt old) (stmts b) k (Set (Flag g) e) (drop (suc k) (stmts b)) (stmts_fine b known).0 at in
        let e_ok = (both (is_expr old e) (width_of old e == 1) ok).0 in
        let all : t.bits ≡ (w.bits ++ here.widths) ++ whole.0 = bits ∙ whole.1 ∙ ap (λ l. l ++ whole.0) bits_here in
        ap (value_of (told t'.values)) left_here
        ∙ over_value (length w.bits) t' (told t'.values) (sym (after_bits here.copies t ∙ bits)) (length (w.bits ++ here.widths)) (λ m low high. refl) here.value taken_here.over
        ∙ taken_value w.bits (with_choices w.choices e) fine.widths (expr_still old kept w fine e e_ok).formed t whole.0 all
        ∙ value

    by_flag : (f : FlagName) → is_kept kept f ≡ false → (z : Bool) → (flag_number f == flag_number g) ≡ z → Held f b (suc k) (with_value v (Flag g) n) t'.values
    by_flag f none_f true same =
        let one = flag_same f g (eqb-true (flag_number f) (flag_number g) same) in
        subst (λ x. Held x b (suc k) (with_value v (Flag g) n) t'.values) (sym one) (record {
          definition = At b k;
          reaches = it_defines;
          value = copied_holds ∙ sym (ap (λ z. if z then n else v (Flag g)) (eq-eqb (flag_number g) (flag_number g) refl));
        })
    by_flag f none_f false other =
        let x = h.flags f none_f in
        record {
          definition = x.definition;
          reaches = past_it f other x.definition x.reaches;
          value = left_apart f g none_f none other x.definition (reach_defined f x.definition b k x.reaches) b k e known at (told t.values) (told t'.values) refl
              (λ m out. untouched (Temp m) (subst (λ l. is_between (length (spot b k).bits) (length l) (Temp m) ≡ false) bits_here out))
              ∙ x.value ∙ sym (ap (λ z. if z then n else v (Flag f)) other);
        }

    leaves_by : (f : FlagName) → is_kept kept f ≡ false → (z : Bool) → (flag_number f == flag_number g) ≡ z → Left f b (suc k) (choice (spot b (suc k)).choices f)
    leaves_by f none_f true same =
        let one = flag_same f g (eqb-true (flag_number f) (flag_number g) same) in
        subst (λ x. Left x b (suc k) (choice (spot b (suc k)).choices x)) (sym one) (record { definition = At b k; reaches = it_defines; left = refl })
    leaves_by f none_f false other =
        let x = h.leaves f none_f in
        record {
          definition = x.definition;
          reaches = past_it f other x.definition x.reaches;
          left = ap (λ c. choice c f) choices_here ∙ choice_other (spot b k).choices g f here.value other ∙ x.left;
        }

    pub holding_defined : Holding b (suc k) (with_value v (Flag g) n) t'.values
    holding_defined = record {
      known = known;
      same = λ l is. untouched l (plain_old l is) ∙ h.same l is ∙ sym (ap (λ z. if z then n else v l) (not_flag l is));
      flags = λ f none_f. by_flag f none_f (flag_number f == flag_number g) refl;
      leaves = λ f none_f. leaves_by f none_f (flag_number f == flag_number g) refl;
    }
