-- What the summaries say of all graphs, the first one too; and the forms of what is given back.
use Rattle.std.proofs.Common.{◌≡◌, ℕ, Bool, true, false, cond, ◌||◌, not, ◌⊎◌, inl, inr, List, [], ◌∷◌, ◌++◌, refl, sym, ap, ap₂, ◌∙◌, subst, true≢false, map, take, drop, eq-eqb}
use Rattle.std.specs.Prelude.{if◌then◌else◌, ◌==◌, All, Contains, filter}
use Rattle.std.specs.List.{list_any}
use Rattle.std.proofs.lemmas.List.Elements.{All-nil, All-head, All-tail, All-contains}
use Rattle.dcc_num.specs.declared.Reg.{Reg}
use Rattle.dcc_num.specs.declared.Reg.TheVariants.{Ax, Cx, Dx, Bx, Sp, Bp, Si, Di}
use Rattle.dcc_num.specs.declared.Half.TheVariants.{Low, High}
use Rattle.dcc_num.specs.declared.FlagName.{FlagName}
use Rattle.dcc_num.specs.declared.FlagName.TheVariants.{Cf, Zf, Sf, Of}
use Rattle.dcc_ir.specs.declared.syntax.Loc.{Loc}
use Rattle.dcc_ir.specs.declared.syntax.Loc.TheVariants.{Half, Flag, Cell, Temp}
use Rattle.dcc_ir.specs.Tree.{Get, Stmt, Set, Fetch, Store, Div, Call, Dos, Exit, Goto, If, Switch, Ret, Stop, Block, Graph, Program, Summary}
use Rattle.dcc_ir.specs.Location.{register_number, flag_number, location_width}
use Rattle.dcc_ir.specs.Value.{width_of}
use Rattle.dcc_ir.specs.Live.{is_among}
use Rattle.dcc_ir.specs.Passing.{passed}
use Rattle.dcc_ir.specs.WellFormed.{is_width, all_differ, ret_widths, all_ret_widths, IsCall, IsCalling, IsProgram}
use Rattle.dcc_ir.proofs.FitLaws.{both}
use Rattle.dcc_ir.proofs.GraphLaws.{found_entry, or_there}
use Rattle.dcc_ir.proofs.LocationLaws.{Contains-here, Contains-later, Contains-none, Contains-cases, among_contains, contains_among}
use Rattle.dcc_ir.proofs.ListLaws.{all_had, all_parts}
use Rattle.dcc_ir.proofs.ReachedLaws.{found_contained}
use Rattle.dcc_sums.specs.Instance.{passes}
use Rattle.dcc_sums.specs.Summaries.{IsHalfOf, AreOneValue}
use Rattle.dcc_sums.specs.Localised.{no_summary, summary_at, GivesJust, TakesJust, CallsJust}
use Rattle.dcc_sums.proofs.SiteLaws.{first_or_rest}
use Rattle.dcc_sums.proofs.ArgumentLaws.{no_elements}
use Rattle.dcc_signatures.specs.declared.packing.Packing.TheVariants.{Word, Double}
use Rattle.dcc_signatures.specs.Packed.{are_halves, packing_of}
use Rattle.dcc_signatures.specs.Laws.{IsInOrder, AreInOrder, PassesOneValue}
use Rattle.dcc_signatures.proofs.PutLaws.{halves_are}
use Rattle.dcc_signatures.proofs.OneLaws.{IsInDouble, Form, apart, word, double}
use Rattle.dcc_signatures.proofs.PassLaws.{IsFixed, AllJust}

-- Lists.

-- a test by which another one passes may go first
filter_within : {A : Type 0} (f g : A → Bool) → ((x : A) → f x ≡ true → g x ≡ true) → (xs : List A) → filter f xs ≡ filter f (filter g xs)
filter_within f g within [] = refl
filter_within f g within (x ∷ xs) = go (f x) refl (g x) refl (filter_within f g within xs)
  where
    go : (b : Bool) → f x ≡ b → (c : Bool) → g x ≡ c → filter f xs ≡ filter f (filter g xs) → cond b (x ∷ filter f xs) (filter f xs) ≡ filter f (cond c (x ∷ filter g xs) (filter g xs))
    go true e true is rest = ap (λ l. x ∷ l) rest ∙ sym (ap (λ b. cond b (x ∷ filter f (filter g xs)) (filter f (filter g xs))) e)
    go false e true is rest = rest ∙ sym (ap (λ b. cond b (x ∷ filter f (filter g xs)) (filter f (filter g xs))) e)
    go true e false is rest = absurd (true≢false (sym (within x e) ∙ is))
    go false e false is rest = rest

filter_contains : {A : Type 0} (f : A → Bool) (xs : List A) (x : A) → Contains (filter f xs) x → Contains xs x
filter_contains f [] x c = absurd (Contains-none x c)
filter_contains f (y ∷ xs) x c = go (f y) (filter_contains f xs x) c
  where
    go : (b : Bool) → (Contains (filter f xs) x → Contains xs x) → Contains (cond b (y ∷ filter f xs) (filter f xs)) x → Contains (y ∷ xs) x
    go true rest d = Contains-cases y (filter f xs) x (Contains (y ∷ xs) x) (λ e. subst (Contains (y ∷ xs)) e (Contains-here y xs)) (λ h. Contains-later y xs x (rest h)) d
    go false rest d = Contains-later y xs x (rest d)

-- Locations in order.

pub order_passes : (ls : List Loc) → IsInOrder ls → (l : Loc) → Contains ls l → passes l ≡ true
order_passes ls order l c = contains_among passed l (filter_contains (λ x. is_among ls x) passed l (subst (λ xs. Contains xs l) order c))

fixed : (l : Loc) → passes l ≡ true → IsFixed l
fixed (Half r h) e = λ bits. refl
fixed (Flag f) e = λ bits. refl
fixed (Cell n h) e = λ bits. refl
fixed (Temp n) e = absurd (true≢false (sym e))

wide : (l : Loc) → passes l ≡ true → is_width (location_width [] l) ≡ true
wide (Half r h) e = refl
wide (Flag f) e = refl
wide (Cell n h) e = refl
wide (Temp n) e = absurd (true≢false (sym e))

is_half_of : Reg → Loc → Bool
is_half_of r (Half q h) = register_number q == register_number r
is_half_of r l = false

register_halves : (r : Reg) → (filter (is_half_of r) passed ≡ Half r Low ∷ Half r High ∷ []) ⊎ (filter (is_half_of r) passed ≡ [])
unfolding is_half_of
register_halves Ax = inl refl
register_halves Cx = inl refl
register_halves Dx = inl refl
register_halves Bx = inl refl
register_halves Sp = inr refl
register_halves Bp = inr refl
register_halves Si = inl refl
register_halves Di = inl refl

is_flag : FlagName → Loc → Bool
is_flag f (Flag g) = flag_number g == flag_number f
is_flag f l = false

flag_alone : (f : FlagName) → filter (is_flag f) passed ≡ Flag f ∷ []
unfolding is_flag
flag_alone Cf = refl
flag_alone Zf = refl
flag_alone Sf = refl
flag_alone Of = refl

half_there : (r : Reg) (l : Loc) → IsHalfOf r l → is_half_of r l ≡ true
unfolding is_half_of
half_there r l half = subst (λ x. is_half_of r x ≡ true) (sym half.1) (eq-eqb (register_number r) (register_number r) refl)

flag_there : (f : FlagName) (l : Loc) → l ≡ Flag f → is_flag f l ≡ true
unfolding is_flag
flag_there f l e = subst (λ x. is_flag f x ≡ true) (sym e) (eq-eqb (flag_number f) (flag_number f) refl)

-- halves of AX and DX
double_form : (ls : List Loc) → All IsInDouble ls → Form ls
double_form [] all = apart refl
double_form (l ∷ []) all = apart refl
double_form (low ∷ high ∷ []) all = go (are_halves low high) refl
  where
    go : (b : Bool) → are_halves low high ≡ b → Form (low ∷ high ∷ [])
    go true e = let is = halves_are low high e in word is.0 (ap₂ (λ x y. x ∷ y ∷ []) is.1 is.2)
    go false e = double (ap (λ b. if b then Word low high else Double) e) all
double_form (a ∷ b ∷ c ∷ ls) all = double refl all

form_of : (ls : List Loc) → IsInOrder ls → AreOneValue ls → Form ls
form_of ls order (inl one) = elim (register_halves one.0) [
  | inl e ↦ go (chosen (Half one.0 Low)) (chosen (Half one.0 High)) (within ∙ ap (filter chosen) e)
  | inr e ↦ apart (ap packing_of (within ∙ ap (filter chosen) e))
]
  where
    chosen : Loc → Bool
    chosen l = is_among ls l

    within : ls ≡ filter chosen (filter (is_half_of one.0) passed)
    within = order ∙ filter_within chosen (is_half_of one.0) (λ l e. half_there one.0 l (All-contains (IsHalfOf one.0) ls l one.1 (among_contains ls l e))) passed

    go : (b c : Bool) → ls ≡ cond b (Half one.0 Low ∷ cond c (Half one.0 High ∷ []) []) (cond c (Half one.0 High ∷ []) []) → Form ls
    go true true e = word one.0 e
    go true false e = apart (ap packing_of e)
    go false true e = apart (ap packing_of e)
    go false false e = apart (ap packing_of e)
form_of ls order (inr (inl one)) = go (chosen (Flag one.0)) (within ∙ ap (filter chosen) (flag_alone one.0))
  where
    chosen : Loc → Bool
    chosen l = is_among ls l

    within : ls ≡ filter chosen (filter (is_flag one.0) passed)
    within = order ∙ filter_within chosen (is_flag one.0) (λ l e. flag_there one.0 l (All-contains (λ x. x ≡ Flag one.0) ls l one.1 (among_contains ls l e))) passed

    go : (b : Bool) → ls ≡ cond b (Flag one.0 ∷ []) [] → Form ls
    go true e = apart (ap packing_of e)
    go false e = apart (ap packing_of e)
form_of ls order (inr (inr all)) = double_form ls all

-- The first graph.

is_first : List Graph → ℕ → Bool
is_first [] entry = false
is_first (g ∷ graphs) entry = g.entry == entry

first_there : (graphs : List Graph) (g : Graph) → Contains (take 1 graphs) g → is_first graphs g.entry ≡ true
unfolding is_first
first_there [] g c = absurd (Contains-none g c)
first_there (x ∷ graphs) g c = Contains-cases x [] g ((x.entry == g.entry) ≡ true) (λ e. eq-eqb x.entry g.entry (ap (λ (y : Graph). y.entry) e)) (λ d. absurd (Contains-none g d)) c

later_differs : (graphs : List Graph) (g : Graph) → all_differ (map (λ (x : Graph). x.entry) graphs) ≡ true → Contains (drop 1 graphs) g → is_first graphs g.entry ≡ false
unfolding is_first
later_differs [] g differ c = refl
later_differs (x ∷ graphs) g differ c = go (x.entry == g.entry) refl
  where
    among : (graphs : List Graph) → Contains graphs g → (x.entry == g.entry) ≡ true → list_any (λ m. x.entry == m) (map (λ (y : Graph). y.entry) graphs) ≡ true
    among [] c e = absurd (Contains-none g c)
    among (y ∷ graphs) c e = Contains-cases y graphs g (list_any (λ m. x.entry == m) (map (λ (z : Graph). z.entry) (y ∷ graphs)) ≡ true)
        (λ same. ap (λ b. b || list_any (λ m. x.entry == m) (map (λ (z : Graph). z.entry) graphs)) (ap (λ (z : Graph). x.entry == z.entry) same ∙ e))
        (λ d. or_there (x.entry == y.entry) (list_any (λ m. x.entry == m) (map (λ (z : Graph). z.entry) graphs)) (among graphs d e)) c

    go : (b : Bool) → (x.entry == g.entry) ≡ b → b ≡ false
    go true e =
        let parts = both (not (list_any (λ m. x.entry == m) (map (λ (y : Graph). y.entry) graphs))) (all_differ (map (λ (y : Graph). y.entry) graphs)) differ in
        absurd (true≢false (sym parts.0 ∙ ap not (among graphs c e)))
    go false e = refl

-- All graphs.

sum_all : (Q : Summary → Type 0) → Q no_summary → (graphs : List Graph) (sums : List Summary) → All Q sums → (entry : ℕ) → Q (summary_at graphs sums entry)
sum_all Q none [] sums all entry = none
sum_all Q none (g ∷ graphs) [] all entry = none
sum_all Q none (g ∷ graphs) (sum ∷ sums) all entry = go (g.entry == entry) (sum_all Q none graphs sums (All-tail Q sum sums all) entry)
  where
    go : (b : Bool) → Q (summary_at graphs sums entry) → Q (if b then sum else summary_at graphs sums entry)
    go true rest = All-head Q sum sums all
    go false rest = rest

module _ (p : Program) (sums : List Summary) (formed : IsProgram p) (one : PassesOneValue p sums) where
  -- what passes in and out of a graph; nothing passes in and out of the first one
  pub sum_of : ℕ → Summary
  sum_of entry = if is_first p.graphs entry then no_summary else summary_at p.graphs sums entry

  pub later_sum : (g : Graph) → Contains (drop 1 p.graphs) g → sum_of g.entry ≡ summary_at p.graphs sums g.entry
  unfolding sum_of
  later_sum g c = ap (λ b. if b then no_summary else summary_at p.graphs sums g.entry) (later_differs p.graphs g formed.entries c)

  first_sum : (g : Graph) → Contains (take 1 p.graphs) g → sum_of g.entry ≡ no_summary
  unfolding sum_of
  first_sum g c = ap (λ b. if b then no_summary else summary_at p.graphs sums g.entry) (first_there p.graphs g c)

  -- the first graph gives nothing back
  gives_none : (g : Graph) → Contains (take 1 p.graphs) g → (b : Block) → Contains g.blocks b → GivesJust [] b.exit
  gives_none g c b d = go b.exit (All-contains (λ (x : Block). All (λ widths. widths ≡ []) (ret_widths g.bits x.exit)) g.blocks b
      (all_parts (λ widths. widths ≡ []) (λ (x : Block). ret_widths g.bits x.exit) g.blocks (All-contains (λ (x : Graph). All (λ widths. widths ≡ []) (all_ret_widths x)) (take 1 p.graphs) g formed.start_rets c)) d)
    where
      go : (exit : Exit) → All (λ widths. widths ≡ []) (ret_widths g.bits exit) → GivesJust [] exit
      go (Ret values) all = no_elements (width_of g.bits) values (All-head (λ widths. widths ≡ []) (map (width_of g.bits) values) [] all)
      go (Goto place) all = tt
      go (If test one other) all = tt
      go (Switch e places) all = tt
      go Stop all = tt

  takes : (g : Graph) → Contains p.graphs g → TakesJust (sum_of g.entry) g
  takes g c = elim (first_or_rest p.graphs g c) [
    | inl first ↦ subst (λ sum. TakesJust sum g) (sym (first_sum g first)) (record {
      words = [];
      stack = refl;
      params = All-contains (λ (x : Graph). x.params ≡ []) (take 1 p.graphs) g formed.start first;
      rets = all_had (λ (b : Block). GivesJust [] b.exit) g.blocks (gives_none g first);
    })
    | inr later ↦ subst (λ sum. TakesJust sum g) (sym (later_sum g later)) (All-contains (λ (x : Graph). TakesJust (summary_at p.graphs sums x.entry) x) (drop 1 p.graphs) g one.just.graphs later)
  ]

  calls : (g : Graph) (stmt : Stmt) → IsCalling p g stmt → CallsJust (summary_at p.graphs sums) stmt
      → CallsJust sum_of stmt
  calls g (Call results entry arguments depth) call just =
      let callee : IsCall p g results entry arguments = call in
      let same = found_entry (drop 1 p.graphs) entry callee.callee callee.named in
      let is : sum_of entry ≡ summary_at p.graphs sums entry =
      subst (λ n. sum_of n ≡ summary_at p.graphs sums n) same (later_sum callee.callee (found_contained (λ (x : Graph). x.entry == entry) (drop 1 p.graphs) callee.callee callee.named)) in
      (just.0 ∙ ap (λ (sum : Summary). sum.results) (sym is), (just.1.0, just.1.1 ∙ ap (λ (sum : Summary). just.1.0 ++ map Get sum.params) (sym is)))
  calls g (Set l e) call just = tt
  calls g (Fetch l width a) call just = tt
  calls g (Store width a e) call just = tt
  calls g (Div l e) call just = tt
  calls g (Dos number place argument) call just = tt

  -- what holds of each summary, and of the one of nothing
  known : (Q : Summary → Type 0) → Q no_summary → All Q sums → (entry : ℕ) → Q (sum_of entry)
  unfolding sum_of
  known Q none all entry = elim (is_first p.graphs entry) as (λ b. Q (if b then no_summary else summary_at p.graphs sums entry)) [ true ↦ none | false ↦ sum_all Q none p.graphs sums all entry ]

  pub order : (entry : ℕ) → AreInOrder (sum_of entry)
  order = known AreInOrder (record { params = refl; results = refl }) one.order

  pub all_just : AllJust sum_of p
  all_just = record {
    graphs = all_had (λ (g : Graph). TakesJust (sum_of g.entry) g) p.graphs takes;
    calls = all_had (λ (g : Graph). All (λ b. All (CallsJust sum_of) b.stmts) g.blocks) p.graphs (λ g c. all_had (λ (b : Block). All (CallsJust sum_of) b.stmts) g.blocks (λ b d. all_had (CallsJust sum_of) b.stmts (λ stmt f.
        calls g stmt (All-contains (IsCalling p g) b.stmts stmt (All-contains (λ (x : Block). All (IsCalling p g) x.stmts) g.blocks b (All-contains (λ (x : Graph). All (λ b. All (IsCalling p x) b.stmts) x.blocks) p.graphs g formed.calls c) d) f)
        (All-contains (CallsJust (summary_at p.graphs sums)) b.stmts stmt (All-contains (λ (x : Block). All (CallsJust (summary_at p.graphs sums)) x.stmts) g.blocks b
        (All-contains (λ (x : Graph). All (λ b. All (CallsJust (summary_at p.graphs sums)) b.stmts) x.blocks) p.graphs g one.just.calls c) d) f))));
    params = λ entry. all_had IsFixed (sum_of entry).params (λ l c. fixed l (order_passes (sum_of entry).params (order entry).params l c));
    results = λ entry. all_had IsFixed (sum_of entry).results (λ l c. fixed l (order_passes (sum_of entry).results (order entry).results l c));
    forms = λ entry. form_of (sum_of entry).results (order entry).results (known (λ sum. AreOneValue sum.results) (inl (Ax, All-nil (IsHalfOf Ax))) one.one entry);
    start = all_had (λ (g : Graph). (sum_of g.entry).results ≡ []) (take 1 p.graphs) (λ g c. ap (λ (sum : Summary). sum.results) (first_sum g c));
  }

  -- the results have widths
  pub results_wide : (entry : ℕ) (l : Loc) → Contains (sum_of entry).results l → is_width (location_width [] l) ≡ true
  results_wide entry l c = wide l (order_passes (sum_of entry).results (order entry).results l c)
