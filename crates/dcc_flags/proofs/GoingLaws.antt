-- The blocks are folded one after another, each after a block that leads to it: what then holds of all that are folded.
use Rattle.std.proofs.Common.{◌≡◌, ℕ, suc, ◌<◌, ◌≤◌, Bool, true, false, ◌&&◌, ◌||◌, not, ◌⊎◌, inl, inr, List, [], ◌∷◌, ◌++◌, length, refl, sym, ap, ◌∙◌, subst, true≢false, slice_set, get_or, eq-eqb, eqb-true, ltb-true, arith, append_assoc, length-append, append-nil}
use Rattle.std.specs.Prelude.{if◌then◌else◌, ◌==◌, nat_lt, nat_le}
use Rattle.std.specs.List.{list_all, list_any}
use Rattle.dcc_num.specs.declared.FlagName.{FlagName}
use Rattle.dcc_ir.specs.declared.syntax.Loc.TheVariants.{Half, Flag, Cell, Temp}
use Rattle.dcc_ir.specs.Tree.{Expr, Get, Stmt, Set, Fetch, Store, Div, Call, Dos, Exit, Goto, If, Switch, Ret, Stop, Graph}
use Rattle.dcc_ir.specs.WellFormed.{is_width, is_expr_of, is_stmt, is_exit, is_block, IsGraph}
use Rattle.dcc_ir.specs.Flow.{targets}
use Rattle.dcc_ir.specs.Live.{block_in, follows}
use Rattle.dcc_ir.proofs.FitLaws.{both}
use Rattle.dcc_ir.proofs.PathLaws.{decided}
use Rattle.dcc_flags.specs.declared.kept.Kept.{Kept}
use Rattle.dcc_flags.specs.Reaching.{Definition, Start, At, defines, chooses, rest_at, Reaches, defined, passes, goes, has_result, IsKept, result}
use Rattle.dcc_flags.specs.Folding.{is_kept, Choices, choice, with_choices, taken, stmt_folded, stmts_folded, bare_block, block_folded, Folding, given_to, fold_block, fold_blocks}
use Rattle.dcc_flags.proofs.MeetLaws.{by_kept}
use Rattle.dcc_flags.proofs.HoldLaws.{drop_next, drop_contains, drop_end}
use Rattle.dcc_ir.proofs.ReachedLaws.{contained, all_at}
use Rattle.std.proofs.lemmas.Option.{slice_get-get_or}
use Rattle.std.proofs.lemmas.List.{length-set, get_or-set_same, get_or-set_other}
use Rattle.dcc_ir.specs.Run.{no_block}
use Rattle.dcc_ir.specs.Location.{flag_number}
use Rattle.dcc_flags.proofs.SpotLaws.{Spot, choice_other, walked, walked_more, walked_end, Fine, fine_walked, fine_wider}

-- an element of a list of places
abbrev pub is_in : List ℕ → ℕ → Bool
is_in xs n = list_any (λ m. m == n) xs

-- each place but those of the first list comes after one that leads to it
pub data Ordered (graph : Graph) : List ℕ → List ℕ → Type 0 where
  over : {before : List ℕ} → Ordered graph before []
  next_one :
      {before rest : List ℕ} {place : ℕ} (parent : ℕ)
      → is_in before parent ≡ true → follows graph parent place ≡ true → is_in before place ≡ false → place < length graph.blocks
      → Ordered graph (place ∷ before) rest → Ordered graph before (place ∷ rest)

-- all of the places, the newest first
abbrev pub after_all : List ℕ → List ℕ → List ℕ
after_all before [] = before
after_all before (p ∷ rest) = after_all (p ∷ before) rest

pub in_here : (x n : ℕ) (xs : List ℕ) → (x == n) ≡ true → is_in (x ∷ xs) n ≡ true
in_here x n xs e = ap (λ b. b || is_in xs n) e

pub in_later : (x n : ℕ) (xs : List ℕ) → is_in xs n ≡ true → is_in (x ∷ xs) n ≡ true
in_later x n xs e = go (x == n)
  where
    go : (b : Bool) → (b || is_in xs n) ≡ true
    go true = refl
    go false = e

pub in_cases : (x n : ℕ) (xs : List ℕ) (P : Type 0) → ((x == n) ≡ true → P) → ((x == n) ≡ false → is_in xs n ≡ true → P) → is_in (x ∷ xs) n ≡ true → P
in_cases x n xs P here later e = go (x == n) refl e
  where
    go : (b : Bool) → (x == n) ≡ b → (b || is_in xs n) ≡ true → P
    go true same e = here same
    go false other e = later other e

pub not_in_head : (x n : ℕ) (xs : List ℕ) → is_in (x ∷ xs) n ≡ false → ((x == n) ≡ false) × (is_in xs n ≡ false)
not_in_head x n xs e = go (x == n) refl e
  where
    go : (b : Bool) → (x == n) ≡ b → (b || is_in xs n) ≡ false → ((x == n) ≡ false) × (is_in xs n ≡ false)
    go true same e = absurd (true≢false e)
    go false other e = (other, e)

-- choices that are given to places
pub given_length : (c : Choices) (given : List Choices) (places : List ℕ) → length (given_to c given places) ≡ length given
given_length c given [] = refl
given_length c given (place ∷ places) = given_length c (slice_set given place c) places ∙ length-set given place c

pub given_kept : (c none : Choices) (given : List Choices) (places : List ℕ) (t : ℕ) → list_any (λ place. place == t) places ≡ false → get_or (given_to c given places) t none ≡ get_or given t none
given_kept c none given [] t e = refl
given_kept c none given (place ∷ places) t e =
    let parts = not_in_head place t places e in
    given_kept c none (slice_set given place c) places t parts.1 ∙ get_or-set_other given place t c none (λ same. true≢false (sym (eq-eqb place t (sym same)) ∙ parts.0))

pub given_new : (c none : Choices) (given : List Choices) (places : List ℕ) (t : ℕ) → t < length given → list_any (λ place. place == t) places ≡ true → get_or (given_to c given places) t none ≡ c
given_new c none given [] t less e = absurd (true≢false (sym e))
given_new c none given (place ∷ places) t less e = elim (decided (list_any (λ p. p == t) places)) [
  | inl later ↦ given_new c none (slice_set given place c) places t (subst (λ n. t < n) (sym (length-set given place c)) less) later
  | inr not_later ↦
      given_kept c none (slice_set given place c) places t not_later
      ∙ in_cases place t places (get_or (slice_set given place c) t none ≡ c)
      (λ same. let one : place ≡ t = eqb-true place t same in subst (λ k. get_or (slice_set given k c) t none ≡ c) (sym one) (get_or-set_same given t c none less))
      (λ other there. absurd (true≢false (sym there ∙ not_later))) e
]

-- what is chosen for a flag stays past a statement that doesn't define it
pub choice_past : (kept : Kept) (bits : List ℕ) (c : Choices) (f : FlagName) (stmt : Stmt) → defines f stmt ≡ false → choice (stmt_folded kept bits c stmt).choices f ≡ choice c f
choice_past kept bits c f (Set (Flag g) e) other = go (is_kept kept g)
  where
    apart : (b : Bool) → (b || false) ≡ false → b ≡ false
    apart true e = e
    apart false e = refl

    go : (x : Bool) → choice (by_kept x bits c g (with_choices c e)).choices f ≡ choice c f
    go true = refl
    go false = choice_other c g f (taken bits (with_choices c e)).value (apart (flag_number f == flag_number g) other)
choice_past kept bits c f (Set (Half r h) e) other = refl
choice_past kept bits c f (Set (Cell n h) e) other = refl
choice_past kept bits c f (Set (Temp n) e) other = refl
choice_past kept bits c f (Fetch l w a) other = refl
choice_past kept bits c f (Store w a e) other = refl
choice_past kept bits c f (Div l e) other = refl
choice_past kept bits c f (Call r n a d) other = refl
choice_past kept bits c f (Dos n p a) other = refl

module _ (graph : Graph) (kept : Kept) (is : IsGraph graph) (none : Choices) where
  abbrev pub old : List ℕ
  old = graph.bits

  abbrev pub stmts : ℕ → List Stmt
  stmts b = (block_in graph b).stmts

  abbrev pub end_of : (ℕ → Spot) → ℕ → Spot
  end_of start b = record { bits = (start b).bits ++ (stmts_folded kept (start b).bits (start b).choices (stmts b)).widths; choices = (stmts_folded kept (start b).bits (start b).choices (stmts b)).choices }

  abbrev pub left_by : (ℕ → Spot) → FlagName → Definition → Expr
  left_by start f Start = Get (Temp (length old))
  left_by start f (At x j) = choice (walked kept (start x) (stmts x) (suc j)).choices f

  -- the definition stands in one of these blocks
  abbrev pub KnownIn : List ℕ → Definition → Type 0
  KnownIn done Start = Unit {0}
  KnownIn done (At x j) = is_in done x ≡ true

  pub record IsLeftIn (done : List ℕ) (start : ℕ → Spot) (f : FlagName) (b k : ℕ) (e : Expr) : Type 0 where
    pub definition : Definition
    pub reaches : Reaches graph f definition b k
    pub known : KnownIn done definition
    pub left : e ≡ left_by start f definition

  -- The blocks are well formed.

  in_graph : (b : ℕ) → b < length graph.blocks → is_block old (length graph.blocks) (block_in graph b) ≡ true
  in_graph b less = all_at (is_block old (length graph.blocks)) graph.blocks (block_in graph b) is.blocks (contained graph.blocks b (block_in graph b) (slice_get-get_or graph.blocks b no_block less))

  pub stmts_ok : (b : ℕ) → b < length graph.blocks → list_all (is_stmt old) (stmts b) ≡ true
  stmts_ok b less = (both (list_all (is_stmt old) (stmts b)) (is_exit old (length graph.blocks) (block_in graph b).exit) (in_graph b less)).0

  pub exit_ok : (b : ℕ) → b < length graph.blocks → is_exit old (length graph.blocks) (block_in graph b).exit ≡ true
  exit_ok b less = (both (list_all (is_stmt old) (stmts b)) (is_exit old (length graph.blocks) (block_in graph b).exit) (in_graph b less)).1

  pub target_below : (p t : ℕ) → p < length graph.blocks → follows graph p t ≡ true → t < length graph.blocks
  target_below p t less so = go (block_in graph p).exit (exit_ok p less) so
    where
      one : (place : ℕ) (rest : Bool) → nat_lt place (length graph.blocks) ≡ true → ((rest ≡ true) → t < length graph.blocks) → ((place == t) || rest) ≡ true → t < length graph.blocks
      one place rest ok later e = elim (decided (place == t)) [
        | inl same ↦ subst (λ n. n < length graph.blocks) (eqb-true place t same) (ltb-true place (length graph.blocks) ok)
        | inr other ↦ later (ap (λ b. b || rest) (sym other) ∙ e)
      ]

      some : (places : List ℕ) → list_all (λ place. nat_lt place (length graph.blocks)) places ≡ true → list_any (λ place. place == t) places ≡ true → t < length graph.blocks
      some [] ok e = absurd (true≢false (sym e))
      some (x ∷ xs) ok e =
          let parts = both (nat_lt x (length graph.blocks)) (list_all (λ place. nat_lt place (length graph.blocks)) xs) ok in
          one x (list_any (λ place. place == t) xs) parts.0 (λ later. some xs parts.1 later) e

      go : (exit : Exit) → is_exit old (length graph.blocks) exit ≡ true → list_any (λ place. place == t) (targets exit) ≡ true → t < length graph.blocks
      go (Goto place) ok e = one place false ok (λ f. absurd (true≢false (sym f))) e
      go (If test x y) ok e =
          let two = both (is_expr_of old 1 test && nat_lt x (length graph.blocks)) (nat_lt y (length graph.blocks)) ok in
          one x ((y == t) || false) (both (is_expr_of old 1 test) (nat_lt x (length graph.blocks)) two.0).1 (one y false two.1 (λ f. absurd (true≢false (sym f)))) e
      go (Switch v places) ok e = some places (both (is_expr_of old 16 v && nat_le (length places) 65536) (list_all (λ place. nat_lt place (length graph.blocks)) places) ok).1 e
      go (Ret values) ok e = absurd (true≢false (sym e))
      go Stop ok e = absurd (true≢false (sym e))

  pub record Going (done : List ℕ) (start : ℕ → Spot) (s : Folding) : Type 0 where
    pub count : length s.blocks ≡ length graph.blocks
    pub given_count : length s.given ≡ length graph.blocks
    pub within : (b : ℕ) → is_in done b ≡ true → b < length graph.blocks
    pub placed : (b : ℕ) → is_in done b ≡ true → get_or s.blocks b no_block ≡ block_folded kept (start b).bits (start b).choices (block_in graph b)
    pub bare : (b : ℕ) → is_in done b ≡ false → get_or s.blocks b no_block ≡ bare_block kept none (block_in graph b)
    pub fine : (b : ℕ) → is_in done b ≡ true → Fine old kept (start b)
    pub above : (b : ℕ) → is_in done b ≡ true → length old < length (start b).bits
    pub prefix : (b : ℕ) → is_in done b ≡ true → (more : List ℕ) × (s.bits ≡ (end_of start b).bits ++ more)
    pub apart : (b c : ℕ) → is_in done b ≡ true → is_in done c ≡ true → (b == c) ≡ false → (length (end_of start b).bits ≤ length (start c).bits) ⊎ (length (end_of start c).bits ≤ length (start b).bits)
    pub agrees : (b : ℕ) → is_in done b ≡ true → (f : FlagName) → is_kept kept f ≡ false → IsLeftIn done start f b 0 (choice (start b).choices f)
    pub given_next : (p t : ℕ) → is_in done p ≡ true → follows graph p t ≡ true → is_in done t ≡ false → (q : ℕ) × (is_in done q ≡ true) × (follows graph q t ≡ true) × (get_or s.given t none ≡ (end_of start q).choices)
    pub widths : list_all is_width s.bits ≡ true
    pub first : (more : List ℕ) × (s.bits ≡ old ++ 1 ∷ more)

  -- the spots with one more
  abbrev pub with_start : (ℕ → Spot) → ℕ → Spot → ℕ → Spot
  with_start start p w b = if p == b then w else start b

  module _ (done : List ℕ) (start : ℕ → Spot) (s : Folding) (h : Going done start s) (p : ℕ) (new : is_in done p ≡ false) (less : p < length graph.blocks)
      (fine_new : Fine old kept (record { bits = s.bits; choices = get_or s.given p none }))
      (agrees_new : (f : FlagName) → is_kept kept f ≡ false → IsLeftIn done start f p 0 (choice (get_or s.given p none) f)) where
    abbrev w : Spot
    w = record { bits = s.bits; choices = get_or s.given p none }

    abbrev start' : ℕ → Spot
    start' = with_start start p w

    abbrev s' : Folding
    s' = fold_block kept graph none s p

    apart_from : (b : ℕ) → is_in done b ≡ true → (p == b) ≡ false
    apart_from b there = elim (decided (p == b)) [
      | inl same ↦ absurd (true≢false (sym there ∙ ap (is_in done) (sym (eqb-true p b same)) ∙ new))
      | inr other ↦ other
    ]

    here_is : start' p ≡ w
    here_is = ap (λ z. if z then w else start p) (eq-eqb p p refl)

    still : (b : ℕ) → is_in done b ≡ true → start' b ≡ start b
    still b there = ap (λ z. if z then w else start b) (apart_from b there)

    still_left : (f : FlagName) (d : Definition) → KnownIn done d → left_by start' f d ≡ left_by start f d
    still_left f Start known = refl
    still_left f (At x j) known = ap (λ y. choice (walked kept y (stmts x) (suc j)).choices f) (still x known)

    -- each of the blocks, the old ones and the new one
    each : (P : ℕ → Type 0) → P p → ((b : ℕ) → is_in done b ≡ true → P b) → (b : ℕ) → is_in (p ∷ done) b ≡ true → P b
    each P here there b known = in_cases p b done (P b) (λ same. subst P (eqb-true p b same) here) (λ other later. there b later) known

    end_here : (end_of start' p).bits ≡ s'.bits
    end_here = ap (λ (x : Spot). x.bits ++ (stmts_folded kept x.bits x.choices (stmts p)).widths) here_is

    more_bits : (b : ℕ) → is_in done b ≡ true → (more : List ℕ) × (s'.bits ≡ (end_of start b).bits ++ more)
    more_bits b there =
        let before = h.prefix b there in
        let ws = (stmts_folded kept s.bits (get_or s.given p none) (stmts p)).widths in
        (before.0 ++ ws, ap (λ l. l ++ ws) before.1 ∙ append_assoc (end_of start b).bits before.0 ws)

    below_here : (b : ℕ) → is_in done b ≡ true → length (end_of start b).bits ≤ length s.bits
    below_here b there = let before = h.prefix b there in let e = ap length before.1 ∙ length-append (end_of start b).bits before.0 in omega arith

    first_below : length old < length s.bits
    first_below = let e = ap length h.first.1 ∙ length-append old (1 ∷ h.first.0) in omega arith

    left_still : (f : FlagName) (b k : ℕ) (e : Expr) → IsLeftIn done start f b k e → IsLeftIn (p ∷ done) start' f b k e
    left_still f b k e x = record { definition = x.definition; reaches = x.reaches; known = wider x.definition x.known; left = x.left ∙ sym (still_left f x.definition x.known) }
      where
        wider : (d : Definition) → KnownIn done d → KnownIn (p ∷ done) d
        wider Start known = tt
        wider (At x j) known = in_later p x done known

    pub going_step : Fine old kept (end_of start' p) → Going (p ∷ done) start' s'
    going_step fine_end = record {
      count = length-set s.blocks p _ ∙ h.count;
      given_count = given_length _ s.given (targets (block_in graph p).exit) ∙ h.given_count;
      within = each (λ b. b < length graph.blocks) less h.within;
      placed = each (λ b. get_or s'.blocks b no_block ≡ block_folded kept (start' b).bits (start' b).choices (block_in graph b))
          (get_or-set_same s.blocks p _ no_block (subst (λ n. p < n) (sym h.count) less) ∙ ap (λ (x : Spot). block_folded kept x.bits x.choices (block_in graph p)) (sym here_is))
          (λ b there. get_or-set_other s.blocks p b _ no_block (λ same. true≢false (sym (eq-eqb p b (sym same)) ∙ apart_from b there)) ∙ h.placed b there ∙ ap (λ (x : Spot). block_folded kept x.bits x.choices (block_in graph b)) (sym (still b there)));
      bare = λ b out. let parts = not_in_head p b done out in get_or-set_other s.blocks p b _ no_block (λ same. true≢false (sym (eq-eqb p b (sym same)) ∙ parts.0)) ∙ h.bare b parts.1;
      fine = each (λ b. Fine old kept (start' b)) (subst (Fine old kept) (sym here_is) fine_new) (λ b there. subst (Fine old kept) (sym (still b there)) (h.fine b there));
      above = each (λ b. length old < length (start' b).bits) (subst (λ (x : Spot). length old < length x.bits) (sym here_is) first_below) (λ b there. subst (λ (x : Spot). length old < length x.bits) (sym (still b there)) (h.above b there));
      prefix = each (λ b. (more : List ℕ) × (s'.bits ≡ (end_of start' b).bits ++ more)) ([], sym end_here ∙ sym (append-nil (end_of start' p).bits))
          (λ b there. let m = more_bits b there in (m.0, m.1 ∙ ap (λ (x : Spot). (x.bits ++ (stmts_folded kept x.bits x.choices (stmts b)).widths) ++ m.0) (sym (still b there))));
      apart = λ b c kb kc other. two b c kb kc other;
      agrees = each (λ b. (f : FlagName) → is_kept kept f ≡ false → IsLeftIn (p ∷ done) start' f b 0 (choice (start' b).choices f))
          (λ f no_f. subst (λ (x : Spot). IsLeftIn (p ∷ done) start' f p 0 (choice x.choices f)) (sym here_is)
          (left_still f p 0 (choice (get_or s.given p none) f) (agrees_new f no_f)))
          (λ b there f no_f. subst (λ (x : Spot). IsLeftIn (p ∷ done) start' f b 0 (choice x.choices f)) (sym (still b there)) (left_still f b 0 (choice (start b).choices f) (h.agrees b there f no_f)));
      given_next = λ b t kb edge out. given b t kb edge out;
      widths = subst (λ l. list_all is_width l ≡ true) end_here fine_end.widths;
      first = (h.first.0 ++ (stmts_folded kept s.bits (get_or s.given p none) (stmts p)).widths, ap (λ l. l ++ (stmts_folded kept s.bits (get_or s.given p none) (stmts p)).widths) h.first.1 ∙ append_assoc old (1 ∷ h.first.0) (stmts_folded kept s.bits (get_or s.given p none) (stmts p)).widths);
    }
      where
        new_after : (b : ℕ) → is_in done b ≡ true → length (end_of start' b).bits ≤ length (start' p).bits
        new_after b there = subst (λ (x : Spot). length (x.bits ++ (stmts_folded kept x.bits x.choices (stmts b)).widths) ≤ length (start' p).bits) (sym (still b there))
            (subst (λ (x : Spot). length (end_of start b).bits ≤ length x.bits) (sym here_is) (below_here b there))

        two : (b c : ℕ) → is_in (p ∷ done) b ≡ true → is_in (p ∷ done) c ≡ true → (b == c) ≡ false → (length (end_of start' b).bits ≤ length (start' c).bits) ⊎ (length (end_of start' c).bits ≤ length (start' b).bits)
        two b c kb kc other =
            in_cases p b done _
            (λ b_new. in_cases p c done _ (λ c_new. absurd (true≢false (sym (eq-eqb b c (sym (eqb-true p b b_new) ∙ eqb-true p c c_new)) ∙ other)))
            (λ c_other c_old. subst (λ y. (length (end_of start' y).bits ≤ length (start' c).bits) ⊎ (length (end_of start' c).bits ≤ length (start' y).bits)) (eqb-true p b b_new) (inr (new_after c c_old))) kc)
            (λ b_other b_old. in_cases p c done _
            (λ c_new. subst (λ y. (length (end_of start' b).bits ≤ length (start' y).bits) ⊎ (length (end_of start' y).bits ≤ length (start' b).bits)) (eqb-true p c c_new) (inl (new_after b b_old)))
            (λ c_other c_old.
            subst (λ (x : Spot). (length (x.bits ++ (stmts_folded kept x.bits x.choices (stmts b)).widths) ≤ length (start' c).bits) ⊎ (length (end_of start' c).bits ≤ length x.bits)) (sym (still b b_old))
            (subst (λ (x : Spot). (length (end_of start b).bits ≤ length x.bits) ⊎ (length (x.bits ++ (stmts_folded kept x.bits x.choices (stmts c)).widths) ≤ length (start b).bits)) (sym (still c c_old))
            (h.apart b c b_old c_old other))) kc) kb

        given : (b t : ℕ) → is_in (p ∷ done) b ≡ true → follows graph b t ≡ true → is_in (p ∷ done) t ≡ false → (q : ℕ) × (is_in (p ∷ done) q ≡ true) × (follows graph q t ≡ true) × (get_or s'.given t none ≡ (end_of start' q).choices)
        given b t kb edge out =
            let parts = not_in_head p t done out in
            elim (decided (follows graph p t)) [
              | inl so ↦ (
                p,
                in_here p p done (eq-eqb p p refl),
                so,
                given_new _ none s.given (targets (block_in graph p).exit) t (subst (λ n. t < n) (sym h.given_count) (target_below p t less so)) so
                    ∙ ap (λ (x : Spot). (stmts_folded kept x.bits x.choices (stmts p)).choices) (sym here_is),
              )
              | inr not_so ↦
                  let b_old : is_in done b ≡ true = in_cases p b done (is_in done b ≡ true) (λ same. absurd (true≢false (sym edge ∙ ap (λ y. follows graph y t) (sym (eqb-true p b same)) ∙ not_so))) (λ other later. later) kb in
                  let q = h.given_next b t b_old edge parts.1 in (
                    q.0,
                    in_later p q.0 done q.1,
                    q.2,
                    given_kept _ none s.given (targets (block_in graph p).exit) t not_so ∙ q.3 ∙ ap (λ (x : Spot). (stmts_folded kept x.bits x.choices (stmts q.0)).choices) (sym (still q.0 q.1)),
                  )
            ]

  module _ (exact : (f : FlagName) → is_kept kept f ≡ false → IsKept graph f → ⊥) where
    pub no_result : (f : FlagName) → is_kept kept f ≡ false → (b k : ℕ) (stmt : Stmt) (rest : List Stmt) → b < length graph.blocks → rest_at graph b k ≡ stmt ∷ rest → has_result f stmt ≡ false
    no_result f no_f b k stmt rest less at = elim (decided (has_result f stmt)) [
      | inl so ↦ absurd (exact f no_f (result (contained graph.blocks b (block_in graph b) (slice_get-get_or graph.blocks b no_block less)) (drop_contains (stmts b) k stmt rest at) so))
      | inr not_so ↦ not_so
    ]

    -- some definition that reaches a place has left what is chosen there
    leaves_walked : (done : List ℕ) (start : ℕ → Spot) (b : ℕ) → is_in done b ≡ true → b < length graph.blocks → (f : FlagName) → is_kept kept f ≡ false → (rest : List Stmt) (k : ℕ) → rest_at graph b k ≡ rest
        → IsLeftIn done start f b k (choice (walked kept (start b) (stmts b) k).choices f)
        → (end : ℕ) × (rest_at graph b end ≡ []) × IsLeftIn done start f b end (choice (walked kept (start b) (stmts b) end).choices f)
    leaves_walked done start b known less f no_f [] k at x = (k, at, x)
    leaves_walked done start b known less f no_f (stmt ∷ rest) k at x =
        leaves_walked done start b known less f no_f rest (suc k) (drop_next (stmts b) k stmt rest at) (step (defines f stmt) refl)
      where
        step : (z : Bool) → defines f stmt ≡ z → IsLeftIn done start f b (suc k) (choice (walked kept (start b) (stmts b) (suc k)).choices f)
        step true so = record { definition = At b k; reaches = defined x.reaches at so; known = known; left = refl }
        step false other = record {
          definition = x.definition;
          reaches = passes x.reaches at (ap (λ z. not z || chooses f stmt) other);
          known = x.known;
          left = ap (λ (y : Spot). choice y.choices f) (walked_more kept (stmts b) k (start b) stmt rest at)
              ∙ choice_past kept (walked kept (start b) (stmts b) k).bits (walked kept (start b) (stmts b) k).choices f stmt other ∙ x.left;
        }

    pub fine_end : (start : ℕ → Spot) (b : ℕ) → b < length graph.blocks → Fine old kept (start b) → Fine old kept (end_of start b)
    fine_end start b less fine =
        let end = walked_end kept (stmts b) (length (stmts b)) (start b) (drop_end (stmts b)) in
        let at = fine_walked old kept (stmts b) (length (stmts b)) (start b) (stmts_ok b less) fine in
        subst (λ bits. Fine old kept (record { bits = bits; choices = (end_of start b).choices })) (sym end.0)
        (subst (λ c. Fine old kept (record { bits = (walked kept (start b) (stmts b) (length (stmts b))).bits; choices = c })) (sym end.1) at)

    -- the choices that are given to a block after one of those that are folded
    pub fine_given : (done : List ℕ) (start : ℕ → Spot) (s : Folding) → Going done start s → (p parent : ℕ) → is_in done parent ≡ true → follows graph parent p ≡ true → is_in done p ≡ false →
        Fine old kept (record { bits = s.bits; choices = get_or s.given p none })
    fine_given done start s h p parent known edge new =
        let q = h.given_next parent p known edge new in
        let fine_q = fine_end start q.0 (h.within q.0 q.1) (h.fine q.0 q.1) in
        let whole = h.prefix q.0 q.1 in
        let wide = fine_wider old kept (end_of start q.0) whole.0 fine_q (subst (λ l. list_all is_width l ≡ true) whole.1 h.widths) in
        subst (λ c. Fine old kept (record { bits = s.bits; choices = c })) (sym q.3) (subst (λ bits. Fine old kept (record { bits = bits; choices = (end_of start q.0).choices })) (sym whole.1) wide)

    -- a block that comes after one of those that are folded
    pub one_more : (done : List ℕ) (start : ℕ → Spot) (s : Folding) → Going done start s → (p parent : ℕ) → is_in done parent ≡ true → follows graph parent p ≡ true → is_in done p ≡ false → p < length graph.blocks →
        (start' : ℕ → Spot) × Going (p ∷ done) start' (fold_block kept graph none s p)
    one_more done start s h p parent known edge new less =
        let q = h.given_next parent p known edge new in
        let q_less = h.within q.0 q.1 in
        let fine_new = fine_given done start s h p parent known edge new in
        let w : Spot = record { bits = s.bits; choices = get_or s.given p none } in
        let start' = with_start start p w in
        let here : start' p ≡ w = ap (λ z. if z then w else start p) (eq-eqb p p refl) in (
          start',
          going_step done start s h p new less fine_new (λ f no_f.
              let x = leaves_walked done start q.0 q.1 q_less f no_f (stmts q.0) 0 refl (h.agrees q.0 q.1 f no_f) in
              let end = walked_end kept (stmts q.0) x.0 (start q.0) x.1 in
              record {
                definition = x.2.definition;
                reaches = goes x.2.reaches x.1 q.2;
                known = x.2.known;
                left = ap (λ c. choice c f) (q.3 ∙ end.1) ∙ x.2.left;
              })
              (fine_end start' p less (subst (Fine old kept) (sym here) fine_new)),
        )

    pub going_all : (done : List ℕ) (start : ℕ → Spot) (s : Folding) (rest : List ℕ) → Ordered graph done rest → Going done start s → (start' : ℕ → Spot) × Going (after_all done rest) start' (fold_blocks kept graph none s rest)
    going_all done start s [] o h = (start, h)
    going_all done start s (p ∷ rest) (next_one parent known edge new less later) h =
        let one = one_more done start s h p parent known edge new less in
        going_all (p ∷ done) one.0 (fold_block kept graph none s p) rest later one.1
