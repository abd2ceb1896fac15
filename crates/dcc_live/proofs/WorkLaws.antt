-- What is needed flows until nothing changes: what each turn keeps, and that less is left after it.
use Rattle.std.proofs.Common.{◌≡◌, ℕ, zero, suc, ◌+◌, ◌*◌, ◌<◌, ◌≤◌, Bool, true, false, ◌&&◌, ◌||◌, not, inl, inr, List, [], ◌∷◌, length, get_or, slice_get, slice_set, replicate, map, Some, refl, sym, ap, ◌∙◌, subst, true≢false, arith, Contains}
use Rattle.std.specs.Prelude.{if◌then◌else◌, ◌==◌, All}
use Rattle.std.proofs.lemmas.Bool.{cases_eq, or_cases, or_left, or_right, and_parts, and_from, eq-eqb, ne_eqb, eqb-true}
use Rattle.std.proofs.lemmas.List.{length-set, length-replicate, get_or-replicate, get_or-set_same, get_or-set_other, get_or-map, length-map}
use Rattle.std.proofs.lemmas.List.Elements.{All-head, All-tail, All-get_or, All-set, All-replicate, All-contains, All-from_get_or}
use Rattle.std.proofs.lemmas.Option.{slice_get-get_or, get_or_from_slice_get, slice_get_within}
use Rattle.dcc_ir.specs.declared.syntax.Loc.{Loc}
use Rattle.dcc_ir.specs.Tree.{Stmt, Block, Graph}
use Rattle.dcc_ir.specs.Flow.{targets}
use Rattle.dcc_ir.specs.Demand.{IsNeededIn, tested, goes}
use Rattle.dcc_ir.specs.Run.{no_block}
use Rattle.dcc_ir.specs.Live.{is_among, block_in}
use Rattle.dcc_ir.specs.Families.{IsClosed}
use Rattle.dcc_ir.proofs.LocationLaws.{among_contains, contains_among, Contains-here, Contains-later, Contains-none, Contains-cases}
use Rattle.dcc_ir.proofs.ReachedLaws.{contained}
use Rattle.dcc_ir.proofs.passes.LocalLaws.{some_same}
use Rattle.dcc_ir.proofs.FamilyLaws.{needed-least, tests-read}
use Rattle.dcc_flow.specs.Edges.{is_in, leads, successors_of, ArePredecessors}
use Rattle.dcc_flow.specs.Bits.{bit, flowed, differ}
use Rattle.dcc_flow.specs.Uses.{AreLists}
use Rattle.dcc_flow.specs.Work.{Work, AllFlowed, IsTaken, without_queued, with_answer, spread, first_work}
use Rattle.dcc_flow.proofs.SourceLaws.{in_at, predecessor_within}
use Rattle.dcc_flow.proofs.WordLaws.{same_lists}
use Rattle.dcc_flow.proofs.WorkLaws.{flowed_at, length_flowed_bits, within, truths, truths_with, truths_without}
use Rattle.dcc_flow.specs.Access.{access_of, block_access_of, accesses_of}
use Rattle.dcc_flow.specs.Marks.{selected}
use Rattle.dcc_live.specs.First.{Row, row_of, Tells}
use Rattle.dcc_live.specs.Needed.{before_all, after_stmts, before_block, AreNeededAtEnds}
use Rattle.dcc_live.proofs.RowLaws.{selected_sound, selected_complete, row_first}
use Rattle.dcc_live.proofs.NeededLaws.{read_tested, passes_before, uses_before, makes_before, sound_before, before_known}

-- What is not yet known.

falses : List Bool → ℕ
falses [] = 0
falses (true ∷ xs) = falses xs
falses (false ∷ xs) = suc (falses xs)

-- places that hold true still do
Grows : List Bool → List Bool → Type 0
Grows [] [] = Unit {0}
Grows (x ∷ xs) (y ∷ ys) = (x ≡ true → y ≡ true) × Grows xs ys
Grows xs ys = ⊥

falses_less : (xs ys : List Bool) → Grows xs ys → falses ys ≤ falses xs
unfolding falses Grows
falses_less [] [] h = omega arith
falses_less [] (y ∷ ys) h = absurd h
falses_less (x ∷ xs) [] h = absurd h
falses_less (true ∷ xs) (true ∷ ys) h = falses_less xs ys h.1
falses_less (true ∷ xs) (false ∷ ys) h = absurd (true≢false (sym (h.0 refl)))
falses_less (false ∷ xs) (true ∷ ys) h = let on = falses_less xs ys h.1 in omega (arith, on)
falses_less (false ∷ xs) (false ∷ ys) h = let on = falses_less xs ys h.1 in omega (arith, on)

falses_fewer : (xs ys : List Bool) → Grows xs ys → differ xs ys ≡ true → falses ys + 1 ≤ falses xs
unfolding falses Grows
falses_fewer [] [] h d = absurd (true≢false (sym d))
falses_fewer [] (y ∷ ys) h d = absurd h
falses_fewer (x ∷ xs) [] h d = absurd h
falses_fewer (true ∷ xs) (true ∷ ys) h d = falses_fewer xs ys h.1 d
falses_fewer (true ∷ xs) (false ∷ ys) h d = absurd (true≢false (sym (h.0 refl)))
falses_fewer (false ∷ xs) (true ∷ ys) h d = let on = falses_less xs ys h.1 in omega (arith, on)
falses_fewer (false ∷ xs) (false ∷ ys) h d = let on = falses_fewer xs ys h.1 d in omega (arith, on)

grows_from : (xs ys : List Bool) → length ys ≡ length xs → ((k : ℕ) → k < length xs → bit xs k ≡ true → bit ys k ≡ true) → Grows xs ys
unfolding Grows
grows_from [] [] e h = tt
grows_from [] (y ∷ ys) e h = absurd (omega (arith, e))
grows_from (x ∷ xs) [] e h = absurd (omega (arith, e))
grows_from (x ∷ xs) (y ∷ ys) e h = (h 0 (omega arith), grows_from xs ys (omega (arith, e)) (λ k less t. h (suc k) (omega (arith, less)) t))

-- how many places of all blocks are not known
free : List (List Bool) → ℕ
free [] = 0
free (bits ∷ lists) = falses bits + free lists

free_set : (lists : List (List Bool)) (b : ℕ) (bits : List Bool) → b < length lists → free (slice_set lists b bits) + falses (get_or lists b []) ≡ free lists + falses bits
unfolding free
free_set [] b bits inside = absurd (omega (arith, inside))
free_set (x ∷ lists) zero bits inside = omega arith
free_set (x ∷ lists) (suc b) bits inside = let on = free_set lists b bits (omega (arith, inside)) in omega (arith, on)

-- the work that is left
pub weight : Work → ℕ
weight w = 2 * free w.answer + truths w.queued

-- One block wants more.

abbrev wanting : List Bool → List Bool → List Bool
wanting old start = flowed old start start start

wanting_at : (old start : List Bool) (k : ℕ) → k < length old → bit (wanting old start) k ≡ (bit old k || bit start k)
wanting_at old start k inside = flowed_at old start start start k inside ∙ absorbed (bit old k) (bit start k)
  where
    absorbed : (a b : Bool) → ((a || b) || (b && not b)) ≡ (a || b)
    absorbed true true = refl
    absorbed true false = refl
    absorbed false true = refl
    absorbed false false = refl

wanting_grows : (old start : List Bool) → Grows old (wanting old start)
wanting_grows old start = grows_from old (wanting old start) (length_flowed_bits old start start start) (λ k inside t. wanting_at old start k inside ∙ or_left (bit old k) (bit start k) t)

-- from one state of the work to another, in which these places are needed at the ends of these blocks
pub record Wants (count len : ℕ) (start : List Bool) (blocks : List ℕ) (w after : Work) : Type 0 where
  pub are : AreLists count len after.answer
  pub flags : length after.queued ≡ count
  pub bits : (p k : ℕ) → p < count → k < len → bit (get_or after.answer p []) k ≡ (bit (get_or w.answer p []) k || (is_in blocks p && bit start k))
  pub waits : (p : ℕ) → get_or after.queued p false ≡ false → get_or w.queued p false ≡ false
  pub same : (p : ℕ) → get_or after.queued p false ≡ false → get_or after.answer p [] ≡ get_or w.answer p []
  pub lighter : weight after ≤ weight w

module _ (count len : ℕ) (start : List Bool) (w : Work) (are : AreLists count len w.answer) (flags : length w.queued ≡ count) (b : ℕ) (inside : b < count) where
  abbrev old : List Bool
  old = get_or w.answer b []

  abbrev new : List Bool
  new = wanting old start

  abbrev answered : Work
  answered = record w { answer = slice_set w.answer b new }

  abbrev queued : Work
  queued = record answered { queued = slice_set w.queued b true }

  b_inside : b < length w.answer
  b_inside = omega (arith, are.count_is, inside)

  old_len : length old ≡ len
  old_len = All-get_or (λ bits. length bits ≡ len) w.answer b [] b_inside are.len_is

  lists : AreLists count len answered.answer
  lists = record {
    count_is = length-set w.answer b new ∙ are.count_is;
    len_is = All-set (λ bits. length bits ≡ len) w.answer b new (length_flowed_bits old start start start ∙ old_len) are.len_is;
  }

  one_bits : (p k : ℕ) → p < count → k < len → bit (get_or answered.answer p []) k ≡ (bit (get_or w.answer p []) k || (is_in (b ∷ []) p && bit start k))
  one_bits p k below small = elim (cases_eq p b) [
    | inl e ↦
        ap (λ q. bit (get_or answered.answer q []) k) e ∙ ap (λ l. bit l k) (get_or-set_same w.answer b new [] b_inside)
        ∙ wanting_at old start k (omega (arith, old_len, small))
        ∙ sym (ap (λ q. bit (get_or w.answer q []) k || (is_in (b ∷ []) q && bit start k)) e ∙ ap (λ t. bit old k || ((t || false) && bit start k)) (eq-eqb b b refl))
    | inr o ↦
        ap (λ l. bit l k) (get_or-set_other w.answer b p new [] o)
        ∙ sym (ap (λ t. bit (get_or w.answer p []) k || ((t || false) && bit start k)) (ne_eqb b p (λ e. o (sym e))) ∙ none (bit (get_or w.answer p []) k))
  ]
    where
      none : (a : Bool) → (a || false) ≡ a
      none true = refl
      none false = refl

  -- nothing new: the list stays
  unchanged : differ old new ≡ false → (p : ℕ) → get_or answered.answer p [] ≡ get_or w.answer p []
  unchanged d p = elim (cases_eq p b) [
    | inl e ↦ ap (λ q. get_or answered.answer q []) e ∙ get_or-set_same w.answer b new [] b_inside ∙ sym (same_lists old new d) ∙ ap (λ q. get_or w.answer q []) (sym e)
    | inr o ↦ get_or-set_other w.answer b p new [] o
  ]

  weighed : free answered.answer + falses old ≡ free w.answer + falses new
  weighed = free_set w.answer b new b_inside

  one_same : differ old new ≡ false → Wants count len start (b ∷ []) w answered
  unfolding weight
  one_same d = record {
    are = lists;
    flags = flags;
    bits = one_bits;
    waits = λ p e. e;
    same = λ p e. unchanged d p;
    lighter = let less = falses_less old new (wanting_grows old start) in let is = weighed in omega (arith, less, is);
  }

  one_queued : differ old new ≡ true → Wants count len start (b ∷ []) w queued
  unfolding weight
  one_queued d =
      let flag : b < length w.queued = omega (arith, flags, inside) in
      let here : get_or (slice_set w.queued b true) b false ≡ true = get_or-set_same w.queued b true false flag in
      record {
        are = lists;
        flags = length-set w.queued b true ∙ flags;
        bits = one_bits;
        waits = λ p e. elim (cases_eq p b) [
          | inl is ↦ absurd (true≢false (sym (ap (λ n. get_or (slice_set w.queued b true) n false) is ∙ here) ∙ e))
          | inr o ↦ sym (get_or-set_other w.queued b p true false o) ∙ e
        ];
        same = λ p e. elim (cases_eq p b) [
          | inl is ↦ absurd (true≢false (sym (ap (λ n. get_or (slice_set w.queued b true) n false) is ∙ here) ∙ e))
          | inr o ↦ get_or-set_other w.answer b p new [] o
        ];
        lighter =
            let less = falses_fewer old new (wanting_grows old start) d in
            let is = weighed in
            let more = truths_with w.queued b in
            omega (arith, less, is, more);
      }

  pub one_wants : Wants count len start (b ∷ []) w (with_answer w b new)
  one_wants = go (differ old new) refl
    where
      go : (d : Bool) → differ old new ≡ d → Wants count len start (b ∷ []) w (if d then queued else answered)
      go true d = one_queued d
      go false d = one_same d

-- All of them.

pub all_want : (count len : ℕ) (start : List Bool) (blocks : List ℕ) (w : Work) → All (λ b. b < count) blocks → AreLists count len w.answer → length w.queued ≡ count →
    Wants count len start blocks w (spread start start start w blocks)
all_want count len start [] w below are flags = record {
  are = are;
  flags = flags;
  bits = λ p k less small. none (bit (get_or w.answer p []) k);
  waits = λ p e. e;
  same = λ p e. refl;
  lighter = omega arith;
}
  where
    none : (a : Bool) → a ≡ (a || false)
    none true = refl
    none false = refl
all_want count len start (b ∷ blocks) w below are flags =
    let next = with_answer w b (wanting (get_or w.answer b []) start) in
    let one = one_wants count len start w are flags b (All-head (λ b. b < count) b blocks below) in
    let rest = all_want count len start blocks next (All-tail (λ b. b < count) b blocks below) one.are one.flags in
    record {
      are = rest.are;
      flags = rest.flags;
      bits = λ p k less small.
          rest.bits p k less small ∙ ap (λ t. t || (is_in blocks p && bit start k)) (one.bits p k less small)
          ∙ joined (bit (get_or w.answer p []) k) (b == p) (is_in blocks p) (bit start k);
      waits = λ p e. one.waits p (rest.waits p e);
      same = λ p e. rest.same p e ∙ one.same p (rest.waits p e);
      lighter = let x = one.lighter in let y = rest.lighter in omega (arith, x, y);
    }
  where
    joined : (a t u s : Bool) → ((a || ((t || false) && s)) || (u && s)) ≡ (a || ((t || u) && s))
    joined true t u s = refl
    joined false true true true = refl
    joined false true true false = refl
    joined false true false true = refl
    joined false true false false = refl
    joined false false true s = refl
    joined false false false s = refl

-- Edges.

pub in_contains : (xs : List ℕ) (n : ℕ) → is_in xs n ≡ true → Contains xs n
in_contains [] n e = absurd (true≢false (sym e))
in_contains (x ∷ xs) n e = elim (or_cases (x == n) (is_in xs n) e) [
  | inl t ↦ subst (Contains (x ∷ xs)) (eqb-true x n t) (Contains-here x xs)
  | inr f ↦ Contains-later x xs n (in_contains xs n f)
]

pub contains_in : (xs : List ℕ) (n : ℕ) → Contains xs n → is_in xs n ≡ true
contains_in [] n c = absurd (Contains-none n c)
contains_in (x ∷ xs) n c = Contains-cases x xs n (is_in (x ∷ xs) n ≡ true) (λ e. or_left (x == n) (is_in xs n) (eq-eqb x n e)) (λ d. or_right (x == n) (is_in xs n) (contains_in xs n d)) c

pub contained_map : {A B : Type 0} (f : A → B) (xs : List A) (x : A) → Contains xs x → Contains (map f xs) (f x)
contained_map f xs x c = (c.0, omega (arith, c.1, length-map xs f), get_or-map f xs c.0 x (f x) c.1 ∙ ap f c.2)

pub at_place : {A : Type 0} (xs : List A) (x : A) → Contains xs x → (k : ℕ) × (slice_get xs k ≡ Some x)
at_place xs x c = (c.0, slice_get-get_or xs c.0 x c.1 ∙ ap Some c.2)

-- the blocks that follow a block
targets_at : (graph : Graph) (b : ℕ) (block : Block) → slice_get graph.blocks b ≡ Some block → get_or (successors_of graph) b [] ≡ targets block.exit
targets_at graph b block at =
    get_or-map (λ (x : Block). targets x.exit) graph.blocks b block [] (slice_get_within graph.blocks b block at)
    ∙ ap (λ (x : Block). targets x.exit) (get_or_from_slice_get graph.blocks b block block at)

-- The whole.

module _ (graph : Graph) (places : List Loc) where
  -- what holds at each turn
  pub record Going (w : Work) : Type 0 where
    pub are : AreLists (length graph.blocks) (length places) w.answer
    pub flags : length w.queued ≡ length graph.blocks
    pub sound : (b k : ℕ) (block : Block) (x : Loc) → slice_get graph.blocks b ≡ Some block → slice_get places k ≡ Some x → bit (get_or w.answer b []) k ≡ true → IsNeededIn graph block [] x
    pub flows : (b : ℕ) (block : Block) → slice_get graph.blocks b ≡ Some block → get_or w.queued b false ≡ false → (a : ℕ) → leads (successors_of graph) a b ≡ true → (k : ℕ) (x : Loc) → slice_get places k ≡ Some x →
        before_block places (get_or w.answer b []) (block_access_of block) x ≡ true → bit (get_or w.answer a []) k ≡ true

  -- Nothing is known at first.
  pub begin_going : Going (first_work (length graph.blocks) (length places))
  begin_going =
      let count = length graph.blocks in
      let len = length places in
      record {
        are = record {
          count_is = length-replicate count (replicate len false);
          len_is = All-replicate (λ bits. length bits ≡ len) count (replicate len false) (length-replicate len false);
        };
        flags = length-replicate count true;
        sound = λ b k block x at pl t.
            absurd (true≢false (sym t ∙ ap (λ l. bit l k) (get_or-replicate count b (replicate len false) [] (slice_get_within graph.blocks b block at))
            ∙ get_or-replicate len k false false (slice_get_within places k x pl)));
        flows = λ b block at q a e k x pl t. absurd (true≢false (sym (get_or-replicate count b true false (slice_get_within graph.blocks b block at)) ∙ q));
      }

  -- what is needed at the end of a block, by what is known
  end_sound : (w : Work) → Going w → (b : ℕ) (block : Block) (x : Loc) → slice_get graph.blocks b ≡ Some block → after_stmts places (get_or w.answer b []) (block_access_of block).last x ≡ true → IsNeededIn graph block [] x
  end_sound w going b block x at t =
      let last = (block_access_of block).last in
      let bits = get_or w.answer b [] in
      elim (or_cases (is_among last x) (is_among (selected places bits) x || false) t) [
        | inl r ↦ tested (read_tested block.exit x (among_contains last x r))
        | inr s ↦ elim (or_cases (is_among (selected places bits) x) false s) [
          | inl c ↦ let one = selected_sound places bits x (among_contains (selected places bits) x c) in going.sound b one.0 block x at one.1 one.2
          | inr f ↦ absurd (true≢false (sym f))
        ]
      ]

  -- One turn: a block that waits is taken, and what is needed before it is needed at the end of each block before it.
  module _ (w : Work) (going : Going w) (block : ℕ) (was : get_or w.queued block false ≡ true) (b : Block) (at : slice_get graph.blocks block ≡ Some b)
      (start : List Bool) (tells : Tells places (before_block places (get_or w.answer block []) (block_access_of b)) start)
      (sources : List ℕ) (edges : (a : ℕ) → is_in sources a ≡ leads (successors_of graph) a block) (below : All (λ a. a < length graph.blocks) sources) where
    abbrev pub taken : Work
    taken = without_queued w block

    abbrev pub after : Work
    after = spread start start start taken sources

    inside : block < length graph.blocks
    inside = slice_get_within graph.blocks block b at

    wants : Wants (length graph.blocks) (length places) start sources taken after
    wants = all_want (length graph.blocks) (length places) start sources taken below going.are (length-set w.queued block false ∙ going.flags)

    -- what is needed before the block is needed at the end of a block that goes there
    flows_back : (a : ℕ) (block' : Block) (x : Loc) → slice_get graph.blocks a ≡ Some block' → is_in sources a ≡ true → before_block places (get_or w.answer block []) (block_access_of b) x ≡ true → IsNeededIn graph block' [] x
    flows_back a block' x there e t =
        let edge = sym (ap (λ l. is_in l block) (targets_at graph a block' there)) ∙ sym (edges a) ∙ e in
        goes (in_contains (targets block'.exit) block edge) at
        (sound_before graph b (after_stmts places (get_or w.answer block []) (block_access_of b).last) b.stmts (λ y s. end_sound w going block b y at s) x t)

    pub turn_going : Going after
    turn_going = record {
      are = wants.are;
      flags = wants.flags;
      sound = λ a k block' x there pl t.
          let count = slice_get_within graph.blocks a block' there in
          let size = slice_get_within places k x pl in
          elim (or_cases (bit (get_or w.answer a []) k) (is_in sources a && bit start k) (sym (wants.bits a k count size) ∙ t)) [
            | inl old ↦ going.sound a k block' x there pl old
            | inr new ↦
                let parts = and_parts (is_in sources a) (bit start k) new in
                flows_back a block' x there parts.0 (sym (tells k x pl) ∙ parts.1)
          ];
      flows = λ c block' there q a e k x pl t.
          let same = wants.same c q in
          let before = sym (ap (λ bits. before_block places bits (block_access_of block') x) same) ∙ t in
          let count : a < length graph.blocks = omega (arith, predecessor_within (successors_of graph) a c e, length-map graph.blocks (λ (y : Block). targets y.exit)) in
          let size = slice_get_within places k x pl in
          wants.bits a k count size ∙ elim (cases_eq c block) [
            | inl is ↦
                let one : block' ≡ b = some_same block' b (sym there ∙ ap (slice_get graph.blocks) is ∙ at) in
                let here = subst (λ n. before_block places (get_or w.answer n []) (block_access_of block') x ≡ true) is before in
                let told = tells k x pl ∙ subst (λ y. before_block places (get_or w.answer block []) (block_access_of y) x ≡ true) one here in
                or_right (bit (get_or w.answer a []) k) (is_in sources a && bit start k)
                (and_from (is_in sources a) (bit start k) (edges a ∙ subst (λ n. leads (successors_of graph) a n ≡ true) is e) told)
            | inr o ↦
                let free = sym (get_or-set_other w.queued block c false false o) ∙ wants.waits c q in
                or_left (bit (get_or w.answer a []) k) (is_in sources a && bit start k) (going.flows c block' there free a e k x pl before)
          ];
    }

    pub turn_less : weight after < weight w
    unfolding weight
    turn_less =
        let less = wants.lighter in
        let fewer = truths_without w.queued block was in
        omega (arith, less, fewer)

  -- Where no block waits, all that is needed is known.
  module _ (w : Work) (going : Going w) (free_now : AllFlowed w) (tracked : All (λ row. All (Contains places) row.first) (map row_of (accesses_of graph))) where
    -- before the statements of the block at any place
    Known : Block → List Stmt → Loc → Type 0
    Known block stmts x = (b : ℕ) → slice_get graph.blocks b ≡ Some block → before_all (map access_of stmts) (after_stmts places (get_or w.answer b []) (block_access_of block).last) x ≡ true

    place_of : (b : ℕ) (block : Block) (x : Loc) → slice_get graph.blocks b ≡ Some block → before_block places (get_or w.answer b []) (block_access_of block) x ≡ true → (k : ℕ) × (slice_get places k ≡ Some x)
    place_of b block x at t = elim (before_known block.stmts block.exit places (get_or w.answer b []) x t) [
      | inl r ↦
          let row = row_of (block_access_of block) in
          let there = contained_map row_of (accesses_of graph) (block_access_of block) (contained_map block_access_of graph.blocks block (contained graph.blocks b block at)) in
          let all = All-contains (λ (row : Row). All (Contains places) row.first) (map row_of (accesses_of graph)) row tracked there in
          at_place places x (All-contains (Contains places) row.first x all (among_contains row.first x (row_first block x ∙ r)))
      | inr s ↦ let one = selected_sound places (get_or w.answer b []) x s in (one.0, one.1)
    ]

    known_closed : IsClosed graph Known
    unfolding Known
    known_closed = record {
      used = λ block stmt rest x c b at. uses_before stmt (before_all (map access_of rest) (after_stmts places (get_or w.answer b []) (block_access_of block).last)) x c;
      made_of = λ block stmt rest x to writes c d b at. makes_before stmt (before_all (map access_of rest) (after_stmts places (get_or w.answer b []) (block_access_of block).last)) x to writes c (d b at);
      left = λ block stmt rest x n d b at. passes_before (access_of stmt) (before_all (map access_of rest) (after_stmts places (get_or w.answer b []) (block_access_of block).last)) x n (d b at);
      tested = λ block x c b at.
          let last = (block_access_of block).last in
          or_left (is_among last x) (is_among (selected places (get_or w.answer b [])) x || false) (contains_among last x (tests-read block.exit x c));
      goes = λ block next place x c f d b at.
          let t = d place f in
          let k = place_of place next x f t in
          let edge = ap (λ l. is_in l place) (targets_at graph b block at) ∙ contains_in (targets block.exit) place c in
          let known = going.flows place next f (free_now place) b edge k.0 x k.1 t in
          let bits = get_or w.answer b [] in
          or_right (is_among (block_access_of block).last x) (is_among (selected places bits) x || false)
          (or_left (is_among (selected places bits) x) false (contains_among (selected places bits) x (selected_complete places bits k.0 x k.1 known)));
    }

    pub all_needed : AreNeededAtEnds graph places w.answer
    unfolding Known
    all_needed = record {
      are = going.are;
      exact = λ place block x at. (end_sound w going place block x at, λ d. needed-least Known graph block [] x known_closed d place at);
    }

-- A turn as the code takes it.
module _ (graph : Graph) (places : List Loc) (w taken : Work) (going : Going graph places w) (block : ℕ) (takes : IsTaken w taken block) where
  pub waits_inside : block < length graph.blocks
  waits_inside = let there = within w.queued block takes.waits in omega (arith, there, going.flags)

  pub same_answer : taken.answer ≡ w.answer
  same_answer = ap (λ (x : Work). x.answer) takes.after_is

  pub taken_flags : length taken.queued ≡ length taken.answer
  taken_flags =
      ap (λ (x : Work). length x.queued) takes.after_is ∙ length-set w.queued block false ∙ going.flags
      ∙ sym (ap length same_answer ∙ going.are.count_is)

  pub taken_lists : AreLists (length graph.blocks) (length places) taken.answer
  taken_lists = subst (AreLists (length graph.blocks) (length places)) (sym same_answer) going.are

  pub bits_size : length (get_or taken.answer block []) ≡ length places
  bits_size =
      All-get_or (λ bits. length bits ≡ length places) taken.answer block []
      (omega (arith, taken_lists.count_is, waits_inside)) taken_lists.len_is

  module _ (sources : List (List ℕ)) (are : ArePredecessors (successors_of graph) sources) where
    pub edges_to : (a : ℕ) → is_in (get_or sources block []) a ≡ leads (successors_of graph) a block
    edges_to a = are.exact a block (omega (arith, waits_inside, length-map graph.blocks (λ (b : Block). targets b.exit)))

    pub sources_below : All (λ a. a < length graph.blocks) (get_or sources block [])
    sources_below = All-from_get_or (λ a. a < length graph.blocks) (get_or sources block []) 0 (λ i less.
        let edge = sym (edges_to (get_or (get_or sources block []) i 0)) ∙ in_at (get_or sources block []) i less in
        let there = predecessor_within (successors_of graph) (get_or (get_or sources block []) i 0) block edge in
        omega (arith, there, length-map graph.blocks (λ (b : Block). targets b.exit)))

    module _ (start : List Bool) (tells : Tells places (before_block places (get_or w.answer block []) (block_access_of (block_in graph block))) start) where
      abbrev pub at_block : slice_get graph.blocks block ≡ Some (block_in graph block)
      at_block = slice_get-get_or graph.blocks block no_block waits_inside

      pub kept : (after : Work) → after ≡ spread start start start taken (get_or sources block []) →
          Going graph places after × (weight after < weight w)
      kept next is =
          let b = block_in graph block in
          let e = is ∙ ap (λ x. spread start start start x (get_or sources block [])) takes.after_is in (
            subst (Going graph places) (sym e) (turn_going graph places w going block takes.waits b at_block start tells (get_or sources block []) edges_to sources_below),
            subst (λ x. weight x < weight w) (sym e) (turn_less graph places w going block takes.waits b at_block start tells (get_or sources block []) edges_to sources_below),
          )
