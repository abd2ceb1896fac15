-- Bytes that are exchanged, beside the statements of an XCHG.
use Rattle.std.proofs.Common.{◌≡◌, ℕ, ℤ, Bool, true, false, not, ◌&&◌, ◌||◌, ◌⊎◌, inl, inr, List, [], ◌∷◌, ◌++◌, Option, refl, sym, ap, ◌∙◌, subst}
use Rattle.std.specs.Prelude.{flat_map}
use Rattle.std.specs.List.{list_all}
use Rattle.std.proofs.lemmas.List.{append-nil}
use Rattle.std.proofs.lemmas.Grind.{flat_map-append}
use Rattle.dcc_num.specs.declared.Width.{Width}
use Rattle.dcc_num.specs.declared.Width.TheVariants.{Byte as byte_width, Word as word_width}
use Rattle.dcc_num.specs.Numbers.{bits_of}
use Rattle.dcc_machine.proofs.LocationKept.{or-none}
use Rattle.dcc_ir.specs.declared.syntax.Loc.{Loc}
use Rattle.dcc_ir.specs.Location.{same_location}
use Rattle.dcc_ir.specs.Tree.{Expr, Get, Part, Stmt, Set, Store}
use Rattle.dcc_ir.specs.Use.{reads_of}
use Rattle.dcc_ir.specs.Live.{is_among}
use Rattle.dcc_ir.proofs.LocationLaws.{location_itself, location_same, among_contains}
use Rattle.dcc_ir.proofs.PathLaws.{decided}
use Rattle.dcc_ops.specs.OperandPlace.{OperandPlace, byte, word, memory, is_low, is_high, taking}
use Rattle.dcc_ops.specs.Temporaries.{left_place, right_place}
use Rattle.dcc_ops.specs.Expressions.{left, right}
use Rattle.dcc_ops.specs.Statements.{exchanging, xchg_stmts}
use Rattle.dcc_lift.proofs.ListTests.{and_both, and_false, or_here, or_there, or_cases, or_none}
use Rattle.dcc_simulation.specs.Procedures.{Procedure}
use Rattle.dcc_demand.specs.Procedures.{Procedures}
use Rattle.dcc_machine_demand.specs.Bodies.{Body, Point}
use Rattle.dcc_machine_demand.specs.Holders.{Holder, Spot, placed, is_holder, is_at}
use Rattle.dcc_machine_demand.specs.Moves.{Move, copying}
use Rattle.dcc_sums.specs.Points.{Position}
use Rattle.dcc_sums.specs.Instance.{is_half, is_pushed}
use Rattle.dcc_refinement.specs.Refinement.{Refinement}
use Rattle.dcc_lifted_demand.specs.Sources.{before, sources, used}
use Rattle.dcc_lifted_demand.specs.LiftedRefinement.{IsSame}
use Rattle.dcc_instruction_demand.proofs.ShownLaws.{Shows, shows_never, shows_both, shows_alike}
use Rattle.dcc_instruction_demand.proofs.ValueLaws.{is_written, is_pop, none_pops, value_kept}
use Rattle.dcc_instruction_demand.proofs.ClosedLaws.{all_contained}
use Rattle.dcc_instruction_demand.proofs.StageLaws.{is_kept_place, is_lasting, reads_at, flat_still, lasts_left}
use Rattle.dcc_instruction_demand.proofs.StageLaws.{before_both, both_lasting, both_left, both_right, sources_taken}
use Rattle.dcc_instruction_demand.proofs.StageLaws.{used_taken}
use Rattle.dcc_instruction_demand.proofs.FormLaws.{all_append, written_append, written_first, both_written}
use Rattle.dcc_instruction_demand.proofs.FormLaws.{taking_value}
use Rattle.dcc_instruction_demand.proofs.SpotLaws.{IsOpenSpot, IsHalf, HasByte, byte_shown, shown_open, either_shown}
use Rattle.dcc_instruction_demand.proofs.MovingLaws.{IsMovingOperation}
use Rattle.dcc_instruction_demand.proofs.MoveStmts.{apart_back, temp_apart, kept_lasts, low_kept, high_kept}
use Rattle.dcc_instruction_demand.proofs.MoveStmts.{halves_apart, all_last, set_alone, set_first, set_second, still_one}
use Rattle.dcc_instruction_demand.proofs.MoveStmts.{taken, written_two, moved_unwritten, sources_then, sources_after}
use Rattle.dcc_instruction_demand.proofs.PairedLaws.{ArePaired, IsStored, Pairing}
use Rattle.dcc_instruction_demand.proofs.MoveLaws.{zipped, half_closed, copy_lost}

-- Two halves.

module _ (a b : Loc) (a_kept : is_kept_place a ≡ true) (b_kept : is_kept_place b ≡ true) where
  second_exchanged : sources (exchanging a b) b ≡ a ∷ []
  second_exchanged =
      ap (flat_map (before (taking (left_place byte_width) (byte a)))) (set_second a b (left_place byte_width) (Get b) (left byte_width) refl (temp_apart 0 a a_kept))
      ∙ taken (left_place byte_width) (byte a)

  -- the first of two exchanged halves takes the second, also where both are one
  first_exchanged : sources (exchanging a b) a ≡ b ∷ []
  first_exchanged = elim (decided (same_location a b)) [
    | inl same ↦ let one = location_same a b same in ap (sources (exchanging a b)) one ∙ second_exchanged ∙ ap (λ c. c ∷ []) one
    | inr apart ↦
        ap (flat_map (before (taking (left_place byte_width) (byte a)))) (set_first a b (Get b) (left byte_width) apart)
        ∙ still_one (left_place byte_width) b (Get a) (lasts_left byte_width b (kept_lasts b b_kept))
  ]

  exchange_writes : (m : Loc) → is_lasting m ≡ true → is_written (exchanging a b) m ≡ is_among (a ∷ b ∷ []) m
  exchange_writes m t = moved_unwritten byte_width (byte a) (Set a (Get b) ∷ Set b (left byte_width) ∷ []) m t ∙ written_two a b m (Get b) (left byte_width)

  exchange_leaves : (m : Loc) → is_lasting m ≡ true → same_location m a ≡ false → same_location m b ≡ false → is_written (exchanging a b) m ≡ false
  exchange_leaves m t e f = exchange_writes m t ∙ ap (λ c. c || (same_location m b || false)) e ∙ ap (λ c. c || false) f

  exchange_unpopped : (pushed : ℕ) → is_pushed pushed b ≡ false → none_pops pushed (exchanging a b) ≡ true
  exchange_unpopped pushed e =
      and_both (not (is_half a && is_pushed pushed b)) (not (is_half b && false) && true)
      (ap (λ c. not (is_half a && c)) e ∙ ap not (and_false (is_half a))) (ap (λ c. not c && true) (and_false (is_half b)))

-- Two words.

module _ (l h m k : Loc) (l_low : is_low l ≡ true) (h_high : is_high h ≡ true) (m_low : is_low m ≡ true) (k_high : is_high k ≡ true) where
  abbrev lows : List Stmt
  lows = exchanging l m

  abbrev highs : List Stmt
  highs = exchanging h k

  l_kept : is_kept_place l ≡ true
  l_kept = low_kept l l_low

  m_kept : is_kept_place m ≡ true
  m_kept = low_kept m m_low

  h_kept : is_kept_place h ≡ true
  h_kept = high_kept h h_high

  k_kept : is_kept_place k ≡ true
  k_kept = high_kept k k_high

  -- a low half is left by the exchange of the high ones, and the other way round
  low_left : (x : Loc) → is_low x ≡ true → is_written (exchanging h k) x ≡ false
  low_left x t = exchange_leaves h k h_kept k_kept x (kept_lasts x (low_kept x t)) (halves_apart x h t h_high) (halves_apart x k t k_high)

  high_left : (x : Loc) → is_high x ≡ true → is_written (exchanging l m) x ≡ false
  high_left x t =
      exchange_leaves l m l_kept m_kept x (kept_lasts x (high_kept x t)) (apart_back l x (halves_apart l x l_low t)) (apart_back m x (halves_apart m x m_low t))

  first_low : sources (xchg_stmts word_width (word l h) (word m k)) l ≡ m ∷ []
  first_low = sources_then lows highs l (m ∷ []) (low_left l l_low) (first_exchanged l m l_kept m_kept)

  second_low : sources (xchg_stmts word_width (word l h) (word m k)) m ≡ l ∷ []
  second_low = sources_then lows highs m (l ∷ []) (low_left m m_low) (second_exchanged l m l_kept m_kept)

  first_high : sources (xchg_stmts word_width (word l h) (word m k)) h ≡ k ∷ []
  first_high = sources_after lows highs h k (first_exchanged h k h_kept k_kept) (high_left k k_high)

  second_high : sources (xchg_stmts word_width (word l h) (word m k)) k ≡ h ∷ []
  second_high = sources_after lows highs k h (second_exchanged h k h_kept k_kept) (high_left h h_high)

  words_left : (x : Loc) → is_lasting x ≡ true → is_among (l ∷ h ∷ m ∷ k ∷ []) x ≡ false → is_written (xchg_stmts word_width (word l h) (word m k)) x ≡ false
  words_left x t e =
      let of_l = or-none (same_location x l) (is_among (h ∷ m ∷ k ∷ []) x) e in
      let of_h = or-none (same_location x h) (is_among (m ∷ k ∷ []) x) of_l.1 in
      let of_m = or-none (same_location x m) (is_among (k ∷ []) x) of_h.1 in
      written_append lows highs x (exchange_leaves l m l_kept m_kept x t of_l.0 of_m.0)
      ∙ exchange_leaves h k h_kept k_kept x t of_h.0 (sym (or_none (same_location x k)) ∙ of_m.1)

  words_unpopped : (pushed : ℕ) → is_pushed pushed m ≡ false → is_pushed pushed k ≡ false → none_pops pushed (xchg_stmts word_width (word l h) (word m k)) ≡ true
  words_unpopped pushed e f =
      all_append (λ s. not (is_pop pushed s)) lows highs (exchange_unpopped l m l_kept m_kept pushed e) (exchange_unpopped h k h_kept k_kept pushed f)

-- With memory.

module _ (w : Width) (v : Width) (a : Expr) (Q : OperandPlace) (ss : List Stmt) (lasts : list_all is_lasting (reads_of a) ≡ true) where
  abbrev P : OperandPlace
  P = memory v a

  abbrev storing_both : List Stmt
  storing_both = Store (bits_of v) a (right w) ∷ ss

  abbrev all_stmts : List Stmt
  all_stmts = taking (left_place w) P ∷ taking (right_place w) Q ∷ Store (bits_of v) a (right w) ∷ ss

  taken_first : (m : Loc) → sources ss m ≡ left_place w ∷ [] → sources (taking (left_place w) (memory v a) ∷ taking (right_place w) Q ∷ Store (bits_of v) a (right w) ∷ ss) m ≡ reads_of a
  taken_first m e =
      sources_taken w P Q storing_both m ∙ ap (λ ls. flat_map (before_both w P Q) (flat_map (before (Store (bits_of v) a (right w))) ls)) e
      ∙ append-nil (before_both w P Q (left_place w)) ∙ both_left w P Q

  stored_used : used ss [] ≡ [] → list_all is_lasting (reads_at Q) ≡ true → used (taking (left_place w) (memory v a) ∷ taking (right_place w) Q ∷ Store (bits_of v) a (right w) ∷ ss) [] ≡ reads_of a ++ reads_at Q
  stored_used none lasting =
      used_taken w P Q storing_both []
      ∙ ap (λ ls. flat_map (before_both w P Q) ((reads_of a ++ (right_place w ∷ [])) ++ flat_map (before (Store (bits_of v) a (right w))) ls)) none
      ∙ ap (flat_map (before_both w P Q)) (append-nil (reads_of a ++ (right_place w ∷ [])))
      ∙ flat_map-append (before_both w P Q) (reads_of a) (right_place w ∷ [])
      ∙ ap (λ ls. ls ++ flat_map (before_both w P Q) (right_place w ∷ [])) (flat_still (before_both w P Q) is_lasting (both_lasting w P Q) (reads_of a) lasts)
      ∙ ap (λ ls. reads_of a ++ ls) (append-nil (before_both w P Q (right_place w)) ∙ both_right w P Q lasting)

  stored_writes : (m : Loc) → is_lasting m ≡ true → is_written (taking (left_place w) (memory v a) ∷ taking (right_place w) Q ∷ Store (bits_of v) a (right w) ∷ ss) m ≡ is_written ss m
  stored_writes m t = both_written w P Q storing_both m t ∙ or_none (is_written ss m)

  stored_unpopped : (pushed : ℕ) → none_pops pushed ss ≡ true → none_pops pushed (taking (left_place w) (memory v a) ∷ taking (right_place w) Q ∷ Store (bits_of v) a (right w) ∷ ss) ≡ true
  stored_unpopped pushed t =
      and_both (not (is_pop pushed (taking (left_place w) P))) (none_pops pushed (taking (right_place w) Q ∷ storing_both)) (ap not (value_kept pushed (taking (left_place w) P) (taking_value w P).0))
      (and_both (not (is_pop pushed (taking (right_place w) Q))) (none_pops pushed ss) (ap not (value_kept pushed (taking (right_place w) Q) (taking_value w Q).1)) t)

-- In the procedure.

module _ (coarse : Procedures ℕ Holder ℤ) (fine : Procedures Position Loc Loc) (r : Refinement ℕ Holder ℤ Position Loc Loc) (entry at pushed : ℕ) (o : Option Procedure) (bodies : List Body) (body : Body) (point : Point)
    (v : IsMovingOperation coarse fine r entry at pushed o bodies body point) (addresses : Holder → Bool) where
  abbrev exposed : Holder → Bool
  exposed = (coarse.procedure entry).is_exposed

  abbrev Half : Holder → Loc → Type 0
  Half L l = IsHalf o body exposed L l

  abbrev Stored : List Move → Holder → Type 0
  Stored moves L = (is_holder body L ≡ true) × IsStored coarse fine r entry at pushed o bodies body point moves L

  abbrev Addressing : List Loc → Type 0
  Addressing ls = Shows (IsSame o) (λ M. (is_holder body M ≡ true) × (addresses M ≡ true)) ls

  -- a half is made of the byte at a spot
  abbrev MadeOf : List Stmt → Spot → Loc → Type 0
  MadeOf stmts f l = Shows (IsSame o) (λ M. (is_holder body M ≡ true) × ((is_at f M || addresses M) ≡ true)) (sources stmts l)

  -- to a half the byte at a spot is copied
  abbrev copy_to : Holder → Spot → Move
  copy_to L f = record { to = placed L; effect = copying f; made_of = λ place. is_at f place || addresses place }

  half_copied : (stmts : List Stmt) (moves : List Move) (ls : List Loc) → none_pops pushed stmts ≡ true → (f : Spot) (L : Holder) (l : Loc) → Half L l → MadeOf stmts f l → is_written stmts l ≡ true
      → ArePaired coarse fine r entry at pushed o bodies body point stmts moves ls → ArePaired coarse fine r entry at pushed o bodies body point stmts (copy_to L f ∷ moves) (l ∷ ls)
  half_copied stmts moves ls unpopped f L l h made w rest =
      ArePaired.one_more refl h.same made (λ p. copy_lost coarse fine r entry at pushed o bodies body point v addresses stmts unpopped f l w) rest

  -- of a half, with no address
  made_half : (stmts : List Stmt) (M : Holder) (m l : Loc) → Half M m → Addressing [] → sources stmts l ≡ m ∷ [] → MadeOf stmts (placed M) l
  made_half stmts M m l h none e =
      subst (λ ls. Shows (IsSame o) (λ N. (is_holder body N ≡ true) × ((is_at (placed M) N || addresses N) ≡ true)) ls) (sym e)
      (either_shown o body exposed v.one v.unexposed (placed M) addresses (m ∷ []) [] (byte_shown o body exposed v.one v.unexposed (placed M) (byte m) (HasByte.one_half h)) none)

  -- of a byte that no location stands for: of what its address reads
  made_open : (stmts : List Stmt) (t : Spot) (ls : List Loc) (l : Loc) → IsOpenSpot o body exposed t → Addressing ls → sources stmts l ≡ ls → MadeOf stmts t l
  made_open stmts t ls l opens shown e =
      subst (λ ms. Shows (IsSame o) (λ N. (is_holder body N ≡ true) × ((is_at t N || addresses N) ≡ true)) ms) (sym e)
      (either_shown o body exposed v.one v.unexposed t addresses [] ls (shown_open o body exposed v.one v.unexposed t opens) shown)

  closed : (L : Holder) (l : Loc) → Half L l → IsOpenSpot o body exposed (placed L) → ⊥
  closed = half_closed coarse fine r entry at pushed o bodies body point v addresses

  -- one that is among kept ones lasts
  among_lasts : (ls : List Loc) → list_all is_kept_place ls ≡ true → (x : Loc) → is_among ls x ≡ true → is_lasting x ≡ true
  among_lasts ls t x e = all_contained is_lasting ls x (all_last ls t) (among_contains ls x e)

  here_in : (l : Loc) (ls : List Loc) → is_among (l ∷ ls) l ≡ true
  here_in l ls = or_here (same_location l l) (is_among ls l) (location_itself l)

  -- Halves.

  module _ (L M : Holder) (l m : Loc) (a : Half L l) (b : Half M m) (none : Addressing []) (m_unpushed : is_pushed pushed m ≡ false) where
    abbrev both : List Stmt
    both = exchanging l m

    both_unpopped : none_pops pushed (exchanging l m) ≡ true
    both_unpopped = exchange_unpopped l m a.kept b.kept pushed m_unpushed

    both_kept : list_all is_kept_place (l ∷ m ∷ []) ≡ true
    both_kept = and_both (is_kept_place l) (is_kept_place m && true) a.kept (and_both (is_kept_place m) true b.kept refl)

    pair_written : (x : Loc) → is_among (l ∷ m ∷ []) x ≡ true → is_written (exchanging l m) x ≡ true
    pair_written x t = exchange_writes l m a.kept b.kept x (among_lasts (l ∷ m ∷ []) both_kept x t) ∙ t

    pub bytes_exchanged : Pairing coarse fine r entry at pushed o bodies body point v (xchg_stmts byte_width (byte l) (byte m))
        (zipped addresses (copying (placed M) ∷ []) (placed L ∷ []) (placed M ∷ []) ++ zipped addresses (copying (placed L) ∷ []) (placed M ∷ []) (placed L ∷ [])) (l ∷ m ∷ [])
    bytes_exchanged = record {
      paired = half_copied both (copy_to M (placed L) ∷ []) (m ∷ []) both_unpopped (placed M) L l a (made_half both M m l b none (first_exchanged l m a.kept b.kept)) (pair_written l (here_in l (m ∷ [])))
          (half_copied both [] [] both_unpopped (placed L) M m b (made_half both L l m a none (second_exchanged l m a.kept b.kept))
          (pair_written m (or_there (same_location m l) (same_location m m || false) (here_in m []))) ArePaired.no_more);
      unwritten = λ x t e. exchange_writes l m a.kept b.kept x t ∙ e;
      stored = shows_never (IsSame o) (Stored (copy_to L (placed M) ∷ copy_to M (placed L) ∷ [])) (λ N t. elim t.1 [
        | inl here ↦ closed L l a here.0
        | inr later ↦ elim later [
          | inl here ↦ closed M m b here.0
          | inr never ↦ never
        ]
      ]);
      quiet = (refl, (refl, (refl, tt)));
    }

  module _ (L H M K : Holder) (l h m k : Loc) (a : Half L l) (b : Half H h) (c : Half M m) (d : Half K k) (l_low : is_low l ≡ true) (h_high : is_high h ≡ true) (m_low : is_low m ≡ true) (k_high : is_high k ≡ true)
      (none : Addressing []) (m_unpushed : is_pushed pushed m ≡ false) (k_unpushed : is_pushed pushed k ≡ false) where
    abbrev all_four : List Stmt
    all_four = xchg_stmts word_width (word l h) (word m k)

    all_unpopped : none_pops pushed (xchg_stmts word_width (word l h) (word m k)) ≡ true
    all_unpopped = words_unpopped l h m k l_low h_high m_low k_high pushed m_unpushed k_unpushed

    low_written : (x : Loc) → is_low x ≡ true → is_among (l ∷ m ∷ []) x ≡ true → is_written (xchg_stmts word_width (word l h) (word m k)) x ≡ true
    low_written x t e =
        written_first (exchanging l m) (exchanging h k) x (low_left l h m k l_low h_high m_low k_high x t) ∙ exchange_writes l m a.kept c.kept x (kept_lasts x (low_kept x t)) ∙ e

    high_written : (x : Loc) → is_high x ≡ true → is_among (h ∷ k ∷ []) x ≡ true → is_written (xchg_stmts word_width (word l h) (word m k)) x ≡ true
    high_written x t e =
        written_append (exchanging l m) (exchanging h k) x (high_left l h m k l_low h_high m_low k_high x t) ∙ exchange_writes h k b.kept d.kept x (kept_lasts x (high_kept x t)) ∙ e

    pub words_exchanged : Pairing coarse fine r entry at pushed o bodies body point v (xchg_stmts word_width (word l h) (word m k))
        (zipped addresses (copying (placed M) ∷ copying (placed K) ∷ []) (placed L ∷ placed H ∷ []) (placed M ∷ placed K ∷ [])
        ++ zipped addresses (copying (placed L) ∷ copying (placed H) ∷ []) (placed M ∷ placed K ∷ []) (placed L ∷ placed H ∷ [])) (l ∷ h ∷ m ∷ k ∷ [])
    words_exchanged = record {
      paired = half_copied all_four (copy_to H (placed K) ∷ copy_to M (placed L) ∷ copy_to K (placed H) ∷ []) (h ∷ m ∷ k ∷ []) all_unpopped (placed M) L l a
          (made_half all_four M m l c none (first_low l h m k l_low h_high m_low k_high)) (low_written l l_low (here_in l (m ∷ [])))
          (half_copied all_four (copy_to M (placed L) ∷ copy_to K (placed H) ∷ []) (m ∷ k ∷ []) all_unpopped (placed K) H h b
          (made_half all_four K k h d none (first_high l h m k l_low h_high m_low k_high)) (high_written h h_high (here_in h (k ∷ [])))
          (half_copied all_four (copy_to K (placed H) ∷ []) (k ∷ []) all_unpopped (placed L) M m c
          (made_half all_four L l m a none (second_low l h m k l_low h_high m_low k_high)) (low_written m m_low (or_there (same_location m l) (same_location m m || false) (here_in m [])))
          (half_copied all_four [] [] all_unpopped (placed H) K k d
          (made_half all_four H h k b none (second_high l h m k l_low h_high m_low k_high)) (high_written k k_high (or_there (same_location k h) (same_location k k || false) (here_in k [])))
          ArePaired.no_more)));
      unwritten = λ x t e. words_left l h m k l_low h_high m_low k_high x t e;
      stored = shows_never (IsSame o) (Stored (copy_to L (placed M) ∷ copy_to H (placed K) ∷ copy_to M (placed L) ∷ copy_to K (placed H) ∷ [])) (λ N t. never N t.1);
      quiet = (refl, (refl, (refl, (refl, (refl, (refl, tt))))));
    }
      where
        never : (N : Holder) → IsStored coarse fine r entry at pushed o bodies body point (copy_to L (placed M) ∷ copy_to H (placed K) ∷ copy_to M (placed L) ∷ copy_to K (placed H) ∷ []) N → ⊥
        never N (inl here) = closed L l a here.0
        never N (inr (inl here)) = closed H h b here.0
        never N (inr (inr (inl here))) = closed M m c here.0
        never N (inr (inr (inr (inl here)))) = closed K k d here.0
        never N (inr (inr (inr (inr none)))) = none

  -- Memory and a register.

  abbrev AtSpot : Spot → Holder → Type 0
  AtSpot f M = (is_holder body M ≡ true) × (is_at f M ≡ true)

  abbrev AddressingAt : Holder → Type 0
  AddressingAt M = (is_holder body M ≡ true) × (addresses M ≡ true)

  at_half : (M : Holder) (m : Loc) → Half M m → Shows (IsSame o) (AtSpot (placed M)) (m ∷ [])
  at_half M m h = byte_shown o body exposed v.one v.unexposed (placed M) (byte m) (HasByte.one_half h)

  of_spot : (f : Spot) (N : Holder) → (is_holder body N ≡ true) × ((is_at f N || addresses N) ≡ true) → AtSpot f N ⊎ AddressingAt N
  of_spot f N p = elim (or_cases (is_at f N) (addresses N) p.1) [
    | inl x ↦ inl (p.0, x)
    | inr x ↦ inr (p.0, x)
  ]

  module _ (t : Spot) (a : Expr) (M : Holder) (m : Loc) (opens : IsOpenSpot o body exposed t) (kept : list_all is_kept_place (reads_of a) ≡ true) (b : Half M m) (shown : Addressing (reads_of a)) where
    abbrev set_one : List Stmt
    set_one = Set m (left byte_width) ∷ []

    abbrev with_byte : List Stmt
    with_byte = xchg_stmts byte_width (memory byte_width a) (byte m)

    abbrev byte_moves : List Move
    byte_moves = zipped addresses (copying (placed M) ∷ []) (t ∷ []) (placed M ∷ []) ++ (copy_to M t ∷ [])

    byte_unpopped : none_pops pushed (xchg_stmts byte_width (memory byte_width a) (byte m)) ≡ true
    byte_unpopped = stored_unpopped byte_width byte_width a (byte m) set_one (all_last (reads_of a) kept) pushed (ap (λ c. not c && true) (and_false (is_half m)))

    byte_writes : (x : Loc) → is_lasting x ≡ true → is_written (xchg_stmts byte_width (memory byte_width a) (byte m)) x ≡ is_among (m ∷ []) x
    byte_writes x l = stored_writes byte_width byte_width a (byte m) set_one (all_last (reads_of a) kept) x l

    pub memory_byte_exchanged : Pairing coarse fine r entry at pushed o bodies body point v (xchg_stmts byte_width (memory byte_width a) (byte m))
        (zipped addresses (copying (placed M) ∷ []) (t ∷ []) (placed M ∷ []) ++ zipped addresses (copying t ∷ []) (placed M ∷ []) (t ∷ [])) (m ∷ [])
    memory_byte_exchanged = record {
      paired = ArePaired.open_more opens
          (half_copied with_byte [] [] byte_unpopped t M m b
          (made_open with_byte t (reads_of a) m opens shown (taken_first byte_width byte_width a (byte m) set_one (all_last (reads_of a) kept) m (set_alone m (left byte_width))))
          (byte_writes m (kept_lasts m b.kept) ∙ here_in m []) ArePaired.no_more);
      unwritten = λ x l e. byte_writes x l ∙ e;
      stored = subst (λ ls. Shows (IsSame o) (Stored byte_moves) ls)
          (sym (stored_used byte_width byte_width a (byte m) set_one (all_last (reads_of a) kept) refl (and_both (is_lasting m) true (kept_lasts m b.kept) refl)))
          (shows_alike (IsSame o) (λ N. AddressingAt N ⊎ AtSpot (placed M) N) (Stored byte_moves) (reads_of a ++ (m ∷ [])) (reads_of a ++ (m ∷ []))
          (shows_both (IsSame o) AddressingAt (AtSpot (placed M)) (reads_of a) (m ∷ []) shown (at_half M m b)) to back (λ l c. c) (λ l c. c));
      quiet = (refl, (refl, (refl, (refl, tt))));
    }
      where
        to : (N : Holder) (n : Loc) → IsSame o N n → AddressingAt N ⊎ AtSpot (placed M) N → Stored byte_moves N
        to N n s (inl x) = (x.0, inl (opens, or_there (is_at (placed M) N) (addresses N) x.1))
        to N n s (inr x) = (x.0, inl (opens, or_here (is_at (placed M) N) (addresses N) x.1))

        back : (N : Holder) (n : Loc) → IsSame o N n → Stored byte_moves N → AddressingAt N ⊎ AtSpot (placed M) N
        back N n s (p, inl here) = elim (of_spot (placed M) N (p, here.1)) [
          | inl x ↦ inr x
          | inr x ↦ inl x
        ]
        back N n s (p, inr (inl here)) = absurd (closed M m b here.0)
        back N n s (p, inr (inr none)) = absurd none

  module _ (t u : Spot) (a : Expr) (M K : Holder) (m k : Loc) (opens : IsOpenSpot o body exposed t) (next : IsOpenSpot o body exposed u) (kept : list_all is_kept_place (reads_of a) ≡ true)
      (c : Half M m) (d : Half K k) (m_low : is_low m ≡ true) (k_high : is_high k ≡ true) (shown : Addressing (reads_of a)) where
    abbrev set_two : List Stmt
    set_two = Set m (Part 8 0 (left word_width)) ∷ Set k (Part 8 8 (left word_width)) ∷ []

    abbrev with_word : List Stmt
    with_word = xchg_stmts word_width (memory word_width a) (word m k)

    abbrev word_moves : List Move
    word_moves = zipped addresses (copying (placed M) ∷ copying (placed K) ∷ []) (t ∷ u ∷ []) (placed M ∷ placed K ∷ []) ++ (copy_to M t ∷ copy_to K u ∷ [])

    word_unpopped : none_pops pushed (xchg_stmts word_width (memory word_width a) (word m k)) ≡ true
    word_unpopped = stored_unpopped word_width word_width a (word m k) set_two (all_last (reads_of a) kept) pushed refl

    word_writes : (x : Loc) → is_lasting x ≡ true → is_written (xchg_stmts word_width (memory word_width a) (word m k)) x ≡ is_among (m ∷ k ∷ []) x
    word_writes x l =
        stored_writes word_width word_width a (word m k) set_two (all_last (reads_of a) kept) x l ∙ written_two m k x (Part 8 0 (left word_width)) (Part 8 8 (left word_width))

    pub memory_word_exchanged : Pairing coarse fine r entry at pushed o bodies body point v (xchg_stmts word_width (memory word_width a) (word m k))
        (zipped addresses (copying (placed M) ∷ copying (placed K) ∷ []) (t ∷ u ∷ []) (placed M ∷ placed K ∷ [])
        ++ zipped addresses (copying t ∷ copying u ∷ []) (placed M ∷ placed K ∷ []) (t ∷ u ∷ [])) (m ∷ k ∷ [])
    memory_word_exchanged = record {
      paired = ArePaired.open_more opens (ArePaired.open_more next
          (half_copied with_word (copy_to K u ∷ []) (k ∷ []) word_unpopped t M m c
          (made_open with_word t (reads_of a) m opens shown (taken_first word_width word_width a (word m k) set_two (all_last (reads_of a) kept) m
          (set_first m k (Part 8 0 (left word_width)) (Part 8 8 (left word_width)) (halves_apart m k m_low k_high))))
          (word_writes m (kept_lasts m c.kept) ∙ here_in m (k ∷ []))
          (half_copied with_word [] [] word_unpopped u K k d
          (made_open with_word u (reads_of a) k next shown (taken_first word_width word_width a (word m k) set_two (all_last (reads_of a) kept) k
          (set_second m k (left_place word_width) (Part 8 0 (left word_width)) (Part 8 8 (left word_width)) refl (temp_apart 3 m c.kept))))
          (word_writes k (kept_lasts k d.kept) ∙ or_there (same_location k m) (same_location k k || false) (here_in k [])) ArePaired.no_more)));
      unwritten = λ x l e. word_writes x l ∙ e;
      stored = subst (λ ls. Shows (IsSame o) (Stored word_moves) ls)
          (sym (stored_used word_width word_width a (word m k) set_two (all_last (reads_of a) kept) refl
          (and_both (is_lasting k) (is_lasting m && true) (kept_lasts k d.kept) (and_both (is_lasting m) true (kept_lasts m c.kept) refl))))
          (shows_alike (IsSame o) (λ N. AddressingAt N ⊎ (AtSpot (placed K) N ⊎ AtSpot (placed M) N)) (Stored word_moves) (reads_of a ++ (k ∷ m ∷ [])) (reads_of a ++ (k ∷ m ∷ []))
          (shows_both (IsSame o) AddressingAt (λ N. AtSpot (placed K) N ⊎ AtSpot (placed M) N) (reads_of a) (k ∷ m ∷ []) shown
          (shows_both (IsSame o) (AtSpot (placed K)) (AtSpot (placed M)) (k ∷ []) (m ∷ []) (at_half K k d) (at_half M m c))) to back (λ l c. c) (λ l c. c));
      quiet = (refl, (refl, (refl, (refl, (refl, tt)))));
    }
      where
        to : (N : Holder) (n : Loc) → IsSame o N n → AddressingAt N ⊎ (AtSpot (placed K) N ⊎ AtSpot (placed M) N) → Stored word_moves N
        to N n s (inl x) = (x.0, inl (opens, or_there (is_at (placed M) N) (addresses N) x.1))
        to N n s (inr (inl x)) = (x.0, inr (inl (next, or_here (is_at (placed K) N) (addresses N) x.1)))
        to N n s (inr (inr x)) = (x.0, inl (opens, or_here (is_at (placed M) N) (addresses N) x.1))

        back : (N : Holder) (n : Loc) → IsSame o N n → Stored word_moves N → AddressingAt N ⊎ (AtSpot (placed K) N ⊎ AtSpot (placed M) N)
        back N n s (p, inl here) = elim (of_spot (placed M) N (p, here.1)) [
          | inl x ↦ inr (inr x)
          | inr x ↦ inl x
        ]
        back N n s (p, inr (inl here)) = elim (of_spot (placed K) N (p, here.1)) [
          | inl x ↦ inr (inl x)
          | inr x ↦ inl x
        ]
        back N n s (p, inr (inr (inl here))) = absurd (closed M m c here.0)
        back N n s (p, inr (inr (inr (inl here)))) = absurd (closed K k d here.0)
        back N n s (p, inr (inr (inr (inr none)))) = absurd none
