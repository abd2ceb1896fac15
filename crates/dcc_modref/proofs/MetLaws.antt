-- States that are met: along the statements of a block, at its end, and where trails meet.
use Rattle.std.proofs.Common.{◌≡◌, ℕ, zero, suc, ◌<◌, ◌≤◌, Bool, true, false, ◌&&◌, ◌||◌, not, inl, inr, List, [], ◌∷◌, length, get_or, map, flat_map, refl, sym, ap, ◌∙◌, subst, true≢false, arith, Contains}
use Rattle.std.specs.Prelude.{if◌then◌else◌, filter}
use Rattle.std.proofs.lemmas.Bool.{or_cases, or_left, or_right}
use Rattle.std.proofs.lemmas.List.Folds.{list_any-append}
use Rattle.std.proofs.lemmas.List.{length-map, get_or-map}
use Rattle.dcc_ir.specs.declared.syntax.Loc.{Loc}
use Rattle.dcc_ir.specs.Location.{same_location}
use Rattle.dcc_ir.specs.Flow.{targets}
use Rattle.dcc_ir.specs.Live.{is_among, block_in}
use Rattle.dcc_ir.specs.Run.{no_block}
use Rattle.dcc_ir.specs.Tree.{Stmt, Exit, Block, Graph}
use Rattle.dcc_demand.specs.Trail.{IsTrail}
use Rattle.dcc_demand.specs.Changes.{IsWritten, IsUnsaved, Loses}
use Rattle.dcc_sums.specs.Points.{Position, begin_of, next_of, Executes, Ends, site_at, site_of, nexts_of}
use Rattle.dcc_sums.specs.Instance.{written_by, action_at, procedure_of}
use Rattle.dcc_modref.specs.States.{State, at_entry, is_unsaved, joined, pushed_by, after, after_all, after_first}
use Rattle.dcc_modref.specs.Tables.{IsMet, words_of}
use Rattle.dcc_modref.proofs.StateLaws.{among_filter}
use Rattle.dcc_modref.proofs.TrailLaws.{met_after, after_next}

-- Sites.

site_inside : (done : ℕ) (stmts : List Stmt) (exit : Exit) → done < length stmts → (stmt : Stmt) × (site_at done stmts exit ≡ Executes stmt)
site_inside done [] exit less = absurd (omega (arith, less))
site_inside zero (stmt ∷ stmts) exit less = (stmt, refl)
site_inside (suc done) (stmt ∷ stmts) exit less = site_inside done stmts exit (omega (arith, less))

pub site_end : (stmts : List Stmt) (exit : Exit) → site_at (length stmts) stmts exit ≡ Ends exit
site_end [] exit = refl
site_end (stmt ∷ stmts) exit = site_end stmts exit

all_first : (changed : ℕ → Bool) (pushed : ℕ) (location : Loc) (stmts : List Stmt) (s : State) → after_first changed pushed location (length stmts) stmts s ≡ after_all changed pushed location stmts s
all_first changed pushed location [] s = refl
all_first changed pushed location (stmt ∷ stmts) s = all_first changed pushed location stmts (after changed pushed location stmt s)

module _ (changed : ℕ → Bool) (graph : Graph) (location : Loc) where
  met_first : (block : ℕ) (s : State) → IsMet changed graph location (begin_of block) s → (done : ℕ) → done ≤ length (block_in graph block).stmts
      → IsMet changed graph location (record { block = block; done = done }) (after_first changed graph.pushed location done (block_in graph block).stmts s)
  met_first block s met zero below = met
  met_first block s met (suc done) below =
      let stmts = (block_in graph block).stmts in
      let site = site_inside done stmts (block_in graph block).exit (omega (arith, below)) in
      let at : Position = record { block = block; done = done } in
      subst (IsMet changed graph location (next_of at)) (sym (after_next changed graph.pushed location done stmts (block_in graph block).exit site.0 s site.1))
      (met_after changed graph location at site.0 site.1 (after_first changed graph.pushed location done stmts s) (met_first block s met done (omega (arith, below))))

  -- the end of a block
  abbrev pub last_of : ℕ → Position
  last_of block = record { block = block; done = length (block_in graph block).stmts }

  pub met_all : (block : ℕ) (s : State) → IsMet changed graph location (begin_of block) s
      → IsMet changed graph location (last_of block) (after_all changed graph.pushed location (block_in graph block).stmts s)
  met_all block s met =
      subst (IsMet changed graph location (last_of block)) (all_first changed graph.pushed location (block_in graph block).stmts s)
      (met_first block s met (length (block_in graph block).stmts) (omega arith))

  met_next : (block to : ℕ) (s : State) → IsMet changed graph location (last_of block) s → Contains (targets (block_in graph block).exit) to
      → IsMet changed graph location (begin_of to) s
  met_next block to s met c = record {
    passed = last_of block ∷ met.passed;
    trail = IsTrail.goes_on met.trail goes;
    written = λ e. let on = met.written e in (last_of block ∷ on.0, IsTrail.goes_on on.1 goes, IsWritten.before on.2);
    lost = λ e. let on = met.lost e in (last_of block ∷ on.0, IsTrail.goes_on on.1 goes, Loses.left (ap (λ x. x.effect location) does) on.2);
    unsaved = λ word e. let on = met.unsaved word e in (last_of block ∷ on.0, IsTrail.goes_on on.1 goes, IsUnsaved.kept (ap (λ x. x.word_effect word) does) on.2);
  }
    where
      site : site_of graph (last_of block) ≡ Ends (block_in graph block).exit
      site = site_end (block_in graph block).stmts (block_in graph block).exit

      does : (procedure_of graph).action (last_of block) ≡ action_at graph.pushed (Ends (block_in graph block).exit)
      does = ap (action_at graph.pushed) site

      in_map : (blocks : List ℕ) → Contains blocks to → Contains (map begin_of blocks) (begin_of to)
      in_map blocks c = (c.0, omega (arith, c.1, length-map blocks begin_of), get_or-map begin_of blocks c.0 to (begin_of to) c.1 ∙ ap begin_of c.2)

      goes : Contains ((procedure_of graph).next (last_of block)) (begin_of to)
      goes = subst (λ x. Contains (nexts_of x (last_of block)) (begin_of to)) (sym site) (in_map (targets (block_in graph block).exit) c)

  pub met_target : (block to : ℕ) (s : State) → IsMet changed graph location (begin_of block) s → Contains (targets (block_in graph block).exit) to
      → IsMet changed graph location (begin_of to) (after_all changed graph.pushed location (block_in graph block).stmts s)
  met_target block to s met c = met_next block to (after_all changed graph.pushed location (block_in graph block).stmts s) (met_all block s met) c

  -- Where trails meet.

  pub met_joined : (a : Position) (s t : State) → IsMet changed graph location a s → IsMet changed graph location a t → IsMet changed graph location a (joined s t)
  met_joined a s t one other = record {
    passed = one.passed;
    trail = one.trail;
    written = λ e. elim (or_cases s.written t.written e) [
      | inl w ↦ one.written w
      | inr w ↦ other.written w
    ];
    lost = λ e. elim (or_cases s.lost t.lost e) [
      | inl l ↦ one.lost l
      | inr l ↦ other.lost l
    ];
    unsaved = λ word e. elim (or_cases (is_unsaved s word) (is_unsaved t word) (either (is_among s.saved word) (is_among t.saved word) (ap not (sym (among_filter (is_among t.saved) s.saved word)) ∙ e))) [
      | inl u ↦ one.unsaved word u
      | inr u ↦ other.unsaved word u
    ];
  }
    where
      either : (a b : Bool) → not (a && b) ≡ true → (not a || not b) ≡ true
      either true b e = e
      either false b e = refl

  pub met_entry : IsMet changed graph location (begin_of 0) at_entry
  met_entry = record {
    passed = [];
    trail = IsTrail.enters;
    written = λ e. absurd (true≢false (sym e));
    lost = λ e. absurd (true≢false (sym e));
    unsaved = λ word e. ([], IsTrail.enters, IsUnsaved.unpushed);
  }

-- Words.

module _ (changed : ℕ → Bool) (pushed : ℕ) (location : Loc) where
  saved_once : (stmt : Stmt) (s : State) (word : Loc) → is_among (after changed pushed location stmt s).saved word ≡ true → (is_among s.saved word || is_among (pushed_by location stmt) word) ≡ true
  saved_once stmt s word e =
      by s.written (sym (list_any-append (same_location word) (filter (λ w. not (is_among (written_by stmt) w)) s.saved) (if s.written then [] else pushed_by location stmt)
      ∙ ap (λ b. b || is_among (if s.written then [] else pushed_by location stmt) word) (among_filter (λ w. not (is_among (written_by stmt) w)) s.saved word)) ∙ e)
    where
      fewer : (a b c d : Bool) → (d ≡ true → c ≡ true) → ((a && b) || d) ≡ true → (a || c) ≡ true
      fewer true b c d f e = refl
      fewer false b c d f e = f e

      by : (w : Bool) → ((is_among s.saved word && not (is_among (written_by stmt) word)) || is_among (if w then [] else pushed_by location stmt) word) ≡ true
          → (is_among s.saved word || is_among (pushed_by location stmt) word) ≡ true
      by true e = fewer (is_among s.saved word) (not (is_among (written_by stmt) word)) (is_among (pushed_by location stmt) word) false (λ x. absurd (true≢false (sym x))) e
      by false e = fewer (is_among s.saved word) (not (is_among (written_by stmt) word)) (is_among (pushed_by location stmt) word) (is_among (pushed_by location stmt) word) (λ x. x) e

  pub saved_all : (stmts : List Stmt) (s : State) (word : Loc) → is_among (after_all changed pushed location stmts s).saved word ≡ true
      → (is_among s.saved word || is_among (flat_map (pushed_by location) stmts) word) ≡ true
  saved_all [] s word e = or_left (is_among s.saved word) false e
  saved_all (stmt ∷ stmts) s word e =
      elim (or_cases (is_among (after changed pushed location stmt s).saved word) (is_among (flat_map (pushed_by location) stmts) word) (saved_all stmts (after changed pushed location stmt s) word e)) [
        | inl a ↦ elim (or_cases (is_among s.saved word) (is_among (pushed_by location stmt) word) (saved_once stmt s word a)) [
          | inl b ↦ or_left (is_among s.saved word) (is_among (flat_map (pushed_by location) (stmt ∷ stmts)) word) b
          | inr p ↦ or_right (is_among s.saved word) (is_among (flat_map (pushed_by location) (stmt ∷ stmts)) word)
              (list_any-append (same_location word) (pushed_by location stmt) (flat_map (pushed_by location) stmts) ∙ or_left (is_among (pushed_by location stmt) word) (is_among (flat_map (pushed_by location) stmts) word) p)
        ]
        | inr f ↦ or_right (is_among s.saved word) (is_among (flat_map (pushed_by location) (stmt ∷ stmts)) word)
            (list_any-append (same_location word) (pushed_by location stmt) (flat_map (pushed_by location) stmts) ∙ or_right (is_among (pushed_by location stmt) word) (is_among (flat_map (pushed_by location) stmts) word) f)
      ]

in_block : (location : Loc) (blocks : List Block) (k : ℕ) (word : Loc) → is_among (flat_map (pushed_by location) (get_or blocks k no_block).stmts) word ≡ true
    → is_among (flat_map (λ block. flat_map (pushed_by location) block.stmts) blocks) word ≡ true
in_block location [] k word e = absurd (true≢false (sym e))
in_block location (block ∷ blocks) zero word e =
    list_any-append (same_location word) (flat_map (pushed_by location) block.stmts) (flat_map (λ block. flat_map (pushed_by location) block.stmts) blocks)
    ∙ or_left (is_among (flat_map (pushed_by location) block.stmts) word) (is_among (flat_map (λ block. flat_map (pushed_by location) block.stmts) blocks) word) e
in_block location (block ∷ blocks) (suc k) word e =
    list_any-append (same_location word) (flat_map (pushed_by location) block.stmts) (flat_map (λ block. flat_map (pushed_by location) block.stmts) blocks)
    ∙ or_right (is_among (flat_map (pushed_by location) block.stmts) word) (is_among (flat_map (λ block. flat_map (pushed_by location) block.stmts) blocks) word) (in_block location blocks k word e)

-- what is saved after a block is one of the graph's words, if what is saved before is
pub saved_known : (changed : ℕ → Bool) (graph : Graph) (location : Loc) (block : ℕ) (s : State) → ((word : Loc) → is_among s.saved word ≡ true → is_among (words_of location graph) word ≡ true)
    → (word : Loc) → is_among (after_all changed graph.pushed location (block_in graph block).stmts s).saved word ≡ true → is_among (words_of location graph) word ≡ true
saved_known changed graph location block s known word e = elim (or_cases (is_among s.saved word) (is_among (flat_map (pushed_by location) (block_in graph block).stmts) word)
    (saved_all changed graph.pushed location (block_in graph block).stmts s word e)) [
      | inl a ↦ known word a
      | inr b ↦ in_block location graph.blocks block word b
    ]
