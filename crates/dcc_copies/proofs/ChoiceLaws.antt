-- The tests of the code are those of right names.
use Rattle.std.proofs.Common.{◌≡◌, ℕ, ◌+◌, ◌<◌, ◌≤◌, Bool, true, false, inl, inr, List, [], ◌∷◌, length, get_or, map, Some, slice_get, refl, sym, ap, ap₂, ◌∙◌, subst, true≢false, arith, eqb-true, nat_lt, Contains}
use Rattle.std.specs.Prelude.{◌==◌, All}
use Rattle.std.specs.List.{list_all}
use Rattle.std.proofs.lemmas.Bool.{cases_lt, lt-ltb}
use Rattle.std.proofs.lemmas.List.{get_or_past}
use Rattle.std.proofs.lemmas.List.Elements.{All-contains}
use Rattle.std.proofs.lemmas.Option.{slice_get-get_or, get_or_from_slice_get}
use Rattle.dcc_ir.specs.declared.syntax.Loc.{Loc}
use Rattle.dcc_ir.specs.declared.syntax.Loc.TheVariants.{Half, Flag, Cell, Temp}
use Rattle.dcc_ir.specs.Location.{location_width}
use Rattle.dcc_ir.specs.Tree.{Expr, Exit, Goto, If, Switch, Ret, Stop, Block, Graph}
use Rattle.dcc_ir.specs.WellFormed.{is_location}
use Rattle.dcc_ir.proofs.LocationLaws.{Contains-none, Contains-cases}
use Rattle.dcc_webs.specs.Temporaries.{is_temp}
use Rattle.dcc_copies.specs.declared.holders.Entry.{Entry}
use Rattle.dcc_ir.specs.declared.syntax.Block.{Block as BlockOf}
use Rattle.dcc_ir.specs.Views.{block_of}
use Rattle.dcc_copies.proofs.LoopLaws.{found-mapped}
use Rattle.dcc_copies.specs.Held.{Held, held_after_all}
use Rattle.dcc_copies.specs.Settled.{settled, end_reads, IsRightBlock, IsRight, AreSettled, done, settles}
use Rattle.dcc_copies.specs.Holders.{Holders, name_by, is_held, IsSound, AreRead, held_by, Covers, entries_at}
use Rattle.dcc_copies.specs.Choice.{begins_by, HaveWidths, BeginPlain, LeadsRight}
use Rattle.dcc_copies.proofs.HolderLaws.{all-sound}

module _ (names : List ℕ) (begins : List (List Entry)) where
  -- Ends of blocks.

  pub goto-leads : (h : Holders) (to : ℕ) → Covers names h (entries_at begins to) → LeadsRight names begins h (Goto to)
  goto-leads h to covers place c =
      Contains-cases to [] place (Covers names h (entries_at begins place)) (λ same. subst (λ k. Covers names h (entries_at begins k)) same covers)
      (λ later. absurd (Contains-none place later)) c

  plain-covered : (h : Holders) (to : ℕ) → BeginPlain begins to → Covers names h [] → Covers names h (entries_at begins to)
  plain-covered h to plain covers = subst (Covers names h) (sym plain) covers

  pub if-leads : (h : Holders) (test : Expr) (one other : ℕ) → BeginPlain begins one → BeginPlain begins other → Covers names h []
      → LeadsRight names begins h (If test one other)
  if-leads h test one other first second covers place c =
      Contains-cases one (other ∷ []) place (Covers names h (entries_at begins place))
      (λ same. subst (λ k. Covers names h (entries_at begins k)) same (plain-covered h one first covers))
      (λ later. Contains-cases other [] place (Covers names h (entries_at begins place))
      (λ same. subst (λ k. Covers names h (entries_at begins k)) same (plain-covered h other second covers))
      (λ none. absurd (Contains-none place none)) later) c

  pub switch-leads : (h : Holders) (e : Expr) (places : List ℕ) → All (BeginPlain begins) places → Covers names h []
      → LeadsRight names begins h (Switch e places)
  switch-leads h e places plain covers place c = plain-covered h place (All-contains (BeginPlain begins) places place plain c) covers

  pub ret-leads : (h : Holders) (values : List Expr) → LeadsRight names begins h (Ret values)
  ret-leads h values place c = absurd (Contains-none place c)

  pub stop-leads : (h : Holders) → LeadsRight names begins h Stop
  stop-leads h place c = absurd (Contains-none place c)

  -- Blocks.

  pub block-right : (h k : Holders) (place : ℕ) (block : Block) → IsSound names h (held_by names (entries_at begins place))
      → AreRead names h k block.stmts → list_all (is_held names k) (end_reads block) ≡ true → LeadsRight names begins k block.exit
      → IsRightBlock (name_by names) (begins_by names begins) place block
  block-right h k place block sound read last leads =
      let begun = held_by names (entries_at begins place) in
      let after = read.passed.sound begun sound in
      record {
        stmts = read.held begun sound;
        exit = all-sound names k (held_after_all (name_by names) block.stmts begun) after (end_reads block) last;
        goes = λ to c l has. after l (leads to c l has);
      }

-- Names.

module _ (names bits : List ℕ) (have : HaveWidths names bits) where
  -- the name of a temporary of the graph, and of another one
  inside : (n : ℕ) → n < length bits → get_or names n n ≡ get_or names n 0
  inside n less =
      let there = slice_get-get_or names n 0 (omega (arith, less, have.count)) in
      get_or_from_slice_get names n (get_or names n 0) n there

  outside : (n : ℕ) → length bits ≤ n → get_or names n n ≡ n
  outside n past = get_or_past names n n (omega (arith, past, have.count))

  number-width : (n : ℕ) → get_or bits (get_or names n n) 0 ≡ get_or bits n 0
  number-width n = elim (cases_lt n (length bits)) [
    | inl less ↦ ap (λ k. get_or bits k 0) (inside n less) ∙ have.same n less
    | inr past ↦ ap (λ k. get_or bits k 0) (outside n past)
  ]

  number-placed : (n : ℕ) → nat_lt (get_or names n n) (length bits) ≡ nat_lt n (length bits)
  number-placed n = elim (cases_lt n (length bits)) [
    | inl less ↦
        ap (λ k. nat_lt k (length bits)) (inside n less) ∙ lt-ltb (get_or names n 0) (length bits) (have.below n less)
        ∙ sym (lt-ltb n (length bits) less)
    | inr past ↦ ap (λ k. nat_lt k (length bits)) (outside n past)
  ]

  pub names-right : (graph : Graph) (begins : List (List Entry)) → graph.bits ≡ bits → BeginPlain begins 0
      → ((place : ℕ) (block : Block) → slice_get graph.blocks place ≡ Some block → IsRightBlock (name_by names) (begins_by names begins) place block)
      → IsRight (name_by names) graph
  names-right graph begins same plain blocks = record {
    widths = λ l. subst (λ bs. location_width bs (name_by names l) ≡ location_width bs l) (sym same) (width l);
    places = λ l. subst (λ bs. is_location bs (name_by names l) ≡ is_location bs l) (sym same) (placed l);
    temps = temp;
    begins = begins_by names begins;
    start = λ l has. own l (subst (λ entries. held_by names entries l ≡ true) plain has);
    blocks = blocks;
  }
    where
      width : (l : Loc) → location_width bits (name_by names l) ≡ location_width bits l
      width (Temp n) = number-width n
      width (Half r k) = refl
      width (Flag f) = refl
      width (Cell c k) = refl

      placed : (l : Loc) → is_location bits (name_by names l) ≡ is_location bits l
      placed (Temp n) = number-placed n
      placed (Half r k) = refl
      placed (Flag f) = refl
      placed (Cell c k) = refl

      temp : (l : Loc) → is_temp (name_by names l) ≡ is_temp l
      temp (Temp n) = refl
      temp (Half r k) = refl
      temp (Flag f) = refl
      temp (Cell c k) = refl

      own : (l : Loc) → held_by names [] l ≡ true → name_by names l ≡ l
      own (Temp n) is = ap Temp (eqb-true (get_or names n n) n is)
      own (Half r k) is = refl
      own (Flag f) is = refl
      own (Cell c k) is = refl

pub lot-settled : (g h : Graph) (names : List ℕ) → IsRight (name_by names) g → h ≡ settled (name_by names) g → AreSettled g h
lot-settled g h names right same = subst (AreSettled g) (sym same) (settles (name_by names) right done)

-- one block more
pub right-more : (P : ℕ → Block → Type 0) (blocks : List BlockOf) (k : ℕ) (x : BlockOf) → k < length blocks → x ≡ get_or blocks k x
    → ((place : ℕ) (block : Block) → place < k → slice_get (map block_of blocks) place ≡ Some block → P place block) → P k (block_of x)
    → (place : ℕ) (block : Block) → place < k + 1 → slice_get (map block_of blocks) place ≡ Some block → P place block
right-more P blocks k x inside is before here place block less found = elim (cases_lt place k) [
  | inl earlier ↦ before place block earlier found
  | inr past ↦
      let same : place ≡ k = omega (arith, less, past) in
      let it = found-mapped block_of blocks k x block inside is (ap (slice_get (map block_of blocks)) (sym same) ∙ found) in
      subst (λ n. P n block) (sym same) (subst (P k) (sym it) here)
]
