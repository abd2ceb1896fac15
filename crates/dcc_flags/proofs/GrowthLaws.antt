-- Tables of sources grow while definitions flow, and one that has stopped growing is closed under the edges.
use Rattle.std.proofs.Common.{◌≡◌, ℕ, zero, suc, ◌<◌, ◌≤◌, true, inl, inr, List, [], ◌∷◌, length, get_or, slice_set, refl, sym, ap, ◌∙◌, subst, arith}
use Rattle.std.proofs.lemmas.Bool.{false≢true}
use Rattle.std.proofs.lemmas.List.{length-set, get_or-set_same}
use Rattle.dcc_num.specs.declared.FlagName.{FlagName}
use Rattle.dcc_ir.specs.Tree.{Graph}
use Rattle.dcc_ir.specs.Flow.{targets}
use Rattle.dcc_ir.specs.Live.{block_in}
use Rattle.dcc_flow.specs.Edges.{is_in}
use Rattle.dcc_flow.proofs.Members.{in_cases}
use Rattle.dcc_flags.specs.Reaching.{Definition}
use Rattle.dcc_flags.specs.declared.sources.Source.{Source}
use Rattle.dcc_flags.specs.declared.sources.Source.TheVariants.{Nothing}
use Rattle.dcc_flags.specs.Sources.{joined, moved_past, spread, flowed, swept, rank_of, Covers}
use Rattle.dcc_flags.proofs.SourceLaws.{joined_left, joined_right, rank_grows, rank_stays}

-- the second table knows what the first does, and it is the first where its rank is no higher
pub record Grows (before after : List Source) : Type 0 where
  pub count : length after ≡ length before
  pub rank : rank_of before ≤ rank_of after
  pub same : rank_of after ≤ rank_of before → after ≡ before
  pub keeps : (block : ℕ) (d : Definition) → Covers (get_or before block Nothing) d → Covers (get_or after block Nothing) d

grows_refl : (t : List Source) → Grows t t
grows_refl t = record { count = refl; rank = omega arith; same = λ h. refl; keeps = λ block d h. h }

grows_trans : (t u v : List Source) → Grows t u → Grows u v → Grows t v
grows_trans t u v a b =
    let up = a.rank in
    let more = b.rank in
    record {
      count = b.count ∙ a.count;
      rank = omega (arith, up, more);
      same = λ h. b.same (omega (arith, h, up, more)) ∙ a.same (omega (arith, h, up, more));
      keeps = λ block d h. b.keeps block d (a.keeps block d h);
    }

-- between tables of one rank nothing changed
between : (t u v : List Source) → Grows t u → Grows u v → rank_of v ≤ rank_of t → u ≡ t
between t u v a b h = let more = b.rank in a.same (omega (arith, h, more))

-- One entry.

abbrev pub with_source : List Source → ℕ → Source → List Source
with_source t block source = slice_set t block (joined (get_or t block Nothing) source)

entry_rank : (t : List Source) (block : ℕ) (source : Source) → rank_of t ≤ rank_of (with_source t block source)
entry_rank [] block source = omega arith
entry_rank (x ∷ xs) zero source = let up = rank_grows x source in omega (arith, up)
entry_rank (x ∷ xs) (suc block) source = let up = entry_rank xs block source in omega (arith, up)

entry_same : (t : List Source) (block : ℕ) (source : Source) → rank_of (with_source t block source) ≤ rank_of t → with_source t block source ≡ t
entry_same [] block source h = refl
entry_same (x ∷ xs) zero source h = ap (λ s. s ∷ xs) (rank_stays x source (omega (arith, h)))
entry_same (x ∷ xs) (suc block) source h = ap (λ l. x ∷ l) (entry_same xs block source (omega (arith, h)))

entry_keeps : (t : List Source) (block : ℕ) (source : Source) (k : ℕ) (d : Definition) → Covers (get_or t k Nothing) d → Covers (get_or (with_source t block source) k Nothing) d
entry_keeps [] block source k d h = h
entry_keeps (x ∷ xs) zero source zero d h = joined_left x source d h
entry_keeps (x ∷ xs) zero source (suc k) d h = h
entry_keeps (x ∷ xs) (suc block) source zero d h = h
entry_keeps (x ∷ xs) (suc block) source (suc k) d h = entry_keeps xs block source k d h

entry_grows : (t : List Source) (block : ℕ) (source : Source) → Grows t (with_source t block source)
entry_grows t block source = record {
  count = length-set t block (joined (get_or t block Nothing) source);
  rank = entry_rank t block source;
  same = entry_same t block source;
  keeps = entry_keeps t block source;
}

-- an entry that stays covers what was added
pub entry_covers : (t : List Source) (block : ℕ) (source : Source) (d : Definition) → block < length t → with_source t block source ≡ t → Covers source d → Covers (get_or t block Nothing) d
entry_covers t block source d inside stays h =
    let v = joined (get_or t block Nothing) source in
    let is : v ≡ get_or t block Nothing = sym (get_or-set_same t block v Nothing inside) ∙ ap (λ l. get_or l block Nothing) stays in
    subst (λ s. Covers s d) is (joined_right (get_or t block Nothing) source d h)

-- Many.

pub spread_grows : (source : Source) (t : List Source) (blocks : List ℕ) → Grows t (spread source t blocks)
spread_grows source t [] = grows_refl t
spread_grows source t (block ∷ blocks) =
    let u = with_source t block source in
    grows_trans t u (spread source u blocks) (entry_grows t block source) (spread_grows source u blocks)

flowed_grows : (f : FlagName) (graph : Graph) (t : List Source) (block : ℕ) → Grows t (flowed f graph t block)
flowed_grows f graph t block =
    spread_grows (moved_past f (get_or t block Nothing) block 0 (block_in graph block).stmts) t (targets (block_in graph block).exit)

pub swept_grows : (f : FlagName) (graph : Graph) (t : List Source) (blocks : List ℕ) → Grows t (swept f graph t blocks)
swept_grows f graph t [] = grows_refl t
swept_grows f graph t (block ∷ blocks) =
    let u = flowed f graph t block in
    grows_trans t u (swept f graph u blocks) (flowed_grows f graph t block) (swept_grows f graph u blocks)

-- each entry stays where the rank does
spread_stays : (source : Source) (t : List Source) (blocks : List ℕ) → rank_of (spread source t blocks) ≤ rank_of t → (b : ℕ) → is_in blocks b ≡ true → with_source t b source ≡ t
spread_stays source t [] h b e = absurd (false≢true e)
spread_stays source t (block ∷ blocks) h b e =
    let u = with_source t block source in
    let stays : u ≡ t = between t u (spread source u blocks) (entry_grows t block source) (spread_grows source u blocks) h in
    elim (in_cases block b blocks e) [
      | inl same ↦ subst (λ k. with_source t k source ≡ t) same stays
      | inr later ↦ spread_stays source t blocks (subst (λ l. rank_of (spread source l blocks) ≤ rank_of t) stays h) b later
    ]

swept_stays : (f : FlagName) (graph : Graph) (t : List Source) (blocks : List ℕ) → rank_of (swept f graph t blocks) ≤ rank_of t → (a : ℕ) → is_in blocks a ≡ true
    → rank_of (flowed f graph t a) ≤ rank_of t
swept_stays f graph t [] h a e = absurd (false≢true e)
swept_stays f graph t (block ∷ blocks) h a e =
    let u = flowed f graph t block in
    let stays : u ≡ t = between t u (swept f graph u blocks) (flowed_grows f graph t block) (swept_grows f graph u blocks) h in
    elim (in_cases block a blocks e) [
      | inl same ↦ subst (λ k. rank_of (flowed f graph t k) ≤ rank_of t) same (subst (λ l. rank_of l ≤ rank_of t) (sym stays) (omega arith))
      | inr later ↦ swept_stays f graph t blocks (subst (λ l. rank_of (swept f graph l blocks) ≤ rank_of t) stays h) a later
    ]

-- a table that a sweep leaves as it is covers, after each edge, what leaves the block before it
pub closed_under : (f : FlagName) (graph : Graph) (t : List Source) (blocks : List ℕ) → rank_of (swept f graph t blocks) ≤ rank_of t → (a b : ℕ) → is_in blocks a ≡ true
    → is_in (targets (block_in graph a).exit) b ≡ true → b < length t → (d : Definition)
    → Covers (moved_past f (get_or t a Nothing) a 0 (block_in graph a).stmts) d → Covers (get_or t b Nothing) d
closed_under f graph t blocks h a b there edge inside d covers =
    let source = moved_past f (get_or t a Nothing) a 0 (block_in graph a).stmts in
    entry_covers t b source d inside (spread_stays source t (targets (block_in graph a).exit) (swept_stays f graph t blocks h a there) b edge) covers
