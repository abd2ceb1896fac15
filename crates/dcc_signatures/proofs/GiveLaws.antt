-- In the program in which what passes together is one value, at most one value is given back, and halves of a register
-- are taken together.
use Rattle.std.proofs.Common.{◌≡◌, ℕ, Bool, true, false, ◌&&◌, ◌⊎◌, inl, inr, List, [], ◌∷◌, ◌++◌, Option, Some, None, refl, sym, ap, ap₂, ◌∙◌, subst, true≢false, map, take, drop, flat_map}
use Rattle.std.specs.Prelude.{if◌then◌else◌, All, Contains, filter}
use Rattle.std.proofs.lemmas.List.{drop-map}
use Rattle.std.proofs.lemmas.List.Elements.{All-nil, All-cons, All-head, All-tail, All-append, All-contains, All-map}
use Rattle.dcc_num.specs.declared.Reg.{Reg}
use Rattle.dcc_num.specs.declared.Reg.TheVariants.{Ax, Cx, Dx, Bx, Sp, Bp, Si, Di}
use Rattle.dcc_num.specs.declared.Half.TheVariants.{Low, High}
use Rattle.dcc_ir.specs.declared.syntax.Loc.{Loc}
use Rattle.dcc_ir.specs.declared.syntax.Loc.TheVariants.{Half, Flag, Cell, Temp}
use Rattle.dcc_ir.specs.declared.syntax.Put.{Put}
use Rattle.dcc_ir.specs.declared.syntax.Put.TheVariants.{Memory, One, Two}
use Rattle.dcc_ir.specs.Tree.{Stmt, Set, Fetch, Store, Div, Call, Dos, Exit, Goto, If, Switch, Ret, Stop, Block, Graph, Program, Summary}
use Rattle.dcc_ir.specs.Location.{location_width}
use Rattle.dcc_ir.specs.Value.{width_of}
use Rattle.dcc_ir.specs.Live.{is_among}
use Rattle.dcc_ir.specs.Passing.{passed}
use Rattle.dcc_ir.specs.WellFormed.{is_width, ret_widths, IsProgram}
use Rattle.dcc_ir.proofs.LocationLaws.{location_itself, Contains-here, Contains-later, Contains-none, Contains-cases, contains_among}
use Rattle.dcc_ir.proofs.ListLaws.{all_had}
use Rattle.dcc_sums.specs.Instance.{passes}
use Rattle.dcc_sums.specs.Localised.{summary_at, GivesJust, TakesJust, CallsJust}
use Rattle.dcc_signatures.specs.declared.packing.Fresh.{Fresh}
use Rattle.dcc_signatures.specs.declared.packing.Packing.TheVariants.{Apart, Word, Double}
use Rattle.dcc_signatures.specs.Packed.{are_halves, two_or_one, in_front, merged, one_put, one_argument, value_places}
use Rattle.dcc_signatures.specs.Packed.{taking_part, taking_parts, pack_stmt, pack_exit, pack_block, fresh_after}
use Rattle.dcc_signatures.specs.Packed.{pack_graph}
use Rattle.dcc_signatures.specs.Laws.{IsInOrder, PassesOneValue, AtMostOne, GivesAtMostOne, TakesAtMostOne}
use Rattle.dcc_signatures.specs.Laws.{TakesTogether, PackedPassesOne}
use Rattle.dcc_signatures.proofs.PutLaws.{puts, puts-places}
use Rattle.dcc_signatures.proofs.OneLaws.{Form, apart, word, double, packing-word}
use Rattle.dcc_signatures.proofs.PassLaws.{IsFixed, AllJust}
use Rattle.dcc_signatures.proofs.FormedLaws.{two_more, widths_by, widths_of, places-widths}
use Rattle.dcc_signatures.proofs.ProgramLaws.{ret_gives, parts_are}
use Rattle.dcc_signatures.proofs.WholeLaws.{packed_params}
use Rattle.dcc_signatures.proofs.JustLaws.{order_passes, sum_of, later_sum, order, all_just, results_wide}

-- At most one value.

-- the widths of what is given back
Few : List ℕ → Type 0
Few widths = (widths ≡ []) ⊎ ((k : ℕ) × (widths ≡ k ∷ []) × (is_width k ≡ true))

few_widths : (ls : List Loc) → Form ls → ((l : Loc) → Contains ls l → is_width (location_width [] l) ≡ true) → Few (widths_of ls)
unfolding Few
few_widths [] form wide = inl refl
few_widths (l ∷ []) form wide = inr (location_width [] l, refl, wide l (Contains-here l []))
few_widths (a ∷ b ∷ ls) (word r e) wide = inr (16, ap widths_of e ∙ ap (λ packing. widths_by packing (Half r Low ∷ Half r High ∷ [])) (packing-word r), refl)
few_widths (a ∷ b ∷ ls) (double e all) wide = inr (32, ap (λ packing. widths_by packing (a ∷ b ∷ ls)) e, refl)
few_widths (a ∷ b ∷ []) (apart e) wide = go (are_halves a b) e
  where
    go : (t : Bool) → (if t then Word a b else Double) ≡ Apart → Few (widths_of (a ∷ b ∷ []))
    go true e = absurd (cc)
    go false e = absurd (cc)
few_widths (a ∷ b ∷ c ∷ ls) (apart e) wide = absurd (cc)

at_most_one : {A : Type 0} (width : A → ℕ) (xs : List A) (widths : List ℕ) → map width xs ≡ widths → Few widths → AtMostOne width xs
unfolding Few
at_most_one width [] widths e few = inl refl
at_most_one width (x ∷ []) widths e (inl none) = let f : width x ∷ [] ≡ [] = e ∙ none in absurd (cc)
at_most_one width (x ∷ []) widths e (inr one) =
    let f : width x ∷ [] ≡ one.0 ∷ [] = e ∙ one.1 in
    let same : one.0 ≡ width x = cc in
    inr (x, refl, subst (λ n. is_width n ≡ true) same one.2)
at_most_one width (x ∷ y ∷ xs) widths e (inl none) = let f = e ∙ none in absurd (cc)
at_most_one width (x ∷ y ∷ xs) widths e (inr one) = let f = e ∙ one.1 in absurd (cc)

gives_few : (bits : List ℕ) (ls : List Loc) (exit : Exit) → Few (widths_of ls) → All (λ widths. widths ≡ widths_of ls) (ret_widths bits exit) → GivesAtMostOne bits exit
gives_few bits ls (Ret values) few all = at_most_one (width_of bits) values (widths_of ls) (All-head (λ widths. widths ≡ widths_of ls) (map (width_of bits) values) [] all) few
gives_few bits ls (Goto place) few all = tt
gives_few bits ls (If test one other) few all = tt
gives_few bits ls (Switch e places) few all = tt
gives_few bits ls Stop few all = tt

-- Halves of a register.

two_stays : (a b x : Loc) (qs : List Put) → Contains qs (Two a b) → Contains (in_front one_put (One x) qs) (Two a b)
two_stays a b x [] c = absurd (Contains-none (Two a b) c)
two_stays a b x (q ∷ qs) c = go q (one_put (One x) q) refl c
  where
    go : (q : Put) (o : Option Put) → one_put (One x) q ≡ o → Contains (q ∷ qs) (Two a b) → Contains (two_or_one (One x) q qs o) (Two a b)
    go q None e c = Contains-later (One x) (q ∷ qs) (Two a b) c
    go (One y) (Some z) e c = Contains-later z qs (Two a b) (Contains-cases (One y) qs (Two a b) (Contains qs (Two a b)) (λ same. absurd (cc)) (λ d. d) c)
    go (Two l h) (Some z) e c = absurd (cc)
    go Memory (Some z) e c = absurd (cc)

high_apart : (r : Reg) (qs : List Put) → in_front one_put (One (Half r High)) qs ≡ One (Half r High) ∷ qs
high_apart r [] = refl
high_apart r (One (Half q High) ∷ qs) = ap (λ b. two_or_one (One (Half r High)) (One (Half q High)) qs (if b then Some (Two (Half r High) (Half q High)) else None)) (no_low r q)
  where
    no_low : (r q : Reg) → are_halves (Half r High) (Half q High) ≡ false
    no_low r q = and_false _
      where
        and_false : (b : Bool) → (b && false) ≡ false
        and_false true = refl
        and_false false = refl
high_apart r (One (Half q Low) ∷ qs) = refl
high_apart r (One (Flag f) ∷ qs) = refl
high_apart r (One (Cell n h) ∷ qs) = refl
high_apart r (One (Temp n) ∷ qs) = refl
high_apart r (Two l h ∷ qs) = refl
high_apart r (Memory ∷ qs) = refl

-- neighbours that are the halves of a register are one
halves_together : (r : Reg) (before after : List Loc) → Contains (puts (before ++ Half r Low ∷ Half r High ∷ after)) (Two (Half r Low) (Half r High))
halves_together r [] after =
    let low = Half r Low in
    let high = Half r High in
    let both : puts (low ∷ high ∷ after) ≡ Two low high ∷ puts after =
    ap (in_front one_put (One low)) (high_apart r (puts after)) ∙ ap (λ b. two_or_one (One low) (One high) (puts after) (if b then Some (Two low high) else None)) (location_itself low) in
    subst (λ qs. Contains qs (Two low high)) (sym both) (Contains-here (Two low high) (puts after))
halves_together r (x ∷ before) after = two_stays (Half r Low) (Half r High) x (puts (before ++ Half r Low ∷ Half r High ∷ after)) (halves_together r before after)

-- the halves of a register that passes are neighbours
record Neighbours (r : Reg) : Type 0 where
  before : List Loc
  after : List Loc
  is : passed ≡ before ++ Half r Low ∷ Half r High ∷ after

neighbours : (r : Reg) → passes (Half r Low) ≡ true → Neighbours r
neighbours Ax e = record { before = []; after = drop 2 passed; is = refl }
neighbours Cx e = record { before = take 2 passed; after = drop 4 passed; is = refl }
neighbours Dx e = record { before = take 4 passed; after = drop 6 passed; is = refl }
neighbours Bx e = record { before = take 6 passed; after = drop 8 passed; is = refl }
neighbours Si e = record { before = take 8 passed; after = drop 10 passed; is = refl }
neighbours Di e = record { before = take 10 passed; after = drop 12 passed; is = refl }
neighbours Sp e = absurd (true≢false (sym e))
neighbours Bp e = absurd (true≢false (sym e))

filter_joined : {A : Type 0} (f : A → Bool) (xs ys : List A) → filter f (xs ++ ys) ≡ filter f xs ++ filter f ys
filter_joined f [] ys = refl
filter_joined f (x ∷ xs) ys = elim (f x) as (λ b. (if b then x ∷ filter f (xs ++ ys) else filter f (xs ++ ys)) ≡ (if b then x ∷ filter f xs else filter f xs) ++ filter f ys) [
  | true ↦ ap (λ l. x ∷ l) (filter_joined f xs ys)
  | false ↦ filter_joined f xs ys
]

taken_together : (ls : List Loc) → IsInOrder ls → (r : Reg) → Contains ls (Half r Low) → Contains ls (Half r High) → Contains (puts ls) (Two (Half r Low) (Half r High))
taken_together ls order r low high = subst (λ xs. Contains (puts xs) (Two (Half r Low) (Half r High))) (sym is) (halves_together r (filter chosen near.before) (filter chosen near.after))
  where
    chosen : Loc → Bool
    chosen l = is_among ls l

    near : Neighbours r
    near = neighbours r (order_passes ls order (Half r Low) low)

    is : ls ≡ filter chosen near.before ++ Half r Low ∷ Half r High ∷ filter chosen near.after
    is = order ∙ ap (filter chosen) near.is ∙ filter_joined chosen near.before (Half r Low ∷ Half r High ∷ near.after)
        ∙ ap₂ (λ (b c : Bool). filter chosen near.before ++ (if b then Half r Low ∷ (if c then Half r High ∷ filter chosen near.after else filter chosen near.after) else (if c then Half r High ∷ filter chosen near.after else filter chosen near.after)))
        (contains_among ls (Half r Low) low) (contains_among ls (Half r High) high)

-- The program.

module _ (p : Program) (sums : List Summary) (formed : IsProgram p) (one : PassesOneValue p sums) where
  abbrev sum : ℕ → Summary
  sum = sum_of p sums formed one

  just : AllJust sum p
  just = all_just p sums formed one

  few : (entry : ℕ) → Few (widths_of (sum entry).results)
  few entry = few_widths (sum entry).results (just.forms entry) (results_wide p sums formed one entry)

  rets_few : (g : Graph) → Contains p.graphs g → All (λ b. GivesAtMostOne (two_more g.bits) b.exit) (pack_graph g).blocks
  rets_few g c =
      let t = All-contains (λ (x : Graph). TakesJust (sum x.entry) x) p.graphs g just.graphs c in
      All-map (λ (b : Block). GivesAtMostOne (two_more g.bits) b.exit) (pack_block (fresh_after g.bits)) g.blocks
      (all_had (λ (b : Block). GivesAtMostOne (two_more g.bits) (pack_exit b.exit)) g.blocks (λ b d.
      gives_few (two_more g.bits) (sum g.entry).results (pack_exit b.exit) (few g.entry)
      (ret_gives p sum just g.bits g.entry b.exit (All-contains (λ (x : Block). GivesJust (sum g.entry).results x.exit) g.blocks b t.rets d))))

  module _ (bits : List ℕ) where
    abbrev Takes : Stmt → Type 0
    Takes stmt = TakesAtMostOne (two_more bits) stmt

    abbrev fresh : Fresh
    fresh = fresh_after bits

    sets_few : (temporary : ℕ) (two : Bool) (ls : List Loc) → All Takes (map (taking_part temporary two) ls)
    sets_few temporary two [] = All-nil Takes
    sets_few temporary two (l ∷ ls) = All-cons Takes (taking_part temporary two l) (map (taking_part temporary two) ls) tt (sets_few temporary two ls)

    stmt_few : (stmt : Stmt) → CallsJust sum stmt → All Takes (pack_stmt fresh stmt)
    stmt_few (Call results entry arguments depth) calls =
        All-cons Takes (Call (value_places fresh results) entry (merged one_argument arguments) depth) (taking_parts fresh results)
        (at_most_one (location_width (two_more bits)) (value_places fresh results) (widths_of results)
        (places-widths bits results (subst Form (sym calls.0) (just.forms entry)) (subst (All IsFixed) (sym calls.0) (just.results entry))) (subst (λ ls. Few (widths_of ls)) (sym calls.0) (few entry)))
        (parts_are fresh results (All Takes) sets_few)
    stmt_few (Set l e) calls = All-cons Takes (Set l e) [] tt (All-nil Takes)
    stmt_few (Fetch l width a) calls = All-cons Takes (Fetch l width a) [] tt (All-nil Takes)
    stmt_few (Store width a e) calls = All-cons Takes (Store width a e) [] tt (All-nil Takes)
    stmt_few (Div l e) calls = All-cons Takes (Div l e) [] tt (All-nil Takes)
    stmt_few (Dos number place argument) calls = All-cons Takes (Dos number place argument) [] tt (All-nil Takes)

    stmts_few : (stmts : List Stmt) → All (CallsJust sum) stmts → All Takes (flat_map (pack_stmt fresh) stmts)
    stmts_few [] calls = All-nil Takes
    stmts_few (stmt ∷ stmts) calls =
        All-append Takes (pack_stmt fresh stmt) (flat_map (pack_stmt fresh) stmts) (stmt_few stmt (All-head (CallsJust sum) stmt stmts calls)) (stmts_few stmts (All-tail (CallsJust sum) stmt stmts calls))

  calls_few : (g : Graph) → Contains p.graphs g → All (λ b. All (TakesAtMostOne (two_more g.bits)) b.stmts) (pack_graph g).blocks
  calls_few g c =
      All-map (λ (b : Block). All (TakesAtMostOne (two_more g.bits)) b.stmts) (pack_block (fresh_after g.bits)) g.blocks
      (all_had (λ (b : Block). All (TakesAtMostOne (two_more g.bits)) (flat_map (pack_stmt (fresh_after g.bits)) b.stmts)) g.blocks (λ b d.
      stmts_few g.bits b.stmts (All-contains (λ (x : Block). All (CallsJust sum) x.stmts) g.blocks b (All-contains (λ (x : Graph). All (λ b. All (CallsJust sum) b.stmts) x.blocks) p.graphs g just.calls c) d)))

  takes_together : (g : Graph) → Contains (drop 1 p.graphs) g → TakesTogether (summary_at p.graphs sums g.entry).params (pack_graph g)
  takes_together g c =
      let t = All-contains (λ (x : Graph). TakesJust (summary_at p.graphs sums x.entry) x) (drop 1 p.graphs) g one.just.graphs c in
      let ls = (summary_at p.graphs sums g.entry).params in
      let ordered = subst (λ (s : Summary). IsInOrder s.params) (later_sum p sums formed one g c) (order p sums formed one g.entry).params in
      record {
        words = t.words;
        puts = puts ls;
        stack = t.stack;
        params = packed_params (summary_at p.graphs sums g.entry) g t;
        order = ordered;
        places = puts-places ls;
        together = taken_together ls ordered;
      }

pub packed-passes_one : PackedPassesOne
packed-passes_one p sums formed one = record {
  params = subst (All (λ (g : Graph). TakesTogether (summary_at p.graphs sums g.entry).params g)) (sym (drop-map pack_graph 1 p.graphs))
      (All-map (λ (g : Graph). TakesTogether (summary_at p.graphs sums g.entry).params g) pack_graph (drop 1 p.graphs)
      (all_had (λ (g : Graph). TakesTogether (summary_at p.graphs sums g.entry).params (pack_graph g)) (drop 1 p.graphs) (takes_together p sums formed one)));
  rets = All-map (λ (g : Graph). All (λ b. GivesAtMostOne g.bits b.exit) g.blocks) pack_graph p.graphs (all_had (λ (g : Graph). All (λ b. GivesAtMostOne (two_more g.bits) b.exit) (pack_graph g).blocks) p.graphs (rets_few p sums formed one));
  calls = All-map (λ (g : Graph). All (λ b. All (TakesAtMostOne g.bits) b.stmts) g.blocks) pack_graph p.graphs (all_had (λ (g : Graph). All (λ b. All (TakesAtMostOne (two_more g.bits)) b.stmts) (pack_graph g).blocks) p.graphs (calls_few p sums formed one));
}
