-- What holds of each choice, and so of each block that is folded.
use Rattle.std.proofs.Common.{◌≡◌, ℕ, zero, suc, Bool, true, false, List, [], ◌∷◌, ◌++◌, length, replicate, map, slice_set, get_or, refl}
use Rattle.std.specs.List.{AllZip, list_all}
use Rattle.dcc_num.specs.declared.FlagName.{FlagName}
use Rattle.dcc_num.specs.declared.FlagName.TheVariants.{Cf, Zf, Sf, Of}
use Rattle.dcc_ir.specs.declared.syntax.Loc.TheVariants.{Half, Flag, Cell, Temp}
use Rattle.dcc_ir.specs.Tree.{Expr, Stmt, Set, Fetch, Store, Div, Call, Dos, Block, Graph}
use Rattle.dcc_ir.specs.Run.{no_block}
use Rattle.dcc_ir.specs.Flow.{targets}
use Rattle.dcc_ir.specs.Live.{block_in}
use Rattle.dcc_ir.proofs.FitLaws.{both}
use Rattle.dcc_flags.specs.declared.kept.Kept.{Kept}
use Rattle.dcc_flags.specs.Folding.{is_kept, Choices, choice, with_choice, with_choices, taken, stmt_folded, stmts_folded, bare_block, block_folded, Folding, first_folding, given_to, fold_block, fold_blocks}
use Rattle.dcc_flags.proofs.MeetLaws.{by_kept}

-- each choice has the property
pub record Each (P : Expr → Type 0) (c : Choices) : Type 0 where
  pub cf : P c.cf
  pub zf : P c.zf
  pub sf : P c.sf
  pub of : P c.of

pub each_at : (P : Expr → Type 0) (c : Choices) → Each P c → (f : FlagName) → P (choice c f)
each_at P c h Cf = h.cf
each_at P c h Zf = h.zf
each_at P c h Sf = h.sf
each_at P c h Of = h.of

pub each_of : (P : Expr → Type 0) (c : Choices) → ((f : FlagName) → P (choice c f)) → Each P c
each_of P c h = record { cf = h Cf; zf = h Zf; sf = h Sf; of = h Of }

each_set : (P : Expr → Type 0) (c : Choices) (f : FlagName) (e : Expr) → Each P c → P e → Each P (with_choice c f e)
each_set P c Cf e h p = record { cf = p; zf = h.zf; sf = h.sf; of = h.of }
each_set P c Zf e h p = record { cf = h.cf; zf = p; sf = h.sf; of = h.of }
each_set P c Sf e h p = record { cf = h.cf; zf = h.zf; sf = p; of = h.of }
each_set P c Of e h p = record { cf = h.cf; zf = h.zf; sf = h.sf; of = p }

-- The value that is taken of a definition among fine statements has the property where each choice has it.
abbrev pub ValuesHave : (Expr → Type 0) → (Stmt → Bool) → Type 0
ValuesHave P fine =
    (bits : List ℕ) (c : Choices) (f : FlagName) (e : Expr) → fine (Set (Flag f) e) ≡ true → Each P c → P (taken bits (with_choices c e)).value

module _ (kept : Kept) (P : Expr → Type 0) (fine : Stmt → Bool) (value_has : ValuesHave P fine) where
  pub each_past : (bits : List ℕ) (c : Choices) (stmt : Stmt) → fine stmt ≡ true → Each P c → Each P (stmt_folded kept bits c stmt).choices
  each_past bits c (Set (Flag f) e) is h = go (is_kept kept f)
    where
      go : (b : Bool) → Each P (by_kept b bits c f (with_choices c e)).choices
      go true = h
      go false = each_set P c f (taken bits (with_choices c e)).value h (value_has bits c f e is h)
  each_past bits c (Set (Half r x) e) is h = h
  each_past bits c (Set (Cell n x) e) is h = h
  each_past bits c (Set (Temp n) e) is h = h
  each_past bits c (Fetch l w a) is h = h
  each_past bits c (Store w a e) is h = h
  each_past bits c (Div l e) is h = h
  each_past bits c (Call r n a d) is h = h
  each_past bits c (Dos n p a) is h = h

  pub each_end : (bits : List ℕ) (c : Choices) (stmts : List Stmt) → list_all fine stmts ≡ true → Each P c → Each P (stmts_folded kept bits c stmts).choices
  each_end bits c [] all h = h
  each_end bits c (stmt ∷ rest) all h =
      let parts = both (fine stmt) (list_all fine rest) all in
      let first = stmt_folded kept bits c stmt in
      each_end (bits ++ first.widths) first.choices rest parts.1 (each_past bits c stmt parts.0 h)

  -- each of the choices with which blocks begin
  abbrev AllGiven : List Choices → Type 0
  AllGiven [] = Unit {0}
  AllGiven (c ∷ cs) = Each P c × AllGiven cs

  given_first : (n : ℕ) (c : Choices) → Each P c → AllGiven (replicate n c)
  given_first zero c h = tt
  given_first (suc n) c h = (h, given_first n c h)

  given_set : (cs : List Choices) (i : ℕ) (c : Choices) → AllGiven cs → Each P c → AllGiven (slice_set cs i c)
  given_set [] i c all h = tt
  given_set (x ∷ cs) zero c all h = (h, all.1)
  given_set (x ∷ cs) (suc i) c all h = (all.0, given_set cs i c all.1 h)

  given_all : (c : Choices) (cs : List Choices) (places : List ℕ) → AllGiven cs → Each P c → AllGiven (given_to c cs places)
  given_all c cs [] all h = all
  given_all c cs (place ∷ places) all h = given_all c (slice_set cs place c) places (given_set cs place c all h) h

  given_at : (cs : List Choices) (i : ℕ) (none : Choices) → AllGiven cs → Each P none → Each P (get_or cs i none)
  given_at [] i none all h = h
  given_at (c ∷ cs) zero none all h = all.0
  given_at (c ∷ cs) (suc i) none all h = given_at cs i none all.1 h

  module _ (graph : Graph) (none : Choices) (none_has : Each P none) (Q : Block → Block → Type 0)
      (bare_is : (b : Block) → list_all fine b.stmts ≡ true → Q b (bare_block kept none b))
      (folded_is : (bits : List ℕ) (c : Choices) (b : Block) → list_all fine b.stmts ≡ true → Each P c → Q b (block_folded kept bits c b)) where
    abbrev ok : Block → Bool
    ok b = list_all fine b.stmts

    bare_all : (bs : List Block) → list_all ok bs ≡ true → AllZip Q bs (map (bare_block kept none) bs)
    bare_all [] all = tt
    bare_all (b ∷ bs) all = let parts = both (ok b) (list_all ok bs) all in (bare_is b parts.0, bare_all bs parts.1)

    ok_at : (bs : List Block) (i : ℕ) → list_all ok bs ≡ true → ok (get_or bs i no_block) ≡ true
    ok_at [] i all = refl
    ok_at (b ∷ bs) zero all = (both (ok b) (list_all ok bs) all).0
    ok_at (b ∷ bs) (suc i) all = ok_at bs i (both (ok b) (list_all ok bs) all).1

    one_set : (xs ys : List Block) (i : ℕ) (y : Block) → AllZip Q xs ys → Q (get_or xs i no_block) y → AllZip Q xs (slice_set ys i y)
    one_set [] [] i y all here = tt
    one_set [] (z ∷ ys) i y all here = absurd all
    one_set (x ∷ xs) [] i y all here = absurd all
    one_set (x ∷ xs) (z ∷ ys) zero y all here = (here, all.1)
    one_set (x ∷ xs) (z ∷ ys) (suc i) y all here = (all.0, one_set xs ys i y all.1 here)

    record Done (s : Folding) : Type 0 where
      blocks : AllZip Q graph.blocks s.blocks
      given : AllGiven s.given

    one_done : list_all ok graph.blocks ≡ true → (s : Folding) (place : ℕ) → Done s → Done (fold_block kept graph none s place)
    one_done all s place h =
        let b = block_in graph place in
        let c = get_or s.given place none in
        let here = given_at s.given place none h.given none_has in
        let fit : ok b ≡ true = ok_at graph.blocks place all in
        record {
          blocks = one_set graph.blocks s.blocks place (block_folded kept s.bits c b) h.blocks (folded_is s.bits c b fit here);
          given = given_all (stmts_folded kept s.bits c b.stmts).choices s.given (targets b.exit) h.given (each_end s.bits c b.stmts fit here);
        }

    all_done : list_all ok graph.blocks ≡ true → (s : Folding) (order : List ℕ) → Done s → Done (fold_blocks kept graph none s order)
    all_done all s [] h = h
    all_done all s (place ∷ order) h = all_done all (fold_block kept graph none s place) order (one_done all s place h)

    -- each block that is folded, or stands bare
    pub each_block : list_all ok graph.blocks ≡ true → (order : List ℕ) → AllZip Q graph.blocks (fold_blocks kept graph none (first_folding kept none graph) order).blocks
    each_block all order =
        (all_done all (first_folding kept none graph) order
        (record { blocks = bare_all graph.blocks all; given = given_first (length graph.blocks) none none_has })).blocks
