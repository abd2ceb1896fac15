-- What is available along the chains of a graph is so by a right table.
use Rattle.std.proofs.Common.{◌≡◌, ℕ, zero, suc, Bool, true, List, [], ◌∷◌, ◌++◌, length, Some, refl, sym, ap, ap₂, ◌∙◌, subst, append_assoc, slice_get, arith, length-append, eqb-true, Contains}
use Rattle.std.specs.Prelude.{◌==◌, All}
use Rattle.std.specs.List.{list_all}
use Rattle.std.proofs.lemmas.List.{append-nil}
use Rattle.std.proofs.lemmas.List.Elements.{All-nil, All-cons, All-head, All-tail, All-append}
use Rattle.dcc_ir.specs.declared.syntax.Loc.{Loc}
use Rattle.dcc_ir.specs.Tree.{Expr, Get, Stmt, Block, Graph}
use Rattle.dcc_ir.specs.Location.{location_width}
use Rattle.dcc_ir.specs.Value.{width_of}
use Rattle.dcc_ir.specs.Use.{exprs_of}
use Rattle.dcc_ir.specs.Flow.{targets}
use Rattle.dcc_ir.specs.WellFormed.{is_location, is_expr, is_expr_of, is_stmt, is_exit, is_block, IsGraph}
use Rattle.dcc_ir.proofs.FitLaws.{both}
use Rattle.dcc_substitution.specs.Available.{is_of_locations, IsAvailableAfter, made, copied, left, AreRight, IsRight}
use Rattle.dcc_available.specs.Along.{after_all, nothing, along, edge, IsLead, begins, goes_on, IsAvailableAlong, chained}
use Rattle.dcc_available.proofs.TreeLaws.{IsFit, substitute-more, expr-formed, width-stays, takes, substitute-takes}

-- Statements one after another.

pub after-joined : (Before : Loc → Expr → Type 0) (xs ys : List Stmt) (l : Loc) (e : Expr) → after_all (after_all Before xs) ys l e → after_all Before (xs ++ ys) l e
after-joined Before [] ys l e h = h
after-joined Before (x ∷ xs) ys l e h = after-joined (IsAvailableAfter x Before) xs ys l e h

pub after-parted : (Before : Loc → Expr → Type 0) (xs ys : List Stmt) (l : Loc) (e : Expr) → after_all Before (xs ++ ys) l e → after_all (after_all Before xs) ys l e
after-parted Before [] ys l e h = h
after-parted Before (x ∷ xs) ys l e h = after-parted (IsAvailableAfter x Before) xs ys l e h

pub after-more : (Is More : Loc → Expr → Type 0) (stmt : Stmt) → ((l : Loc) (e : Expr) → Is l e → More l e) → (l : Loc) (e : Expr) → IsAvailableAfter stmt Is l e → IsAvailableAfter stmt More l e
after-more Is More stmt more l e (made {value = value} is sub apart) = made is (substitute-more Is More more value e sub) apart
after-more Is More stmt more l e (copied is same apart) = copied is same apart
after-more Is More stmt more l e (left held out reads leaves) = left (more l e held) out reads leaves

-- One more statement along a chain.

pub along-one : (history : List Stmt) (stmt : Stmt) (l : Loc) (e : Expr) → IsAvailableAfter stmt (along history) l e → along (history ++ stmt ∷ []) l e
along-one history stmt l e h = after-joined nothing history (stmt ∷ []) l e h

pub one-along : (history : List Stmt) (stmt : Stmt) (l : Loc) (e : Expr) → along (history ++ stmt ∷ []) l e → IsAvailableAfter stmt (along history) l e
one-along history stmt l e h = after-parted nothing history (stmt ∷ []) l e h

-- What holds of each assignment that is available.

-- it holds of what statements make available, where it holds of what was before
pub all-after : (P : Loc → Expr → Type 0) (Fine : Stmt → Type 0)
    → ((stmt : Stmt) → Fine stmt → (Before : Loc → Expr → Type 0) → ((l : Loc) (e : Expr) → Before l e → P l e) → (l : Loc) (e : Expr) → IsAvailableAfter stmt Before l e → P l e)
    → (stmts : List Stmt) → All Fine stmts → (Before : Loc → Expr → Type 0) → ((l : Loc) (e : Expr) → Before l e → P l e) → (l : Loc) (e : Expr) → after_all Before stmts l e → P l e
all-after P Fine step [] fine Before before l e h = before l e h
all-after P Fine step (stmt ∷ stmts) fine Before before l e h =
    all-after P Fine step stmts (All-tail Fine stmt stmts fine) (IsAvailableAfter stmt Before)
    (λ l' e' after. step stmt (All-head Fine stmt stmts fine) Before before l' e' after) l e h

module _ (bits : List ℕ) where
  abbrev IsFormed : Stmt → Type 0
  IsFormed stmt = is_stmt bits stmt ≡ true

  fit-after : (stmt : Stmt) → IsFormed stmt → (Before : Loc → Expr → Type 0) → ((l : Loc) (e : Expr) → Before l e → IsFit bits l e) → (l : Loc) (e : Expr) → IsAvailableAfter stmt Before l e → IsFit bits l e
  fit-after stmt formed Before before l e (made {value = value} is sub apart) =
      let here = subst IsFormed is formed in
      let parts = both (is_location bits l) (is_expr_of bits (location_width bits l) value) here in
      let inner = both (is_expr bits value) (width_of bits value == location_width bits l) parts.1 in
      record {
        location = parts.0;
        formed = expr-formed bits Before before value e sub inner.0;
        width = width-stays bits Before before value e sub ∙ eqb-true (width_of bits value) (location_width bits l) inner.1;
      }
  fit-after stmt formed Before before l e (copied {to = to} is same apart) =
      let here = subst IsFormed is formed in
      let parts = both (is_location bits to) (is_expr_of bits (location_width bits to) (Get l)) here in
      let inner = both (is_location bits l) (location_width bits l == location_width bits to) parts.1 in
      subst (IsFit bits l) (sym same) (record {
        location = inner.0;
        formed = parts.0;
        width = sym (eqb-true (location_width bits l) (location_width bits to) inner.1);
      })
  fit-after stmt formed Before before l e (left held out reads leaves) = before l e held

  pub along-fits : (history : List Stmt) → All IsFormed history → (l : Loc) (e : Expr) → along history l e → IsFit bits l e
  along-fits history formed l e h = all-after (IsFit bits) IsFormed fit-after history formed nothing (λ l' e' none. absurd none) l e h

module _ (test : ℕ → Bool) where
  abbrev pub TakesTested : Stmt → Type 0
  TakesTested stmt = list_all (takes test) (exprs_of stmt) ≡ true

  takes-after : (stmt : Stmt) → TakesTested stmt → (Before : Loc → Expr → Type 0) → ((l : Loc) (e : Expr) → Before l e → takes test e ≡ true) → (l : Loc) (e : Expr) → IsAvailableAfter stmt Before l e
      → takes test e ≡ true
  takes-after stmt tested Before before l e (made {value = value} is sub apart) =
      let here = subst TakesTested is tested in
      substitute-takes test Before before value e sub (both (takes test value) true here).0
  takes-after stmt tested Before before l e (copied {to = to} is same apart) = ap (takes test) same
  takes-after stmt tested Before before l e (left held out reads leaves) = before l e held

  pub along-takes : (history : List Stmt) → All TakesTested history → (l : Loc) (e : Expr) → along history l e → takes test e ≡ true
  along-takes history tested l e h = all-after (λ l' e'. takes test e' ≡ true) TakesTested takes-after history tested nothing (λ l' e' none. absurd none) l e h

-- Chains.

-- what holds of the statements of a graph's blocks, and of an edge, holds along its chains
pub all-lead : (P : Stmt → Type 0) → P edge → (graph : Graph) → ((place : ℕ) (block : Block) → slice_get graph.blocks place ≡ Some block → All P block.stmts)
    → (place : ℕ) (lead : List Stmt) → IsLead graph place lead → All P lead
all-lead P crossed graph holds place lead begins = All-nil P
all-lead P crossed graph holds place lead' (goes_on {from = from} {block = block} {lead = lead} only before) =
    All-append P lead (block.stmts ++ edge ∷ []) (all-lead P crossed graph holds from lead before)
    (All-append P block.stmts (edge ∷ []) (holds from block only.placed) (All-cons P edge [] crossed (All-nil P)))

-- what comes behind an edge was available before it, and is made of locations alone
pub edge-leaves : (Before : Loc → Expr → Type 0) (l : Loc) (e : Expr) → IsAvailableAfter edge Before l e → Before l e × (is_of_locations e ≡ true)
edge-leaves Before l e (made is sub apart) = absurd (cc)
edge-leaves Before l e (copied is same apart) = absurd (cc)
edge-leaves Before l e (left held out reads leaves) = (held, leaves)

-- no statements are left of those that begin with all
no-more : (xs ys : List Stmt) → ys ≡ xs ++ ys → xs ≡ []
no-more [] ys is = refl
no-more (x ∷ xs) ys is = absurd (omega (arith, ap length is ∙ length-append (x ∷ xs) ys))

same-front : (xs ys zs : List Stmt) → xs ++ zs ≡ ys ++ zs → xs ≡ ys
same-front [] ys zs is = sym (no-more ys zs is)
same-front (x ∷ xs) [] zs is = no-more (x ∷ xs) zs (sym is)
same-front (x ∷ xs) (y ∷ ys) zs is =
    let head : x ≡ y = cc in
    let tail : xs ++ zs ≡ ys ++ zs = cc in
    ap₂ (λ z zs'. z ∷ zs') head (same-front xs ys zs tail)

module _ (graph : Graph) (formed : IsGraph graph) where
  block-formed : (place : ℕ) (block : Block) → slice_get graph.blocks place ≡ Some block → All (IsFormed graph.bits) block.stmts
  block-formed place block found = stmts-of block.stmts (both (list_all (is_stmt graph.bits) block.stmts) (is_exit graph.bits (length graph.blocks) block.exit) (at-place graph.blocks place block found formed.blocks)).0
    where
      at-place : (blocks : List Block) (k : ℕ) (b : Block) → slice_get blocks k ≡ Some b → list_all (is_block graph.bits (length graph.blocks)) blocks ≡ true → is_block graph.bits (length graph.blocks) b ≡ true
      at-place [] k b at all = absurd (cc)
      at-place (x ∷ xs) zero b at all =
          let is : x ≡ b = cc in
          subst (λ y. is_block graph.bits (length graph.blocks) y ≡ true) is (both (is_block graph.bits (length graph.blocks) x) (list_all (is_block graph.bits (length graph.blocks)) xs) all).0
      at-place (x ∷ xs) (suc k) b at all = at-place xs k b at (both (is_block graph.bits (length graph.blocks) x) (list_all (is_block graph.bits (length graph.blocks)) xs) all).1

      stmts-of : (stmts : List Stmt) → list_all (is_stmt graph.bits) stmts ≡ true → All (IsFormed graph.bits) stmts
      stmts-of [] all = All-nil (IsFormed graph.bits)
      stmts-of (stmt ∷ stmts) all =
          let parts = both (is_stmt graph.bits stmt) (list_all (is_stmt graph.bits) stmts) all in
          All-cons (IsFormed graph.bits) stmt stmts parts.0 (stmts-of stmts parts.1)

  front-all : (P : Stmt → Type 0) (xs ys zs : List Stmt) → zs ≡ xs ++ ys → All P zs → All P xs
  front-all P [] ys zs is all = All-nil P
  front-all P (x ∷ xs) ys zs is all =
      let here = subst (All P) is all in
      All-cons P x xs (All-head P x (xs ++ ys) here) (front-all P xs ys (xs ++ ys) refl (All-tail P x (xs ++ ys) here))

  -- what holds of each statement of the graph, and of an edge, holds of what leads to a place
  pub all-led : (P : Stmt → Type 0) → P edge → ((place : ℕ) (block : Block) → slice_get graph.blocks place ≡ Some block → All P block.stmts)
      → (place : ℕ) (rest : List Stmt) (l : Loc) (e : Expr) (h : IsAvailableAlong graph place rest l e) → All P (h.lead ++ h.passed)
  all-led P crossed holds place rest l e h =
      All-append P h.lead h.passed (all-lead P crossed graph holds place h.lead h.leads) (front-all P h.passed rest h.block.stmts h.split (holds place h.block h.placed))

  pub chained-fits : (place : ℕ) (rest : List Stmt) (l : Loc) (e : Expr) → IsAvailableAlong graph place rest l e → IsFit graph.bits l e
  chained-fits place rest l e h =
      along-fits graph.bits (h.lead ++ h.passed) (all-led (IsFormed graph.bits) refl block-formed place rest l e h) l e h.told

  -- the same block, further on
  stmts-right : (place : ℕ) (block : Block) → slice_get graph.blocks place ≡ Some block → (passed rest : List Stmt) → block.stmts ≡ passed ++ rest → AreRight graph (chained graph) place rest
  stmts-right place block placed passed [] split = tt
  stmts-right place block placed passed (stmt ∷ rest) split =
      let further : block.stmts ≡ (passed ++ stmt ∷ []) ++ rest = split ∙ sym (append_assoc passed (stmt ∷ []) rest) in (
        λ l e h.
            let one : block ≡ h.block = some-same block h.block (sym placed ∙ h.placed) in
            let front : h.passed ≡ passed ++ stmt ∷ [] = same-front h.passed (passed ++ stmt ∷ []) rest (sym h.split ∙ sym (ap (λ (b : Block). b.stmts) one) ∙ further) in
            let history : h.lead ++ h.passed ≡ (h.lead ++ passed) ++ stmt ∷ [] = ap (λ xs. h.lead ++ xs) front ∙ sym (append_assoc h.lead passed (stmt ∷ [])) in
            after-more (along (h.lead ++ passed)) (chained graph place (stmt ∷ rest)) stmt
            (λ l' e' told. record { lead = h.lead; leads = h.leads; block = block; placed = placed; passed = passed; split = split; told = told })
            l e (one-along (h.lead ++ passed) stmt l e (subst (λ xs. along xs l e) history h.told)),
        stmts-right place block placed (passed ++ stmt ∷ []) rest further,
      )
    where
      some-same : (b c : Block) → Some b ≡ Some c → b ≡ c
      some-same b c is = cc

  -- what leads to a first place of no chain makes nothing available
  start-lead : (place : ℕ) (lead : List Stmt) → place ≡ 0 → IsLead graph place lead → lead ≡ []
  start-lead place lead zeroth begins = refl
  start-lead place lead' zeroth (goes_on only before) = absurd (only.later zeroth)

  goes-right : (place to : ℕ) (block next : Block) (l : Loc) (e : Expr) → slice_get graph.blocks place ≡ Some block → Contains (targets block.exit) to
      → (lead : List Stmt) → IsLead graph to lead → along lead l e → chained graph place [] l e × (is_of_locations e ≡ true)
  goes-right place to block next l e placed goes lead begins told = absurd told
  goes-right place to block next l e placed goes lead' (goes_on {from = from} {block = last} {lead = lead} only before) told =
      let is : place ≡ from = only.only place block placed goes in
      let same : block ≡ last = some-same block last (sym placed ∙ ap (slice_get graph.blocks) is ∙ only.placed) in
      let crossed = one-along (lead ++ last.stmts) edge l e (subst (λ xs. along xs l e) (sym (append_assoc lead last.stmts (edge ∷ []))) told) in
      let parts = edge-leaves (along (lead ++ last.stmts)) l e crossed in (
        record {
          lead = lead;
          leads = subst (λ n. IsLead graph n lead) (sym is) before;
          block = block;
          placed = placed;
          passed = block.stmts;
          split = sym (append-nil block.stmts);
          told = subst (λ (b : Block). along (lead ++ b.stmts) l e) (sym same) parts.0;
        },
        parts.1,
      )
    where
      some-same : (b c : Block) → Some b ≡ Some c → b ≡ c
      some-same b c is = cc

  pub chained-right : IsRight graph (chained graph)
  chained-right = record {
    start = λ block l e found h.
        let same : block ≡ h.block = cc-block block h.block (sym found ∙ h.placed) in
        let none : h.passed ≡ [] = no-more h.passed block.stmts (ap (λ (b : Block). b.stmts) same ∙ h.split) in
        let empty : h.lead ++ h.passed ≡ [] = ap₂ (λ xs ys. xs ++ ys) (start-lead 0 h.lead refl h.leads) none in
        subst (λ xs. along xs l e) empty h.told;
    stmts = λ place block found. stmts-right place block found [] block.stmts refl;
    goes = λ place to block next l e placed goes there h.
        let same : next ≡ h.block = cc-block next h.block (sym there ∙ h.placed) in
        let none : h.passed ≡ [] = no-more h.passed next.stmts (ap (λ (b : Block). b.stmts) same ∙ h.split) in
        let only : h.lead ++ h.passed ≡ h.lead = ap (λ xs. h.lead ++ xs) none ∙ append-nil h.lead in
        goes-right place to block next l e placed goes h.lead h.leads (subst (λ xs. along xs l e) only h.told);
    widths = λ place rest l e h. (chained-fits place rest l e h).width;
  }
    where
      cc-block : (b c : Block) → Some b ≡ Some c → b ≡ c
      cc-block b c is = cc
