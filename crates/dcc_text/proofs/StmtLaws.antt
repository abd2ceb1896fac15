-- The law of statements: one step of the text does what a statement does.
use Rattle.std.proofs.Common.{◌≡◌, ℕ, ◌⊎◌, inl, inr, Bool, true, false, ◌==◌, ◌&&◌, List, [], ◌∷◌, ◌++◌, refl, sym, ap, ap₂, ◌∙◌, subst, true≢false}
use Rattle.std.specs.Prelude.{if◌then◌else◌, All, Contains}
use Rattle.std.proofs.lemmas.Bool.{and_parts, cases_Bool, eqb-true}
use Rattle.std.proofs.lemmas.List.Elements.{All-head, All-tail}
use Rattle.dcc_ir.specs.declared.syntax.Loc.{Loc}
use Rattle.dcc_ir.specs.declared.syntax.BinOp.{BinOp}
use Rattle.dcc_ir.specs.Fitting.{AreBytes}
use Rattle.dcc_ir.specs.Location.{location_width}
use Rattle.dcc_ir.specs.Tree as inner
use Rattle.dcc_ir.specs.Use.{exprs_of, writes_of, parts_of}
use Rattle.dcc_ir.specs.Value.{width_of, value_of, division_of, division_at, binary_value, Fits}
use Rattle.dcc_ir.specs.WellFormed.{is_stored_width, is_division, is_expr, is_expr_of, is_stmt, is_location, is_dividing}
use Rattle.dcc_ir.specs.Run as inner_run
use Rattle.dcc_c.specs.declared.syntax.CType.{CType}
use Rattle.dcc_c.specs.Tree as tree
use Rattle.dcc_c.specs.Tree.{Tree}
use Rattle.dcc_c.specs.Value.{Value, converted, Outcome, Gives, Divides, and_then, target_of, Scope}
use Rattle.dcc_c.specs.Value as text_value
use Rattle.dcc_c.specs.Run as text_run
use Rattle.dcc_text.specs.Spelling.{Spelling}
use Rattle.dcc_text.specs.Spelled.{Low, left_way, division_text, text}
use Rattle.dcc_text.specs.Stmts.{place_of, assigned, stmt_text}
use Rattle.dcc_text.specs.Holding.{Locations, Alike, IsSpelling, Holds, IsWithin, HoldsOrEnds}
use Rattle.dcc_text.specs.Laws.{StatementsStep}
use Rattle.dcc_text.proofs.Sizes.{Size, bit, byte, word, long, bits, size-of}
use Rattle.dcc_text.proofs.Ways.{Text}
use Rattle.dcc_text.proofs.Texts.{Shown, Stands, stands, stored-is, same-size, first-shown, later-shown, below-shown}
use Rattle.dcc_text.proofs.Operators.{faults}
use Rattle.dcc_text.proofs.DivisionTexts.{Divided, divided, division-some, division-none}
use Rattle.dcc_text.proofs.Assignments.{shown-within}
use Rattle.dcc_text.proofs.StmtSteps.{IsTaken, is-taken, scene_here, value-here, takes-step, typed-is, set-step, store-step}
use Rattle.dcc_text.proofs.DosSteps.{dos-step}

no-bit : (size : Size) → is_stored_width (bits size) ≡ true → (bits size == 1) ≡ false
no-bit bit stored = absurd (true≢false (sym stored))
no-bit byte stored = refl
no-bit word stored = refl
no-bit long stored = refl

-- a division that is well formed, for a location of so many bits
pub record Dividing (bits_at : List ℕ) (w : ℕ) (operator : BinOp) (width : ℕ) (a b : inner.Expr) : Type 0 where
  pub is : is_division operator ≡ true
  pub same : width ≡ w
  pub stored : is_stored_width width ≡ true
  pub left : is_expr bits_at a ≡ true
  pub left_width : width_of bits_at a ≡ width
  pub right : is_expr bits_at b ≡ true
  pub right_width : width_of bits_at b ≡ width

pub dividing-parts : (bits_at : List ℕ) (w : ℕ) (operator : BinOp) (width : ℕ) (a b : inner.Expr) → is_dividing bits_at w (inner.Binary operator width a b) ≡ true → Dividing bits_at w operator width a b
dividing-parts bits_at w operator width a b formed =
    let (four, second) = and_parts (is_division operator && (width == w) && is_stored_width w && is_expr_of bits_at w a) (is_expr_of bits_at w b) formed in
    let (three, first) = and_parts (is_division operator && (width == w) && is_stored_width w) (is_expr_of bits_at w a) four in
    let (two, stored) = and_parts (is_division operator && (width == w)) (is_stored_width w) three in
    let (is, same) = and_parts (is_division operator) (width == w) two in
    let width_is = eqb-true width w same in
    let (a_formed, a_width) = and_parts (is_expr bits_at a) (width_of bits_at a == w) first in
    let (b_formed, b_width) = and_parts (is_expr bits_at b) (width_of bits_at b == w) second in
    record {
      is = is;
      same = width_is;
      stored = subst (λ k. is_stored_width k ≡ true) (sym width_is) stored;
      left = a_formed;
      left_width = eqb-true (width_of bits_at a) w a_width ∙ sym width_is;
      right = b_formed;
      right_width = eqb-true (width_of bits_at b) w b_width ∙ sym width_is;
    }

module _ (s : Spelling) (whole : Tree) (Before After : Loc → Type 0) (AreAlike : List inner_run.Waiting → List text_run.Waiting → Type 0)
    (depth at : ℕ) (i : inner_run.State) (t : text_run.State) (spelling : IsSpelling s) (fits : Fits (inner_run.scene_of i)) (before : (l : Loc) → Before l → s.named l ≡ true)
    (h : Holds s Before AreAlike i t) where
  -- A Div.
  module _ (location : Loc) (operator : BinOp) (width : ℕ) (a b : inner.Expr) (named : s.named location ≡ true) (is : is_division operator ≡ true) (stored : is_stored_width width ≡ true)
      (place : location_width s.bits location ≡ width) (a_formed : is_expr s.bits a ≡ true) (a_width : width_of s.bits a ≡ width) (b_formed : is_expr s.bits b ≡ true) (b_width : width_of s.bits b ≡ width)
      (within : IsWithin s Before (inner.Binary operator width a b)) (left : (l : Loc) → After l → Contains (location ∷ []) l ⊎ Before l) where
    abbrev here : Scope
    here = text_run.scope_of whole t

    abbrev n : ℕ
    n = value_of (scene_here s whole Before After AreAlike at i t spelling fits before h) a

    abbrev m : ℕ
    m = value_of (scene_here s whole Before After AreAlike at i t spelling fits before h) b

    abbrev division : tree.Expr
    division = division_text operator width (text s (left_way operator Low width) true a) (text s (left_way operator Low width) true b)

    below : Shown s here i.running.values i.running.base i.memory (parts_of a ++ parts_of b)
    below = below-shown s here i.running.values i.running.base i.memory (inner.Binary operator width a b) (parts_of a ++ parts_of b) (shown-within s whole Before AreAlike i t h (inner.Binary operator width a b) within)

    left-stands : Stands s here i.running.values i.running.base i.memory a
    left-stands = stands s here i.running.values i.running.base i.memory h.memory fits.bytes a a_formed (first-shown s here i.running.values i.running.base i.memory (parts_of a) (parts_of b) below)

    right-stands : Stands s here i.running.values i.running.base i.memory b
    right-stands = stands s here i.running.values i.running.base i.memory h.memory fits.bytes b b_formed (later-shown s here i.running.values i.running.base i.memory (parts_of a) (parts_of b) below)

    module _ (size : Size) (width_is : width ≡ bits size) where
      stored-size : is_stored_width (bits size) ≡ true
      stored-size = subst (λ w. is_stored_width w ≡ true) width_is stored

      parts : Divided here operator size n m division
      parts =
          let way = left_way operator Low (bits size) in
          let x = subst (λ z. Text here way z n (text s way true a)) (same-size left-stands.size size (sym left-stands.width ∙ a_width ∙ width_is)) (left-stands.gives way true) in
          let y = subst (λ z. Text here way z m (text s way true b)) (same-size right-stands.size size (sym right-stands.width ∙ b_width ∙ width_is)) (right-stands.gives way true) in
          subst (λ w. Divided here operator size n m (division_text operator w (text s (left_way operator Low w) true a) (text s (left_way operator Low w) true b))) (sym width_is)
          (divided here operator size n m _ _ is stored-size x y)

      -- the division of the program
      inner-is : division_of (inner_run.scene_of i) (inner.Binary operator width a b) ≡ division_at operator (bits size) n m
      inner-is =
          ap₂ (division_at operator width) (sym (value-here s whole Before After AreAlike at i t spelling fits before h a)) (sym (value-here s whole Before After AreAlike at i t spelling fits before h b))
          ∙ ap (λ w. division_at operator w n m) width_is

      -- a value that faults, under a cast or not
      cast-divides : (c : Bool) (type : CType) (e : tree.Expr) → text_value.value_of here e ≡ Divides → text_value.value_of here (if c then tree.Cast type e else e) ≡ Divides
      cast-divides true type e fault = ap (and_then (λ v. Gives (converted type v))) fault
      cast-divides false type e fault = fault

      abbrev stmt : tree.Stmt
      stmt = tree.Assign (place_of s location) (assigned s location division)

      pub div-at : HoldsOrEnds s After AreAlike (inner_run.dividing location (division_of (inner_run.scene_of i) (inner.Binary operator width a b)) i) (text_run.stmt_step whole stmt at t)
      div-at = elim (cases_Bool (faults operator (bits size) n m)) [
        | inl fault ↦
            (let none = inner-is ∙ division-none operator (bits size) n m is fault in
            let stepped = ap (λ o. text_run.on o at t (λ v. text_run.on (target_of here (place_of s location)) at t (λ target. text_run.takes target v t)))
            (cast-divides (s.type location).pointer (s.type location) division (parts.faulting fault)) in
            subst (λ o. HoldsOrEnds s After AreAlike (inner_run.dividing location o i) (text_run.stmt_step whole stmt at t)) (sym none)
            (inr (refl, ap (λ u. u.end) stepped, ap (λ u. u.events) stepped ∙ h.events)))
        | inr safe ↦
            (let some = inner-is ∙ division-some operator (bits size) n m is safe in
            let there = place ∙ width_is in
            let taken = is-taken here Low size (s.settled location) _ division (parts.giving safe) (λ settled one. absurd (true≢false (sym one ∙ no-bit size stored-size)))
            (s.type location).base (s.type location).pointer (typed-is s whole Before After AreAlike at i t spelling fits before h location named (bits size) there) in
            subst (λ o. HoldsOrEnds s After AreAlike (inner_run.dividing location o i) (text_run.stmt_step whole stmt at t)) (sym some)
            (inl (takes-step s whole Before After AreAlike at i t spelling fits before h location (binary_value operator (bits size) n m) division named left
            (subst (λ w. IsTaken here w (s.settled location) (binary_value operator (bits size) n m) (s.type location) division) (sym there) taken))))
      ]

  -- Whichever statement it is.

  abbrev Steps : inner.Stmt → Type 0
  Steps stmt = HoldsOrEnds s After AreAlike (inner_run.stmt_step stmt i) (text_run.stmt_step whole (stmt_text s depth stmt) at t)

  div-step : (location : Loc) (e : inner.Expr) → is_dividing s.bits (location_width s.bits location) e ≡ true → s.named location ≡ true → IsWithin s Before e
      → ((l : Loc) → After l → Contains (location ∷ []) l ⊎ Before l) → Steps (inner.Div location e)
  div-step location (inner.Binary operator width a b) formed named within left =
      let x = dividing-parts s.bits (location_width s.bits location) operator width a b formed in
      let z = size-of width (stored-is width x.stored) in
      div-at location operator width a b named x.is x.stored (sym x.same) x.left x.left_width x.right x.right_width within left z.0 z.1
  div-step location e formed named within left = absurd (true≢false (sym formed))

  pub stmt-steps : (stmt : inner.Stmt) → is_stmt s.bits stmt ≡ true → inner_run.is_call stmt ≡ false → All (IsWithin s Before) (exprs_of stmt)
      → All (λ location. s.named location ≡ true) (writes_of stmt) → ((l : Loc) → After l → Contains (writes_of stmt) l ⊎ Before l) → AreBytes i.input → Steps stmt
  stmt-steps (inner.Set location e) formed no_call within written left are =
      let (place, of_width) = and_parts (is_location s.bits location) (is_expr_of s.bits (location_width s.bits location) e) formed in
      let (is, width) = and_parts (is_expr s.bits e) (width_of s.bits e == location_width s.bits location) of_width in
      inl (set-step s whole Before After AreAlike at i t spelling fits before h location e (All-head (λ location. s.named location ≡ true) location [] written) is
      (eqb-true (width_of s.bits e) (location_width s.bits location) width) (All-head (IsWithin s Before) e [] within) left)
  stmt-steps (inner.Fetch location width address) formed no_call within written left are =
      let (three, of_word) = and_parts (is_location s.bits location && is_stored_width width && (location_width s.bits location == width)) (is_expr_of s.bits 16 address) formed in
      let (two, same) = and_parts (is_location s.bits location && is_stored_width width) (location_width s.bits location == width) three in
      let (place, stored) = and_parts (is_location s.bits location) (is_stored_width width) two in
      let (is, address_width) = and_parts (is_expr s.bits address) (width_of s.bits address == 16) of_word in
      let x = All-head (IsWithin s Before) address [] within in
      inl (set-step s whole Before After AreAlike at i t spelling fits before h location (inner.Load width address) (All-head (λ location. s.named location ≡ true) location [] written)
      (ap₂ (λ a b. a && b) (ap₂ (λ a b. a && b) stored is) address_width) (sym (eqb-true (location_width s.bits location) width same))
      (record { reads = x.reads; addresses = x.addresses }) left)
  stmt-steps (inner.Store width address e) formed no_call within written left are =
      let (two, of_width) = and_parts (is_stored_width width && is_expr_of s.bits 16 address) (is_expr_of s.bits width e) formed in
      let (stored, of_word) = and_parts (is_stored_width width) (is_expr_of s.bits 16 address) two in
      let (is, address_width) = and_parts (is_expr s.bits address) (width_of s.bits address == 16) of_word in
      let (e_is, e_width) = and_parts (is_expr s.bits e) (width_of s.bits e == width) of_width in
      inl (store-step s whole Before After AreAlike at i t spelling fits before h width address e stored (stored-is width stored) is (eqb-true (width_of s.bits address) 16 address_width) e_is
      (eqb-true (width_of s.bits e) width e_width) (All-head (IsWithin s Before) address (e ∷ []) within) (All-head (IsWithin s Before) e [] (All-tail (IsWithin s Before) address (e ∷ []) within)) left)
  stmt-steps (inner.Div location e) formed no_call within written left are =
      let (place, dividing) = and_parts (is_location s.bits location) (is_dividing s.bits (location_width s.bits location) e) formed in
      div-step location e dividing (All-head (λ location. s.named location ≡ true) location [] written) (All-head (IsWithin s Before) e [] within) left
  stmt-steps (inner.Call results entry arguments own) formed no_call within written left are = absurd (true≢false no_call)
  stmt-steps (inner.Dos number place argument) formed no_call within written left are =
      dos-step s whole Before After AreAlike depth at i t spelling fits before h number place argument formed within written left are

pub statements-step : (Before After : Locations) (AreAlike : Alike) → StatementsStep Before After AreAlike
statements-step Before After AreAlike s whole stmt depth at i t spelling is fits are h =
    stmt-steps s whole Before After AreAlike depth at i t spelling fits is.named h stmt is.formed is.no_call is.within is.written is.left are
