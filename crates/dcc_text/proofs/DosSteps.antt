-- DOS calls, a step each.
use Rattle.std.proofs.Common.{◌≡◌, ℕ, ◌%◌, ◌^◌, ◌<◌, ◌⊎◌, inl, inr, Bool, true, false, ◌==◌, ◌&&◌, ◌||◌, List, [], ◌∷◌, ◌++◌, Some, None, refl, sym, ap, ◌∙◌, subst, true≢false, arith, mod-eq_of_lt}
use Rattle.std.specs.Prelude.{All, Contains, Option, option_to_list}
use Rattle.std.proofs.lemmas.Bool.{and_parts, or_cases, eqb-true}
use Rattle.std.proofs.lemmas.List.Elements.{All-head}
use Rattle.dcc_run.specs.Event.{Event, Wrote, Took, MetEnd, writes}
use Rattle.dcc_ir.specs.declared.syntax.Loc.{Loc}
use Rattle.dcc_ir.specs.Fitting.{AreBytes}
use Rattle.dcc_ir.specs.Location.{location_width}
use Rattle.dcc_ir.specs.Tree as inner
use Rattle.dcc_ir.specs.Value.{width_of, Fits}
use Rattle.dcc_ir.specs.WellFormed.{is_expr, is_expr_of, is_dos, is_byte_place, is_location}
use Rattle.dcc_ir.specs.Dos.{dos_string}
use Rattle.dcc_ir.specs.Run as inner_run
use Rattle.dcc_c.specs.declared.syntax.Base.{Base}
use Rattle.dcc_c.specs.declared.syntax.Base.TheVariants.{Uchar, Uint}
use Rattle.dcc_c.specs.Types.{bits_of, extended_bits, plain}
use Rattle.dcc_c.specs.Dos.{Putc, Puts, Leave, string_at}
use Rattle.dcc_c.specs.Tree as tree
use Rattle.dcc_c.specs.Tree.{Tree}
use Rattle.dcc_c.specs.Value.{number, converted, Gives, and_then, ToVariable}
use Rattle.dcc_c.specs.Run as text_run
use Rattle.dcc_text.specs.Spelling.{Spelling}
use Rattle.dcc_text.specs.Spelled.{Low, text}
use Rattle.dcc_text.specs.Stmts.{place_of, stmt_text}
use Rattle.dcc_text.specs.Holding.{IsSpelling, Holds, IsWithin, HoldsOrEnds}
use Rattle.dcc_text.proofs.Sizes.{Size, byte, word, bits}
use Rattle.dcc_text.proofs.Parts.{low-extended}
use Rattle.dcc_text.proofs.Assignments.{held-after, target-is}
use Rattle.dcc_text.proofs.StmtSteps.{string-is, type-bits, stands-here, value-here, left-of, typed-is, frame-left}

module _ (s : Spelling) (whole : Tree) (Before After : Loc → Type 0) (AreAlike : List inner_run.Waiting → List text_run.Waiting → Type 0)
    (depth at : ℕ) (i : inner_run.State) (t : text_run.State) (spelling : IsSpelling s) (fits : Fits (inner_run.scene_of i)) (before : (l : Loc) → Before l → s.named l ≡ true)
    (h : Holds s Before AreAlike i t) where
  -- what an argument is in the type of its parameter
  argument-is : (size : Size) (base : Base) (e : inner.Expr) → bits_of base ≡ bits size → is_expr s.bits e ≡ true → width_of s.bits e ≡ bits size → IsWithin s Before e
      → text_run.arguments_of (text_run.scope_of whole t) (plain base ∷ []) (text s Low false e ∷ []) ≡ Gives (number base (inner_run.value_in i e) ∷ [])
  argument-is size base e room formed width within =
      let x = stands-here s whole Before After AreAlike at i t spelling fits before h e formed within in
      let low = x.gives Low false in
      ap (and_then (λ v. Gives (converted (plain base) v ∷ []))) low.number_is.valued
      ∙ ap (λ n. Gives (number base n ∷ []))
      (ap (λ w. extended_bits low.base low.k % 2 ^ w) (room ∙ sym width ∙ x.width) ∙ low-extended (text_run.scope_of whole t) x.size _ _ low
      ∙ value-here s whole Before After AreAlike at i t spelling fits before h e)

  -- events happen on both sides
  with-events : (events : List Event) → ((l : Loc) → After l → Contains [] l ⊎ Before l) → Holds s After AreAlike (inner_run.happening events i) (text_run.with_events events t)
  with-events events left = record {
    frame = frame-left s whole Before After AreAlike at i t spelling fits before h left;
    waiting = h.waiting;
    memory = h.memory;
    input = h.input;
    events = ap (λ es. es ++ events) h.events;
    end = h.end;
  }

  abbrev call : inner.Expr → ℕ → tree.Stmt
  call e number = stmt_text s depth (inner.Dos number None (Some e))

  module _ (e : inner.Expr) (formed : is_expr s.bits e ≡ true) (within : IsWithin s Before e) (left : (l : Loc) → After l → Contains [] l ⊎ Before l) where
    pub putc-step : width_of s.bits e ≡ 8 → HoldsOrEnds s After AreAlike (inner_run.stmt_step (inner.Dos 0x02 None (Some e)) i) (text_run.stmt_step whole (stmt_text s depth (inner.Dos 0x02 None (Some e))) at t)
    putc-step width =
        inl (subst (Holds s After AreAlike (inner_run.writing (inner_run.value_in i e ∷ []) i))
        (sym (ap (λ o. text_run.on o at t (λ vs. text_run.dos_step Putc None vs at t)) (argument-is byte Uchar e refl formed width within)))
        (with-events (writes (inner_run.value_in i e ∷ [])) left))

    pub exit-step : width_of s.bits e ≡ 8 → HoldsOrEnds s After AreAlike (inner_run.stmt_step (inner.Dos 0x4C None (Some e)) i) (text_run.stmt_step whole (stmt_text s depth (inner.Dos 0x4C None (Some e))) at t)
    exit-step width =
        let stepped = ap (λ o. text_run.on o at t (λ vs. text_run.dos_step Leave None vs at t)) (argument-is byte Uchar e refl formed width within) in
        inr (refl, ap (λ u. u.end) stepped, ap (λ u. u.events) stepped ∙ h.events)

    pub puts-step : width_of s.bits e ≡ 16 → HoldsOrEnds s After AreAlike (inner_run.stmt_step (inner.Dos 0x09 None (Some e)) i) (text_run.stmt_step whole (stmt_text s depth (inner.Dos 0x09 None (Some e))) at t)
    puts-step width =
        inl (subst (Holds s After AreAlike (inner_run.writing (dos_string i.memory (inner_run.value_in i e)) i))
        (sym (ap (λ o. text_run.on o at t (λ vs. text_run.dos_step Puts None vs at t)) (argument-is word Uint e refl formed width within)
        ∙ ap (λ bytes. text_run.with_events (writes bytes) t) (ap (λ m. string_at m (inner_run.value_in i e)) h.memory ∙ string-is i.memory (inner_run.value_in i e))))
        (with-events (writes (dos_string i.memory (inner_run.value_in i e))) left))

  -- Keys.

  -- the events and what is left of the input
  key-held : (events : List Event) (rest : List ℕ) → Holds s Before AreAlike (inner_run.happening events (record i { input = rest })) (text_run.with_events events (record t { input = rest }))
  key-held events rest = record { frame = h.frame; waiting = h.waiting; memory = h.memory; input = refl; events = ap (λ es. es ++ events) h.events; end = h.end }

  end-held : (events : List Event) → Holds s Before AreAlike (inner_run.happening events i) (text_run.with_events events t)
  end-held events = record { frame = h.frame; waiting = h.waiting; memory = h.memory; input = h.input; events = ap (λ es. es ++ events) h.events; end = h.end }

  -- a byte in the type of a location's variable
  byte-taken : (location : Loc) → s.named location ≡ true → location_width s.bits location ≡ 8 → (n : ℕ) → n < 256 → (converted (s.type location) (number Uchar n)).bits ≡ n
  byte-taken location named width n small =
      ap (λ w. n % 2 ^ w) (type-bits 8 (s.type location).base (s.type location).pointer (typed-is s whole Before After AreAlike at i t spelling fits before h location named 8 width)) ∙ mod-eq_of_lt small

  module _ (location : Loc) (named : s.named location ≡ true) (width : location_width s.bits location ≡ 8) (left : (l : Loc) → After l → Contains (location ∷ []) l ⊎ Before l) where
    -- the location takes the byte, once the input and the events stand
    key-taken : (i' : inner_run.State) (t' : text_run.State) → Holds s Before AreAlike i' t' → (n : ℕ) → n < 256
        → Holds s After AreAlike (inner_run.setting location n i') (text_run.takes (ToVariable (s.name location)) (number Uchar n) t')
    key-taken i' t' h' n small =
        let same = byte-taken location named width n small in
        held-after s whole Before AreAlike i' t' h' spelling After location named (left-of s whole Before After AreAlike at i t spelling fits before h location left) before (number Uchar n) n
        (ap (λ k. k % 2 ^ location_width s.bits location) same ∙ ap (λ w. n % 2 ^ w) width ∙ mod-eq_of_lt small) (λ settled. same)

    into-step : (echo : Bool) (input : List ℕ) → AreBytes input → Holds s After AreAlike (inner_run.keyed echo (Some location) input i) (text_run.key_step echo input (Some (ToVariable (s.name location))) at t)
    into-step echo [] are = key-taken _ _ (end-held (MetEnd ∷ [])) 0x1A (omega arith)
    into-step true (b ∷ rest) are = key-taken _ _ (key-held (Took b ∷ Wrote b ∷ []) rest) b (All-head (λ n. n < 256) b rest are)
    into-step false (b ∷ rest) are = key-taken _ _ (key-held (Took b ∷ []) rest) b (All-head (λ n. n < 256) b rest are)

    target-of-result : text_run.result_target (text_run.scope_of whole t) (Some (place_of s location)) ≡ Gives (Some (ToVariable (s.name location)))
    target-of-result = ap (and_then (λ target. Gives (Some target))) (target-is s whole Before AreAlike i t h location named)

    pub getche-step : AreBytes i.input → HoldsOrEnds s After AreAlike (inner_run.stmt_step (inner.Dos 0x01 (Some location) None) i) (text_run.stmt_step whole (stmt_text s depth (inner.Dos 0x01 (Some location) None)) at t)
    getche-step are =
        inl (subst (Holds s After AreAlike (inner_run.keyed true (Some location) i.input i))
        (sym (ap (λ o. text_run.on o at t (λ target. text_run.key_step true t.input target at t)) target-of-result
        ∙ ap (λ input. text_run.key_step true input (Some (ToVariable (s.name location))) at t) h.input))
        (into-step true i.input are))

    pub getch-step : AreBytes i.input → HoldsOrEnds s After AreAlike (inner_run.stmt_step (inner.Dos 0x08 (Some location) None) i) (text_run.stmt_step whole (stmt_text s depth (inner.Dos 0x08 (Some location) None)) at t)
    getch-step are =
        inl (subst (Holds s After AreAlike (inner_run.keyed false (Some location) i.input i))
        (sym (ap (λ o. text_run.on o at t (λ target. text_run.key_step false t.input target at t)) target-of-result
        ∙ ap (λ input. text_run.key_step false input (Some (ToVariable (s.name location))) at t) h.input))
        (into-step false i.input are))

  -- a key that goes nowhere
  module _ (left : (l : Loc) → After l → Contains [] l ⊎ Before l) where
    lost-step : (echo : Bool) (input : List ℕ) → Holds s After AreAlike (inner_run.keyed echo None input i) (text_run.key_step echo input None at t)
    lost-step echo [] = with-events (MetEnd ∷ []) left
    lost-step true (b ∷ rest) = (let k = key-held (Took b ∷ Wrote b ∷ []) rest in record { frame = frame-left s whole Before After AreAlike at i t spelling fits before h left; waiting = k.waiting; memory = k.memory; input = k.input; events = k.events; end = k.end })
    lost-step false (b ∷ rest) = (let k = key-held (Took b ∷ []) rest in record { frame = frame-left s whole Before After AreAlike at i t spelling fits before h left; waiting = k.waiting; memory = k.memory; input = k.input; events = k.events; end = k.end })

    pub lost-getche : HoldsOrEnds s After AreAlike (inner_run.stmt_step (inner.Dos 0x01 None None) i) (text_run.stmt_step whole (stmt_text s depth (inner.Dos 0x01 None None)) at t)
    lost-getche = inl (subst (Holds s After AreAlike (inner_run.keyed true None i.input i)) (sym (ap (λ input. text_run.key_step true input None at t) h.input)) (lost-step true i.input))

    pub lost-getch : HoldsOrEnds s After AreAlike (inner_run.stmt_step (inner.Dos 0x08 None None) i) (text_run.stmt_step whole (stmt_text s depth (inner.Dos 0x08 None None)) at t)
    lost-getch = inl (subst (Holds s After AreAlike (inner_run.keyed false None i.input i)) (sym (ap (λ input. text_run.key_step false input None at t) h.input)) (lost-step false i.input))

  -- Whichever call it is.

  abbrev Steps : ℕ → Option Loc → Option inner.Expr → Type 0
  Steps number place argument =
      HoldsOrEnds s After AreAlike (inner_run.stmt_step (inner.Dos number place argument) i) (text_run.stmt_step whole (stmt_text s depth (inner.Dos number place argument)) at t)

  key-numbers : (number : ℕ) (rest : Bool) → ((number == 0x01 || number == 0x08) && rest) ≡ true → (number ≡ 0x01) ⊎ (number ≡ 0x08)
  key-numbers number rest formed = elim (or_cases (number == 0x01) (number == 0x08) (and_parts (number == 0x01 || number == 0x08) rest formed).0) [
    | inl one ↦ inl (eqb-true number 0x01 one)
    | inr eight ↦ inr (eqb-true number 0x08 eight)
  ]

  pub dos-step : (number : ℕ) (place : Option Loc) (argument : Option inner.Expr) → is_dos s.bits number place argument ≡ true → All (IsWithin s Before) (option_to_list argument)
      → All (λ location. s.named location ≡ true) (option_to_list place) → ((l : Loc) → After l → Contains (option_to_list place) l ⊎ Before l) → AreBytes i.input → Steps number place argument
  dos-step number None (Some e) formed within written left are = elim (or_cases ((number == 0x02 || number == 0x4C) && is_expr_of s.bits 8 e) ((number == 0x09) && is_expr_of s.bits 16 e) formed) [
    | inl byte_call ↦
        (let (which, of_byte) = and_parts (number == 0x02 || number == 0x4C) (is_expr_of s.bits 8 e) byte_call in
        let (is, width) = and_parts (is_expr s.bits e) (width_of s.bits e == 8) of_byte in
        elim (or_cases (number == 0x02) (number == 0x4C) which) [
          | inl two ↦ subst (λ k. Steps k None (Some e)) (sym (eqb-true number 0x02 two)) (putc-step e is (All-head (IsWithin s Before) e [] within) left (eqb-true (width_of s.bits e) 8 width))
          | inr leave ↦ subst (λ k. Steps k None (Some e)) (sym (eqb-true number 0x4C leave)) (exit-step e is (All-head (IsWithin s Before) e [] within) left (eqb-true (width_of s.bits e) 8 width))
        ])
    | inr word_call ↦
        (let (which, of_word) = and_parts (number == 0x09) (is_expr_of s.bits 16 e) word_call in
        let (is, width) = and_parts (is_expr s.bits e) (width_of s.bits e == 16) of_word in
        subst (λ k. Steps k None (Some e)) (sym (eqb-true number 0x09 which)) (puts-step e is (All-head (IsWithin s Before) e [] within) left (eqb-true (width_of s.bits e) 16 width)))
  ]
  dos-step number None None formed within written left are = elim (key-numbers number _ formed) [
    | inl one ↦ subst (λ k. Steps k None None) (sym one) (lost-getche left)
    | inr eight ↦ subst (λ k. Steps k None None) (sym eight) (lost-getch left)
  ]
  dos-step number (Some location) None formed within written left are =
      let place = and_parts (is_location s.bits location) (location_width s.bits location == 8) (and_parts (number == 0x01 || number == 0x08) (is_byte_place s.bits (Some location)) formed).1 in
      let width = eqb-true (location_width s.bits location) 8 place.1 in
      let named = All-head (λ location. s.named location ≡ true) location [] written in
      elim (key-numbers number _ formed) [
        | inl one ↦ subst (λ k. Steps k (Some location) None) (sym one) (getche-step location named width left are)
        | inr eight ↦ subst (λ k. Steps k (Some location) None) (sym eight) (getch-step location named width left are)
      ]
  dos-step number (Some location) (Some e) formed within written left are = absurd (true≢false (sym formed))
