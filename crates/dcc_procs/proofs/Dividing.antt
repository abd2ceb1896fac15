-- Divisions in the order in which offsets were first reached: what is ready at each is so exactly where a division is
-- prepared there, since its sole predecessor was reached before.
use Rattle.std.proofs.Common.{◌≡◌, ◌≢◌, ◌<◌, ◌+◌, inl, inr, ℕ, zero, suc, Bool, true, false, ◌&&◌, ◌||◌, List, [], ◌∷◌, length, get_or, slice_set, Option, Some, None, refl, sym, ap, ◌∙◌, subst, arith}
use Rattle.std.proofs.lemmas.Bool.{cases_lt}
use Rattle.std.proofs.lemmas.List.{length-set, get_or_default, get_or-set_same, get_or-set_other}
use Rattle.std.proofs.lemmas.List.Elements.{Contains-get_or}
use Rattle.dcc_num.specs.declared.Width.{Width}
use Rattle.dcc_num.specs.declared.Width.TheVariants.{Byte as byte_width, Word as word_width}
use Rattle.dcc_machine.specs.declared.image.Image.{Image}
use Rattle.dcc_prog.specs.declared.procedure.Layout.{Layout}
use Rattle.dcc_machine.specs.declared.instr.Unary.{Unary}
use Rattle.dcc_machine.specs.declared.instr.Unary.TheVariants.{Div, Idiv}
use Rattle.dcc_machine.specs.declared.instr.Op.{Op}
use Rattle.dcc_machine.specs.declared.instr.Op.TheVariants.{Unary as UnaryOp}
use Rattle.dcc_machine.specs.Machine.{operand_width}
use Rattle.dcc_machine.specs.declared.instr.Instr.{Instr}
use Rattle.dcc_prog.specs.Trail.{instruction_in, StandsAt, IsTrail, IsNode, IsEdge, IsSolePredecessor, IsEntry}
use Rattle.dcc_machine.specs.Operations.{is_division}
use Rattle.dcc_prog.specs.Prepared.{prepares, keeps_dividend, IsPrepared, nearest, further, IsUnprepared}
use Rattle.dcc_prog.specs.Construct.{division as division_stands}
use Rattle.dcc_prog.specs.Refused.{IsRefusedByTrails, construct}
use Rattle.dcc_prog.specs.declared.refusal.Refusal.{Refusal}
use Rattle.dcc_procs.specs.declared.division.Ready.{Ready}
use Rattle.dcc_procs.specs.declared.known.Known.{Known}
use Rattle.dcc_procs.specs.Known.{told_after, told}
use Rattle.dcc_procs.specs.Search.{Covers, Tells, seen_at, AreAllSeen, IsOrder}
use Rattle.dcc_procs.specs.Division.{unready, is_for, ready_after, ready_from, ready_at, IsReady, FindsReady, LacksReady}

-- One operation.

-- after an operation a division is prepared: the operation prepares it, or keeps what is divided and the division was
-- prepared before
after-is :
    (op : Op) (ready : Ready) (division : Unary) (width : Width) → is_division division ≡ true
    → is_for (ready_after op ready) division width
    ≡ (prepares division width op || (keeps_dividend division width op && is_for ready division width))
after-is op ready Div byte_width is = refl
after-is op ready Div word_width is = refl
after-is op ready Idiv byte_width is = refl
after-is op ready Idiv word_width is = refl
after-is op ready division width is = cc

none-ready : (division : Unary) (width : Width) → is_division division ≡ true → is_for unready division width ≡ false
none-ready Div byte_width is = refl
none-ready Div word_width is = refl
none-ready Idiv byte_width is = refl
none-ready Idiv word_width is = refl
none-ready division width is = cc

-- what lacks it is a division
lacks-divides :
    (ready : Ready) (division : Unary) (width : Width) → is_for ready division width ≡ false
    → is_division division ≡ true
lacks-divides ready Div width e = refl
lacks-divides ready Idiv width e = refl
lacks-divides ready division width e = cc

-- one operation stands at an offset
stands-once :
    (image : Image) (layout : Layout) (at : ℕ) (instr : Instr) (op : Op) → instruction_in image layout at ≡ Some instr
    → StandsAt image layout at op → instr.op ≡ op
stands-once image layout at instr op found stands = let both = sym found ∙ stands.1 in let is = stands.2 in cc

module _ (image : Image) (layout : Layout) (entry : ℕ) (division : Unary) (width : Width) where
  -- the parts of a prepared division
  split-prepared : {at : ℕ} → IsPrepared image layout entry division width at
      → (from : ℕ) × (op : Op) × IsSolePredecessor image layout entry from at × StandsAt image layout from op
      ×
      ((keeps_dividend division width op ≡ true → ¬ IsPrepared image layout entry division width from) → prepares division width op ≡ true)
  split-prepared (nearest {from = from} {op = op} sole stands is) = (from, op, sole, stands, λ none. is)
  split-prepared (further {from = from} {op = op} sole stands keeps before) =
      (from, op, sole, stands, λ none. absurd (none keeps before))

  -- where nothing is ready before the sole predecessor and that prepares nothing, nothing is prepared
  unprepared-after :
      (from at : ℕ) (instr : Instr) → IsSolePredecessor image layout entry from at
      → instruction_in image layout from ≡ Some instr
      → prepares division width instr.op ≡ false
      → (keeps_dividend division width instr.op ≡ true → ¬ IsPrepared image layout entry division width from)
      → ¬ IsPrepared image layout entry division width at
  unprepared-after from at instr sole found idle none is =
      let parts = split-prepared is in
      let same : parts.0 ≡ from = sole.sole parts.0 parts.2.edge in
      let stands : StandsAt image layout from parts.1 = subst (λ n. StandsAt image layout n parts.1) same parts.3 in
      let op : instr.op ≡ parts.1 = stands-once image layout from instr parts.1 found stands in
      let prepared : prepares division width parts.1 ≡ true =
      parts.4
      (λ keeps before. none (ap (keeps_dividend division width) op ∙ keeps) (subst (λ n. IsPrepared image layout entry division width n) same before))
      in
      let clash = sym idle ∙ ap (prepares division width) op ∙ prepared in
      cc

or-cases : (a b c : Bool) → (a || (b && c)) ≡ true → (a ≡ true → ⊥) → (b ≡ true) × (c ≡ true)
or-cases true b c e none = absurd (none refl)
or-cases false true c e none = (refl, e)
or-cases false false c e none = cc

or-false : (a b c : Bool) → (a || (b && c)) ≡ false → (a ≡ false) × (b ≡ true → c ≡ false)
or-false true b c e = cc
or-false false true c e = (refl, λ t. e)
or-false false false c e = (refl, λ t. cc)

module _ (image : Image) (layout : Layout) (entry : ℕ) where
  -- ready before the sole predecessor, and so after it
  ready-onward : (from at : ℕ) (instr : Instr) (ready : Ready) → IsSolePredecessor image layout entry from at
      → instruction_in image layout from ≡ Some instr → IsReady image layout entry from ready
      → IsReady image layout entry at (ready_after instr.op ready)
  ready-onward from at instr ready sole found before = record {
    prepared =
        λ division width is so. by division width is (sym (after-is instr.op ready division width is) ∙ so)
        (prepares division width instr.op) refl;
    unprepared = λ division width is so.
        let parts =
        or-false (prepares division width instr.op) (keeps_dividend division width instr.op)
        (is_for ready division width) (sym (after-is instr.op ready division width is) ∙ so) in
        unprepared-after image layout entry division width from at instr sole found parts.0
        (λ keeps. before.unprepared division width is (parts.1 keeps));
  }
    where
      stands : StandsAt image layout from instr.op
      stands = (instr, found, refl)

      by : (division : Unary) (width : Width) → is_division division ≡ true
          →
          (prepares division width instr.op || (keeps_dividend division width instr.op && is_for ready division width))
          ≡ true
          → (b : Bool) → prepares division width instr.op ≡ b → IsPrepared image layout entry division width at
      by division width is so true e = nearest sole stands e
      by division width is so false e =
          let parts =
          or-cases (prepares division width instr.op) (keeps_dividend division width instr.op)
          (is_for ready division width) so (λ t. let clash = sym e ∙ t in cc) in
          further sole stands parts.0 (before.prepared division width is parts.1)

  -- without a sole predecessor nothing is
  ready-none :
      (at : ℕ) → ((from : ℕ) → ¬ IsSolePredecessor image layout entry from at) → IsReady image layout entry at unready
  ready-none at none = record {
    prepared = λ division width is so. let clash = sym (none-ready division width is) ∙ so in cc;
    unprepared = λ division width is so prepared.
        let parts = split-prepared image layout entry division width prepared in
        none parts.0 parts.2;
  }

  -- Sole predecessors.

  -- a trail tells the offset before its end
  told-from : (at other : ℕ) (before : List ℕ) → (told image layout at (other ∷ before)).from ≡ Some other
  told-from at other before =
      elim (instruction_in image layout other) as
      (λ found. (told_after other found at (told image layout other before)).from ≡ Some other) [
        | None ↦ refl
        | Some instr ↦ refl
      ]

  -- a trail that tells one comes from there
  edge-told :
      (at from : ℕ) (before : List ℕ) → IsTrail image layout entry (at ∷ before)
      → (told image layout at before).from ≡ Some from → IsEdge image layout entry from at
  edge-told at from [] trail e = let clash = e in cc
  edge-told at from (other ∷ before) trail e =
      let both = sym (told-from at other before) ∙ e in
      let same : other ≡ from = cc in
      record { before = before; trail = subst (λ n. IsTrail image layout entry (at ∷ n ∷ before)) same trail }

  -- a trail to an offset with a sole predecessor tells that
  sole-told :
      (at from : ℕ) (before : List ℕ) → IsSolePredecessor image layout entry from at
      → IsTrail image layout entry (at ∷ before) → (told image layout at before).from ≡ Some from
  sole-told at from [] sole trail = absurd (sole.inner trail)
  sole-told at from (other ∷ before) sole trail =
      told-from at other before ∙ ap Some (sole.sole other (record { before = before; trail = trail }))

  module _ (seen : List (Option Known)) (order : List ℕ) (all : AreAllSeen image layout entry seen)
      (o : IsOrder image layout entry seen order) where
    covered :
        (at : ℕ) (known : Known) (before : List ℕ) → seen_at seen at ≡ Some known
        → IsTrail image layout entry (at ∷ before) → Covers known (told image layout at before)
    covered at known before is trail = subst (λ s. Tells s (told image layout at before)) is (all.told at before trail)

    -- the offset from which all trails come is the sole predecessor
    from-sole :
        (at from : ℕ) (known : Known) → seen_at seen at ≡ Some known → known.from ≡ Some from
        → IsSolePredecessor image layout entry from at
    from-sole at from known is e =
        let t = (all.witnessed at known is).trail in
        record {
          edge = edge-told at from t.before t.trail (t.covers.from from e);
          sole = λ other edge.
              let both =
              sym (told-from at other edge.before)
              ∙ (covered at known (other ∷ edge.before) is edge.trail).from from e in
              cc;
          inner = λ same. let clash = (covered at known [] is same).from from e in cc;
        }

    -- where nothing is known of it there is none
    from-none :
        (at : ℕ) (known : Known) → seen_at seen at ≡ Some known → known.from ≡ None → (from : ℕ)
        → ¬ IsSolePredecessor image layout entry from at
    from-none at known is e from sole =
        let d = (all.witnessed at known is).from e in
        d.apart from (sole-told at from d.one.before sole d.one.trail)
        (sole-told at from d.other.before sole d.other.trail)

    -- What is ready at the offsets, in their order.

    -- the offset at a place of the order
    abbrev pub reached : ℕ → ℕ
    reached place = get_or order place 0

    -- what is ready at the first ones is so
    abbrev pub AreReady : ℕ → List Ready → Type 0
    AreReady place ready =
        (i : ℕ) → i < place → i < length order → IsReady image layout entry (reached i)
        (get_or ready (reached i) unready)

    -- the first reached offsets find what they need
    abbrev pub AreFine : ℕ → List Ready → Type 0
    AreFine place ready =
        (i : ℕ) → i < place → i < length order → FindsReady image layout (reached i)
        (get_or ready (reached i) unready)

    -- what is known at a node
    seen-known : (at : ℕ) → seen_at seen at ≢ None → (known : Known) × (seen_at seen at ≡ Some known)
    seen-known at some = by (seen_at seen at) refl
      where
        by : (k : Option Known) → seen_at seen at ≡ k → (known : Known) × (seen_at seen at ≡ Some known)
        by None e = absurd (some e)
        by (Some known) e = (known, e)

    reached-seen : (i : ℕ) → i < length order → seen_at seen (reached i) ≢ None
    reached-seen i inside = (o.every (reached i)).0 (Contains-get_or order i 0 inside)

    reached-node : (i : ℕ) → i < length order → IsNode image layout entry (reached i)
    reached-node i inside =
        let k = seen-known (reached i) (reached-seen i inside) in
        let t = (all.witnessed (reached i) k.0 k.1).trail in
        record { before = t.before; trail = t.trail }

    -- each node was reached
    node-reached : (at : ℕ) → IsNode image layout entry at → (i : ℕ) × (i < length order) × (reached i ≡ at)
    node-reached at node =
        let there =
        (o.every at).1
        (λ none. subst (λ s. Tells s (told image layout at node.before)) none (all.told at node.before node.trail))
        in
        (there.0, there.1, get_or_default order there.0 0 at there.1 ∙ there.2)

    pub ready-next :
        (place : ℕ) (ready : List Ready) (known : Option Known) → place < length order → AreReady place ready
        → seen_at seen (reached place) ≡ known → IsReady image layout entry (reached place)
        (ready_at image layout known ready)
    ready-next place ready None inside before e = absurd (reached-seen place inside e)
    ready-next place ready (Some known) inside before e = by known.from refl
      where
        by :
            (from : Option ℕ) → known.from ≡ from
            → IsReady image layout entry (reached place) (ready_from image layout from ready)
        by None f = ready-none (reached place) (from-none (reached place) known e f)
        by (Some from) f =
            let sole = from-sole (reached place) from known e f in
            let later : 0 < place = (elim place as (λ n. reached n ≡ reached place → n < length order → 0 < n) [
              | zero ↦ λ same some. absurd (sole.inner (sym {b = reached place} same ∙ o.first 0 some))
              | suc n ↦ λ same some. omega arith
            ]) refl inside in
            let earlier = o.earlier place 0 later inside in
            let short : earlier.0 < length order = (let less = earlier.1 in omega (arith, less, inside)) in
            let same : reached earlier.0 ≡ from = sole.sole (reached earlier.0) earlier.2 in
            let was : IsReady image layout entry from (get_or ready from unready) =
            subst (λ n. IsReady image layout entry n (get_or ready n unready)) same
            (before earlier.0 earlier.1 short) in
            let k = seen-known from (λ none. reached-seen earlier.0 short (ap (seen_at seen) same ∙ none)) in
            let a = all.accepted from k.0 k.1 in
            let onward = ready-onward from (reached place) a.0 (get_or ready from unready) sole a.1.found was in
            rw a.1.found onward

    module _ (place : ℕ) (ready : List Ready) (here : Ready) (inside : place < length order)
        (fits : reached place < length ready) where
      -- what was so at the others stays so
      others-stay :
          (i : ℕ) → i < place
          → get_or (slice_set ready (reached place) here) (reached i) unready ≡ get_or ready (reached i) unready
      others-stay i less =
          get_or-set_other ready (reached place) (reached i) here unready
          (λ same. o.distinct i place 0 less inside same)

      here-now : get_or (slice_set ready (reached place) here) (reached place) unready ≡ here
      here-now = get_or-set_same ready (reached place) here unready fits

      -- what holds of the first reached offsets holds of one more
      one-more :
          (P : ℕ → Ready → Type 0)
          → ((i : ℕ) → i < place → i < length order → P (reached i) (get_or ready (reached i) unready))
          → P (reached place) here
          → (i : ℕ) → i < place + 1 → i < length order → P (reached i)
          (get_or (slice_set ready (reached place) here) (reached i) unready)
      one-more P before is i less short = elim (cases_lt i place) [
        | inl earlier ↦ subst (P (reached i)) (sym (others-stay i earlier)) (before i earlier short)
        | inr later ↦
            let same : place ≡ i = omega (arith, less, later) in
            subst (λ k. P (reached k) (get_or (slice_set ready (reached place) here) (reached k) unready)) same
            (subst (P (reached place)) (sym here-now) is)
      ]

      pub ready-more :
          AreReady place ready → IsReady image layout entry (reached place) here
          → AreReady (place + 1) (slice_set ready (reached place) here)
      ready-more = one-more (IsReady image layout entry)

      pub fine-more :
          AreFine place ready → FindsReady image layout (reached place) here
          → AreFine (place + 1) (slice_set ready (reached place) here)
      fine-more = one-more (FindsReady image layout)

    -- at the end no division lacks what it needs
    pub all-prepared : (ready : List Ready) → AreFine (length order) ready → AreReady (length order) ready
        → (at : ℕ) → IsNode image layout entry at → ¬ IsUnprepared image layout entry at
    all-prepared ready fine are at node lacks =
        let r = node-reached at node in
        let stands : StandsAt image layout (reached r.0) (UnaryOp lacks.division lacks.operand) =
        subst (λ n. StandsAt image layout n (UnaryOp lacks.division lacks.operand)) (sym r.2) lacks.stands in
        let so = fine r.0 r.1 r.1 lacks.division lacks.operand stands in
        let prepared = (are r.0 r.1 r.1).prepared lacks.division (operand_width lacks.operand) lacks.divides so in
        lacks.unprepared
        (subst (λ n. IsPrepared image layout entry lacks.division (operand_width lacks.operand) n) r.2 prepared)

    -- one that lacks it is a construct
    pub lacks-refused :
        (place : ℕ) (here : Ready) (refusal : Refusal) → IsEntry image layout entry → place < length order
        → IsReady image layout entry (reached place) here → LacksReady image layout (reached place) here refusal
        → IsRefusedByTrails image layout refusal
    lacks-refused place here refusal is_entry inside is lacks =
        let divides = lacks-divides here lacks.operation (operand_width lacks.operand) lacks.not_ready in
        subst (IsRefusedByTrails image layout) (sym lacks.refusal_is) (construct (record {
          entry = entry;
          is_entry = is_entry;
          node = reached-node place inside;
          stands = division_stands (record {
            division = lacks.operation;
            operand = lacks.operand;
            stands = lacks.stands;
            divides = divides;
            unprepared = is.unprepared lacks.operation (operand_width lacks.operand) divides lacks.not_ready;
          });
        }))

-- the offsets at the first places were looked at
pub record Passed (image : Image) (layout : Layout) (entry : ℕ) (seen : List (Option Known)) (order : List ℕ)
    (place : ℕ) (ready : List Ready) : Type 0 where
  pub size : length ready ≡ 65536
  pub are_ready :
      (i : ℕ) → i < place → i < length order → IsReady image layout entry (get_or order i 0)
      (get_or ready (get_or order i 0) unready)
  pub are_fine :
      (i : ℕ) → i < place → i < length order → FindsReady image layout (get_or order i 0)
      (get_or ready (get_or order i 0) unready)

pub passed-none :
    (image : Image) (layout : Layout) (entry : ℕ) (seen : List (Option Known)) (order : List ℕ) (ready : List Ready)
    → length ready ≡ 65536 → Passed image layout entry seen order 0 ready
passed-none image layout entry seen order ready size = record {
  size = size;
  are_ready = λ i less. absurd (omega (arith, less));
  are_fine = λ i less. absurd (omega (arith, less));
}

module _ (image : Image) (layout : Layout) (entry : ℕ) (seen : List (Option Known)) (order : List ℕ)
    (all : AreAllSeen image layout entry seen) (o : IsOrder image layout entry seen order) (place : ℕ)
    (ready : List Ready) (passed : Passed image layout entry seen order place ready) (inside : place < length order)
  where
    -- what is ready at the next one
    pub next-ready :
        (known : Option Known) → seen_at seen (get_or order place 0) ≡ known
        → IsReady image layout entry (get_or order place 0) (ready_at image layout known ready)
    next-ready known e = ready-next image layout entry seen order all o place ready known inside passed.are_ready e

    -- the same as the code reads it
    pub ready-read : (i : ℕ) (here : Ready) → i ≡ get_or order place 0 → here ≡ ready_at image layout (seen_at seen i) ready
        → IsReady image layout entry (get_or order place 0) here
    ready-read i here is found =
        subst (IsReady image layout entry (get_or order place 0)) (sym found)
        (next-ready (seen_at seen i) (ap (λ n. seen_at seen n) (sym is)))

    pub passed-more :
        (here : Ready) → get_or order place 0 < 65536 → IsReady image layout entry (get_or order place 0) here
        → FindsReady image layout (get_or order place 0) here
        → Passed image layout entry seen order (place + 1) (slice_set ready (get_or order place 0) here)
    passed-more here below is fine =
        let fits : get_or order place 0 < length ready = (let size = passed.size in omega (arith, below, size)) in
        record {
          size = length-set ready (get_or order place 0) here ∙ passed.size;
          are_ready = ready-more image layout entry seen order all o place ready here inside fits passed.are_ready is;
          are_fine = fine-more image layout entry seen order all o place ready here inside fits passed.are_fine fine;
        }
