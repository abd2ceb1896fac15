-- The instructions that are refused for what they access or pass, and that no others are.
use Rattle.std.proofs.Common.{◌≡◌, ◌⊎◌, inl, inr, ◌<◌, ℕ, ◌+◌, ◌-◌, ◌*◌, ◌==◌, ℤ, pos, ◌-ℤ◌, ◌≤ℤ◌, ◌<ℤ◌, Bool, true, false, not, cond, ◌&&◌, ◌||◌, All, Contains, Option, Some, None, refl, sym, ap, ◌∙◌, subst, true≢false, arith}
use Rattle.std.specs.Prelude.{int_le, if◌then◌else◌}
use Rattle.std.proofs.lemmas.Int.{ints}
use Rattle.std.proofs.lemmas.Bool.{cases_lt}
use Rattle.std.proofs.lemmas.Bool.Decides.{Decides-eqb}
use Rattle.std.proofs.lemmas.List.Elements.{All-contains}
use Rattle.dcc_machine.specs.declared.image.Image.{Image}
use Rattle.dcc_prog.specs.declared.procedure.Layout.{Layout}
use Rattle.dcc_machine.specs.declared.instr.Op.TheVariants.{Call}
use Rattle.dcc_prog.specs.declared.refusal.FrameFault.TheVariants.{AccessOutside, AddressOutside, NoAddress}
use Rattle.dcc_prog.specs.Trail.{StandsAt, IsNode, called}
use Rattle.dcc_prog.specs.FrameForm.{is_framed}
use Rattle.dcc_prog.specs.Height.{HasHeight}
use Rattle.dcc_prog.specs.Frame.{Span, span_of, IsDirectAccess, StartsExposure, IsOutsideFrame, LacksAddresses, HasBadAccess, access_outside, start_outside, no_addresses, IsShortCall}
use Rattle.dcc_prog.proofs.FrameLaws.{arguments-once}
use Rattle.dcc_frames.specs.declared.bytes.Bytes.{Bytes}
use Rattle.dcc_frames.specs.declared.steps.Step.{Step}
use Rattle.dcc_frames.specs.declared.body.Body.{Body}
use Rattle.dcc_frames.specs.Bytes.{as_span, as_bytes, is_between}
use Rattle.dcc_frames.specs.Used.{access_of, start_of}
use Rattle.dcc_frames.specs.Inside.{passes, is_inside, byte_from, has_access_inside, has_start_inside, is_allowed, fault_in, own_of, passed_of, has_words}
use Rattle.dcc_frames.specs.Ready.{lacks_addresses}
use Rattle.dcc_frames.specs.Body.{IsStep, IsBody, HasCounts}
use Rattle.dcc_frames.proofs.Told.{access-told, access-tells, start-told, start-tells}
use Rattle.dcc_frames.proofs.StepLists.{at-node}
use Rattle.dcc_frames.proofs.PieceLaws.{call-count, is-passing}

-- Tests.

and-cases : (a b : Bool) → a && b ≡ false → (a ≡ false) ⊎ ((a ≡ true) × (b ≡ false))
and-cases true b e = inr (refl, e)
and-cases false b e = inl refl

and-both : (a b : Bool) → a && b ≡ true → (a ≡ true) × (b ≡ true)
and-both true b e = (refl, e)
and-both false b e = absurd (true≢false (sym e))

or-cases : (a b : Bool) → a || b ≡ true → (a ≡ true) ⊎ (b ≡ true)
or-cases true b e = inl refl
or-cases false b e = inr e

or-right : (a b : Bool) → b ≡ true → a || b ≡ true
or-right true b e = refl
or-right false b e = e

between-told : (bytes : Bytes) (low high : ℤ) → is_between bytes low high ≡ true
    → (low ≤ℤ bytes.first) × (bytes.end ≤ℤ high)
between-told bytes low high e =
    let both = and-both (int_le low bytes.first) (int_le bytes.end high) e in
    (let a = both.0 in grind (arith, ints, a), let b = both.1 in grind (arith, ints, b))

between-tells : (bytes : Bytes) (low high : ℤ) → low ≤ℤ bytes.first → bytes.end ≤ℤ high
    → is_between bytes low high ≡ true
between-tells bytes low high a b =
    let first : int_le low bytes.first ≡ true = grind (arith, ints, a) in
    let second : int_le bytes.end high ≡ true = grind (arith, ints, b) in
    ap (λ x. x && int_le bytes.end high) first ∙ second

-- wholly in the arguments, or between SP and BP
pub data LiesInside (args height : ℕ) (bytes : Bytes) : Type 0 where
  in_arguments : pos 4 ≤ℤ bytes.first → bytes.end ≤ℤ pos (4 + 2 * args) → LiesInside args height bytes
  in_locals : (pos 2 -ℤ pos height) ≤ℤ bytes.first → bytes.end ≤ℤ pos 0 → LiesInside args height bytes

pub inside-told : (args height : ℕ) (bytes : Bytes) → is_inside args height bytes ≡ true → LiesInside args height bytes
inside-told args height bytes e =
    elim (or-cases (is_between bytes (pos 4) (pos (4 + 2 * args))) (is_between bytes (pos 2 -ℤ pos height) (pos 0)) e) [
      | inl a ↦ (let b = between-told bytes (pos 4) (pos (4 + 2 * args)) a in in_arguments b.0 b.1)
      | inr a ↦ (let b = between-told bytes (pos 2 -ℤ pos height) (pos 0) a in in_locals b.0 b.1)
    ]

inside-tells : (args height : ℕ) (bytes : Bytes) → LiesInside args height bytes → is_inside args height bytes ≡ true
inside-tells args height bytes (in_arguments low high) =
    ap (λ b. b || is_between bytes (pos 2 -ℤ pos height) (pos 0))
    (between-tells bytes (pos 4) (pos (4 + 2 * args)) low high)
inside-tells args height bytes (in_locals low high) =
    or-right (is_between bytes (pos 4) (pos (4 + 2 * args))) (is_between bytes (pos 2 -ℤ pos height) (pos 0))
    (between-tells bytes (pos 2 -ℤ pos height) (pos 0) low high)

passing : {A : Type 0} (test : A → Bool) (o : Option A) (x : A) → o ≡ Some x → passes test o ≡ true → test x ≡ true
passing test o x is e = sym (ap (passes test) is) ∙ e

failing : {A : Type 0} (test : A → Bool) (o : Option A) → passes test o ≡ false
    → (x : A) × (o ≡ Some x) × (test x ≡ false)
failing test None e = absurd (true≢false e)
failing test (Some x) e = (x, refl, e)

module _ (image : Image) (layout : Layout) (body : Body) (is : IsBody image layout body) (delta : ℕ)
    (delta_is : delta ≡ layout.delta) where
  pub lacks-told : lacks_addresses delta body.framed ≡ true → LacksAddresses image layout body.entry
  lacks-told e = elim (or-cases (not (delta == 0)) (not body.framed) e) [
    | inl apart ↦
        inl (λ none. true≢false (sym apart ∙ ap not ((Decides-eqb delta 0).1 (delta_is ∙ none))))
    | inr unframed ↦ inr (sym is.framed ∙ by body.framed unframed)
  ]
    where
      by : (b : Bool) → not b ≡ true → b ≡ false
      by true e = absurd (true≢false (sym e))
      by false e = refl

  pub lacks-tells : LacksAddresses image layout body.entry → lacks_addresses delta body.framed ≡ true
  lacks-tells (inl apart) = by (delta == 0) refl
    where
      by : (b : Bool) → (delta == 0) ≡ b → lacks_addresses delta body.framed ≡ true
      by true e = absurd (apart (sym delta_is ∙ (Decides-eqb delta 0).0 e))
      by false e = ap (λ b. not b || not body.framed) e
  lacks-tells (inr unframed) = or-right (not (delta == 0)) (not body.framed) (ap not (is.framed ∙ unframed))

  outside :
      (height : ℕ) (bytes : Bytes) → is_inside body.args height bytes ≡ false
      → IsOutsideFrame image layout body.entry (pos height) (as_span bytes)
  outside height bytes e = record {
    count = body.args;
    arguments = is.arguments;
    no_argument = λ lies. true≢false (sym (inside-tells body.args height bytes (in_arguments lies.0 lies.1)) ∙ e);
    no_local = λ lies. true≢false (sym (inside-tells body.args height bytes (in_locals lies.0 lies.1)) ∙ e);
  }

  not-outside :
      (height : ℤ) (number : ℕ) (bytes : Bytes) → height ≡ pos number → is_inside body.args number bytes ≡ true
      → ¬ IsOutsideFrame image layout body.entry height (as_span bytes)
  not-outside height number bytes same e out = elim (inside-told body.args number bytes e) [
    | in_arguments low high ↦
        (let count = arguments-once out.arguments is.arguments in
        out.no_argument (low, omega (arith, ints, high, count)))
    | in_locals low high ↦ out.no_local (omega (arith, ints, low, same), high)
  ]

  -- What is refused.

  access-bad :
      (step : Step) → IsStep image layout body.entry step → has_access_inside body.framed body.args step ≡ false
      → HasBadAccess image layout body.entry step.at AccessOutside
  access-bad step s e =
      let f = failing (λ (bytes : Bytes). is_inside body.args step.height bytes) (access_of body.framed step.op) e in
      access_outside (access-tells image layout body.entry step s f.0
      (ap (λ b. access_of b step.op) (sym is.framed) ∙ f.1)) s.has
      (outside step.height f.0 f.2)

  start-bad :
      (step : Step) → IsStep image layout body.entry step
      → has_start_inside body.args (lacks_addresses delta body.framed) step ≡ false
      → HasBadAccess image layout body.entry step.at
      (if lacks_addresses delta body.framed then NoAddress else AddressOutside)
  start-bad step s e =
      let lacks = lacks_addresses delta body.framed in
      let f = failing (λ (start : ℤ). not lacks && is_inside body.args step.height (byte_from start))
      (start_of step.op step.height) e in
      let starts = start-tells image layout body.entry step s f.0 f.1 in
      elim (and-cases (not lacks) (is_inside body.args step.height (byte_from f.0)) f.2) [
        | inl without ↦
            let l = by lacks without in
            subst (λ b. HasBadAccess image layout body.entry step.at (if b then NoAddress else AddressOutside)) (sym l)
            (no_addresses (lacks-told l) starts)
        | inr out ↦
            subst (λ b. HasBadAccess image layout body.entry step.at (if b then NoAddress else AddressOutside))
            (sym (has lacks out.0))
            (start_outside starts s.has (outside step.height (byte_from f.0) out.1))
      ]
    where
      has : (b : Bool) → not b ≡ true → b ≡ false
      has true e = absurd (true≢false (sym e))
      has false e = refl

      by : (b : Bool) → not b ≡ false → b ≡ true
      by true e = refl
      by false e = absurd (true≢false e)

  pub access-refused :
      (step : Step) → IsStep image layout body.entry step
      → is_allowed body.framed body.args (lacks_addresses delta body.framed) step ≡ false
      → HasBadAccess image layout body.entry step.at
      (fault_in body.framed body.args (lacks_addresses delta body.framed) step)
  access-refused step s e =
      let At : Bool → Type 0 = λ inside. HasBadAccess image layout body.entry step.at
      (if inside then (if lacks_addresses delta body.framed then NoAddress else AddressOutside) else AccessOutside) in
      elim (and-cases (has_access_inside body.framed body.args step)
      (has_start_inside body.args (lacks_addresses delta body.framed) step) e) [
        | inl access ↦ subst At (sym access) (access-bad step s access)
        | inr rest ↦ subst At (sym rest.0) (start-bad step s rest.1)
      ]

  module _
      (allowed :
      All (λ (step : Step). is_allowed body.framed body.args (lacks_addresses delta body.framed) step ≡ true)
      body.steps.items) where
    both-inside :
        (step : Step) → Contains body.steps.items step
        → (has_access_inside body.framed body.args step ≡ true)
        × (has_start_inside body.args (lacks_addresses delta body.framed) step ≡ true)
    both-inside step among =
        and-both (has_access_inside body.framed body.args step)
        (has_start_inside body.args (lacks_addresses delta body.framed) step)
        (All-contains (λ (t : Step). is_allowed body.framed body.args (lacks_addresses delta body.framed) t ≡ true)
        body.steps.items step allowed among)

    -- every direct access and every start lies inside
    pub access-inside :
        (step : Step) → Contains body.steps.items step → IsStep image layout body.entry step → (span : Span)
        → IsDirectAccess image layout body.entry step.at span → is_inside body.args step.height (as_bytes span) ≡ true
    access-inside step among s span access =
        passing (λ (bytes : Bytes). is_inside body.args step.height bytes) (access_of body.framed step.op)
        (as_bytes span)
        (ap (λ b. access_of b step.op) is.framed ∙ access-told image layout body.entry step s span access)
        (both-inside step among).0

    pub start-inside :
        (step : Step) → Contains body.steps.items step → (start : ℤ) → start_of step.op step.height ≡ Some start
        → (lacks_addresses delta body.framed ≡ false) × (is_inside body.args step.height (byte_from start) ≡ true)
    start-inside step among start e =
        let lacks = lacks_addresses delta body.framed in
        let p = passing (λ (start : ℤ). not lacks && is_inside body.args step.height (byte_from start))
        (start_of step.op step.height) start e
        (both-inside step among).1 in
        let both = and-both (not lacks) (is_inside body.args step.height (byte_from start)) p in
        (by lacks both.0, both.1)
      where
        by : (b : Bool) → not b ≡ true → b ≡ false
        by true e = absurd (true≢false (sym e))
        by false e = refl

    pub no-access-outside :
        (at : ℕ) → IsNode image layout body.entry at → (span : Span) (height : ℤ)
        → IsDirectAccess image layout body.entry at span
        → HasHeight image layout body.entry at height → ¬ IsOutsideFrame image layout body.entry height span
    no-access-outside at node span height access has out =
        at-node image layout body.entry body.steps.items is.steps
        (λ at. IsDirectAccess image layout body.entry at span → HasHeight image layout body.entry at height → ⊥)
        (λ step among s a h.
        not-outside height step.height (as_bytes span) (s.one height h) (access-inside step among s span a) out)
        at node access has

    pub no-start-outside :
        (at : ℕ) → IsNode image layout body.entry at → (start height : ℤ)
        → StartsExposure image layout body.entry at start
        → HasHeight image layout body.entry at height
        → ¬ IsOutsideFrame image layout body.entry height (span_of start 1)
    no-start-outside at node start height starts has out =
        at-node image layout body.entry body.steps.items is.steps
        (λ at. StartsExposure image layout body.entry at start → HasHeight image layout body.entry at height → ⊥)
        (λ step among s a h.
        not-outside height step.height (byte_from start) (s.one height h)
        (start-inside step among start (start-told image layout body.entry step s start a)).1 out)
        at node starts has

    pub no-start-lacking :
        (at : ℕ) → IsNode image layout body.entry at → (start : ℤ) → StartsExposure image layout body.entry at start
        → ¬ LacksAddresses image layout body.entry
    no-start-lacking at node start starts lacks =
        at-node image layout body.entry body.steps.items is.steps
        (λ at. StartsExposure image layout body.entry at start → ⊥)
        (λ step among s a.
        true≢false (sym (lacks-tells lacks)
        ∙ (start-inside step among start (start-told image layout body.entry step s start a)).0))
        at node starts

module _ (image : Image) (layout : Layout) (body : Body) (is : IsBody image layout body) (counts : ℕ → Option ℕ)
    (has : HasCounts image layout counts) where
  -- calls
  pub call-refused :
      (step : Step) → IsStep image layout body.entry step → has_words counts body.framed step ≡ false
      → IsShortCall image layout body.entry step.at
  call-refused step s e =
      let count = passed_of counts step.op in
      let own = own_of body.framed step.height in
      let some : (count ≡ 0)
      → ⊥ = λ none. true≢false (sym (ap (λ b. b || int_le (pos (2 * count)) own) ((Decides-eqb count 0).1 none))
      ∙ e) in
      let more : 0 < count = elim (cases_lt 0 count) [ inl less ↦ less | inr le ↦ absurd (some (omega (arith, le))) ] in
      let p = is-passing counts step.op 0 more in
      let stands : StandsAt image layout step.at (Call p.target) = subst (StandsAt image layout step.at) p.call
      s.stands in
      let h = has p.target (called is.is_entry s.node stands) in
      let same : h.count ≡ count = (let f = p.found in let g = h.found in let e : Some h.count ≡ Some count = sym g
      ∙ f in cc) in
      let short : own <ℤ pos (2 * count) = by (int_le (pos (2 * count)) own) refl in
      record {
        target = p.target;
        stands = stands;
        count = h.count;
        arguments = h.arguments;
        number = count - 1;
        is_argument = omega (arith, same, more);
        height = pos step.height;
        has = s.has;
        short =
            subst (λ f. cond f (pos step.height -ℤ pos 2) (pos step.height) <ℤ pos (2 * (count - 1) + 2)) is.framed
            (omega (arith, ints, short, more));
      }
    where
      by :
          (b : Bool) → int_le (pos (2 * passed_of counts step.op)) (own_of body.framed step.height) ≡ b
          → own_of body.framed step.height <ℤ pos (2 * passed_of counts step.op)
      by true le =
          absurd (true≢false (sym
          (or-right (passed_of counts step.op == 0)
          (int_le (pos (2 * passed_of counts step.op)) (own_of body.framed step.height)) le) ∙ e))
      by false lt = grind (arith, ints, lt)

  pub no-short-call :
      All (λ (step : Step). has_words counts body.framed step ≡ true) body.steps.items → (at : ℕ)
      → IsNode image layout body.entry at → ¬ IsShortCall image layout body.entry at
  no-short-call enough at node short =
      at-node image layout body.entry body.steps.items is.steps (λ at. IsShortCall image layout body.entry at → ⊥)
      (λ step among s c.
      let count = call-count image layout body is counts has step s c.target c.count c.stands c.arguments in
      let words = All-contains (λ (t : Step). has_words counts body.framed t ≡ true) body.steps.items step enough
      among in
      let own = own_of body.framed step.height in
      let passing = passed_of counts step.op in
      let height = s.one c.height c.has in
      let short : own <ℤ pos (2 * c.number + 2) =
      subst (λ f. cond f (pos step.height -ℤ pos 2) (pos step.height) <ℤ pos (2 * c.number + 2)) (sym is.framed)
      (subst (λ h. cond (is_framed image layout body.entry) (h -ℤ pos 2) h <ℤ pos (2 * c.number + 2)) height c.short) in
      let less = c.is_argument in
      elim (or-cases (passing == 0) (int_le (pos (2 * passing)) own) words) [
        | inl none ↦ absurd (let zero_is = (Decides-eqb passing 0).0 none in omega (arith, zero_is, count, less))
        | inr le ↦
            absurd (let fits : pos (2 * passing) ≤ℤ own = grind (arith, ints, le) in omega
            (arith, ints, fits, short, count, less))
      ])
      at node short
