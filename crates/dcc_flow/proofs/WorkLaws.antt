-- The work that is left while places flow: what it keeps, and that it becomes less.
use Rattle.std.proofs.Common.{◌≡◌, ◌≢◌, ℕ, zero, suc, ◌+◌, ◌-◌, ◌*◌, ◌<◌, ◌≤◌, Bool, true, false, ◌&&◌, ◌||◌, not, ◌⊎◌, inl, inr, List, [], ◌∷◌, ◌++◌, length, get_or, slice_set, replicate, All, refl, sym, ap, ◌∙◌, subst, arith}
use Rattle.std.specs.Prelude.{◌==◌, if◌then◌else◌}
use Rattle.std.specs.List.{range_with_len}
use Rattle.std.proofs.lemmas.Bool.{false≢true, cases_Bool, cases_eq, cases_lt, ne_eqb, or_cases, or_left, or_right, or_from, and_parts, and_from, not-true}
use Rattle.std.proofs.lemmas.List.{length-set, length-replicate, get_or-replicate, get_or-set_same, get_or-set_other, get_or_past}
use Rattle.std.proofs.lemmas.List.Elements.{All-head, All-tail, All-get_or, All-from_get_or}
use Rattle.std.proofs.lemmas.List.FromFn.{length-map-range_with_len, get_or-map-range_with_len}
use Rattle.std.proofs.Math.Nat.{mul-le-mul_left, mul-le-mul_right, mul-suc}
use Rattle.dcc_ir.specs.Flow.{IsPath}
use Rattle.dcc_flow.specs.Edges.{is_in, leads, entries, AreWithin, ArePredecessors}
use Rattle.dcc_flow.specs.Bits.{bit, flowed, differ}
use Rattle.dcc_flow.specs.Uses.{holds, IsUsedAfter, AreUses}
use Rattle.dcc_flow.specs.Work.{Work, AllFlowed, IsTaken, with_answer, spread, without_queued, spread_from, first_work}
use Rattle.dcc_flow.proofs.Members.{in_here, in_there, in_cases}
use Rattle.dcc_flow.proofs.SourceLaws.{predecessor_within}
use Rattle.dcc_flow.proofs.Sums.{total, total_less, total_same, total_suc, total_none}
use Rattle.dcc_flow.proofs.WordLaws.{same_lists}

-- Lists of truth values.

pub flowed_at : (bits used out written : List Bool) (i : ℕ) → i < length bits → bit (flowed bits used out written) i ≡ (bit bits i || bit used i || (bit out i && not (bit written i)))
flowed_at bits used out written i h =
    get_or-map-range_with_len (λ k. bit bits k || bit used k || (bit out k && not (bit written k))) 0 (length bits) i i false h (omega arith)

pub length_flowed_bits : (bits used out written : List Bool) → length (flowed bits used out written) ≡ length bits
length_flowed_bits bits used out written = length-map-range_with_len (λ k. bit bits k || bit used k || (bit out k && not (bit written k))) 0 (length bits)

-- a place that holds true is one of the list
pub within : (bits : List Bool) (i : ℕ) → bit bits i ≡ true → i < length bits
within bits i h = elim (cases_lt i (length bits)) [ inl inside ↦ inside | inr past ↦ absurd (false≢true (sym (get_or_past bits i false past) ∙ h)) ]

flowed_cases : (bits used out written : List Bool) (i : ℕ) → bit (flowed bits used out written) i ≡ true
    → ((bit bits i ≡ true) ⊎ (bit used i ≡ true)) ⊎ ((bit out i ≡ true) × (bit written i ≡ false))
flowed_cases bits used out written i h =
    let inside : i < length bits = subst (λ n. i < n) (length_flowed_bits bits used out written) (within (flowed bits used out written) i h) in
    let now = sym (flowed_at bits used out written i inside) ∙ h in
    elim (or_cases (bit bits i || bit used i) (bit out i && not (bit written i)) now) [
      | inl a ↦ inl (or_cases (bit bits i) (bit used i) a)
      | inr b ↦ let parts = and_parts (bit out i) (not (bit written i)) b in inr (parts.0, not-true (bit written i) parts.1)
    ]

flowed_keeps : (bits used out written : List Bool) (i : ℕ) → bit bits i ≡ true → bit (flowed bits used out written) i ≡ true
flowed_keeps bits used out written i h =
    flowed_at bits used out written i (within bits i h) ∙ or_left (bit bits i || bit used i) (bit out i && not (bit written i)) (or_left (bit bits i) (bit used i) h)

flowed_takes : (bits used out written : List Bool) (i : ℕ) → i < length bits → (bit used i ≡ true) ⊎ ((bit out i ≡ true) × (bit written i ≡ false)) → bit (flowed bits used out written) i ≡ true
flowed_takes bits used out written i inside o = flowed_at bits used out written i inside ∙ elim o [
  | inl u ↦ or_left (bit bits i || bit used i) (bit out i && not (bit written i)) (or_right (bit bits i) (bit used i) u)
  | inr p ↦ or_right (bit bits i || bit used i) (bit out i && not (bit written i)) (and_from (bit out i) (not (bit written i)) p.0 (ap not p.1))
]

-- how many places hold true
pub truths : List Bool → ℕ
truths [] = 0
truths (true ∷ xs) = suc (truths xs)
truths (false ∷ xs) = truths xs

pub truths_le_length : (xs : List Bool) → truths xs ≤ length xs
unfolding truths
truths_le_length [] = omega arith
truths_le_length (true ∷ xs) = let rec = truths_le_length xs in omega (arith, rec)
truths_le_length (false ∷ xs) = let rec = truths_le_length xs in omega (arith, rec)

pub no_truths : (n : ℕ) → truths (replicate n false) ≡ 0
unfolding truths
no_truths zero = refl
no_truths (suc n) = no_truths n

pub truths_grow : (xs ys : List Bool) → length xs ≡ length ys → ((i : ℕ) → bit xs i ≡ true → bit ys i ≡ true) → truths xs ≤ truths ys
unfolding truths
truths_grow [] ys e h = omega arith
truths_grow (x ∷ xs) [] e h = absurd (omega arith)
truths_grow (true ∷ xs) (true ∷ ys) e h = let rec = truths_grow xs ys (omega arith) (λ i t. h (suc i) t) in omega (arith, rec)
truths_grow (true ∷ xs) (false ∷ ys) e h = absurd (false≢true (h 0 refl))
truths_grow (false ∷ xs) (true ∷ ys) e h = let rec = truths_grow xs ys (omega arith) (λ i t. h (suc i) t) in omega (arith, rec)
truths_grow (false ∷ xs) (false ∷ ys) e h = truths_grow xs ys (omega arith) (λ i t. h (suc i) t)

pub truths_more : (xs ys : List Bool) → length xs ≡ length ys → ((i : ℕ) → bit xs i ≡ true → bit ys i ≡ true) → differ xs ys ≡ true → truths xs + 1 ≤ truths ys
unfolding truths
truths_more [] [] e h d = absurd (false≢true d)
truths_more [] (y ∷ ys) e h d = absurd (omega arith)
truths_more (x ∷ xs) [] e h d = absurd (omega arith)
truths_more (true ∷ xs) (true ∷ ys) e h d = let rec = truths_more xs ys (omega arith) (λ i t. h (suc i) t) d in omega (arith, rec)
truths_more (true ∷ xs) (false ∷ ys) e h d = absurd (false≢true (h 0 refl))
truths_more (false ∷ xs) (true ∷ ys) e h d = let rec = truths_grow xs ys (omega arith) (λ i t. h (suc i) t) in omega (arith, rec)
truths_more (false ∷ xs) (false ∷ ys) e h d = truths_more xs ys (omega arith) (λ i t. h (suc i) t) d

-- where a place takes true, and where one that holds true no longer does
pub truths_with : (xs : List Bool) (i : ℕ) → truths (slice_set xs i true) ≤ truths xs + 1
unfolding truths
truths_with [] i = omega arith
truths_with (true ∷ xs) zero = omega arith
truths_with (false ∷ xs) zero = omega arith
truths_with (true ∷ xs) (suc i) = let rec = truths_with xs i in omega (arith, rec)
truths_with (false ∷ xs) (suc i) = let rec = truths_with xs i in omega (arith, rec)

pub truths_without : (xs : List Bool) (i : ℕ) → bit xs i ≡ true → truths (slice_set xs i false) + 1 ≡ truths xs
unfolding truths
truths_without [] i h = absurd (false≢true h)
truths_without (true ∷ xs) zero h = omega arith
truths_without (false ∷ xs) zero h = absurd (false≢true h)
truths_without (true ∷ xs) (suc i) h = let rec = truths_without xs i h in omega (arith, rec)
truths_without (false ∷ xs) (suc i) h = truths_without xs i h

-- Blocks that are queued.

-- a block has another answer, or the same
pub record Answered (w after : Work) (b : ℕ) (bits : List Bool) : Type 0 where
  pub answer_is : after.answer ≡ slice_set w.answer b bits
  pub flags : length after.queued ≡ length w.queued
  pub others : (p : ℕ) → p ≢ b → get_or after.queued p false ≡ get_or w.queued p false
  pub change : ((differ (get_or w.answer b []) bits ≡ false) × (get_or after.queued b false ≡ get_or w.queued b false))
      ⊎ ((differ (get_or w.answer b []) bits ≡ true) × (get_or after.queued b false ≡ true))

abbrev flag_of : Bool → ℕ
flag_of b = if b then 1 else 0

flag_one : (c : Bool) → c ≡ true → ◌≡◌ {A = ℕ} (if c then 1 else 0) 1
flag_one c e = ap flag_of e

flag_none : (c : Bool) → c ≡ false → ◌≡◌ {A = ℕ} (if c then 1 else 0) 0
flag_none c e = ap flag_of e

pub with_answer_is : (w : Work) (b : ℕ) (bits : List Bool) → b < length w.queued → Answered w (with_answer w b bits) b bits
with_answer_is w b bits inside =
    let answered : Work = record w { answer = slice_set w.answer b bits } in
    let queued : Work = record answered { queued = slice_set w.queued b true } in
    elim (cases_Bool (differ (get_or w.answer b []) bits)) [
      | inr same ↦ subst (λ x. Answered w x b bits) (sym (ap (λ c. if c then queued else answered) same)) (record {
        answer_is = refl;
        flags = refl;
        others = λ p o. refl;
        change = inl (same, refl);
      })
      | inl other ↦ subst (λ x. Answered w x b bits) (sym (ap (λ c. if c then queued else answered) other)) (record {
        answer_is = refl;
        flags = length-set w.queued b true;
        others = λ p o. get_or-set_other w.queued b p true false o;
        change = inr (other, get_or-set_same w.queued b true false inside);
      })
    ]

-- numbers that follow each other, and one more
pub range_more : (a n : ℕ) → range_with_len a n ++ (a + n) ∷ [] ≡ range_with_len a (suc n)
range_more a zero = ap (λ x. x ∷ []) (omega arith)
range_more a (suc n) = ap (λ l. a ∷ l) (ap (λ x. range_with_len (a + 1) n ++ x ∷ []) (omega arith) ∙ range_more (a + 1) n)

all_in : (P : ℕ → Type 0) (xs : List ℕ) (x : ℕ) → All P xs → is_in xs x ≡ true → P x
all_in P [] x all h = absurd (false≢true h)
all_in P (y ∷ ys) x all h = elim (in_cases y x ys h) [
  | inl e ↦ subst P e (All-head P y ys all)
  | inr t ↦ all_in P ys x (All-tail P y ys all) t
]

target_within : (next : List (List ℕ)) → AreWithin next → (a b : ℕ) → leads next a b ≡ true → b < length next
target_within next all a b h =
    let inside = predecessor_within next a b h in
    all_in (λ place. place < length next) (get_or next a []) b (All-get_or (λ row. All (λ place. place < length next) row) next a [] inside all) h

-- Sums of weights.

spread_over : (a b k : ℕ) → (a + b) * k ≡ a * k + b * k
spread_over a b k = grind arith

total_times : (f : ℕ → ℕ) (k n : ℕ) → total (λ s. f s * k) n ≡ total f n * k
total_times f k zero = total_none (λ s. f s * k) ∙ sym (ap (λ x. x * k) (total_none f) ∙ zero_times k)
  where
    zero_times : (k : ℕ) → 0 * k ≡ 0
    zero_times k = omega arith
total_times f k (suc n) =
    total_suc (λ s. f s * k) n ∙ ap (λ x. f n * k + x) (total_times f k n) ∙ sym (ap (λ x. x * k) (total_suc f n) ∙ spread_over (f n) (total f n) k)

total_shift : (f : ℕ → ℕ) (n : ℕ) → total f (suc n) ≡ f 0 + total (λ i. f (suc i)) n
total_shift f zero = total_suc f 0 ∙ ap (λ x. f 0 + x) (total_none f ∙ sym (total_none (λ i. f (suc i))))
total_shift f (suc n) =
    let a = total_suc f (suc n) in
    let b = total_shift f n in
    let c = total_suc (λ i. f (suc i)) n in
    omega (arith, a, b, c)

total_entries : (rows : List (List ℕ)) → total (λ s. length (get_or rows s [])) (length rows) ≡ entries rows
total_entries [] = total_none (λ s. length (get_or {A = List ℕ} [] s []))
total_entries (r ∷ rows) = total_shift (λ s. length (get_or (r ∷ rows) s [])) (length rows) ∙ ap (λ x. length r + x) (total_entries rows)

module _ (next : List (List ℕ)) (used written : List (List Bool)) (len : ℕ) where
  -- what holds at each time
  pub record Kept (w : Work) : Type 0 where
    pub count : length w.answer ≡ length next
    pub size : (b : ℕ) → b < length next → length (get_or w.answer b []) ≡ len
    pub flags : length w.queued ≡ length next
    pub sound : (b i : ℕ) → holds w.answer b i ≡ true → IsUsedAfter next used written b i

  -- the place is used by the block, or comes out of it
  abbrev pub Enters : List (List Bool) → ℕ → ℕ → Type 0
  Enters answer s i = (holds used s i ≡ true) ⊎ ((holds answer s i ≡ true) × (holds written s i ≡ false))

  -- what enters a block that is not queued has come to each block before it, but for some edges
  abbrev pub ClosedBut : (ℕ → ℕ → Type 0) → Work → Type 0
  ClosedBut But w = (s b : ℕ) → s < length next → get_or w.queued s false ≡ false → leads next b s ≡ true → But s b → (i : ℕ) → i < len → Enters w.answer s i → holds w.answer b i ≡ true

  -- the edges but for those from these blocks
  abbrev pub Beside : ℕ → List ℕ → ℕ → ℕ → Type 0
  Beside block todo s b = s ≡ block → is_in todo b ≡ false

  -- while the block's answer flows
  pub record Spreading (block : ℕ) (out : List Bool) (todo : List ℕ) (w : Work) : Type 0 where
    pub kept : Kept w
    pub closed : ClosedBut (Beside block todo) w
    pub out_is : get_or w.queued block false ≡ false → get_or w.answer block [] ≡ out
    pub out_sound : (i : ℕ) → bit out i ≡ true → IsUsedAfter next used written block i

  module _ (block : ℕ) (out : List Bool) (todo : List ℕ) (b : ℕ) (w after : Work) (h : Spreading block out (b ∷ todo) w) (inside : b < length next) (edge : leads next b block ≡ true)
      (is : Answered w after b (flowed (get_or w.answer b []) (get_or used block []) out (get_or written block []))) where
    old : List Bool
    old = get_or w.answer b []

    new : List Bool
    new = flowed (get_or w.answer b []) (get_or used block []) out (get_or written block [])

    row_here : get_or after.answer b [] ≡ new
    unfolding new
    row_here = ap (λ l. get_or l b []) is.answer_is ∙ get_or-set_same w.answer b new [] (omega (arith, h.kept.count))

    row_there : (c : ℕ) → c ≢ b → get_or after.answer c [] ≡ get_or w.answer c []
    unfolding new
    row_there c o = ap (λ l. get_or l c []) is.answer_is ∙ get_or-set_other w.answer b c new [] o

    more : (c i : ℕ) → holds w.answer c i ≡ true → holds after.answer c i ≡ true
    unfolding new old
    more c i t = elim (cases_eq c b) [
      | inl e ↦ ap (λ j. holds after.answer j i) e ∙ ap (λ l. bit l i) row_here ∙ flowed_keeps old (get_or used block []) out (get_or written block []) i (ap (λ j. holds w.answer j i) (sym e) ∙ t)
      | inr o ↦ ap (λ l. bit l i) (row_there c o) ∙ t
    ]

    -- a block that is not queued now was not, and has the same answer
    still : (s : ℕ) → get_or after.queued s false ≡ false → (get_or w.queued s false ≡ false) × (get_or after.answer s [] ≡ get_or w.answer s [])
    unfolding new old
    still s free = elim (cases_eq s b) [
      | inl e ↦ elim is.change [
        | inl same ↦
            let flag : get_or after.queued b false ≡ false = subst (λ j. get_or after.queued j false ≡ false) e free in
            let row : get_or after.answer b [] ≡ get_or w.answer b [] = row_here ∙ sym (same_lists old new same.0) in
            (subst (λ j. get_or w.queued j false ≡ false) (sym e) (sym same.1 ∙ flag), subst (λ j. get_or after.answer j [] ≡ get_or w.answer j []) (sym e) row)
        | inr other ↦ absurd (false≢true (sym (subst (λ j. get_or after.queued j false ≡ false) e free) ∙ other.1))
      ]
      | inr o ↦ (sym (is.others s o) ∙ free, row_there s o)
    ]

    now_kept : Kept after
    unfolding new old
    now_kept = record {
      count = ap length is.answer_is ∙ length-set w.answer b new ∙ h.kept.count;
      size = λ c below. elim (cases_eq c b) [
        | inl e ↦ ap (λ j. length (get_or after.answer j [])) e ∙ ap length row_here ∙ length_flowed_bits old (get_or used block []) out (get_or written block []) ∙ h.kept.size b inside
        | inr o ↦ ap length (row_there c o) ∙ h.kept.size c below
      ];
      flags = is.flags ∙ h.kept.flags;
      sound = λ c i t. elim (cases_eq c b) [
        | inl e ↦
            let here = sym (ap (λ l. bit l i) row_here) ∙ ap (λ j. holds after.answer j i) (sym e) ∙ t in
            subst (λ j. IsUsedAfter next used written j i) (sym e) (elim (flowed_cases old (get_or used block []) out (get_or written block []) i here) [
              | inl o ↦ elim o [
                | inl was ↦ h.kept.sound b i was
                | inr u ↦ record { between = []; user = block; path = edge; read = u }
              ]
              | inr out_too ↦
                  let later = h.out_sound i out_too.0 in
                  record { between = block ∷ later.between; user = later.user; path = (edge, out_too.1, later.path); read = later.read }
            ])
        | inr o ↦ h.kept.sound c i (sym (ap (λ l. bit l i) (row_there c o)) ∙ t)
      ];
    }

    now_closed : ClosedBut (Beside block todo) after
    unfolding new old
    now_closed s c below free leads_on beside i small enters =
        let before = still s free in
        let entered : Enters w.answer s i = elim enters [ inl u ↦ inl u | inr p ↦ inr (sym (ap (λ l. bit l i) before.1) ∙ p.0, p.1) ] in
        elim (cases_eq s block) [
          | inl e ↦ elim (cases_eq c b) [
            | inl f ↦
                let row : get_or w.answer block [] ≡ out = h.out_is (subst (λ j. get_or w.queued j false ≡ false) e before.0) in
                let at_block : (holds used block i ≡ true) ⊎ ((bit out i ≡ true) × (holds written block i ≡ false)) = elim (subst (λ j. Enters w.answer j i) e entered) [
                  | inl u ↦ inl u
                  | inr p ↦ inr (sym (ap (λ l. bit l i) row) ∙ p.0, p.1)
                ] in
                let taken = flowed_takes old (get_or used block []) out (get_or written block []) i (omega (arith, h.kept.size b inside)) at_block in
                ap (λ j. holds after.answer j i) f ∙ ap (λ l. bit l i) row_here ∙ taken
            | inr o ↦
                let rest : is_in (b ∷ todo) c ≡ false = or_from (b == c) (is_in todo c) (ne_eqb b c (λ x. o (sym x))) (beside e) in
                more c i (h.closed s c below before.0 leads_on (λ x. rest) i small entered)
          ]
          | inr o ↦ more c i (h.closed s c below before.0 leads_on (λ x. absurd (o x)) i small entered)
        ]

    pub now_spreading : Spreading block out todo after
    now_spreading = record {
      kept = now_kept;
      closed = now_closed;
      out_is = λ free. let before = still block free in before.1 ∙ h.out_is before.0;
      out_sound = h.out_sound;
    }

    -- how much is left of a block
    pub now_less : (s : ℕ) → s < length next →
        (if get_or after.queued s false then 1 else 0) + (len - truths (get_or after.answer s [])) ≤ (if get_or w.queued s false then 1 else 0) + (len - truths (get_or w.answer s []))
    unfolding new old
    now_less s below = elim (cases_eq s b) [
      | inl e ↦ subst (λ j. (if get_or after.queued j false then 1 else 0) + (len - truths (get_or after.answer j []))
          ≤ (if get_or w.queued j false then 1 else 0) + (len - truths (get_or w.answer j []))) (sym e)
          (elim is.change [
            | inl same ↦
                let row : get_or after.answer b [] ≡ get_or w.answer b [] = row_here ∙ sym (same_lists old new same.0) in
                let flag = ap flag_of same.1 in
                let left = ap truths row in
                omega (arith, flag, left)
            | inr other ↦
                let grown = truths_more old new (sym (length_flowed_bits old (get_or used block []) out (get_or written block [])))
                (λ i t. flowed_keeps old (get_or used block []) out (get_or written block []) i t) other.0 in
                let most = truths_le_length new in
                let whole = length_flowed_bits old (get_or used block []) out (get_or written block []) ∙ h.kept.size b inside in
                let left = ap truths row_here in
                let flag : (if get_or after.queued b false then 1 else 0) ≡ 1 = ap flag_of other.1 in
                omega (arith, grown, most, whole, left, flag)
          ])
      | inr o ↦
          let flag = ap flag_of (is.others s o) in
          let left = ap truths (row_there s o) in
          omega (arith, flag, left)
    ]

  -- How much is left of a block: whether it is queued, and how many places may still become true.
  pub share : Work → ℕ → ℕ
  share w s = (if get_or w.queued s false then 1 else 0) + (len - truths (get_or w.answer s []))

  pub record Spread (block : ℕ) (out : List Bool) (w after : Work) : Type 0 where
    pub spreading : Spreading block out [] after
    pub less : (s : ℕ) → s < length next → share after s ≤ share w s

  spread_all : (block : ℕ) (out : List Bool) (todo : List ℕ) (w : Work) → ((c : ℕ) → is_in todo c ≡ true → leads next c block ≡ true) → Spreading block out todo w
      → Spread block out w (spread (get_or used block []) out (get_or written block []) w todo)
  unfolding share
  spread_all block out [] w edges h = record { spreading = h; less = λ s below. omega arith }
  spread_all block out (b ∷ todo) w edges h =
      let bits = flowed (get_or w.answer b []) (get_or used block []) out (get_or written block []) in
      let edge = edges b (in_here b todo) in
      let inside = predecessor_within next b block edge in
      let is = with_answer_is w b bits (omega (arith, h.kept.flags, inside)) in
      let after = with_answer w b bits in
      let first = now_spreading block out todo b w after h inside edge is in
      let rest = spread_all block out todo after (λ c t. edges c (in_there b c todo t)) first in
      record {
        spreading = rest.spreading;
        less = λ s below. step_less block out todo b w after h inside edge is s below (spread (get_or used block []) out (get_or written block []) after todo) (rest.less s below);
      }
    where
      step_less : (block : ℕ) (out : List Bool) (todo : List ℕ) (b : ℕ) (w after : Work) (h : Spreading block out (b ∷ todo) w) (inside : b < length next) (edge : leads next b block ≡ true)
          (is : Answered w after b (flowed (get_or w.answer b []) (get_or used block []) out (get_or written block [])))
          (s : ℕ) (below : s < length next) (last : Work) → share last s ≤ share after s → share last s ≤ share w s
      step_less block out todo b w after h inside edge is s below last le = let one = now_less block out todo b w after h inside edge is s below in omega (arith, one, le)

  -- between two turns
  pub record Going (w : Work) : Type 0 where
    pub kept : Kept w
    pub closed : ClosedBut (λ s b. Unit {0}) w

  -- a block that is queued is one of the graph
  pub queued_inside : (w : Work) (block : ℕ) → get_or w.queued block false ≡ true → Kept w → block < length next
  queued_inside w block was h = let there = within w.queued block was in omega (arith, there, h.flags)

  pub still_kept : (w : Work) (block : ℕ) → Kept w → Kept (without_queued w block)
  still_kept w block h = record {
    count = h.count;
    size = h.size;
    flags = length-set w.queued block false ∙ h.flags;
    sound = h.sound;
  }

  pub record Turned (w after : Work) (block : ℕ) : Type 0 where
    pub going : Going after
    pub inside : block < length next
    pub others : (s : ℕ) → s < length next → s ≢ block → share after s ≤ share w s
    pub here : share after block + 1 ≤ share w block

  pub turned : (sources : List ℕ) (w : Work) (block : ℕ) → ((c : ℕ) → is_in sources c ≡ leads next c block) → get_or w.queued block false ≡ true → Going w
      → Turned w (spread_from (without_queued w block) block (get_or used block []) (get_or written block []) sources) block
  unfolding share
  turned sources w block all was h =
      let out = get_or w.answer block [] in
      let start = without_queued w block in
      let flagged : block < length w.queued = within w.queued block was in
      let inside : block < length next = omega (arith, flagged, h.kept.flags) in
      let kept = still_kept w block h.kept in
      let begun : Spreading block out sources start = record {
        kept = kept;
        closed = λ s b below free edge beside i small enters. elim (cases_eq s block) [
          | inl e ↦ absurd (false≢true (sym (beside e) ∙ all b ∙ subst (λ j. leads next b j ≡ true) e edge))
          | inr o ↦ h.closed s b below (sym (get_or-set_other w.queued block s false false o) ∙ free) edge tt i small enters
        ];
        out_is = λ free. refl;
        out_sound = λ i t. h.kept.sound block i t;
      } in
      let done = spread_all block out sources start (λ c t. sym (all c) ∙ t) begun in
      record {
        going = record { kept = done.spreading.kept; closed = λ s b below free edge x i small enters. done.spreading.closed s b below free edge (λ e. refl) i small enters };
        inside = inside;
        others = λ s below o.
            let le = done.less s below in
            let flag = ap flag_of (get_or-set_other w.queued block s false false o) in
            omega (arith, le, flag);
        here =
            let le = done.less block inside in
            let flag = flag_none (get_or (slice_set w.queued block false) block false) (get_or-set_same w.queued block false false flagged) in
            let one = flag_one (get_or w.queued block false) was in
            omega (arith, le, flag, one);
      }

  -- Sums of what is left.

  pub rank : Work → ℕ
  rank w = total (share w) (length next)

  pub cost : (ℕ → ℕ) → Work → ℕ
  cost weight w = total (λ s. weight s * share w s) (length next)

  pub rank_less : (w after : Work) (block : ℕ) → Turned w after block → rank after < rank w
  unfolding rank
  rank_less w after block t = let less = total_less (share after) (share w) (length next) block 1 t.inside t.here t.others in omega (arith, less)

  pub cost_less : (weight : ℕ → ℕ) (w after : Work) (block : ℕ) → Turned w after block → cost weight after + weight block ≤ cost weight w
  unfolding cost
  cost_less weight w after block t =
      total_less (λ s. weight s * share after s) (λ s. weight s * share w s) (length next) block (weight block) t.inside
      (let le : weight block * suc (share after block) ≤ weight block * share w block = mul-le-mul_left (weight block) (let h = t.here in omega (arith, h)) in
      omega (arith, le, mul-suc (weight block) (share after block)))
      (λ s below o. mul-le-mul_left (weight s) (t.others s below o))

  -- At the start.

  dark : (n b i : ℕ) → holds (replicate n (replicate len false)) b i ≡ false
  dark n b i = elim (cases_lt b n) [
    | inl inside ↦ ap (λ l. bit l i) (get_or-replicate n b (replicate len false) [] inside) ∙ elim (cases_lt i len) [
      | inl small ↦ get_or-replicate len i false false small
      | inr past ↦ get_or_past (replicate len false) i false (omega (arith, length-replicate {A = Bool} len false))
    ]
    | inr past ↦ ap (λ l. bit l i) (get_or_past (replicate n (replicate len false)) b [] (omega (arith, length-replicate {A = List Bool} n (replicate len false))))
  ]

  pub first_going : Going (first_work (length next) len)
  first_going = record {
    kept = record {
      count = length-replicate (length next) (replicate len false);
      size = λ b below. ap length (get_or-replicate (length next) b (replicate len false) [] below) ∙ length-replicate len false;
      flags = length-replicate (length next) true;
      sound = λ b i t. absurd (false≢true (sym (dark (length next) b i) ∙ t));
    };
    closed = λ s b below free edge x i small enters. absurd (false≢true (sym free ∙ get_or-replicate (length next) s true false below));
  }

  pub first_share : (s : ℕ) → s < length next → share (first_work (length next) len) s ≡ len + 1
  unfolding share
  first_share s below =
      let flag = flag_one (get_or (replicate (length next) true) s false) (get_or-replicate (length next) s true false below) in
      let row = ap truths (get_or-replicate (length next) s (replicate len false) [] below) ∙ no_truths len in
      omega (arith, flag, row)

  -- At the end.

  pub answered : AreWithin next → (w : Work) → AllFlowed w → Going w → AreUses next used written len w.answer
  answered all w free h =
      record {
        lists = record { count_is = h.kept.count; len_is = All-from_get_or (λ bits. length bits ≡ len) w.answer [] (λ b below. h.kept.size b (omega (arith, h.kept.count))) };
        exact = λ b i below small. (h.kept.sound b i, λ u. arrive free i small b u.between u.user u.path u.read);
      }
    where
      arrive : ((s : ℕ) → get_or w.queued s false ≡ false) → (i : ℕ) → i < len → (a : ℕ) (ms : List ℕ) (c : ℕ)
          → IsPath (leads next) (λ b. holds written b i ≡ false) a ms c → holds used c i ≡ true → holds w.answer a i ≡ true
      arrive free i small a [] c edge read = h.closed c a (target_within next all a c edge) (free c) edge tt i small (inl read)
      arrive free i small a (m ∷ ms) c path read =
          let later = arrive free i small m ms c path.2 read in
          h.closed m a (target_within next all a m path.0) (free m) path.0 tt i small (inr (later, path.1))

  -- what all the steps cost
  pub first_cost : (sources : List (List ℕ)) → length sources ≡ length next → cost (λ s. length (get_or sources s [])) (first_work (length next) len) ≡ entries sources * (len + 1)
  unfolding cost
  first_cost sources same =
      total_same (λ s. length (get_or sources s []) * share (first_work (length next) len) s) (λ s. length (get_or sources s []) * (len + 1)) (length next)
      (λ s below. ap (λ x. length (get_or sources s []) * x) (first_share s below))
      ∙ total_times (λ s. length (get_or sources s [])) (len + 1) (length next)
      ∙ ap (λ n. total (λ s. length (get_or sources s [])) n * (len + 1)) (sym same)
      ∙ ap (λ x. x * (len + 1)) (total_entries sources)

-- A turn of the loop, as its code has it: a block that is taken, the blocks before it, what it uses and writes.
pub record Turn (next sources : List (List ℕ)) (used written : List (List Bool)) (len : ℕ) (w taken : Work) (block : ℕ)
    (tos : List ℕ) (uses writes : List Bool) : Type 0 where
  pub predecessors : ArePredecessors next sources
  pub going : Going next used written len w
  pub takes : IsTaken w taken block
  pub tos_is : tos ≡ get_or sources block []
  pub uses_is : uses ≡ get_or used block []
  pub writes_is : writes ≡ get_or written block []

-- the steps that flowing from a block takes: so many for each block before it
abbrev pub weight : List (List ℕ) → ℕ → ℕ
weight sources s = length (get_or sources s [])

module _ {next sources : List (List ℕ)} {used written : List (List Bool)} {len : ℕ} {w taken : Work} {block : ℕ}
    {tos : List ℕ} {uses writes : List Bool}
    (t : Turn next sources used written len w taken block tos uses writes) where
  turn : Turned next used written len w (spread_from taken block uses writes tos) block
  turn =
      let was = t.takes.waits in
      let inside = queued_inside next used written len w block was t.going.kept in
      let done = turned next used written len (get_or sources block []) w block (λ c. t.predecessors.exact c block inside) was t.going in
      subst (λ l. Turned next used written len w (spread_from taken block uses writes l) block) (sym t.tos_is)
      (subst (λ u. Turned next used written len w (spread_from taken block u writes (get_or sources block [])) block)
      (sym t.uses_is)
      (subst
      (λ v. Turned next used written len w (spread_from taken block (get_or used block []) v (get_or sources block [])) block)
      (sym t.writes_is)
      (subst
      (λ x. Turned next used written len w (spread_from x block (get_or used block []) (get_or written block []) (get_or sources block [])) block)
      (sym t.takes.after_is) done)))

  pub taken_kept : Kept next used written len taken
  taken_kept =
      subst (Kept next used written len) (sym t.takes.after_is) (still_kept next used written len w block t.going.kept)

  pub turn_going :
      (last : Work) → last ≡ spread_from taken block uses writes tos
      → Going next used written len last
  turn_going last e = subst (Going next used written len) (sym e) turn.going

  pub turn_less :
      (last : Work) → last ≡ spread_from taken block uses writes tos
      → rank next used written len last < rank next used written len w
  turn_less last e =
      subst (λ x. rank next used written len x < rank next used written len w) (sym e)
      (rank_less next used written len w (spread_from taken block uses writes tos) block turn)

  -- the steps of the turn
  turn_cost : (before now bound m : ℕ) → now ≤ before + length tos * m
      → before + cost next used written len (weight sources) w * m ≤ bound
      → now + cost next used written len (weight sources) (spread_from taken block uses writes tos) * m
      ≤ bound
  turn_cost before now bound m le all =
      let after = spread_from taken block uses writes tos in
      let less = cost_less next used written len (weight sources) w after block turn in
      let times = mul-le-mul_right m less in
      let over = spread_over (cost next used written len (weight sources) after) (weight sources block) m in
      let same = ap (λ n. n * m) (ap length t.tos_is) in
      omega (arith, le, all, times, over, same)

  pub turn_steps :
      (last : Work) → last ≡ spread_from taken block uses writes tos
      → (before now bound m : ℕ) → now ≤ before + length tos * m
      → before + cost next used written len (weight sources) w * m ≤ bound
      → now + cost next used written len (weight sources) last * m ≤ bound
  turn_steps last e before now bound m le all =
      subst (λ x. now + cost next used written len (weight sources) x * m ≤ bound) (sym e)
      (turn_cost before now bound m le all)

  pub turn_bound : (before now bound m : ℕ) → now ≤ before + length tos * m
      → before + cost next used written len (weight sources) w * m ≤ bound → now ≤ bound
  turn_bound before now bound m le all = let done = turn_cost before now bound m le all in omega (arith, done)

module _ (next sources : List (List ℕ)) (used written : List (List Bool)) (len : ℕ) (are : ArePredecessors next sources) where
  pub start_steps : (first : Work) (count before m : ℕ) → first ≡ first_work count len → count ≡ length next → entries sources ≤ entries next
      → before + cost next used written len (weight sources) first * m ≤ before + entries next * (len + 1) * m
  start_steps first count before m e c few =
      let is = first_cost next used written len sources are.len in
      let same : first ≡ first_work (length next) len = e ∙ ap (λ n. first_work n len) c in
      let all : cost next used written len (weight sources) first ≡ entries sources * (len + 1) = ap (cost next used written len (weight sources)) same ∙ is in
      let le : entries sources * (len + 1) ≤ entries next * (len + 1) = mul-le-mul_right (len + 1) few in
      let times : cost next used written len (weight sources) first * m ≤ entries next * (len + 1) * m = mul-le-mul_right m (omega (arith, all, le)) in
      omega (arith, times)

  pub start_going : (first : Work) (count : ℕ) → first ≡ first_work count len → count ≡ length next → Going next used written len first
  start_going first count e c = subst (Going next used written len) (sym (e ∙ ap (λ n. first_work n len) c)) (first_going next used written len)
