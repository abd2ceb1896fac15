-- Laws of what blocks read before they write it, of the places of a list, and of loops over lists.
use Rattle.std.proofs.Common.{◌≡◌, ℕ, zero, suc, ◌+◌, ◌-◌, ◌<◌, ◌≤◌, Bool, true, false, ◌&&◌, ◌||◌, not, inl, inr, List, [], ◌∷◌, ◌++◌, length, get_or, slice_get, slice_set, map, take, drop, flat_map, replicate, Some, refl, sym, ap, ap₂, ◌∙◌, subst, true≢false, arith, Contains, append_assoc}
use Rattle.std.specs.Prelude.{if◌then◌else◌, All}
use Rattle.std.proofs.Common.{drop_of_length-le as drop_past}
use Rattle.std.proofs.lemmas.Bool.{cases_eq, cases_lt}
use Rattle.std.proofs.lemmas.List.{append-nil, get_or-set_same, get_or-set_other, map_push, get_or-map, take_more, drop_more, flat_map_more}
use Rattle.std.proofs.lemmas.List.Folds.{list_any-append}
use Rattle.std.proofs.lemmas.List.Elements.{All-push, All-weaker}
use Rattle.std.proofs.lemmas.Option.{get_or_from_slice_get, slice_get_within, same_Some}
use Rattle.dcc_ir.specs.declared.syntax.Loc.{Loc}
use Rattle.dcc_ir.specs.declared.syntax.Expr.{Expr as Expression}
use Rattle.dcc_ir.specs.Tree.{Stmt, Exit, Block}
use Rattle.dcc_ir.specs.Views.{expr_of}
use Rattle.dcc_ir.specs.Location.{same_location}
use Rattle.dcc_ir.specs.Use.{reads_of, exprs_of, writes_of, exit_exprs}
use Rattle.dcc_ir.specs.Live.{is_among, reads_first, writes}
use Rattle.dcc_ir.proofs.PathLaws.{decided}
use Rattle.dcc_ir.proofs.LocationLaws.{location_same, location_itself, contains_among, Contains-here, Contains-later, Contains-none, Contains-cases}
use Rattle.dcc_flow.specs.Bits.{bit, IsNext}
use Rattle.dcc_flow.specs.Access.{Access, access_of, block_access_of}
use Rattle.dcc_flow.specs.Marks.{empty, with_all, selected}
use Rattle.dcc_flow.specs.Places.{IsPlace, with_places}
use Rattle.dcc_flow.proofs.PlaceLaws.{with_places_keep, with_places_have}
use Rattle.dcc_live.specs.First.{others, first_reads, Row, row_of, Tells, TellsOf}

-- Loops that go along a list.

-- one more element of two lists that are the same so far
pub grown : {A B C : Type 0} (f : A → C) (g : B → C) (xs : List A) (ys : List B) (i : ℕ) (a : A) (b : B) → i < length ys → b ≡ get_or ys i b → f a ≡ g b → map f xs ≡ map g (take i ys) →
    map f (xs ++ a ∷ []) ≡ map g (take (i + 1) ys)
grown f g xs ys i a b inside read is so =
    map_push f xs a ∙ ap (λ l. l ++ f a ∷ []) so ∙ ap (λ c. map g (take i ys) ++ c ∷ []) (is ∙ ap g read)
    ∙ sym (map_push g (take i ys) (get_or ys i b)) ∙ ap (map g) (sym (take_more ys i b inside))

-- the locations that one more expression reads
pub reads_more : (es : List Expression) (i : ℕ) (e : Expression) (list : List Loc) → i < length es → e ≡ get_or es i e → list ≡ flat_map reads_of (map expr_of (take i es)) →
    list ++ reads_of (expr_of e) ≡ flat_map reads_of (map expr_of (take (i + 1) es))
reads_more es i e list inside read so =
    ap (λ l. l ++ reads_of (expr_of e)) so ∙ flat_map_more reads_of [] (map expr_of (take i es)) (expr_of e)
    ∙ ap (flat_map reads_of) (sym (map_push expr_of (take i es) e) ∙ ap (λ x. map expr_of (take i es ++ x ∷ [])) read ∙ ap (map expr_of) (sym (take_more es i e inside)))

-- What is selected.

pub selected_then : (xs : List Loc) (bs : List Bool) (i : ℕ) (d : Loc) (items : List Loc) → i < length xs → length bs ≡ length xs → bit bs i ≡ true →
    (items ++ get_or xs i d ∷ []) ++ selected (drop (i + 1) xs) (drop (i + 1) bs) ≡ items ++ selected (drop i xs) (drop i bs)
selected_then xs bs i d items inside len there =
    let later = selected (drop (i + 1) xs) (drop (i + 1) bs) in
    append_assoc items (get_or xs i d ∷ []) later
    ∙ sym (ap (λ l. items ++ l) (ap₂ selected (drop_more xs i d inside) (drop_more bs i false (omega (arith, len, inside))) ∙ ap (λ b. if b then get_or xs i d ∷ later else later) there))

pub selected_else : (xs : List Loc) (bs : List Bool) (i : ℕ) (d : Loc) (items : List Loc) → i < length xs → length bs ≡ length xs → bit bs i ≡ false →
    items ++ selected (drop (i + 1) xs) (drop (i + 1) bs) ≡ items ++ selected (drop i xs) (drop i bs)
selected_else xs bs i d items inside len out =
    let later = selected (drop (i + 1) xs) (drop (i + 1) bs) in
    sym (ap (λ l. items ++ l) (ap₂ selected (drop_more xs i d inside) (drop_more bs i false (omega (arith, len, inside))) ∙ ap (λ b. if b then get_or xs i d ∷ later else later) out))

-- places that hold false are passed
pub selected_skip : (xs : List Loc) (bs : List Bool) (d : Loc) (n from to : ℕ) → to ≡ from + n → to ≤ length xs → length bs ≡ length xs → ((k : ℕ) → from ≤ k → k < to → bit bs k ≡ false) →
    selected (drop from xs) (drop from bs) ≡ selected (drop to xs) (drop to bs)
selected_skip xs bs d zero from to is within len none = let same : from ≡ to = omega (arith, is) in ap (λ i. selected (drop i xs) (drop i bs)) same
selected_skip xs bs d (suc n) from to is within len none =
    sym (selected_else xs bs from d [] (omega (arith, is, within)) len (none from (omega arith) (omega (arith, is))))
    ∙ selected_skip xs bs d n (from + 1) to (omega (arith, is)) within len (λ k low high. none k (omega (arith, low)) high)

-- no place is left that holds true
pub selected_none : (xs : List Loc) (bs : List Bool) (d : Loc) (from : ℕ) (items : List Loc) → length bs ≡ length xs → ((k : ℕ) → from ≤ k → bit bs k ≡ false) → items ++ selected (drop from xs) (drop from bs) ≡ items
selected_none xs bs d from items len none = ap (λ l. items ++ l) rest ∙ append-nil items
  where
    past : (i : ℕ) → length xs ≤ i → selected (drop i xs) (drop i bs) ≡ []
    past i le = ap (λ l. selected l (drop i bs)) (drop_past xs le)

    rest : selected (drop from xs) (drop from bs) ≡ []
    rest = elim (cases_lt from (length xs)) [
      | inl less ↦
          selected_skip xs bs d (length xs - from) from (length xs) (omega (arith, less)) (omega arith) len (λ k low high. none k low) ∙ past (length xs) (omega arith)
      | inr le ↦ past from le
    ]

-- the next place that holds true is selected
pub selected_next : (xs : List Loc) (bs : List Bool) (d : Loc) (from place : ℕ) (items : List Loc) → length bs ≡ length xs → IsNext bs from place →
    (items ++ get_or xs place d ∷ []) ++ selected (drop (place + 1) xs) (drop (place + 1) bs) ≡ items ++ selected (drop from xs) (drop from bs)
selected_next xs bs d from place items len next =
    selected_then xs bs place d items (omega (arith, next.within, len)) len next.there
    ∙ ap (λ l. items ++ l) (sym (selected_skip xs bs d (place - from) from place (omega (arith, next.after)) (omega (arith, next.within, len)) len next.between))

-- the next place that holds true is selected, where its location is read from a list that is that of the places
pub selected_read : (list xs : List Loc) (bs : List Bool) (d : Loc) (from place : ℕ) (items after : List Loc) → list ≡ xs → after ≡ items ++ get_or list place d ∷ [] → length bs ≡ length xs → IsNext bs from place →
    after ++ selected (drop (place + 1) xs) (drop (place + 1) bs) ≡ items ++ selected (drop from xs) (drop from bs)
selected_read list xs bs d from place items after same is len next =
    ap (λ l. l ++ selected (drop (place + 1) xs) (drop (place + 1) bs)) (is ∙ ap (λ l. items ++ get_or l place d ∷ []) same)
    ∙ selected_next xs bs d from place items len next

-- a location is selected by its place
pub selected_sound : (xs : List Loc) (bs : List Bool) (l : Loc) → Contains (selected xs bs) l → (k : ℕ) × (slice_get xs k ≡ Some l) × (bit bs k ≡ true)
selected_sound [] bs l c = absurd (Contains-none l c)
selected_sound (x ∷ xs) [] l c = absurd (Contains-none l c)
selected_sound (x ∷ xs) (b ∷ bs) l c = go b c (selected_sound xs bs l)
  where
    later : ((k : ℕ) × (slice_get xs k ≡ Some l) × (bit bs k ≡ true)) → (k : ℕ) × (slice_get (x ∷ xs) k ≡ Some l) × (bit (b ∷ bs) k ≡ true)
    later f = (suc f.0, f.1, f.2)

    go : (t : Bool) → Contains (if t then x ∷ selected xs bs else selected xs bs) l → (Contains (selected xs bs) l → (k : ℕ) × (slice_get xs k ≡ Some l) × (bit bs k ≡ true)) →
        (k : ℕ) × (slice_get (x ∷ xs) k ≡ Some l) × (bit (t ∷ bs) k ≡ true)
    go true c rec = Contains-cases x (selected xs bs) l ((k : ℕ) × (slice_get (x ∷ xs) k ≡ Some l) × (bit (true ∷ bs) k ≡ true)) (λ e. (0, ap Some e, refl)) (λ d. let f = rec d in (suc f.0, f.1, f.2)) c
    go false c rec = let f = rec c in (suc f.0, f.1, f.2)

pub selected_complete : (xs : List Loc) (bs : List Bool) (k : ℕ) (l : Loc) → slice_get xs k ≡ Some l → bit bs k ≡ true → Contains (selected xs bs) l
selected_complete [] bs k l at t = absurd (cc)
selected_complete (x ∷ xs) [] k l at t = absurd (true≢false (sym t ∙ nothing k))
  where
    nothing : (k : ℕ) → bit [] k ≡ false
    nothing zero = refl
    nothing (suc k) = refl
selected_complete (x ∷ xs) (b ∷ bs) zero l at t =
    let same : x ≡ l = cc in
    subst (λ c. Contains (if c then x ∷ selected xs bs else selected xs bs) l) (sym t) (subst (Contains (x ∷ selected xs bs)) same (Contains-here x (selected xs bs)))
selected_complete (x ∷ xs) (b ∷ bs) (suc k) l at t = go b (selected_complete xs bs k l at t)
  where
    go : (c : Bool) → Contains (selected xs bs) l → Contains (if c then x ∷ selected xs bs else selected xs bs) l
    go true d = Contains-later x (selected xs bs) l d
    go false d = d

-- Reads before writes.

pub among_append : (xs ys : List Loc) (l : Loc) → is_among (xs ++ ys) l ≡ (is_among xs l || is_among ys l)
among_append xs ys l = list_any-append (same_location l) xs ys

-- Bits that tell of a list.

none_at : (n k : ℕ) → bit (replicate n false) k ≡ false
none_at zero zero = refl
none_at zero (suc k) = refl
none_at (suc n) zero = refl
none_at (suc n) (suc k) = none_at n k

pub told_none : (places : List Loc) (bits : List Bool) → bits ≡ replicate (length places) false → TellsOf places [] bits
told_none places bits is k x at = ap (λ l. bit l k) is ∙ none_at (length places) k

-- one more location of a list
among_more : (xs : List Loc) (i : ℕ) (d y : Loc) → i < length xs → with_all empty (take (i + 1) xs) y ≡ (with_all empty (take i xs) y || same_location y (get_or xs i d))
among_more xs i d y inside =
    ap (λ l. with_all empty l y) (take_more xs i d inside) ∙ ap (λ b. b || false) (among_append (take i xs) (get_or xs i d ∷ []) y)
    ∙ turned (is_among (take i xs) y) (same_location y (get_or xs i d))
  where
    turned : (a b : Bool) → ((a || (b || false)) || false) ≡ ((a || false) || b)
    turned true b = refl
    turned false true = refl
    turned false false = refl

-- a location that is another one than the next one of a list
told_other : (xs : List Loc) (i : ℕ) (d y : Loc) → i < length xs → same_location y (get_or xs i d) ≡ false → with_all empty (take i xs) y ≡ with_all empty (take (i + 1) xs) y
told_other xs i d y inside other =
    let b = with_all empty (take i xs) y in
    sym (among_more xs i d y inside ∙ ap (λ s. b || s) other ∙ none b)
  where
    none : (b : Bool) → (b || false) ≡ b
    none true = refl
    none false = refl

-- the next location of the list has a place
pub told_at : (places xs : List Loc) (i : ℕ) (d : Loc) (bits : List Bool) (p : ℕ) → i < length xs → length bits ≡ length places → IsPlace places (get_or xs i d) p → TellsOf places (take i xs) bits →
    TellsOf places (take (i + 1) xs) (slice_set bits p true)
told_at places xs i d bits p inside len is told k y at =
    let x = get_or xs i d in
    let within = slice_get_within places p x ((is p).1 refl) in
    elim (cases_eq k p) [
      | inl e ↦
          let same : y ≡ x = same_Some y x (sym at ∙ (is k).1 e) in
          ap (λ j. bit (slice_set bits p true) j) e ∙ get_or-set_same bits p true false (omega (arith, len, within))
          ∙ sym (among_more xs i d y inside ∙ ap (λ s. with_all empty (take i xs) y || s) (ap (λ z. same_location z x) same ∙ location_itself x) ∙ last (with_all empty (take i xs) y))
      | inr o ↦
          get_or-set_other bits p k true false o ∙ told k y at
          ∙ told_other xs i d y inside (elim (decided (same_location y x)) [
            | inl t ↦ absurd (o ((is k).0 (subst (λ z. slice_get places k ≡ Some z) (location_same y x t) at)))
            | inr f ↦ f
          ])
    ]
  where
    last : (b : Bool) → (b || true) ≡ true
    last true = refl
    last false = refl

-- the next location of the list has none
pub told_away : (places xs : List Loc) (i : ℕ) (d : Loc) (bits : List Bool) → i < length xs → is_among places (get_or xs i d) ≡ false → TellsOf places (take i xs) bits →
    TellsOf places (take (i + 1) xs) bits
told_away places xs i d bits inside out told k y at =
    told k y at ∙ told_other xs i d y inside (elim (decided (same_location y (get_or xs i d))) [
      | inl t ↦ absurd (true≢false (sym (ap (is_among places) (sym (location_same y (get_or xs i d) t)) ∙ contains_among places y (k, slice_get_within places k y at, get_or_from_slice_get places k y y at)) ∙ out))
      | inr f ↦ f
    ])

-- a set and a list of the same locations
pub tells_listed : (places xs : List Loc) (has : Loc → Bool) (bits : List Bool) → ((x : Loc) → is_among xs x ≡ has x) → TellsOf places xs bits → Tells places has bits
tells_listed places xs has bits same told k x at = told k x at ∙ none (is_among xs x) ∙ same x
  where
    none : (b : Bool) → (b || false) ≡ b
    none true = refl
    none false = refl

-- What is read and was not written before.

pub among_others : (written : Loc → Bool) (xs : List Loc) (l : Loc) → is_among (others written xs) l ≡ (not (written l) && is_among xs l)
among_others written [] l = go (not (written l))
  where
    go : (b : Bool) → false ≡ (b && false)
    go true = refl
    go false = refl
among_others written (x ∷ xs) l = elim (decided (same_location l x)) [
  | inl t ↦ let same = location_same l x t in
      subst (λ y. is_among (others written (y ∷ xs)) l ≡ (not (written l) && is_among (y ∷ xs) l)) same (here (written l) refl (among_others written xs l))
  | inr f ↦
      other (written x) f ∙ among_others written xs l ∙ sym (ap (λ s. not (written l) && (s || is_among xs l)) f)
]
  where
    here : (b : Bool) → written l ≡ b → is_among (others written xs) l ≡ (not (written l) && is_among xs l) → is_among (others written (l ∷ xs)) l ≡ (not (written l) && is_among (l ∷ xs) l)
    here true e rest =
        ap (λ b. is_among (if not b then l ∷ others written xs else others written xs) l) e ∙ rest ∙ ap (λ b. not b && is_among xs l) e
        ∙ sym (ap (λ b. not b && is_among (l ∷ xs) l) e)
    here false e rest =
        ap (λ b. is_among (if not b then l ∷ others written xs else others written xs) l) e ∙ ap (λ s. s || is_among (others written xs) l) (location_itself l)
        ∙ sym (ap (λ b. not b && is_among (l ∷ xs) l) e ∙ ap (λ s. s || is_among xs l) (location_itself l))

    other : (b : Bool) → same_location l x ≡ false → is_among (if not b then x ∷ others written xs else others written xs) l ≡ is_among (others written xs) l
    other true f = refl
    other false f = ap (λ s. s || is_among (others written xs) l) f

-- the list has just what is read first
pub first_is : (written : Loc → Bool) (stmts : List Stmt) (exit : Exit) (l : Loc) →
    is_among (first_reads written (map access_of stmts) (flat_map reads_of (exit_exprs exit))) l ≡ (not (written l) && reads_first stmts exit l)
first_is written [] exit l = among_others written (flat_map reads_of (exit_exprs exit)) l
first_is written (stmt ∷ stmts) exit l =
    let reads = flat_map reads_of (exprs_of stmt) in
    let last = flat_map reads_of (exit_exprs exit) in
    among_append (others written reads) (first_reads (with_all written (writes_of stmt)) (map access_of stmts) last) l
    ∙ ap₂ (λ a b. a || b) (among_others written reads l) (first_is (with_all written (writes_of stmt)) stmts exit l)
    ∙ joined (written l) (is_among reads l) (is_among (writes_of stmt) l) (reads_first stmts exit l)
  where
    joined : (w r u f : Bool) → ((not w && r) || (not (u || w) && f)) ≡ (not w && (r || (not u && f)))
    joined true r true f = refl
    joined true r false f = refl
    joined false true u f = refl
    joined false false true f = refl
    joined false false false f = refl

pub row_first : (block : Block) (l : Loc) → is_among (row_of (block_access_of block)).first l ≡ reads_first block.stmts block.exit l
row_first block l = first_is empty block.stmts block.exit l

pub row_writes : (stmts : List Stmt) (l : Loc) → is_among (flat_map (λ (a : Access). a.writes) (map access_of stmts)) l ≡ writes stmts l
row_writes [] l = refl
row_writes (stmt ∷ stmts) l =
    among_append (writes_of stmt) (flat_map (λ (a : Access). a.writes) (map access_of stmts)) l ∙ ap (λ b. is_among (writes_of stmt) l || b) (row_writes stmts l)
    ∙ sym (among_append (writes_of stmt) (flat_map writes_of stmts) l)

-- The loops of the rows.

pub first_step : (written : Loc → Bool) (stmts : List Access) (last : List Loc) (i : ℕ) (a : Access) (first first' : List Loc) (written' : Loc → Bool) → i < length stmts → a ≡ get_or stmts i a →
    first' ≡ first ++ others written a.reads → written' ≡ with_all written a.writes →
    first' ++ first_reads written' (drop (i + 1) stmts) last ≡ first ++ first_reads written (drop i stmts) last
first_step written stmts last i a first first' written' inside read is set =
    ap₂ (λ f w. f ++ first_reads w (drop (i + 1) stmts) last) is set
    ∙ append_assoc first (others written a.reads) (first_reads (with_all written a.writes) (drop (i + 1) stmts) last)
    ∙ sym (ap (λ l. first ++ first_reads written l last) (drop_more stmts i a inside ∙ ap (λ b. b ∷ drop (i + 1) stmts) (sym read)))

pub writes_step : (stmts : List Access) (i : ℕ) (a : Access) (list : List Loc) → i < length stmts → a ≡ get_or stmts i a → list ≡ flat_map (λ (a : Access). a.writes) (take i stmts) →
    list ++ a.writes ≡ flat_map (λ (a : Access). a.writes) (take (i + 1) stmts)
writes_step stmts i a list inside read so =
    ap (λ l. l ++ a.writes) so ∙ flat_map_more (λ (a : Access). a.writes) [] (take i stmts) a
    ∙ ap (flat_map (λ (a : Access). a.writes)) (ap (λ b. take i stmts ++ b ∷ []) read ∙ sym (take_more stmts i a inside))

-- an element of a mapped list
pub map_read : {A B : Type 0} (f : A → B) (xs : List A) (i : ℕ) (x : A) → i < length xs → x ≡ get_or xs i x → f x ≡ get_or (map f xs) i (f x)
map_read f xs i x inside read = ap f read ∙ sym (get_or-map f xs i x (f x) inside)

-- Places.

-- one more row whose first reads have their places
pub rows_placed : (rows : List Row) (i : ℕ) (row : Row) (places after : List Loc) → i < length rows → row ≡ get_or rows i row → after ≡ with_places places row.first →
    All (λ (row : Row). All (Contains places) row.first) (take i rows) → All (λ (row : Row). All (Contains after) row.first) (take (i + 1) rows)
rows_placed rows i row places after inside read is all =
    let more = with_places places row.first in
    subst (λ l. All (λ (row : Row). All (Contains l) row.first) (take (i + 1) rows)) (sym is)
    (subst (All (λ (r : Row). All (Contains more) r.first)) (sym (take_more rows i row inside ∙ ap (λ r. take i rows ++ r ∷ []) (sym read)))
    (All-push (λ (r : Row). All (Contains more) r.first) (take i rows) row
    (All-weaker (λ (r : Row). All (Contains places) r.first) (λ (r : Row). All (Contains more) r.first)
    (λ r known. All-weaker (Contains places) (Contains more) (λ x c. with_places_keep places row.first x c) r.first known) (take i rows) all)
    (with_places_have places row.first)))

-- the last of the first elements of a list begins the rest
pub drop_last : {A : Type 0} (xs : List A) (at : ℕ) (a : A) → 0 < at → at ≤ length xs → a ≡ get_or xs (at - 1) a → drop (at - 1) xs ≡ a ∷ drop at xs
drop_last xs at a some le read =
    let more : (at - 1) + 1 ≡ at = omega (arith, some) in
    drop_more xs (at - 1) a (omega (arith, some, le)) ∙ ap₂ (λ x k. x ∷ drop k xs) (sym read) more
