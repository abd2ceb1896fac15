-- The bytes of argument words that a caller takes back after a call: which temporaries are stored, and which go to cells.
use Rattle.std.proofs.Common.{◌≡◌, ◌≤◌, ℕ, ℤ, pos, suc, ◌+◌, ◌*◌, Bool, true, false, if◌then◌else◌, ◌⊎◌, inl, inr, List, [], ◌∷◌, ◌++◌, length, Contains, refl, sym, ap, ◌∙◌, subst, arith}
use Rattle.std.specs.Prelude.{flat_map, ◌+ℤ◌, ◌≤ℤ◌, ◌<ℤ◌, int_le, int_lt}
use Rattle.std.specs.List.{range_with_len}
use Rattle.std.specs.Ordering.{int_eq}
use Rattle.std.proofs.lemmas.Bool.Decides.{Decides-int_eq}
use Rattle.std.proofs.lemmas.Int.{ints}
use Rattle.std.proofs.lemmas.List.{append_assoc}
use Rattle.dcc_num.specs.declared.Width.TheVariants.{Byte as byte_width}
use Rattle.dcc_num.specs.declared.Half.{Half as HalfName}
use Rattle.dcc_num.specs.declared.Half.TheVariants.{Low, High}
use Rattle.dcc_prog.specs.declared.frame.Cell.{Cell as FrameCell}
use Rattle.dcc_prog.specs.Analysed.{bytes_of}
use Rattle.dcc_stack.specs.Slots.{is_within, is_placed}
use Rattle.dcc_stack.proofs.SlotPlaces.{within-tells}
use Rattle.dcc_ir.specs.declared.syntax.Loc.{Loc}
use Rattle.dcc_ir.specs.declared.syntax.Loc.TheVariants.{Cell, Temp}
use Rattle.dcc_ir.specs.Tree.{Get, Address, Stmt, Set, Store}
use Rattle.dcc_ir.specs.Live.{is_among}
use Rattle.dcc_ir.proofs.LocationLaws.{Contains-here, Contains-later, Contains-none, Contains-cases, among_contains, contains_among}
use Rattle.dcc_ir.proofs.PathLaws.{decided}
use Rattle.dcc_ops.specs.OperandPlace.{OperandPlace, constant, byte, memory, storing}
use Rattle.dcc_lift.proofs.ListTests.{and_both}
use Rattle.dcc_simulation.specs.Procedures.{Procedure, frame_place, cell_place, cells_of, distance_of}
use Rattle.dcc_simulation.specs.Statements.{argument_offset, taking_all_back}
use Rattle.dcc_simulation.proofs.ArgumentWords.{in-range}
use Rattle.dcc_machine_demand.specs.Instance.{passed_word}
use Rattle.dcc_lifted_demand.specs.Sources.{before, sources, used}
use Rattle.dcc_lifted_demand.proofs.ListLaws.{in_flat, of_flat, only}

-- Where a byte of the frame stands.

-- the byte of the frame is in memory
abbrev pub IsOpen : Procedure → ℤ → Type 0
IsOpen q k = (distance : ℕ) × (frame_place q byte_width k ≡ memory byte_width (Address distance))

-- the byte of the frame stands in the location
abbrev pub StandsIn : Procedure → ℤ → Loc → Type 0
StandsIn q k l = frame_place q byte_width k ≡ byte l

data Stands (q : Procedure) (k : ℤ) : Type 0 where
  open_byte : IsOpen q k → Stands q k
  kept_byte : (n : ℕ) (h : HalfName) → StandsIn q k (Cell n h) → Stands q k
  no_byte : frame_place q byte_width k ≡ constant byte_width 0 → Stands q k

-- a byte of cells
data InCells (n : ℕ) (cells : List FrameCell) (k : ℤ) : Type 0 where
  in_one : (number : ℕ) (h : HalfName) → cell_place n cells byte_width k ≡ byte (Cell number h) → InCells n cells k
  in_none : cell_place n cells byte_width k ≡ constant byte_width 0 → InCells n cells k

in_cells : (n : ℕ) (cells : List FrameCell) (k : ℤ) → InCells n cells k
in_cells n [] k = in_none refl
in_cells n (cell ∷ cells) k = by (is_within k (bytes_of cell)) refl (in_cells (suc n) cells k)
  where
    place_by : Bool → OperandPlace
    place_by b = if b then byte (Cell n (if int_eq k cell.first then Low else High)) else cell_place (suc n) cells byte_width k

    by : (b : Bool) → is_within k (bytes_of cell) ≡ b → InCells (suc n) cells k → InCells n (cell ∷ cells) k
    by true t rest = in_one n (if int_eq k cell.first then Low else High) (ap place_by t)
    by false t (in_one number h e) = in_one number h (ap place_by t ∙ e)
    by false t (in_none e) = in_none (ap place_by t ∙ e)

stands : (q : Procedure) (k : ℤ) → Stands q k
stands q k = by (is_placed q.frame k) refl (in_cells 0 (cells_of q) k)
  where
    place_by : Bool → OperandPlace
    place_by b = if b then memory byte_width (Address (distance_of k)) else cell_place 0 (cells_of q) byte_width k

    by : (b : Bool) → is_placed q.frame k ≡ b → InCells 0 (cells_of q) k → Stands q k
    by true t rest = open_byte (distance_of k, ap place_by t)
    by false t (in_one number h e) = kept_byte number h (ap place_by t ∙ e)
    by false t (in_none e) = no_byte (ap place_by t ∙ e)

-- What is taken back.

-- each byte of these argument words, with the number of the temporary in which it comes, from an index on
abbrev pub backs : ℕ → ℕ → List ℕ → List (ℤ × ℕ)
backs height index [] = []
backs height index (number ∷ numbers) =
    (argument_offset height number, 8 + 2 * index) ∷ (argument_offset height number +ℤ pos 1, 8 + (2 * index + 1)) ∷ backs height (suc index) numbers

abbrev putting : Procedure → ℤ × ℕ → List Stmt
putting q back = storing (frame_place q byte_width back.0) (Get (Temp back.1))

-- the bytes that a call gives back go to where the frame has them
abbrev pub put_back : Procedure → List (ℤ × ℕ) → List Stmt
put_back q [] = []
put_back q (back ∷ rest) = putting q back ++ put_back q rest

pub takes_back : (q : Procedure) (height index : ℕ) (numbers : List ℕ) → taking_all_back q height index numbers ≡ put_back q (backs height index numbers)
takes_back q height index [] = refl
takes_back q height index (number ∷ numbers) =
    let low = putting q (argument_offset height number, 8 + 2 * index) in
    let high = putting q (argument_offset height number +ℤ pos 1, 8 + (2 * index + 1)) in
    append_assoc low high (taking_all_back q height (suc index) numbers) ∙ ap (λ rest. low ++ (high ++ rest)) (takes_back q height (suc index) numbers)

module _ (q : Procedure) where
  abbrev open_stmt : ℕ → ℕ → Stmt
  open_stmt d t = Store 8 (Address d) (Get (Temp t))

  abbrev kept_stmt : ℕ → HalfName → ℕ → Stmt
  kept_stmt n h t = Set (Cell n h) (Get (Temp t))

  module _ (c : ℤ × ℕ) (bs : List (ℤ × ℕ)) where
    abbrev more : List Stmt
    more = put_back q bs

    with_place : (P : OperandPlace) → frame_place q byte_width c.0 ≡ P → put_back q (c ∷ bs) ≡ storing P (Get (Temp c.1)) ++ more
    with_place P e = ap (λ place. storing place (Get (Temp c.1)) ++ more) e

    -- what is carried by the others is carried by all of them
    carried_later : (l : Loc) (t : ℕ) → Contains (sources more l) (Temp t) → Contains (sources (put_back q (c ∷ bs)) l) (Temp t)
    carried_later l t has = by (stands q c.0)
      where
        by : Stands q c.0 → Contains (sources (put_back q (c ∷ bs)) l) (Temp t)
        by (open_byte (d, e)) =
            subst (λ ss. Contains (sources ss l) (Temp t)) (sym (with_place (memory byte_width (Address d)) e))
            (in_flat (before (open_stmt d c.1)) (sources more l) (Temp t) (Temp t) has (Contains-here (Temp t) []))
        by (kept_byte n h e) =
            subst (λ ss. Contains (sources ss l) (Temp t)) (sym (with_place (byte (Cell n h)) e))
            (in_flat (before (kept_stmt n h c.1)) (sources more l) (Temp t) (Temp t) has (Contains-here (Temp t) []))
        by (no_byte e) = subst (λ ss. Contains (sources ss l) (Temp t)) (sym (with_place (constant byte_width 0) e)) has

    used_later : (t : ℕ) → Contains (used more []) (Temp t) → Contains (used (put_back q (c ∷ bs)) []) (Temp t)
    used_later t has = by (stands q c.0)
      where
        by : Stands q c.0 → Contains (used (put_back q (c ∷ bs)) []) (Temp t)
        by (open_byte (d, e)) =
            subst (λ ss. Contains (used ss []) (Temp t)) (sym (with_place (memory byte_width (Address d)) e))
            (Contains-later (Temp c.1) (flat_map (before (open_stmt d c.1)) (used more [])) (Temp t)
            (in_flat (before (open_stmt d c.1)) (used more []) (Temp t) (Temp t) has (Contains-here (Temp t) [])))
        by (kept_byte n h e) =
            subst (λ ss. Contains (used ss []) (Temp t)) (sym (with_place (byte (Cell n h)) e))
            (in_flat (before (kept_stmt n h c.1)) (used more []) (Temp t) (Temp t) has (Contains-here (Temp t) []))
        by (no_byte e) = subst (λ ss. Contains (used ss []) (Temp t)) (sym (with_place (constant byte_width 0) e)) has

  -- Bytes in memory are used.

  pub used_open : (bs : List (ℤ × ℕ)) (l : Loc) → Contains (used (put_back q bs) []) l → (b : ℤ × ℕ) × Contains bs b × IsOpen q b.0
  used_open [] l c = absurd (Contains-none l c)
  used_open (c ∷ bs) l has = by (stands q c.0) (λ m d. used_open bs m d)
    where
      on : (b : ℤ × ℕ) × Contains bs b × IsOpen q b.0 → (b : ℤ × ℕ) × Contains (c ∷ bs) b × IsOpen q b.0
      on x = (x.0, Contains-later c bs x.0 x.1, x.2)

      by : Stands q c.0 → ((m : Loc) → Contains (used (put_back q bs) []) m → (b : ℤ × ℕ) × Contains bs b × IsOpen q b.0) → (b : ℤ × ℕ) × Contains (c ∷ bs) b × IsOpen q b.0
      by (open_byte e) rest = (c, Contains-here c bs, e)
      by (kept_byte n h e) rest =
          let there = subst (λ ss. Contains (used ss []) l) (with_place c bs (byte (Cell n h)) e) has in
          let from = of_flat (before (kept_stmt n h c.1)) (used (put_back q bs) []) l there in
          on (rest from.0 from.1)
      by (no_byte e) rest = on (rest l (subst (λ ss. Contains (used ss []) l) (with_place c bs (constant byte_width 0) e) has))

  pub open_used : (bs : List (ℤ × ℕ)) (b : ℤ × ℕ) → Contains bs b → IsOpen q b.0 → (t : ℤ × ℕ) × Contains bs t × Contains (used (put_back q bs) []) (Temp t.1)
  open_used [] b c e = absurd (Contains-none b c)
  open_used (c ∷ bs) b among e =
      Contains-cases c bs b ((t : ℤ × ℕ) × Contains (c ∷ bs) t × Contains (used (put_back q (c ∷ bs)) []) (Temp t.1))
      (λ same. (c, Contains-here c bs, here (subst (λ x. IsOpen q x.0) (sym same) e)))
      (λ rest. let found = open_used bs b rest e in (found.0, Contains-later c bs found.0 found.1, used_later c bs found.0.1 found.2)) among
    where
      here : IsOpen q c.0 → Contains (used (put_back q (c ∷ bs)) []) (Temp c.1)
      here e =
          subst (λ ss. Contains (used ss []) (Temp c.1)) (sym (with_place c bs (memory byte_width (Address e.0)) e.1))
          (Contains-here (Temp c.1) (flat_map (before (open_stmt e.0 c.1)) (used (put_back q bs) [])))

  -- Bytes of argument words that stand in cells are carried there.

  written_cell : (n : ℕ) (h : HalfName) (l : Loc) → is_among (Cell n h ∷ []) l ≡ true → Cell n h ≡ l
  written_cell n h l t = only (Cell n h) l (among_contains (Cell n h ∷ []) l t)

  pub carried_kept : (bs : List (ℤ × ℕ)) (l x : Loc) → Contains (sources (put_back q bs) l) x → (x ≡ l) ⊎ ((b : ℤ × ℕ) × Contains bs b × StandsIn q b.0 l)
  carried_kept [] l x has = inl (sym (only l x has))
  carried_kept (c ∷ bs) l x has = by (stands q c.0) (λ y d. carried_kept bs l y d)
    where
      Told : List (ℤ × ℕ) → Loc → Type 0
      Told bs x = (x ≡ l) ⊎ ((b : ℤ × ℕ) × Contains bs b × StandsIn q b.0 l)

      on : (y : Loc) → y ≡ x → Told bs y → Told (c ∷ bs) x
      on y same (inl e) = inl (sym same ∙ e)
      on y same (inr found) = inr (found.0, Contains-later c bs found.0 found.1, found.2)

      cell : (n : ℕ) (h : HalfName) → StandsIn q c.0 (Cell n h) → (y : Loc) → Contains (before (kept_stmt n h c.1) y) x → Told bs y → Told (c ∷ bs) x
      cell n h e y from (inr found) = inr (found.0, Contains-later c bs found.0 found.1, found.2)
      cell n h e y from (inl same) = elim (decided (is_among (Cell n h ∷ []) y)) [
        | inl t ↦ inr (c, Contains-here c bs, e ∙ ap byte (written_cell n h y t ∙ same))
        | inr f ↦ inl (sym (only y x (subst (λ b. Contains (if b then Temp c.1 ∷ [] else y ∷ []) x) f from)) ∙ same)
      ]

      by : Stands q c.0 → ((y : Loc) → Contains (sources (put_back q bs) l) y → Told bs y) → Told (c ∷ bs) x
      by (open_byte (d, e)) rest =
          let there = subst (λ ss. Contains (sources ss l) x) (with_place c bs (memory byte_width (Address d)) e) has in
          let from = of_flat (before (open_stmt d c.1)) (sources (put_back q bs) l) x there in
          on from.0 (only from.0 x from.2) (rest from.0 from.1)
      by (kept_byte n h e) rest =
          let there = subst (λ ss. Contains (sources ss l) x) (with_place c bs (byte (Cell n h)) e) has in
          let from = of_flat (before (kept_stmt n h c.1)) (sources (put_back q bs) l) x there in
          cell n h e from.0 from.2 (rest from.0 from.1)
      by (no_byte e) rest = on x refl (rest x (subst (λ ss. Contains (sources ss l) x) (with_place c bs (constant byte_width 0) e) has))

  -- a location is kept by them, or takes a temporary
  keeps_or_takes : (bs : List (ℤ × ℕ)) (l : Loc) → Contains (sources (put_back q bs) l) l ⊎ ((t : ℤ × ℕ) × Contains bs t × Contains (sources (put_back q bs) l) (Temp t.1))
  keeps_or_takes [] l = inl (Contains-here l [])
  keeps_or_takes (c ∷ bs) l = by (keeps_or_takes bs l) (stands q c.0)
    where
      Told : List (ℤ × ℕ) → Type 0
      Told bs = Contains (sources (put_back q bs) l) l ⊎ ((t : ℤ × ℕ) × Contains bs t × Contains (sources (put_back q bs) l) (Temp t.1))

      by : Told bs → Stands q c.0 → Told (c ∷ bs)
      by (inr found) s = inr (found.0, Contains-later c bs found.0 found.1, carried_later c bs l found.0.1 found.2)
      by (inl kept) (open_byte (d, e)) =
          inl (subst (λ ss. Contains (sources ss l) l) (sym (with_place c bs (memory byte_width (Address d)) e))
          (in_flat (before (open_stmt d c.1)) (sources (put_back q bs) l) l l kept (Contains-here l [])))
      by (inl kept) (no_byte e) = inl (subst (λ ss. Contains (sources ss l) l) (sym (with_place c bs (constant byte_width 0) e)) kept)
      by (inl kept) (kept_byte n h e) = elim (decided (is_among (Cell n h ∷ []) l)) [
        | inl t ↦
            inr (
              c,
              Contains-here c bs,
              subst (λ ss. Contains (sources ss l) (Temp c.1)) (sym (with_place c bs (byte (Cell n h)) e))
                  (in_flat (before (kept_stmt n h c.1)) (sources (put_back q bs) l) l (Temp c.1) kept
                  (subst (λ b. Contains (if b then Temp c.1 ∷ [] else l ∷ []) (Temp c.1)) (sym t) (Contains-here (Temp c.1) []))),
            )
        | inr f ↦
            inl (subst (λ ss. Contains (sources ss l) l) (sym (with_place c bs (byte (Cell n h)) e))
            (in_flat (before (kept_stmt n h c.1)) (sources (put_back q bs) l) l l kept
            (subst (λ b. Contains (if b then Temp c.1 ∷ [] else l ∷ []) l) (sym f) (Contains-here l []))))
      ]

  pub kept_carried : (bs : List (ℤ × ℕ)) (b : ℤ × ℕ) (l : Loc) → Contains bs b → StandsIn q b.0 l
      → (t : ℤ × ℕ) × Contains bs t × Contains (sources (put_back q bs) l) (Temp t.1)
  kept_carried [] b l c e = absurd (Contains-none b c)
  kept_carried (c ∷ bs) b l among e =
      Contains-cases c bs b Found (λ same. here (subst (λ x. StandsIn q x.0 l) (sym same) e) (keeps_or_takes bs l))
      (λ rest. on (kept_carried bs b l rest e)) among
    where
      Found : Type 0
      Found = (t : ℤ × ℕ) × Contains (c ∷ bs) t × Contains (sources (put_back q (c ∷ bs)) l) (Temp t.1)

      on : (t : ℤ × ℕ) × Contains bs t × Contains (sources (put_back q bs) l) (Temp t.1) → Found
      on found = (found.0, Contains-later c bs found.0 found.1, carried_later c bs l found.0.1 found.2)

      cell : (n : ℕ) (h : HalfName) → StandsIn q c.0 (Cell n h) → StandsIn q c.0 l → is_among (Cell n h ∷ []) l ≡ true
      cell n h e f =
          let same : Cell n h ≡ l = cc (e, f) in
          subst (λ m. is_among (Cell n h ∷ []) m ≡ true) same (contains_among (Cell n h ∷ []) (Cell n h) (Contains-here (Cell n h) []))

      here : StandsIn q c.0 l → Contains (sources (put_back q bs) l) l ⊎ ((t : ℤ × ℕ) × Contains bs t × Contains (sources (put_back q bs) l) (Temp t.1)) → Found
      here e (inr found) = on found
      here e (inl kept) = by (stands q c.0)
        where
          by : Stands q c.0 → Found
          by (open_byte (d, f)) = absurd (cc (e, f))
          by (no_byte f) = absurd (cc (e, f))
          by (kept_byte n h f) = (
            c,
            Contains-here c bs,
            subst (λ ss. Contains (sources ss l) (Temp c.1)) (sym (with_place c bs (byte (Cell n h)) f))
                (in_flat (before (kept_stmt n h c.1)) (sources (put_back q bs) l) l (Temp c.1) kept
                (subst (λ b. Contains (if b then Temp c.1 ∷ [] else l ∷ []) (Temp c.1)) (sym (cell n h f e)) (Contains-here (Temp c.1) []))),
          )

-- The bytes that a call gets back are those of the words of its arguments.

le_told : (a b : ℤ) → a ≤ℤ b → int_le a b ≡ true
le_told a b le = grind (arith, ints, le)

lt_told : (a b : ℤ) → a <ℤ b → int_lt a b ≡ true
lt_told a b less = grind (arith, ints, less)

within_by : (height number : ℕ) (k : ℤ) → (k ≡ argument_offset height number) ⊎ (k ≡ (argument_offset height number +ℤ pos 1)) → is_within k (passed_word height number) ≡ true
within_by height number k (inl e) =
    and_both (int_le (argument_offset height number) k) (int_lt k (argument_offset height number +ℤ pos 2))
    (le_told (argument_offset height number) k (omega (arith, ints, e))) (lt_told k (argument_offset height number +ℤ pos 2) (omega (arith, ints, e)))
within_by height number k (inr e) =
    and_both (int_le (argument_offset height number) k) (int_lt k (argument_offset height number +ℤ pos 2))
    (le_told (argument_offset height number) k (omega (arith, ints, e))) (lt_told k (argument_offset height number +ℤ pos 2) (omega (arith, ints, e)))

pub back_passed : (height index : ℕ) (numbers : List ℕ) (b : ℤ × ℕ) → Contains (backs height index numbers) b
    → (number : ℕ) × Contains numbers number × (is_within b.0 (passed_word height number) ≡ true)
back_passed height index [] b c = absurd (Contains-none b c)
back_passed height index (number ∷ numbers) b c =
    let k = argument_offset height number in
    let rest = backs height (suc index) numbers in
    Contains-cases (k, 8 + 2 * index) ((k +ℤ pos 1, 8 + (2 * index + 1)) ∷ rest) b Found (λ e. here (inl (sym (ap (λ x. x.0) e))))
    (λ more. Contains-cases (k +ℤ pos 1, 8 + (2 * index + 1)) rest b Found (λ e. here (inr (sym (ap (λ x. x.0) e))))
    (λ later. let found = back_passed height (suc index) numbers b later in (found.0, Contains-later number numbers found.0 found.1, found.2)) more) c
  where
    Found : Type 0
    Found = (n : ℕ) × Contains (number ∷ numbers) n × (is_within b.0 (passed_word height n) ≡ true)

    here : (b.0 ≡ argument_offset height number) ⊎ (b.0 ≡ (argument_offset height number +ℤ pos 1)) → Found
    here e = (number, Contains-here number numbers, within_by height number b.0 e)

pub passed_back : (height index : ℕ) (numbers : List ℕ) (number : ℕ) (k : ℤ) → Contains numbers number → is_within k (passed_word height number) ≡ true
    → (b : ℤ × ℕ) × Contains (backs height index numbers) b × (b.0 ≡ k)
passed_back height index [] number k c t = absurd (Contains-none number c)
passed_back height index (n ∷ numbers) number k c t =
    Contains-cases n numbers number Found (λ e. here (subst (λ m. is_within k (passed_word height m) ≡ true) (sym e) t))
    (λ later. let found = passed_back height (suc index) numbers number k later t in (found.0, Contains-later low (high ∷ rest) found.0 (Contains-later high rest found.0 found.1), found.2)) c
  where
    low : ℤ × ℕ
    low = (argument_offset height n, 8 + 2 * index)

    high : ℤ × ℕ
    high = (argument_offset height n +ℤ pos 1, 8 + (2 * index + 1))

    rest : List (ℤ × ℕ)
    rest = backs height (suc index) numbers

    Found : Type 0
    Found = (b : ℤ × ℕ) × Contains (low ∷ high ∷ rest) b × (b.0 ≡ k)

    here : is_within k (passed_word height n) ≡ true → Found
    here w =
        let both = within-tells k (passed_word height n) w in
        elim (decided (int_eq k (argument_offset height n))) [
          | inl e ↦ (low, Contains-here low (high ∷ rest), sym ((Decides-int_eq k (argument_offset height n)).0 e))
          | inr f ↦ (high, Contains-later low (high ∷ rest) high (Contains-here high rest), second both (λ e. not_same f ((Decides-int_eq k (argument_offset height n)).1 e)))
        ]
      where
        not_same : int_eq k (argument_offset height n) ≡ false → int_eq k (argument_offset height n) ≡ true → ⊥
        not_same f t = cc (f, t)

        second : (argument_offset height n ≤ℤ k) × (k <ℤ (argument_offset height n +ℤ pos 2)) → (k ≡ argument_offset height n → ⊥) → (argument_offset height n +ℤ pos 1) ≡ k
        second both other = let low = both.0 in let high = both.1 in omega (arith, ints, low, high, other)

pub back_returned : (height index : ℕ) (numbers : List ℕ) (count : ℕ) (b : ℤ × ℕ) → Contains (backs height index numbers) b → 2 * (index + length numbers) ≤ count
    → (i : ℕ) × (b.1 ≡ 8 + i) × Contains (range_with_len 0 count) i
back_returned height index [] count b c few = absurd (Contains-none b c)
back_returned height index (n ∷ numbers) count b c few =
    Contains-cases (argument_offset height n, 8 + 2 * index) ((argument_offset height n +ℤ pos 1, 8 + (2 * index + 1)) ∷ rest) b Found
    (λ e. (2 * index, sym (ap (λ x. x.1) e), in-range 0 count (2 * index) (omega arith) (omega (arith, few))))
    (λ more. Contains-cases (argument_offset height n +ℤ pos 1, 8 + (2 * index + 1)) rest b Found
    (λ e. (2 * index + 1, sym (ap (λ x. x.1) e), in-range 0 count (2 * index + 1) (omega arith) (omega (arith, few))))
    (λ later. back_returned height (suc index) numbers count b later (omega (arith, few))) more) c
  where
    rest : List (ℤ × ℕ)
    rest = backs height (suc index) numbers

    Found : Type 0
    Found = (i : ℕ) × (b.1 ≡ 8 + i) × Contains (range_with_len 0 count) i
