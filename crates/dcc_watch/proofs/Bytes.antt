-- The first byte of accesses of which something is so, byte by byte and access by access.
use Rattle.std.proofs.Common.{◌≡◌, ℕ, ◌+◌, ◌<◌, ◌≤◌, Bool, true, false, List, [], ◌∷◌, ◌++◌, map, take, drop, length, get_or, Option, Some, None, is_some, refl, sym, ap, ◌∙◌, arith}
use Rattle.std.specs.List.{filter, filter_map, flat_map, find, range_with_len}
use Rattle.std.specs.Option.{option_or}
use Rattle.std.proofs.lemmas.List.{map-append, take-append-drop, drop_more, take_all, take_more}
use Rattle.std.proofs.lemmas.List.Elements.{filter_map-append, filter-append}
use Rattle.std.proofs.lemmas.List.Folds.{find-append}
use Rattle.std.proofs.lemmas.List.FromFn.{map-range_with_len_more, take-map-range_with_len, get_or-map-range_with_len, length-map-range_with_len}
use Rattle.std.proofs.lemmas.Grind.{flat_map-append}
use Rattle.dcc_prog.specs.declared.procedure.Layout.{Layout}
use Rattle.dcc_machine.specs.Access.{Access as ToldAccess, address_in, addresses_of}
use Rattle.dcc_prog.specs.Clean.{stack_offset, with_marks}
use Rattle.dcc_watch.specs.declared.access.Access.{Access}
use Rattle.dcc_watch.specs.Accesses.{access_of, accesses_of}
use Rattle.dcc_watch.specs.Foul.{first_at, touched}

-- Addresses.

first-append : (layout : Layout) (so : ℕ → Bool) (xs ys : List ℕ)
    → first_at layout so (xs ++ ys) ≡ option_or (first_at layout so xs) (first_at layout so ys)
first-append layout so xs ys =
    ap (find so) (filter_map-append (stack_offset layout) xs ys)
    ∙ find-append so (filter_map (stack_offset layout) xs) (filter_map (stack_offset layout) ys)

-- where the first addresses have none, it is that of the others
pub none_before : (layout : Layout) (so : ℕ → Bool) (xs ys : List ℕ) → first_at layout so xs ≡ None
    → first_at layout so (xs ++ ys) ≡ first_at layout so ys
none_before layout so xs ys none =
    first-append layout so xs ys ∙ ap (λ o. option_or o (first_at layout so ys)) none

some_first : (found other : Option ℕ) → is_some found ≡ true → option_or found other ≡ found
some_first None other is = cc
some_first (Some offset) other is = refl

-- where they have one, it is that
pub found_before : (layout : Layout) (so : ℕ → Bool) (xs ys : List ℕ) → is_some (first_at layout so xs) ≡ true
    → first_at layout so (xs ++ ys) ≡ first_at layout so xs
found_before layout so xs ys is = first-append layout so xs ys ∙ some_first (first_at layout so xs) (first_at layout so ys) is

-- the first n addresses of an access
pub within : ToldAccess → ℕ → List ℕ
within access n = map (address_in access) (range_with_len 0 n)

pub all_within : (access : ToldAccess) → addresses_of access ≡ within access access.size
unfolding within
all_within access = refl

pub none_within : (access : ToldAccess) → within access 0 ≡ []
unfolding within
none_within access = refl

pub within-more : (access : ToldAccess) (k : ℕ) → within access (k + 1) ≡ within access k ++ address_in access k ∷ []
unfolding within
within-more access k = map-range_with_len_more (address_in access) 0 k k (omega arith)

within-split : (access : ToldAccess) (k n : ℕ) → k < n
    → (rest : List ℕ) × (within access n ≡ within access k ++ (address_in access k ∷ rest))
unfolding within
within-split access k n lt =
    let all = map (address_in access) (range_with_len 0 n) in
    let front : take k all ≡ map (address_in access) (range_with_len 0 k) = take-map-range_with_len (address_in access) 0 n k (omega arith) in
    let count : length all ≡ n = length-map-range_with_len (address_in access) 0 n in
    let inside : k < length all = omega arith in
    let at : get_or all k 0 ≡ address_in access k = get_or-map-range_with_len (address_in access) 0 n k k 0 lt (omega arith) in (
      drop (k + 1) all,
      sym (take-append-drop k all)
          ∙ ap (λ l. l ++ drop k all) front
          ∙ ap (λ l. map (address_in access) (range_with_len 0 k) ++ l) (drop_more all k 0 inside ∙ ap (λ a. a ∷ drop (k + 1) all) at),
    )

-- byte by byte: none yet, none here
pub none_here : (layout : Layout) (so : ℕ → Bool) (access : ToldAccess) (k : ℕ) (found : Option ℕ)
    → first_at layout so (within access k) ≡ None → found ≡ first_at layout so (address_in access k ∷ []) → is_some found ≡ false
    → first_at layout so (within access (k + 1)) ≡ None
none_here layout so access k None none is nothing =
    ap (first_at layout so) (within-more access k) ∙ none_before layout so (within access k) (address_in access k ∷ []) none ∙ sym is
none_here layout so access k (Some offset) none is nothing = cc

-- none yet, and this is the first
pub found_here : (layout : Layout) (so : ℕ → Bool) (access : ToldAccess) (k : ℕ) (found : Option ℕ) → k < access.size
    → first_at layout so (within access k) ≡ None → found ≡ first_at layout so (address_in access k ∷ []) → is_some found ≡ true
    → found ≡ first_at layout so (addresses_of access)
found_here layout so access k found lt none is something =
    let split = within-split access k access.size lt in
    let here : is_some (first_at layout so (address_in access k ∷ [])) ≡ true = ap is_some (sym is) ∙ something in
    is
    ∙ sym (found_before layout so (address_in access k ∷ []) split.0 here)
    ∙ sym (none_before layout so (within access k) (address_in access k ∷ split.0) none)
    ∙ ap (first_at layout so) (sym split.1 ∙ sym (all_within access))

-- Accesses.

touched-append : (keep : ToldAccess → Bool) (xs ys : List ToldAccess) → touched keep (xs ++ ys) ≡ touched keep xs ++ touched keep ys
touched-append keep xs ys =
    ap (flat_map addresses_of) (filter-append keep xs ys) ∙ flat_map-append addresses_of (filter keep xs) (filter keep ys)

accesses-more : (items : List Access) (i : ℕ) (d : Access) → i < length items
    → accesses_of (take (i + 1) items) ≡ accesses_of (take i items) ++ access_of (get_or items i d) ∷ []
accesses-more items i d lt = ap accesses_of (take_more items i d lt) ∙ map-append access_of (take i items) (get_or items i d ∷ [])

accesses-split : (items : List Access) (i : ℕ) (d : Access) → i < length items
    → accesses_of items ≡ accesses_of (take i items) ++ (access_of (get_or items i d) ∷ accesses_of (drop (i + 1) items))
accesses-split items i d lt =
    ap accesses_of (sym (take-append-drop i items) ∙ ap (λ l. take i items ++ l) (drop_more items i d lt))
    ∙ map-append access_of (take i items) (get_or items i d ∷ drop (i + 1) items)

module _ (layout : Layout) (so : ℕ → Bool) (keep : ToldAccess → Bool) (items : List Access) (i : ℕ) (d : Access) where
  -- none yet, none of this access
  pub none_of : (found : Option ℕ) → i < length items → first_at layout so (touched keep (accesses_of (take i items))) ≡ None
      → found ≡ first_at layout so (touched keep (access_of (get_or items i d) ∷ [])) → is_some found ≡ false
      → first_at layout so (touched keep (accesses_of (take (i + 1) items))) ≡ None
  none_of None lt none is nothing =
      let front = accesses_of (take i items) in
      let here = access_of (get_or items i d) ∷ [] in
      ap (λ l. first_at layout so (touched keep l)) (accesses-more items i d lt)
      ∙ ap (first_at layout so) (touched-append keep front here)
      ∙ none_before layout so (touched keep front) (touched keep here) none
      ∙ sym is
  none_of (Some offset) lt none is nothing = cc

  -- none yet, and this access has the first
  pub found_of : (found : Option ℕ) (list : List ToldAccess) → i < length items → accesses_of items ≡ list
      → first_at layout so (touched keep (accesses_of (take i items))) ≡ None
      → found ≡ first_at layout so (touched keep (access_of (get_or items i d) ∷ [])) → is_some found ≡ true
      → found ≡ first_at layout so (touched keep list)
  found_of found list lt all none is something =
      let front = accesses_of (take i items) in
      let here = access_of (get_or items i d) ∷ [] in
      let rest = accesses_of (drop (i + 1) items) in
      let some : is_some (first_at layout so (touched keep here)) ≡ true = ap is_some (sym is) ∙ something in
      is
      ∙ sym (found_before layout so (touched keep here) (touched keep rest) some)
      ∙ ap (first_at layout so) (sym (touched-append keep here rest))
      ∙ sym (none_before layout so (touched keep front) (touched keep (here ++ rest)) none)
      ∙ ap (first_at layout so) (sym (touched-append keep front (here ++ rest)))
      ∙ ap (λ l. first_at layout so (touched keep l)) (sym (accesses-split items i d lt) ∙ all)

-- none in all
pub none_in_all : (layout : Layout) (so : ℕ → Bool) (keep : ToldAccess → Bool) (items : List Access) (list : List ToldAccess) (i : ℕ)
    → length items ≤ i → accesses_of items ≡ list → first_at layout so (touched keep (accesses_of (take i items))) ≡ None
    → None ≡ first_at layout so (touched keep list)
none_in_all layout so keep items list i le all none =
    sym none ∙ ap (λ l. first_at layout so (touched keep (accesses_of l))) (take_all i items le) ∙ ap (λ l. first_at layout so (touched keep l)) all

-- Marks.

pub marks-append : (mark : Bool) (xs ys : List ℕ) (marks : List Bool) → with_marks mark (xs ++ ys) marks ≡ with_marks mark ys (with_marks mark xs marks)
marks-append mark [] ys marks = refl
marks-append mark (x ∷ xs) ys marks = marks-append mark xs ys _

-- the bytes of the stack at addresses are marked
pub marked_at : Layout → List ℕ → List Bool → List Bool
marked_at layout addresses marks = with_marks true (filter_map (stack_offset layout) addresses) marks

pub marked-is : (layout : Layout) (addresses : List ℕ) (marks : List Bool)
    → marked_at layout addresses marks ≡ with_marks true (filter_map (stack_offset layout) addresses) marks
unfolding marked_at
marked-is layout addresses marks = refl

pub marked-append : (layout : Layout) (xs ys : List ℕ) (marks : List Bool) → marked_at layout (xs ++ ys) marks ≡ marked_at layout ys (marked_at layout xs marks)
unfolding marked_at
marked-append layout xs ys marks =
    ap (λ l. with_marks true l marks) (filter_map-append (stack_offset layout) xs ys)
    ∙ marks-append true (filter_map (stack_offset layout) xs) (filter_map (stack_offset layout) ys) marks

-- byte by byte
pub marked-more : (layout : Layout) (access : ToldAccess) (k : ℕ) (before now marks : List Bool)
    → before ≡ marked_at layout (within access k) marks → now ≡ marked_at layout (address_in access k ∷ []) before
    → now ≡ marked_at layout (within access (k + 1)) marks
marked-more layout access k before now marks was is =
    is ∙ ap (marked_at layout (address_in access k ∷ [])) was
    ∙ sym (marked-append layout (within access k) (address_in access k ∷ []) marks)
    ∙ ap (λ l. marked_at layout l marks) (sym (within-more access k))

-- access by access
pub marked_of-more : (layout : Layout) (keep : ToldAccess → Bool) (items : List Access) (i : ℕ) (d : Access) (before now marks : List Bool) → i < length items
    → before ≡ marked_at layout (touched keep (accesses_of (take i items))) marks
    → now ≡ marked_at layout (touched keep (access_of (get_or items i d) ∷ [])) before
    → now ≡ marked_at layout (touched keep (accesses_of (take (i + 1) items))) marks
marked_of-more layout keep items i d before now marks lt was is =
    let front = accesses_of (take i items) in
    let here = access_of (get_or items i d) ∷ [] in
    is ∙ ap (marked_at layout (touched keep here)) was
    ∙ sym (marked-append layout (touched keep front) (touched keep here) marks)
    ∙ ap (λ l. marked_at layout l marks) (sym (touched-append keep front here))
    ∙ ap (λ l. marked_at layout (touched keep l) marks) (sym (accesses-more items i d lt))

pub marked_all : (layout : Layout) (keep : ToldAccess → Bool) (items : List Access) (list : List ToldAccess) (i : ℕ) (now marks : List Bool)
    → length items ≤ i → accesses_of items ≡ list → now ≡ marked_at layout (touched keep (accesses_of (take i items))) marks
    → now ≡ marked_at layout (touched keep list) marks
marked_all layout keep items list i now marks le all is =
    is ∙ ap (λ l. marked_at layout (touched keep (accesses_of l)) marks) (take_all i items le) ∙ ap (λ l. marked_at layout (touched keep l) marks) all
