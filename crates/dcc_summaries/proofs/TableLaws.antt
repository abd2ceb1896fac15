-- Lists of lists in which one takes a further location.
use Rattle.std.proofs.Common.{◌≡◌, ℕ, zero, suc, ◌<◌, Bool, true, false, ◌&&◌, ◌||◌, inl, inr, List, [], ◌∷◌, ◌++◌, length, get_or, slice_set, refl, sym, ap, ◌∙◌, subst, arith}
use Rattle.std.specs.Prelude.{◌==◌}
use Rattle.std.specs.Global.{Vec}
use Rattle.std.proofs.lemmas.Bool.{cases_eq, eq-eqb, ne_eqb}
use Rattle.std.proofs.lemmas.List.{length-map, map-set, get_or_read, get_or-set_same, get_or-set_other}
use Rattle.std.proofs.lemmas.List.Folds.{list_any-append}
use Rattle.dcc_ir.specs.declared.syntax.Loc.{Loc}
use Rattle.dcc_ir.specs.Live.{is_among}
use Rattle.dcc_ir.specs.Location.{same_location}
use Rattle.dcc_summaries.specs.declared.table.Want.{Want}
use Rattle.dcc_summaries.specs.Table.{lists_of, told_here, told_in_block, told_in, same_want}

-- a further empty list is as one that isn't there
pub room_more : {A : Type 0} (lists : List (Vec A)) (v : Vec A) → v.items ≡ [] → (n : ℕ) → get_or (lists_of (lists ++ v ∷ [])) n [] ≡ get_or (lists_of lists) n []
room_more [] v e zero = e
room_more [] v e (suc n) = refl
room_more (x ∷ lists) v e zero = refl
room_more (x ∷ lists) v e (suc n) = room_more lists v e n

-- what the lists are after one has changed
changed_list : {A : Type 0} (lists : List (Vec A)) (k n : ℕ) (v : Vec A) → k < length lists → (P : List A → Type 0) → (n ≡ k → P v.items) → ((n ≡ k → ⊥) → P (get_or (lists_of lists) n []))
    → P (get_or (lists_of (slice_set lists k v)) n [])
changed_list {A} lists k n v inside P here there =
    let items : Vec A → List A = λ w. w.items in
    subst (λ l. P (get_or l n [])) (sym (map-set items lists k v)) (elim (cases_eq n k) [
      | inl is ↦ subst (λ m. P (get_or (slice_set (lists_of lists) k v.items) m [])) (sym is)
          (subst P (sym (get_or-set_same (lists_of lists) k v.items [] (let size = length-map lists items in omega (arith, inside, size)))) (here is))
      | inr o ↦ subst P (sym (get_or-set_other (lists_of lists) k n v.items [] o)) (there o)
    ])

pub read_list : {A : Type 0} (lists : List (Vec A)) (k : ℕ) (v : Vec A) → k < length lists → v ≡ get_or lists k v → v.items ≡ get_or (lists_of lists) k []
read_list {A} lists k v inside e = by lists k inside e
  where
    by : (lists : List (Vec A)) (k : ℕ) → k < length lists → v ≡ get_or lists k v → v.items ≡ get_or (lists_of lists) k []
    by [] k inside e = absurd (omega (arith, inside))
    by (x ∷ lists) zero inside e = ap (λ w. w.items) e
    by (x ∷ lists) (suc k) inside e = by lists k (omega (arith, inside)) e

abbrev SameLists : {A : Type 0} → List (Vec A) → List (Vec A) → Type 0
SameLists lists old = (n : ℕ) → get_or (lists_of lists) n [] ≡ get_or (lists_of old) n []

turned : (a s : Bool) → (a || (s || false)) ≡ (s || a)
turned true true = refl
turned true false = refl
turned false true = refl
turned false false = refl

-- where the places are one, and where not
at_place : (n k : ℕ) (s b a : Bool) → (n ≡ k → b ≡ (s || a)) → ((n ≡ k → ⊥) → b ≡ a) → b ≡ (((n == k) && s) || a)
at_place n k s b a here there = elim (cases_eq n k) [
  | inl is ↦ here is ∙ ap (λ t. (t && s) || a) (sym (eq-eqb n k is))
  | inr o ↦ there o ∙ ap (λ t. (t && s) || a) (sym (ne_eqb n k o))
]

-- a further empty row is as one that isn't there
pub row_more : (rows : List (List Loc)) (row : List Loc) → row ≡ [] → (n : ℕ) → get_or (rows ++ row ∷ []) n [] ≡ get_or rows n []
row_more [] row e zero = e
row_more [] row e (suc n) = refl
row_more (x ∷ rows) row e zero = refl
row_more (x ∷ rows) row e (suc n) = row_more rows row e n

pub here_more : (old rows : List (List Loc)) (done : ℕ) (row more : List Loc) (location : Loc) → ((n : ℕ) → get_or rows n [] ≡ get_or old n []) → done < length rows → row ≡ get_or rows done row → more ≡ row ++ location ∷ []
    → (n : ℕ) (l : Loc) → told_here (slice_set rows done more) n l ≡ (((n == done) && same_location l location) || told_here old n l)
here_more old rows done row more location same inside read e n l =
    at_place n done (same_location l location) (told_here (slice_set rows done more) n l) (told_here old n l)
    (λ is.
    let here : get_or (slice_set rows done more) n [] ≡ more = ap (λ k. get_or (slice_set rows done more) k []) is ∙ get_or-set_same rows done more [] inside in
    let was : row ≡ get_or old n [] = get_or_read rows done row inside read [] ∙ same done ∙ ap (λ k. get_or old k []) (sym is) in
    ap (λ r. is_among r l) (here ∙ e) ∙ list_any-append (same_location l) row (location ∷ []) ∙ turned (is_among row l) (same_location l location)
    ∙ ap (λ r. same_location l location || is_among r l) was)
    (λ o. ap (λ r. is_among r l) (get_or-set_other rows done n more [] o ∙ same n))

pub block_more : (old blocks : List (Vec (List Loc))) (block done : ℕ) (rows more : Vec (List Loc)) (location : Loc) → SameLists blocks old → block < length blocks → rows ≡ get_or blocks block rows
    → ((n : ℕ) (l : Loc) → told_here more.items n l ≡ (((n == done) && same_location l location) || told_here rows.items n l))
    → (b n : ℕ) (l : Loc) → told_in_block (slice_set blocks block more) b n l ≡ (((b == block) && ((n == done) && same_location l location)) || told_in_block old b n l)
block_more old blocks block done rows more location same inside read e b n l =
    let s = (n == done) && same_location l location in
    changed_list blocks block b more inside (λ r. told_here r n l ≡ (((b == block) && s) || told_in_block old b n l))
    (λ is. at_place b block s (told_here more.items n l) (told_in_block old b n l) (λ is'.
    e n l ∙ ap (λ r. s || told_here r n l) (read_list blocks block rows inside read ∙ same block ∙ ap (λ k. get_or (lists_of old) k []) (sym is'))) (λ o. absurd (o is)))
    (λ o. at_place b block s (told_here (get_or (lists_of blocks) b []) n l) (told_in_block old b n l) (λ is. absurd (o is)) (λ o'. ap (λ r. told_here r n l) (same b)))

pub graph_more : (old graphs : List (Vec (Vec (List Loc)))) (want : Want) (blocks more : Vec (Vec (List Loc))) → SameLists graphs old → want.at.graph < length graphs → blocks ≡ get_or graphs want.at.graph blocks
    → ((b n : ℕ) (l : Loc) → told_in_block more.items b n l ≡ (((b == want.at.block) && ((n == want.at.done) && same_location l want.location)) || told_in_block blocks.items b n l))
    → (x : Want) → told_in (slice_set graphs want.at.graph more) x ≡ (same_want x want || told_in old x)
graph_more old graphs want blocks more same inside read e x =
    let g = x.at.graph in
    let b = x.at.block in
    let n = x.at.done in
    let l = x.location in
    let s = (b == want.at.block) && ((n == want.at.done) && same_location l want.location) in
    changed_list graphs want.at.graph g more inside (λ r. told_in_block r b n l ≡ (((g == want.at.graph) && s) || told_in old x))
    (λ is. at_place g want.at.graph s (told_in_block more.items b n l) (told_in old x) (λ is'.
    e b n l ∙ ap (λ r. s || told_in_block r b n l) (read_list graphs want.at.graph blocks inside read ∙ same want.at.graph ∙ ap (λ k. get_or (lists_of old) k []) (sym is'))) (λ o. absurd (o is)))
    (λ o. at_place g want.at.graph s (told_in_block (get_or (lists_of graphs) g []) b n l) (told_in old x) (λ is. absurd (o is)) (λ o'. ap (λ r. told_in_block r b n l) (same g)))
