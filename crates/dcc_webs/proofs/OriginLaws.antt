-- Of which location the numbers of all blocks are, and what this tells of their temporaries.
use Rattle.std.proofs.Common.{◌≡◌, ℕ, zero, suc, ◌+◌, ◌<◌, ◌≤◌, inl, inr, List, [], ◌∷◌, ◌++◌, length, get_or, slice_get, Some, None, refl, sym, ap, ◌∙◌, subst, arith, Contains}
use Rattle.std.specs.Prelude.{if◌then◌else◌, Option, ◌==◌}
use Rattle.std.proofs.lemmas.Bool.{cases_eq}
use Rattle.std.proofs.lemmas.Option.{slice_get_within, get_or_from_slice_get, slice_get-get_or}
use Rattle.std.proofs.lemmas.List.{get_or-map, length-map}
use Rattle.std.proofs.lemmas.List.Elements.{Contains-append_left, Contains-append_right, Contains-append_cases, Contains-push_cases}
use Rattle.dcc_ir.specs.declared.syntax.Loc.{Loc}
use Rattle.dcc_ir.specs.declared.syntax.Loc.TheVariants.{Temp}
use Rattle.dcc_ir.specs.Location.{location_width}
use Rattle.dcc_ir.proofs.PathLaws.{decided}
use Rattle.dcc_ir.proofs.LocationLaws.{Contains-none, Contains-here}
use Rattle.dcc_flow.specs.Access.{Access}
use Rattle.dcc_webs.specs.declared.classes.Temps.{Temps as TempsOf}
use Rattle.dcc_webs.specs.Names.{Names, no_names, is_some, with_number, all_with_numbers, named, all_named, without_names, at_writes, before_one, before_all, at_exit}
use Rattle.dcc_webs.specs.Walk.{Facts, AreWhole, no_access, live_at, begin_names, last_names, origins_before, base, link_of, link_from, links_upto, edge_links, links_to, links_into, block_links, links_before, all_links}
use Rattle.dcc_webs.specs.Classes.{class_in, AreJoined, itself, linked, turned, through, roots_below}
use Rattle.dcc_webs.specs.Split.{AreTempsOf}
use Rattle.dcc_webs.proofs.NameLaws.{AreOwn, own_at_exit, own_before_all, own_all_named, slice_get_left, slice_get_end}

-- Lists of origins grow.

-- each number of the first is one of the second, of the same location
abbrev pub Extends : Names → Names → Type 0
Extends a b = (n : ℕ) (l : Loc) → slice_get a.origins n ≡ Some l → slice_get b.origins n ≡ Some l

pub extends_with : (names : Names) (x : Loc) → Extends names (with_number names x)
extends_with names x n l e = slice_get_left names.origins (x ∷ []) n l e

pub extends_all_with : (names : Names) (xs : List Loc) → Extends names (all_with_numbers names xs)
extends_all_with names [] n l e = e
extends_all_with names (x ∷ xs) n l e = extends_all_with (with_number names x) xs n l (extends_with names x n l e)

pub extends_named : (names : Names) (x : Loc) → Extends names (named names x)
extends_named names x n l e = elim (decided (is_some (names.number x))) [
  | inl t ↦ subst (λ b. slice_get (if b then names else with_number names x).origins n ≡ Some l) (sym t) e
  | inr f ↦ subst (λ b. slice_get (if b then names else with_number names x).origins n ≡ Some l) (sym f) (extends_with names x n l e)
]

pub extends_all_named : (names : Names) (xs : List Loc) → Extends names (all_named names xs)
extends_all_named names [] n l e = e
extends_all_named names (x ∷ xs) n l e = extends_all_named (named names x) xs n l (extends_named names x n l e)

pub extends_writes : (a : Access) (after : Names) → Extends after (at_writes a after)
extends_writes a after = extends_all_named after a.writes

pub extends_reads : (a : Access) (after : Names) → Extends (at_writes a after) (before_one a after)
extends_reads a after n l e = extends_all_named (without_names (at_writes a after) a.writes) a.reads n l e

pub extends_one : (a : Access) (after : Names) → Extends after (before_one a after)
extends_one a after n l e = extends_reads a after n l (extends_writes a after n l e)

pub extends_all : (stmts : List Access) (after : Names) → Extends after (before_all stmts after)
extends_all [] after n l e = e
extends_all (a ∷ stmts) after n l e = extends_one a (before_all stmts after) n l (extends_all stmts after n l e)

-- what is live at the end of a block has the first numbers
live_first : (names : Names) (xs : List Loc) (i : ℕ) (l : Loc) → slice_get xs i ≡ Some l → slice_get (all_with_numbers names xs).origins (length names.origins + i) ≡ Some l
live_first names [] i l e = absurd (cc)
live_first names (x ∷ xs) zero l e =
    let same : x ≡ l = cc in
    let at : length names.origins + 0 ≡ length names.origins = omega arith in
    extends_all_with (with_number names x) xs (length names.origins + 0) l
    (subst (λ k. slice_get (names.origins ++ x ∷ []) k ≡ Some l) (sym at) (slice_get_end names.origins x ∙ ap Some same))
live_first names (x ∷ xs) (suc i) l e =
    let at : length (names.origins ++ x ∷ []) + i ≡ length names.origins + suc i = omega (arith, length_end names.origins x) in
    subst (λ k. slice_get (all_with_numbers (with_number names x) xs).origins k ≡ Some l) at (live_first (with_number names x) xs i l e)
  where
    length_end : (xs : List Loc) (x : Loc) → length (xs ++ x ∷ []) ≡ suc (length xs)
    length_end [] x = refl
    length_end (y ∷ xs) x = ap suc (length_end xs x)

pub exit_first : (live last : List Loc) (i : ℕ) (l : Loc) → slice_get live i ≡ Some l → slice_get (at_exit live last).origins i ≡ Some l
exit_first live last i l e =
    let at : 0 + i ≡ i = omega arith in
    extends_all_named (all_with_numbers no_names live) last i l (subst (λ k. slice_get (all_with_numbers no_names live).origins k ≡ Some l) at (live_first no_names live i l e))

-- Numbers of all blocks.

slice_get_right : (xs ys : List Loc) (k : ℕ) → slice_get (xs ++ ys) (length xs + k) ≡ slice_get ys k
slice_get_right [] ys k = let at : 0 + k ≡ k = omega arith in ap (slice_get ys) at
slice_get_right (x ∷ xs) ys k = let at : suc (length xs) + k ≡ suc (length xs + k) = omega arith in ap (slice_get (x ∷ (xs ++ ys))) at ∙ slice_get_right xs ys k

module _ (facts : Facts) where
  abbrev origins : List Loc
  origins = origins_before facts (length facts.accesses)

  -- the number of the block at a place is of the location
  abbrev pub IsOf : ℕ → ℕ → Loc → Type 0
  IsOf place n l = slice_get origins (base facts place + n) ≡ Some l

  pub origin_of : (place n : ℕ) (l : Loc) → place < length facts.accesses → slice_get (last_names facts place).origins n ≡ Some l → IsOf place n l
  origin_of place n l inside e = go (length facts.accesses) inside
    where
      go : (count : ℕ) → place < count → slice_get (origins_before facts count) (base facts place + n) ≡ Some l
      go zero less = absurd (omega arith)
      go (suc count) less = elim (cases_eq place count) [
        | inl same ↦ ap (λ p. slice_get (origins_before facts (suc count)) (base facts p + n)) same ∙ slice_get_right (origins_before facts count) (last_names facts count).origins n
            ∙ ap (λ p. slice_get (last_names facts p).origins n) (sym same) ∙ e
        | inr other ↦ slice_get_left (origins_before facts count) (last_names facts count).origins (base facts place + n) l (go count (omega arith))
      ]

  pub extends_last : (place : ℕ) → Extends (begin_names facts place) (last_names facts place)
  extends_last place n l e = elim (decided (place == 0)) [
    | inl t ↦ subst (λ b. slice_get (if b then all_named (begin_names facts place) facts.params else begin_names facts place).origins n ≡ Some l) (sym t)
        (extends_all_named (begin_names facts place) facts.params n l e)
    | inr f ↦ subst (λ b. slice_get (if b then all_named (begin_names facts place) facts.params else begin_names facts place).origins n ≡ Some l) (sym f) e
  ]

  pub own_begin : (place : ℕ) → AreOwn (begin_names facts place)
  own_begin place =
      let access = get_or facts.accesses place no_access in
      own_before_all access.stmts (at_exit (live_at facts place) access.last) (own_at_exit (live_at facts place) access.last)

  pub own_last : (place : ℕ) → AreOwn (last_names facts place)
  own_last place = elim (decided (place == 0)) [
    | inl t ↦ subst (λ b. AreOwn (if b then all_named (begin_names facts place) facts.params else begin_names facts place)) (sym t) (own_all_named (begin_names facts place) facts.params (own_begin place))
    | inr f ↦ subst (λ b. AreOwn (if b then all_named (begin_names facts place) facts.params else begin_names facts place)) (sym f) (own_begin place)
  ]

  -- Links.

  -- a link is along an edge, from what is live at its begin to the number of the location at its end
  pub record IsLink (x y : ℕ) : Type 0 where
    pub from : ℕ
    pub to : ℕ
    pub i : ℕ
    pub n : ℕ
    pub location : Loc
    pub to_in : to < length facts.accesses
    pub edge : Contains (get_or facts.preds to []) from
    pub there : slice_get (live_at facts from) i ≡ Some location
    pub named : (begin_names facts to).number location ≡ Some n
    pub begin : x ≡ base facts from + i
    pub end : y ≡ base facts to + n

  -- a link that is in a list of links is one of such an edge
  link_in : (names : Names) (begin end i : ℕ) (live : List Loc) (x y : ℕ) → Contains (links_upto names begin end live i) (x, y)
      → (k : ℕ) × (l : Loc) × (n : ℕ) × (slice_get live k ≡ Some l) × (names.number l ≡ Some n) × (x ≡ begin + k) × (y ≡ end + n)
  link_in names begin end zero live x y c = absurd (Contains-none (x, y) c)
  link_in names begin end (suc i) live x y c = elim (Contains-append_cases (links_upto names begin end live i) (link_from names (begin + i) end (slice_get live i)) (x, y) c) [
    | inl before ↦ link_in names begin end i live x y before
    | inr here ↦ at (slice_get live i) refl here
  ]
    where
      of : (l : Loc) (o : Option ℕ) → slice_get live i ≡ Some l → names.number l ≡ o → Contains (link_of o (begin + i) end) (x, y)
          → (k : ℕ) × (l : Loc) × (n : ℕ) × (slice_get live k ≡ Some l) × (names.number l ≡ Some n) × (x ≡ begin + k) × (y ≡ end + n)
      of l None e f c = absurd (Contains-none (x, y) c)
      of l (Some n) e f c = elim (Contains-push_cases [] (begin + i, end + n) (x, y) c) [
        | inl none ↦ absurd (Contains-none (x, y) none)
        | inr same ↦ (i, l, n, e, f, sym (ap (λ (p : ℕ × ℕ). p.0) same), sym (ap (λ (p : ℕ × ℕ). p.1) same))
      ]

      at : (o : Option Loc) → slice_get live i ≡ o → Contains (link_from names (begin + i) end o) (x, y)
          → (k : ℕ) × (l : Loc) × (n : ℕ) × (slice_get live k ≡ Some l) × (names.number l ≡ Some n) × (x ≡ begin + k) × (y ≡ end + n)
      at None e c = absurd (Contains-none (x, y) c)
      at (Some l) e c = of l (names.number l) e refl c

  into_in : (to i x y : ℕ) → to < length facts.accesses → Contains (links_into facts to i) (x, y) → IsLink x y
  into_in to zero x y inside c = absurd (Contains-none (x, y) c)
  into_in to (suc i) x y inside c = elim (Contains-append_cases (links_into facts to i) (links_to facts to (slice_get (get_or facts.preds to []) i)) (x, y) c) [
    | inl before ↦ into_in to i x y inside before
    | inr here ↦ at (slice_get (get_or facts.preds to []) i) refl here
  ]
    where
      at : (o : Option ℕ) → slice_get (get_or facts.preds to []) i ≡ o → Contains (links_to facts to o) (x, y) → IsLink x y
      at None e c = absurd (Contains-none (x, y) c)
      at (Some from) e c =
          let is = link_in (begin_names facts to) (base facts from) (base facts to) (length (live_at facts from)) (live_at facts from) x y c in
          record {
            from = from;
            to = to;
            i = is.0;
            n = is.2;
            location = is.1;
            to_in = inside;
            edge = (i, slice_get_within (get_or facts.preds to []) i from e, get_or_from_slice_get (get_or facts.preds to []) i from from e);
            there = is.3;
            named = is.4;
            begin = is.5;
            end = is.6;
          }

  pub all_in : (x y : ℕ) → Contains (all_links facts) (x, y) → IsLink x y
  all_in x y c = go (length facts.accesses) (omega arith) c
    where
      go : (count : ℕ) → count ≤ length facts.accesses → Contains (links_before facts count) (x, y) → IsLink x y
      go zero le c = absurd (Contains-none (x, y) c)
      go (suc count) le c = elim (Contains-append_cases (links_before facts count) (block_links facts count) (x, y) c) [
        | inl before ↦ go count (omega arith) before
        | inr here ↦ into_in count (length (get_or facts.preds count [])) x y (omega arith) here
      ]

  -- the links have what they are of

  link_has : (names : Names) (begin end i k n : ℕ) (live : List Loc) (l : Loc) → k < i → slice_get live k ≡ Some l → names.number l ≡ Some n → Contains (links_upto names begin end live i) (begin + k, end + n)
  link_has names begin end zero k n live l less e f = absurd (omega arith)
  link_has names begin end (suc i) k n live l less e f = elim (cases_eq k i) [
    | inl same ↦
        let here : link_from names (begin + i) end (slice_get live i) ≡ (begin + k, end + n) ∷ [] =
        ap (λ j. link_from names (begin + j) end (slice_get live j)) (sym same) ∙ ap (link_from names (begin + k) end) e ∙ ap (λ o. link_of o (begin + k) end) f
        in
        Contains-append_right (links_upto names begin end live i) (link_from names (begin + i) end (slice_get live i)) (begin + k, end + n)
        (subst (λ c. Contains c (begin + k, end + n)) (sym here) (Contains-here (begin + k, end + n) []))
    | inr other ↦ Contains-append_left (links_upto names begin end live i) (link_from names (begin + i) end (slice_get live i)) (begin + k, end + n) (link_has names begin end i k n live l (omega arith) e f)
  ]

  into_has : (to from i k x y : ℕ) → k < i → slice_get (get_or facts.preds to []) k ≡ Some from → Contains (edge_links facts to from) (x, y) → Contains (links_into facts to i) (x, y)
  into_has to from zero k x y less e c = absurd (omega arith)
  into_has to from (suc i) k x y less e c = elim (cases_eq k i) [
    | inl same ↦
        let here : links_to facts to (slice_get (get_or facts.preds to []) i) ≡ edge_links facts to from = ap (λ j. links_to facts to (slice_get (get_or facts.preds to []) j)) (sym same) ∙ ap (links_to facts to) e in
        Contains-append_right (links_into facts to i) (links_to facts to (slice_get (get_or facts.preds to []) i)) (x, y) (subst (λ l. Contains l (x, y)) (sym here) c)
    | inr other ↦ Contains-append_left (links_into facts to i) (links_to facts to (slice_get (get_or facts.preds to []) i)) (x, y) (into_has to from i k x y (omega arith) e c)
  ]

  before_has : (to count x y : ℕ) → to < count → Contains (block_links facts to) (x, y) → Contains (links_before facts count) (x, y)
  before_has to zero x y less c = absurd (omega arith)
  before_has to (suc count) x y less c = elim (cases_eq to count) [
    | inl same ↦ Contains-append_right (links_before facts count) (block_links facts count) (x, y) (subst (λ t. Contains (block_links facts t) (x, y)) same c)
    | inr other ↦ Contains-append_left (links_before facts count) (block_links facts count) (x, y) (before_has to count x y (omega arith) c)
  ]

  pub has_link : (from to i n : ℕ) (l : Loc) → to < length facts.accesses → Contains (get_or facts.preds to []) from → slice_get (live_at facts from) i ≡ Some l → (begin_names facts to).number l ≡ Some n
      → Contains (all_links facts) (base facts from + i, base facts to + n)
  has_link from to i n l inside edge there named =
      let preds = get_or facts.preds to [] in
      let read : slice_get preds edge.0 ≡ Some from = slice_get-get_or preds edge.0 from edge.1 ∙ ap Some edge.2 in
      before_has to (length facts.accesses) (base facts from + i) (base facts to + n) inside
      (into_has to from (length preds) edge.0 (base facts from + i) (base facts to + n) edge.1 read
      (link_has (begin_names facts to) (base facts from) (base facts to) (length (live_at facts from)) i n (live_at facts from) l (slice_get_within (live_at facts from) i l there) there named))

  -- Numbers that links join are of one location.

  module _ (whole : AreWhole facts) where
    pub pred_in : (to from : ℕ) → to < length facts.accesses → Contains (get_or facts.preds to []) from → from < length facts.accesses
    pred_in to from inside edge =
        let preds = get_or facts.preds to [] in
        let to_in : to < length facts.preds = omega (arith, inside, whole.preds) in
        subst (λ k. k < length facts.accesses) edge.2 (whole.within to [] to_in edge.0 from edge.1)

    link_origin : (x y : ℕ) → IsLink x y → slice_get origins x ≡ slice_get origins y
    link_origin x y is =
        let access = get_or facts.accesses is.from no_access in
        let from_in = pred_in is.to is.from is.to_in is.edge in
        let first : slice_get (begin_names facts is.from).origins is.i ≡ Some is.location =
        extends_all access.stmts (at_exit (live_at facts is.from) access.last) is.i is.location (exit_first (live_at facts is.from) access.last is.i is.location is.there)
        in
        let begin : IsOf is.from is.i is.location = origin_of is.from is.i is.location from_in (extends_last is.from is.i is.location first) in
        let end : IsOf is.to is.n is.location = origin_of is.to is.n is.location is.to_in (extends_last is.to is.n is.location ((own_begin is.to).own is.location is.n is.named)) in
        ap (slice_get origins) is.begin ∙ begin ∙ sym end ∙ sym (ap (slice_get origins) is.end)

    joined_origin : (x y : ℕ) → AreJoined (all_links facts) x y → slice_get origins x ≡ slice_get origins y
    joined_origin x y itself = refl
    joined_origin x y (linked c) = link_origin x y (all_in x y c)
    joined_origin x y (turned j) = sym (joined_origin y x j)
    joined_origin x y (through {y = z} i j) = joined_origin x z i ∙ joined_origin z y j

    -- Temporaries of numbers.

    module _ (bits : List ℕ) (temps : TempsOf) (are : AreTempsOf bits origins (all_links facts) temps) where
      abbrev classes : List ℕ
      classes = are.classes

      abbrev roots : List ℕ
      roots = roots_below classes (length classes)

      abbrev pub temp_at : ℕ → ℕ
      temp_at x = get_or temps.of.items x 0

      temp_place : (x : ℕ) → x < length classes → temp_at x ≡ get_or are.temps_are.place (class_in classes x) 0
      temp_place x inside = ap (λ l. get_or l x 0) are.temps_are.of_are ∙ get_or-map (λ c. get_or are.temps_are.place c 0) classes x 0 0 inside

      temp_root : (x : ℕ) → x < length classes → slice_get roots (temp_at x) ≡ Some (class_in classes x)
      temp_root x inside = ap (slice_get roots) (temp_place x inside) ∙ are.temps_are.places (class_in classes x) (are.below x inside) (are.own x inside)

      number_in : (x : ℕ) (l : Loc) → slice_get origins x ≡ Some l → x < length classes
      number_in x l e = omega (arith, slice_get_within origins x l e, are.count)

      pub temp_inside : (x : ℕ) (l : Loc) → slice_get origins x ≡ Some l → temp_at x < length temps.bits.items
      temp_inside x l e =
          let inside = slice_get_within roots (temp_at x) (class_in classes x) (temp_root x (number_in x l e)) in
          omega (arith, inside, ap length are.temps_are.widths, length-map roots (λ c. location_width bits (get_or origins c (Temp 0))))

      class_origin : (x : ℕ) (l : Loc) → slice_get origins x ≡ Some l → slice_get origins (class_in classes x) ≡ Some l
      class_origin x l e =
          let inside = number_in x l e in
          joined_origin (class_in classes x) x (are.joined.joined (class_in classes x) x (are.below x inside) inside (are.own x inside)) ∙ e

      pub temp_width : (x : ℕ) (l : Loc) → slice_get origins x ≡ Some l → get_or temps.bits.items (temp_at x) 0 ≡ location_width bits l
      temp_width x l e =
          let inside = number_in x l e in
          let root = temp_root x inside in
          let there = slice_get_within roots (temp_at x) (class_in classes x) root in
          let width = λ (c : ℕ). location_width bits (get_or origins c (Temp 0)) in
          ap (λ b. get_or b (temp_at x) 0) are.temps_are.widths ∙ get_or-map width roots (temp_at x) 0 0 there ∙ ap width (get_or_from_slice_get roots (temp_at x) (class_in classes x) 0 root)
          ∙ ap (location_width bits) (get_or_from_slice_get origins (class_in classes x) l (Temp 0) (class_origin x l e))

      -- numbers with one temporary are joined, and so of one location
      pub temp_joins : (x y : ℕ) (l m : Loc) → slice_get origins x ≡ Some l → slice_get origins y ≡ Some m → temp_at x ≡ temp_at y → AreJoined (all_links facts) x y
      temp_joins x y l m e f same =
          let x_in = number_in x l e in
          let y_in = number_in y m f in
          let one : Some (class_in classes x) ≡ Some (class_in classes y) = sym (temp_root x x_in) ∙ ap (slice_get roots) same ∙ temp_root y y_in in
          let class_same : class_in classes x ≡ class_in classes y = cc in
          are.joined.joined x y x_in y_in class_same

      pub temp_apart : (x y : ℕ) (l m : Loc) → slice_get origins x ≡ Some l → slice_get origins y ≡ Some m → temp_at x ≡ temp_at y → l ≡ m
      temp_apart x y l m e f same =
          let one : Some l ≡ Some m = sym e ∙ joined_origin x y (temp_joins x y l m e f same) ∙ f in
          cc

      -- linked numbers have one temporary
      pub temp_linked : (x y : ℕ) (l m : Loc) → slice_get origins x ≡ Some l → slice_get origins y ≡ Some m → Contains (all_links facts) (x, y) → temp_at x ≡ temp_at y
      temp_linked x y l m e f c =
          let x_in = number_in x l e in
          let y_in = number_in y m f in
          temp_place x x_in ∙ ap (λ k. get_or are.temps_are.place k 0) (are.joined.linked x y c x_in y_in) ∙ sym (temp_place y y_in)

      -- the location of a temporary
      pub origin_at : ℕ → Loc
      origin_at t = get_or origins (get_or roots t 0) (Temp 0)

      pub back_at : (x : ℕ) (l : Loc) → slice_get origins x ≡ Some l → origin_at (temp_at x) ≡ l
      unfolding origin_at
      back_at x l e =
          ap (λ c. get_or origins c (Temp 0)) (get_or_from_slice_get roots (temp_at x) (class_in classes x) 0 (temp_root x (number_in x l e)))
          ∙ get_or_from_slice_get origins (class_in classes x) l (Temp 0) (class_origin x l e)
