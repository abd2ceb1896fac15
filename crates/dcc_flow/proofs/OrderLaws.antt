-- Laws of depth-first search: what it lists, and how edges lie in what it lists.
use Rattle.std.proofs.Common.{◌≡◌, ℕ, Bool, true, false, ◌&&◌, ◌⊎◌, inl, inr, List, [], ◌∷◌, ◌++◌, get_or, refl, sym, ap, ◌∙◌, subst}
use Rattle.std.specs.Prelude.{◌==◌}
use Rattle.std.proofs.lemmas.Bool.{false≢true, cases_Bool, eq-eqb, or_cases, or_left, or_right, or_parts, and_parts, and_from}
use Rattle.dcc_ir.specs.Tree.{Graph}
use Rattle.dcc_ir.specs.Run.{no_block}
use Rattle.dcc_ir.specs.Flow.{targets, IsPath, Any}
use Rattle.dcc_ir.specs.Live.{follows}
use Rattle.dcc_ir.specs.WellFormed.{all_differ}
use Rattle.dcc_flow.specs.Edges.{is_in, leads, successors_of}
use Rattle.dcc_flow.specs.Order.{IsSearched, done, again, first, IsReversePostOrder, comes_before, leads_on, IsOrder}
use Rattle.dcc_flow.proofs.Members.{in_here, in_there, in_cases, in_left, in_right, in_either, not_since, differ_cons, differ_append, at_map}

-- Before and after in a list.

pub before_left : (xs ys : List ℕ) (a b : ℕ) → comes_before xs a b ≡ true → comes_before (xs ++ ys) a b ≡ true
before_left [] ys a b h = absurd (false≢true h)
before_left (x ∷ xs) ys a b h = elim (or_cases ((x == a) && is_in xs b) (comes_before xs a b) h) [
  | inl t ↦
      let parts = and_parts (x == a) (is_in xs b) t in
      or_left ((x == a) && is_in (xs ++ ys) b) (comes_before (xs ++ ys) a b) (and_from (x == a) (is_in (xs ++ ys) b) parts.0 (in_left xs ys b parts.1))
  | inr t ↦ or_right ((x == a) && is_in (xs ++ ys) b) (comes_before (xs ++ ys) a b) (before_left xs ys a b t)
]

pub before_right : (xs ys : List ℕ) (a b : ℕ) → comes_before ys a b ≡ true → comes_before (xs ++ ys) a b ≡ true
before_right [] ys a b h = h
before_right (x ∷ xs) ys a b h = or_right ((x == a) && is_in (xs ++ ys) b) (comes_before (xs ++ ys) a b) (before_right xs ys a b h)

pub before_across : (xs ys : List ℕ) (a b : ℕ) → is_in xs a ≡ true → is_in ys b ≡ true → comes_before (xs ++ ys) a b ≡ true
before_across [] ys a b h k = absurd (false≢true h)
before_across (x ∷ xs) ys a b h k = elim (or_cases (x == a) (is_in xs a) h) [
  | inl e ↦ or_left ((x == a) && is_in (xs ++ ys) b) (comes_before (xs ++ ys) a b) (and_from (x == a) (is_in (xs ++ ys) b) e (in_right xs ys b k))
  | inr t ↦ or_right ((x == a) && is_in (xs ++ ys) b) (comes_before (xs ++ ys) a b) (before_across xs ys a b t k)
]

-- the first of a list comes before the others
before_first : (n : ℕ) (ns : List ℕ) (b : ℕ) → is_in ns b ≡ true → comes_before (n ∷ ns) n b ≡ true
before_first n ns b h = or_left ((n == n) && is_in ns b) (comes_before ns n b) (and_from (n == n) (is_in ns b) (eq-eqb n n refl) h)

-- a path of edges of one kind is one of a wider kind
pub wider : (f g : ℕ → ℕ → Bool) → ((a b : ℕ) → f a b ≡ true → g a b ≡ true) → (a : ℕ) (ms : List ℕ) (b : ℕ) → IsPath f Any a ms b → IsPath g Any a ms b
wider f g wide a [] b h = wide a b h
wider f g wide a (m ∷ ms) b h = (wide a m h.0, tt, wider f g wide m ms b h.2)

module _ (next : List (List ℕ)) where
  -- an edge that leads on in the list
  abbrev pub on : List ℕ → ℕ → ℕ → Bool
  on listed a b = leads next a b && comes_before listed a b

  abbrev pub Way : List ℕ → ℕ → ℕ → Type 0
  Way listed a b = (between : List ℕ) × IsPath (on listed) Any a between b

  abbrev pub Above : List ℕ → ℕ → ℕ → Type 0
  Above listed b a = (b ≡ a) ⊎ Way listed b a

  on_left : (xs ys : List ℕ) (a b : ℕ) → on xs a b ≡ true → on (xs ++ ys) a b ≡ true
  on_left xs ys a b h =
      let parts = and_parts (leads next a b) (comes_before xs a b) h in
      and_from (leads next a b) (comes_before (xs ++ ys) a b) parts.0 (before_left xs ys a b parts.1)

  on_right : (xs ys : List ℕ) (a b : ℕ) → on ys a b ≡ true → on (xs ++ ys) a b ≡ true
  on_right xs ys a b h =
      let parts = and_parts (leads next a b) (comes_before ys a b) h in
      and_from (leads next a b) (comes_before (xs ++ ys) a b) parts.0 (before_right xs ys a b parts.1)

  above_left : (xs ys : List ℕ) (b a : ℕ) → Above xs b a → Above (xs ++ ys) b a
  above_left xs ys b a (inl e) = inl e
  above_left xs ys b a (inr way) = inr (way.0, wider (on xs) (on (xs ++ ys)) (on_left xs ys) b way.0 a way.1)

  above_right : (xs ys : List ℕ) (b a : ℕ) → Above ys b a → Above (xs ++ ys) b a
  above_right xs ys b a (inl e) = inl e
  above_right xs ys b a (inr way) = inr (way.0, wider (on ys) (on (xs ++ ys)) (on_right xs ys) b way.0 a way.1)

  -- what was begun before the search of what follows: it is listed now, or it was seen before
  settled : (seen below listed : List ℕ) (block n : ℕ) → is_in (below ++ block ∷ seen) n ≡ true → (is_in (block ∷ below) n ≡ true) ⊎ (is_in seen n ≡ true)
  settled seen below listed block n h = elim (in_either below (block ∷ seen) n h) [
    | inl b ↦ inl (in_there block n below b)
    | inr s ↦ elim (in_cases block n seen s) [
      | inl e ↦ inl (subst (λ x. is_in (block ∷ below) x ≡ true) e (in_here block below))
      | inr t ↦ inr t
    ]
  ]

  -- each block that is to be visited is listed, or it was seen
  pub visited : {seen blocks listed : List ℕ} → IsSearched next seen blocks listed → (b : ℕ) → is_in blocks b ≡ true → (is_in listed b ≡ true) ⊎ (is_in seen b ≡ true)
  visited done b h = absurd (false≢true h)
  visited (again {seen = seen} {blocks = blocks} {block = block} s r) b h = elim (in_cases block b blocks h) [
    | inl e ↦ inr (subst (λ x. is_in seen x ≡ true) e s)
    | inr t ↦ visited r b t
  ]
  visited (first {seen = seen} {blocks = blocks} {below = below} {listed = listed} {block = block} f d r) b h = elim (in_cases block b blocks h) [
    | inl e ↦ inl (in_right listed (block ∷ below) b (subst (λ x. is_in (block ∷ below) x ≡ true) e (in_here block below)))
    | inr t ↦ elim (visited r b t) [
      | inl l ↦ inl (in_left listed (block ∷ below) b l)
      | inr s ↦ elim (settled seen below listed block b s) [ inl x ↦ inl (in_right listed (block ∷ below) b x) | inr y ↦ inr y ]
    ]
  ]

  -- each block that follows a listed one is listed, or was seen before
  pub closed : {seen blocks listed : List ℕ} → IsSearched next seen blocks listed → (x y : ℕ) → is_in listed x ≡ true → leads next x y ≡ true → (is_in listed y ≡ true) ⊎ (is_in seen y ≡ true)
  closed done x y h k = absurd (false≢true h)
  closed (again s r) x y h k = closed r x y h k
  closed (first {seen = seen} {blocks = blocks} {below = below} {listed = listed} {block = block} f d r) x y h k =
      let under : (is_in below y ≡ true) ⊎ (is_in (block ∷ seen) y ≡ true) → (is_in (listed ++ block ∷ below) y ≡ true) ⊎ (is_in seen y ≡ true) = λ o. elim o [
        | inl b ↦ inl (in_right listed (block ∷ below) y (in_there block y below b))
        | inr s ↦ elim (in_cases block y seen s) [
          | inl e ↦ inl (in_right listed (block ∷ below) y (subst (λ z. is_in (block ∷ below) z ≡ true) e (in_here block below)))
          | inr t ↦ inr t
        ]
      ] in
      elim (in_either listed (block ∷ below) x h) [
        | inl l ↦ elim (closed r x y l k) [
          | inl z ↦ inl (in_left listed (block ∷ below) y z)
          | inr s ↦ elim (settled seen below listed block y s) [ inl z ↦ inl (in_right listed (block ∷ below) y z) | inr z ↦ inr z ]
        ]
        | inr b ↦ elim (in_cases block x below b) [
          | inl e ↦ under (visited d y (subst (λ z. leads next z y ≡ true) (sym e) k))
          | inr t ↦ under (closed d x y t k)
        ]
      ]

  -- no block is listed that was seen before
  pub apart : {seen blocks listed : List ℕ} → IsSearched next seen blocks listed → (x : ℕ) → is_in listed x ≡ true → is_in seen x ≡ false
  apart done x h = absurd (false≢true h)
  apart (again s r) x h = apart r x h
  apart (first {seen = seen} {blocks = blocks} {below = below} {listed = listed} {block = block} f d r) x h = elim (in_either listed (block ∷ below) x h) [
    | inl l ↦ not_since (is_in seen x) (is_in (below ++ block ∷ seen) x) (λ t. in_right below (block ∷ seen) x (in_there block x seen t)) (apart r x l)
    | inr b ↦ elim (in_cases block x below b) [
      | inl e ↦ subst (λ z. is_in seen z ≡ false) e f
      | inr t ↦ (or_parts (block == x) (is_in seen x) (apart d x t)).1
    ]
  ]

  -- each is listed once
  pub listed_once : {seen blocks listed : List ℕ} → IsSearched next seen blocks listed → all_differ listed ≡ true
  listed_once done = refl
  listed_once (again s r) = listed_once r
  listed_once (first {seen = seen} {blocks = blocks} {below = below} {listed = listed} {block = block} f d r) =
      let out : is_in below block ≡ false = elim (cases_Bool (is_in below block)) [
        | inl t ↦ absurd (false≢true (sym (apart d block t) ∙ in_here block seen))
        | inr n ↦ n
      ] in
      let inside : (x : ℕ) → is_in (block ∷ below) x ≡ true → is_in (below ++ block ∷ seen) x ≡ true = λ x t. elim (in_cases block x below t) [
        | inl e ↦ in_right below (block ∷ seen) x (subst (λ z. is_in (block ∷ seen) z ≡ true) e (in_here block seen))
        | inr b ↦ in_left below (block ∷ seen) x b
      ] in
      differ_append listed (block ∷ below) (listed_once r) (differ_cons block below out (listed_once d))
      (λ x t. not_since (is_in (block ∷ below) x) (is_in (below ++ block ∷ seen) x) (inside x) (apart r x t))

  -- a listed block, and one of those that were to be visited from which edges lead on to it
  pub record IsUnder (blocks listed : List ℕ) (x : ℕ) : Type 0 where
    pub root : ℕ
    pub chosen : is_in blocks root ≡ true
    pub listed_too : is_in listed root ≡ true
    pub way : Above listed root x

  -- below a block
  down : (block x : ℕ) (below : List ℕ) → IsUnder (get_or next block []) below x → Way (block ∷ below) block x
  down block x below u =
      let step : on (block ∷ below) block u.root ≡ true = and_from (leads next block u.root) (comes_before (block ∷ below) block u.root) u.chosen (before_first block below u.root u.listed_too) in
      elim u.way [
        | inl e ↦ ([], subst (λ z. on (block ∷ below) block z ≡ true) e step)
        | inr way ↦ (u.root ∷ way.0, (step, tt, wider (on below) (on (block ∷ below)) (on_right (block ∷ []) below) u.root way.0 x way.1))
      ]

  pub under : {seen blocks listed : List ℕ} → IsSearched next seen blocks listed → (x : ℕ) → is_in listed x ≡ true → IsUnder blocks listed x
  under done x h = absurd (false≢true h)
  under (again {blocks = blocks} {block = block} s r) x h =
      let u = under r x h in
      record { root = u.root; chosen = in_there block u.root blocks u.chosen; listed_too = u.listed_too; way = u.way }
  under (first {seen = seen} {blocks = blocks} {below = below} {listed = listed} {block = block} f d r) x h = elim (in_either listed (block ∷ below) x h) [
    | inl l ↦
        let u = under r x l in
        record {
          root = u.root;
          chosen = in_there block u.root blocks u.chosen;
          listed_too = in_left listed (block ∷ below) u.root u.listed_too;
          way = above_left listed (block ∷ below) u.root x u.way;
        }
    | inr b ↦ record {
      root = block;
      chosen = in_here block blocks;
      listed_too = in_right listed (block ∷ below) block (in_here block below);
      way = elim (in_cases block x below b) [
        | inl e ↦ inl e
        | inr t ↦ above_right listed (block ∷ below) block x (inr (down block x below (under d x t)))
      ];
    }
  ]

  -- an edge leads on in the list, or back to a block above its own, or to one that was seen before
  pub edges : {seen blocks listed : List ℕ} → IsSearched next seen blocks listed → (a b : ℕ) → is_in listed a ≡ true → leads next a b ≡ true
      → ((comes_before listed a b ≡ true) ⊎ Above listed b a) ⊎ (is_in seen b ≡ true)
  edges done a b h k = absurd (false≢true h)
  edges (again s r) a b h k = edges r a b h k
  edges (first {seen = seen} {blocks = blocks} {below = below} {listed = listed} {block = block} f d r) a b h k =
      elim (in_either listed (block ∷ below) a h) [
        | inl l ↦ elim (edges r a b l k) [
          | inl o ↦ elim o [
            | inl x ↦ inl (inl (before_left listed (block ∷ below) a b x))
            | inr x ↦ inl (inr (above_left listed (block ∷ below) b a x))
          ]
          | inr s ↦ elim (settled seen below listed block b s) [
            | inl x ↦ inl (inl (before_across listed (block ∷ below) a b l x))
            | inr x ↦ inr x
          ]
        ]
        | inr t ↦ elim (in_cases block a below t) [
          | inl e ↦ elim (visited d b (subst (λ z. leads next z b ≡ true) (sym e) k)) [
            | inl x ↦ inl (inl (before_right listed (block ∷ below) a b (subst (λ z. comes_before (block ∷ below) z b ≡ true) e (before_first block below b x))))
            | inr x ↦ elim (in_cases block b seen x) [ inl y ↦ inl (inr (inl (sym y ∙ e))) | inr y ↦ inr y ]
          ]
          | inr u ↦ elim (edges d a b u k) [
            | inl o ↦ elim o [
              | inl x ↦ inl (inl (before_right listed (block ∷ below) a b (before_right (block ∷ []) below a b x)))
              | inr x ↦ inl (inr (above_right listed (block ∷ below) b a (above_right (block ∷ []) below b a x)))
            ]
            | inr x ↦ elim (in_cases block b seen x) [
              | inl y ↦ inl (inr (subst (λ z. Above (listed ++ block ∷ below) z a) y (above_right listed (block ∷ below) block a (inr (down block a below (under d a u))))))
              | inr y ↦ inr y
            ]
          ]
        ]
      ]

  -- nothing to visit, nothing listed
  none : {seen listed : List ℕ} → IsSearched next seen [] listed → listed ≡ []
  none done = refl

  pub begins : {seen listed : List ℕ} {b : ℕ} → IsSearched next seen (b ∷ []) listed → is_in seen b ≡ false → (rest : List ℕ) × (listed ≡ b ∷ rest)
  begins (again s r) out = absurd (false≢true (sym out ∙ s))
  begins (first {below = below} {listed = listed} {block = block} f d r) out = (below, ap (λ l. l ++ block ∷ below) (none r))

  -- the search from the same blocks lists the same
  pub one : {seen blocks listed other : List ℕ} → IsSearched next seen blocks listed → IsSearched next seen blocks other → listed ≡ other
  one done done = refl
  one (again s r) (again t q) = one r q
  one (again s r) (first f d q) = absurd (false≢true (sym f ∙ s))
  one (first f d r) (again s q) = absurd (false≢true (sym f ∙ s))
  one (first {seen = seen} {blocks = blocks} {below = below} {listed = listed} {block = block} f d r) (first {below = beneath} {listed = others} g e q) =
      let same = one d e in
      let rest = one r (subst (λ z. IsSearched next (z ++ block ∷ seen) blocks others) (sym same) q) in
      ap (λ z. z ++ block ∷ below) rest ∙ ap (λ z. others ++ block ∷ z) same

-- Graphs.

follows_is : (graph : Graph) (a b : ℕ) → follows graph a b ≡ leads (successors_of graph) a b
follows_is graph a b = ap (λ l. is_in l b) (sym (at_map (λ x. targets x.exit) graph.blocks a no_block))

module _ (graph : Graph) (order : List ℕ) (searched : IsReversePostOrder graph order) where
  forth : (a b : ℕ) → on (successors_of graph) order a b ≡ true → leads_on graph order a b ≡ true
  forth a b h =
      let parts = and_parts (leads (successors_of graph) a b) (comes_before order a b) h in
      and_from (follows graph a b) (comes_before order a b) (follows_is graph a b ∙ parts.0) parts.1

  plain : (a b : ℕ) → on (successors_of graph) order a b ≡ true → follows graph a b ≡ true
  plain a b h = follows_is graph a b ∙ (and_parts (leads (successors_of graph) a b) (comes_before order a b) h).0

  along : (a : ℕ) (ms : List ℕ) (b : ℕ) → is_in order a ≡ true → IsPath (follows graph) Any a ms b → is_in order b ≡ true
  along a [] b h k = elim (closed (successors_of graph) searched a b h (sym (follows_is graph a b) ∙ k)) [ inl t ↦ t | inr s ↦ absurd (false≢true s) ]
  along a (m ∷ ms) b h k =
      let there : is_in order m ≡ true = elim (closed (successors_of graph) searched a m h (sym (follows_is graph a m) ∙ k.0)) [ inl t ↦ t | inr s ↦ absurd (false≢true s) ] in
      along m ms b there k.2

  found : (b : ℕ) → is_in order b ≡ true → (b ≡ 0) ⊎ ((between : List ℕ) × IsPath (follows graph) Any 0 between b)
  found b h =
      let u = under (successors_of graph) searched b h in
      let zeroth : 0 ≡ u.root = elim (in_cases 0 u.root [] u.chosen) [ inl e ↦ e | inr t ↦ absurd (false≢true t) ] in
      elim u.way [
        | inl e ↦ inl (sym (zeroth ∙ e))
        | inr way ↦ inr (way.0, subst (λ z. IsPath (follows graph) Any z way.0 b) (sym zeroth) (wider (on (successors_of graph) order) (follows graph) plain u.root way.0 b way.1))
      ]

  start : is_in order 0 ≡ true
  start = elim (visited (successors_of graph) searched 0 (in_here 0 [])) [ inl t ↦ t | inr s ↦ absurd (false≢true s) ]

  pub order_is : IsOrder graph order
  order_is = record {
    begins = begins (successors_of graph) searched refl;
    once = listed_once (successors_of graph) searched;
    reached = λ b. (
      found b,
      λ o. elim o [
        | inl e ↦ subst (λ z. is_in order z ≡ true) (sym e) start
        | inr way ↦ along 0 way.0 b start way.1
      ],
    );
    edges = λ a b h k. elim (edges (successors_of graph) searched a b h (sym (follows_is graph a b) ∙ k)) [
      | inl o ↦ elim o [
        | inl x ↦ inl x
        | inr x ↦ inr (elim x [
          | inl e ↦ inl e
          | inr way ↦ inr (way.0, wider (on (successors_of graph) order) (leads_on graph order) forth b way.0 a way.1)
        ])
      ]
      | inr s ↦ absurd (false≢true s)
    ];
  }
