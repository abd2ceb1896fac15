-- Laws of contraction: a flow graph contracts to itself, and one contraction after another is one.
use Rattle.std.proofs.Common.{◌≡◌, ℕ, true, false, ◌||◌, ◌⊎◌, inl, inr, List, [], ◌∷◌, ◌++◌, refl, sym, ap, ◌∙◌, subst}
use Rattle.std.specs.List.{list_any}
use Rattle.dcc_ir.specs.Flow.{Flow, IsPath, Any, Reached, Leads, IsContraction}
use Rattle.dcc_ir.proofs.PathLaws.{decided, clash, or_false, nor, IsFlow, path-append, path_wider, path_any, path_first, path_of_none, none_of_path, or_left, or_right, cut, reached_along}

module _ (p q : Flow) (p_flow : IsFlow p) (q_flow : IsFlow q) (law : IsContraction p q) where
  -- a path of the second graph as one of the first, whose further blocks the second has not
  pub expanded : (N : ℕ → Type 0) → ((x : ℕ) → q.has x ≡ false → N x) → (a : ℕ) (ms : List ℕ) (b : ℕ) → Reached q a → IsPath q.goes N a ms b → (ns : List ℕ) × IsPath p.goes N a ns b
  expanded N out a [] b r e =
      let leads = (law.edges a b r (q_flow.head a b e)).0 e in
      (leads.0, path_wider p.goes (λ x. q.has x ≡ false) N out a leads.0 b leads.1)
  expanded N out a (m ∷ ms) b r e =
      let leads = (law.edges a m r (q_flow.head a m e.0)).0 e.0 in
      let rest = expanded N out m ms b (reached_along q Any a [] m r e.0) e.2 in
      (leads.0 ++ m ∷ rest.0, path-append p.goes N a leads.0 m rest.0 b (path_wider p.goes (λ x. q.has x ≡ false) N out a leads.0 m leads.1) e.1 rest.1)

  -- A path of the first graph as one of the second. It goes on at x, where the block a of the second graph has come to
  -- by blocks that the second has not.
  pub contracted : (N : ℕ → Type 0) (ms : List ℕ) (a x b : ℕ) → ((y : ℕ) → p.goes x y ≡ true → Leads p q a y) → Reached q a → q.has b ≡ true → IsPath p.goes N x ms b → (ns : List ℕ) × IsPath q.goes N a ns b
  contracted N [] a x b on r h e = ([], (law.edges a b r h).1 (on b e))
  contracted N (m ∷ ms) a x b on r h e = elim (decided (q.has m)) [
    | inl t ↦
        let edge : q.goes a m ≡ true = (law.edges a m r t).1 (on m e.0) in
        let rest = contracted N ms m m b (λ y f. ([], f)) (reached_along q Any a [] m r edge) h e.2 in
        (m ∷ rest.0, (edge, e.1, rest.1))
    | inr f ↦
        let leads = on m e.0 in
        contracted N ms a m b (λ y g. (leads.0 ++ m ∷ [], path-append p.goes (λ z. q.has z ≡ false) a leads.0 m [] y leads.1 f g)) r h e.2
  ]

  -- a block that the second graph reaches the first reaches too
  pub reached_before : (a : ℕ) → Reached q a → Reached p a
  reached_before a (inl s) = inl (s.0 ∙ law.start, law.blocks a s.1)
  reached_before a (inr r) =
      let edge = path_first q.goes Any q.start r.0 a r.1 in
      let there : Reached q q.start = inl (refl, q_flow.tail q.start edge.0 edge.1) in
      let path = expanded Any (λ x n. tt) q.start r.0 a there r.1 in
      inr (path.0, subst (λ x. IsPath p.goes Any x path.0 a) law.start path.1)

  -- a block of both that the first graph reaches the second reaches too
  pub reached_still : (a : ℕ) → Reached p a → q.has a ≡ true → Reached q a
  reached_still a (inl s) h = inl (s.0 ∙ sym law.start, h)
  reached_still a (inr r) h =
      let edge = path_first p.goes Any p.start r.0 a r.1 in
      let there : Reached q p.start = inl (sym law.start, law.first (p_flow.tail p.start edge.0 edge.1)) in
      let path = contracted Any r.0 p.start p.start a (λ y f. ([], f)) there h r.1 in
      inr (path.0, subst (λ x. IsPath q.goes Any x path.0 a) (sym law.start) path.1)

  -- the last block of the second graph on a path to one that it has not
  pub record Last (N : ℕ → Type 0) (a c : ℕ) : Type 0 where
    pub at : ℕ
    pub has : q.has at ≡ true
    pub reached : Reached q at
    pub leads : Leads p q at c
    pub from : (at ≡ a) ⊎ ((ns : List ℕ) × IsPath q.goes N a ns at × N at)

  pub last_kept : (N : ℕ → Type 0) (ms : List ℕ) (a x c : ℕ) → ((y : ℕ) → p.goes x y ≡ true → Leads p q a y) → q.has a ≡ true → Reached q a → IsPath p.goes N x ms c → Last N a c
  last_kept N [] a x c on h r e = record { at = a; has = h; reached = r; leads = on c e; from = inl refl }
  last_kept N (m ∷ ms) a x c on h r e = elim (decided (q.has m)) [
    | inl t ↦
        let edge : q.goes a m ≡ true = (law.edges a m r t).1 (on m e.0) in
        let later = last_kept N ms m m c (λ y f. ([], f)) t (reached_along q Any a [] m r edge) e.2 in
        record {
          at = later.at;
          has = later.has;
          reached = later.reached;
          leads = later.leads;
          from = elim later.from [
            | inl same ↦ inr ([], subst (λ j. q.goes a j ≡ true) (sym same) edge, subst N (sym same) e.1)
            | inr way ↦ inr (m ∷ way.0, (edge, e.1, way.1), way.2)
          ];
        }
    | inr f ↦
        let leads = on m e.0 in
        last_kept N ms a m c (λ y g. (leads.0 ++ m ∷ [], path-append p.goes (λ z. q.has z ≡ false) a leads.0 m [] y leads.1 f g)) h r e.2
  ]

-- A graph contracts to itself.
none_between : (flow : Flow) → IsFlow flow → (a : ℕ) (ms : List ℕ) (b : ℕ) → IsPath flow.goes (λ c. flow.has c ≡ false) a ms b → flow.goes a b ≡ true
none_between flow law a [] b e = e
none_between flow law a (m ∷ ms) b e = absurd (clash (law.head a m e.0) e.1)

pub contraction_refl : (flow : Flow) → IsFlow flow → IsContraction flow flow
contraction_refl flow law = record {
  start = refl;
  blocks = λ a h. h;
  first = λ h. h;
  cycles = λ a ms r path. let edge = path_first flow.goes Any a ms a path in ap (λ b. b || list_any flow.has ms) (law.tail a edge.0 edge.1);
  edges = λ a b r h. ((λ e. ([], e)), (λ leads. none_between flow law a leads.0 b leads.1));
  following_one = λ a b c ra rb ha hb hc la lb. absurd (clash (law.head a c (none_between flow law a la.0 c la.1)) hc);
}

-- One contraction after another is a contraction.
module _ (p q r : Flow) (p_flow : IsFlow p) (q_flow : IsFlow q) (r_flow : IsFlow r) (first : IsContraction p q) (second : IsContraction q r) where
  Gone : ℕ → Type 0
  Gone x = r.has x ≡ false

  gone : (x : ℕ) → q.has x ≡ false → r.has x ≡ false
  gone x n = elim (decided (r.has x)) [ inl t ↦ absurd (clash (second.blocks x t) n) | inr f ↦ f ]

  -- no closed path of the first graph holds only blocks that the third has not
  no_cycle : (x : ℕ) (ms : List ℕ) → Reached p x → q.has x ≡ true → r.has x ≡ false → IsPath p.goes (λ y. r.has y ≡ false) x ms x → ⊥
  no_cycle x ms reached h n path =
      let there = reached_still p q p_flow q_flow first x reached h in
      let round = contracted p q p_flow q_flow first (λ y. r.has y ≡ false) ms x x x (λ y f. ([], f)) there h path in
      clash (second.cycles x round.0 there (path_any q.goes (λ y. r.has y ≡ false) x round.0 x round.1))
      (nor (r.has x) (list_any r.has round.0) n (none_of_path q.goes r.has x round.0 x round.1))

  cycles_hold : (a : ℕ) (ms : List ℕ) → Reached p a → IsPath p.goes Any a ms a → list_any r.has (a ∷ ms) ≡ true
  cycles_hold a ms reached path = elim (decided (list_any r.has (a ∷ ms))) [
    | inl t ↦ t
    | inr f ↦
        let none : IsPath p.goes (λ y. r.has y ≡ false) a ms a = path_of_none p.goes r.has a ms a (or_right (r.has a) (list_any r.has ms) f) path in
        let here : r.has a ≡ false = or_left (r.has a) (list_any r.has ms) f in
        elim (decided (q.has a)) [
          | inl h ↦ absurd (no_cycle a ms reached h here none)
          | inr n ↦
              let c = cut p.goes (λ y. r.has y ≡ false) q.has a ms a (or_false (q.has a) (list_any q.has ms) n (first.cycles a ms reached path)) none in
              absurd (no_cycle c.at (c.back ++ a ∷ c.front) (reached_along p (λ y. r.has y ≡ false) a c.front c.at reached c.before) c.passes c.kind
              (path-append p.goes (λ y. r.has y ≡ false) c.at c.back a c.front c.at c.after here c.before))
        ]
  ]

  edges_both : (a b : ℕ) → Reached r a → r.has b ≡ true → (r.goes a b ≡ true → Leads p r a b) × (Leads p r a b → r.goes a b ≡ true)
  edges_both a b reached h =
      let there = reached_before q r q_flow r_flow second a reached in (
        (λ e.
            let leads = (second.edges a b reached h).0 e in
            expanded p q p_flow q_flow first (λ y. r.has y ≡ false) gone a leads.0 b there leads.1),
        (λ leads. (second.edges a b reached h).1
            (contracted p q p_flow q_flow first (λ y. r.has y ≡ false) leads.0 a a b (λ y f. ([], f)) there (second.blocks b h) leads.1)),
      )

  following : (a b c : ℕ) → Reached p a → Reached p b → r.has a ≡ true → r.has b ≡ true → r.has c ≡ false → Leads p r a c → Leads p r b c → a ≡ b
  following a b c ra rb ha hb hc la lb =
      let qa = second.blocks a ha in
      let qb = second.blocks b hb in
      let ta = reached_still p q p_flow q_flow first a ra qa in
      let tb = reached_still p q p_flow q_flow first b rb qb in
      elim (decided (q.has c)) [
        | inl h ↦ second.following_one a b c ta tb ha hb hc
            (contracted p q p_flow q_flow first (λ y. r.has y ≡ false) la.0 a a c (λ y f. ([], f)) ta h la.1)
            (contracted p q p_flow q_flow first (λ y. r.has y ≡ false) lb.0 b b c (λ y f. ([], f)) tb h lb.1)
        | inr n ↦
            let x = last_kept p q p_flow q_flow first (λ y. r.has y ≡ false) la.0 a a c (λ y f. ([], f)) qa ta la.1 in
            let y = last_kept p q p_flow q_flow first (λ z. r.has z ≡ false) lb.0 b b c (λ z f. ([], f)) qb tb lb.1 in
            let same : x.at ≡ y.at = first.following_one x.at y.at c (reached_before p q p_flow q_flow first x.at x.reached) (reached_before p q p_flow q_flow first y.at y.reached) x.has y.has n x.leads y.leads in
            elim x.from [
              | inl e ↦ elim y.from [
                | inl f ↦ sym e ∙ same ∙ f
                | inr w ↦ absurd (clash (subst (λ z. r.has z ≡ true) (sym e ∙ same) ha) w.2)
              ]
              | inr v ↦ elim y.from [
                | inl f ↦ absurd (clash (subst (λ z. r.has z ≡ true) (sym f ∙ sym same) hb) v.2)
                | inr w ↦ second.following_one a b x.at ta tb ha hb v.2 (v.0, v.1)
                    (subst (λ z. Leads q r b z) (sym same) (w.0, w.1))
              ]
            ]
      ]

  pub contraction_trans : IsContraction p r
  contraction_trans = record {
    start = second.start ∙ first.start;
    blocks = λ a h. first.blocks a (second.blocks a h);
    first = λ h.
        let kept : q.has q.start ≡ true = subst (λ x. q.has x ≡ true) (sym first.start) (first.first h) in
        subst (λ x. r.has x ≡ true) first.start (second.first kept);
    cycles = cycles_hold;
    edges = edges_both;
    following_one = following;
  }
