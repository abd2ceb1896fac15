-- Laws of paths in a flow graph.
use Rattle.std.proofs.Common.{◌≡◌, ℕ, Bool, true, false, ◌||◌, ◌⊎◌, inl, inr, List, [], ◌∷◌, ◌++◌, refl, sym, ◌∙◌, subst, true≢false}
use Rattle.std.specs.List.{list_any}
use Rattle.dcc_ir.specs.Flow.{Flow, IsPath, Any, Reached}

-- a test answers one or the other
pub decided : (b : Bool) → (b ≡ true) ⊎ (b ≡ false)
decided true = inl refl
decided false = inr refl

pub clash : {b : Bool} → b ≡ true → b ≡ false → ⊥
clash t f = true≢false (sym t ∙ f)

pub or_left : (a b : Bool) → (a || b) ≡ false → a ≡ false
or_left true b e = absurd (true≢false e)
or_left false b e = refl

pub or_right : (a b : Bool) → (a || b) ≡ false → b ≡ false
or_right true b e = absurd (true≢false e)
or_right false b e = e

pub or_false : (a b : Bool) → a ≡ false → (a || b) ≡ true → b ≡ true
or_false true b e h = absurd (true≢false e)
or_false false b e h = h

pub nor : (a b : Bool) → a ≡ false → b ≡ false → (a || b) ≡ false
nor true b e f = absurd (true≢false e)
nor false b e f = f

-- an edge lies between two blocks of the graph
pub record IsFlow (flow : Flow) : Type 0 where
  pub tail : (a b : ℕ) → flow.goes a b ≡ true → flow.has a ≡ true
  pub head : (a b : ℕ) → flow.goes a b ≡ true → flow.has b ≡ true

module _ (goes : ℕ → ℕ → Bool) where
  -- one path after another
  pub path-append : (N : ℕ → Type 0) (a : ℕ) (ms : List ℕ) (b : ℕ) (ns : List ℕ) (c : ℕ) → IsPath goes N a ms b → N b → IsPath goes N b ns c → IsPath goes N a (ms ++ b ∷ ns) c
  path-append N a [] b ns c p n q = (p, n, q)
  path-append N a (m ∷ ms) b ns c p n q = (p.0, p.1, path-append N m ms b ns c p.2 n q)

  -- a path through blocks of one kind is one of each wider kind
  pub path_wider : (M N : ℕ → Type 0) → ((x : ℕ) → M x → N x) → (a : ℕ) (ms : List ℕ) (b : ℕ) → IsPath goes M a ms b → IsPath goes N a ms b
  path_wider M N f a [] b p = p
  path_wider M N f a (m ∷ ms) b p = (p.0, f m p.1, path_wider M N f m ms b p.2)

  pub path_any : (N : ℕ → Type 0) (a : ℕ) (ms : List ℕ) (b : ℕ) → IsPath goes N a ms b → IsPath goes Any a ms b
  path_any N a ms b p = path_wider N Any (λ x n. tt) a ms b p

  -- a path begins with an edge
  pub path_first : (N : ℕ → Type 0) (a : ℕ) (ms : List ℕ) (b : ℕ) → IsPath goes N a ms b → (x : ℕ) × (goes a x ≡ true)
  path_first N a [] b p = (b, p)
  path_first N a (m ∷ ms) b p = (m, p.0)

  -- a path ends with an edge
  pub path_last : (N : ℕ → Type 0) (a : ℕ) (ms : List ℕ) (b : ℕ) → IsPath goes N a ms b → (x : ℕ) × (goes x b ≡ true)
  path_last N a [] b p = (a, p)
  path_last N a (m ∷ ms) b p = path_last N m ms b p.2

  -- a path none of whose inner blocks passes a test
  pub path_of_none : (test : ℕ → Bool) (a : ℕ) (ms : List ℕ) (b : ℕ) → list_any test ms ≡ false → IsPath goes Any a ms b → IsPath goes (λ x. test x ≡ false) a ms b
  path_of_none test a [] b e p = p
  path_of_none test a (m ∷ ms) b e p = (p.0, or_left (test m) (list_any test ms) e, path_of_none test m ms b (or_right (test m) (list_any test ms) e) p.2)

  pub none_of_path : (test : ℕ → Bool) (a : ℕ) (ms : List ℕ) (b : ℕ) → IsPath goes (λ x. test x ≡ false) a ms b → list_any test ms ≡ false
  none_of_path test a [] b p = refl
  none_of_path test a (m ∷ ms) b p = nor (test m) (list_any test ms) p.1 (none_of_path test m ms b p.2)

  -- a path cut at an inner block that passes a test
  pub record Cut (N : ℕ → Type 0) (test : ℕ → Bool) (a b : ℕ) : Type 0 where
    pub at : ℕ
    pub passes : test at ≡ true
    pub kind : N at
    pub front : List ℕ
    pub before : IsPath goes N a front at
    pub back : List ℕ
    pub after : IsPath goes N at back b

  pub cut : (N : ℕ → Type 0) (test : ℕ → Bool) (a : ℕ) (ms : List ℕ) (b : ℕ) → list_any test ms ≡ true → IsPath goes N a ms b → Cut N test a b
  cut N test a [] b e p = absurd (true≢false (sym e))
  cut N test a (m ∷ ms) b e p = elim (decided (test m)) [
    | inl t ↦ record { at = m; passes = t; kind = p.1; front = []; before = p.0; back = ms; after = p.2 }
    | inr f ↦
        let c = cut N test m ms b (or_false (test m) (list_any test ms) f e) p.2 in
        record { at = c.at; passes = c.passes; kind = c.kind; front = m ∷ c.front; before = (p.0, p.1, c.before); back = c.back; after = c.after }
  ]

-- a block that a path leads to from a reached one is reached
pub reached_along : (flow : Flow) (N : ℕ → Type 0) (a : ℕ) (ms : List ℕ) (b : ℕ) → Reached flow a → IsPath flow.goes N a ms b → Reached flow b
reached_along flow N a ms b (inl s) p = inr (ms, subst (λ x. IsPath flow.goes Any x ms b) s.0 (path_any flow.goes N a ms b p))
reached_along flow N a ms b (inr r) p =
    inr (r.0 ++ a ∷ ms, path-append flow.goes Any flow.start r.0 a ms b r.1 tt (path_any flow.goes N a ms b p))

-- a reached block is one of the graph
pub reached_has : (flow : Flow) → IsFlow flow → (a : ℕ) → Reached flow a → flow.has a ≡ true
reached_has flow law a (inl s) = s.1
reached_has flow law a (inr r) =
    let edge = path_last flow.goes Any flow.start r.0 a r.1 in
    law.head edge.0 a edge.1
