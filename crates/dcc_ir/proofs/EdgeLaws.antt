-- Where each block that goes has one edge in, it lies after one block alone.
use Rattle.std.proofs.Common.{◌≡◌, ℕ, Bool, true, false, List, [], ◌∷◌, sym, subst}
use Rattle.dcc_ir.specs.Flow.{Flow, IsPath, Any, Reached, Leads, HaveOneEdge}
use Rattle.dcc_ir.proofs.PathLaws.{clash, reached_along}

-- a path from its last block back to its first
abbrev IsBack : (ℕ → ℕ → Bool) → (ℕ → Type 0) → ℕ → List ℕ → ℕ → Type 0
IsBack goes N a [] c = goes a c ≡ true
IsBack goes N a (m ∷ ms) c = (goes m c ≡ true) × N m × IsBack goes N a ms m

turned : (goes : ℕ → ℕ → Bool) (N : ℕ → Type 0) (ms : List ℕ) (a x c : ℕ) → ((y : ℕ) → goes x y ≡ true → (ns : List ℕ) × IsBack goes N a ns y) → IsPath goes N x ms c → (ns : List ℕ) × IsBack goes N a ns c
turned goes N [] a x c on e = on c e
turned goes N (m ∷ ms) a x c on e =
    let back = on m e.0 in
    turned goes N ms a m c (λ y f. (m ∷ back.0, (f, e.1, back.1))) e.2

reached_back : (p : Flow) (N : ℕ → Type 0) (a : ℕ) (ms : List ℕ) (c : ℕ) → Reached p a → IsBack p.goes N a ms c → Reached p c
reached_back p N a [] c r e = reached_along p Any a [] c r e
reached_back p N a (m ∷ ms) c r e = reached_along p Any m [] c (reached_back p N a ms m r e.2) e.0

module _ (p q : Flow) (one : HaveOneEdge p q) where
  both_back : (a b : ℕ) → Reached p a → Reached p b → q.has a ≡ true → q.has b ≡ true → (ms ns : List ℕ) (c : ℕ) → q.has c ≡ false → IsBack p.goes (λ x. q.has x ≡ false) a ms c → IsBack p.goes (λ x. q.has x ≡ false) b ns c → a ≡ b
  both_back a b ra rb ha hb [] [] c hc e f = one a b c ra rb hc e f
  both_back a b ra rb ha hb [] (n ∷ ns) c hc e f =
      absurd (clash (subst (λ x. q.has x ≡ true) (one a n c ra (reached_back p (λ x. q.has x ≡ false) b ns n rb f.2) hc e f.0) ha) f.1)
  both_back a b ra rb ha hb (m ∷ ms) [] c hc e f =
      absurd (clash (subst (λ x. q.has x ≡ true) (one b m c rb (reached_back p (λ x. q.has x ≡ false) a ms m ra e.2) hc f e.0) hb) e.1)
  both_back a b ra rb ha hb (m ∷ ms) (n ∷ ns) c hc e f =
      let same = one m n c (reached_back p (λ x. q.has x ≡ false) a ms m ra e.2) (reached_back p (λ x. q.has x ≡ false) b ns n rb f.2) hc e.0 f.0 in
      both_back a b ra rb ha hb ms ns m e.1 e.2 (subst (λ x. IsBack p.goes (λ y. q.has y ≡ false) b ns x) (sym same) f.2)

  pub after_one_from_edges : (a b c : ℕ) → Reached p a → Reached p b → q.has a ≡ true → q.has b ≡ true → q.has c ≡ false → Leads p q a c → Leads p q b c → a ≡ b
  after_one_from_edges a b c ra rb ha hb hc la lb =
      let x = turned p.goes (λ y. q.has y ≡ false) la.0 a a c (λ y e. ([], e)) la.1 in
      let y = turned p.goes (λ z. q.has z ≡ false) lb.0 b b c (λ z e. ([], e)) lb.1 in
      both_back a b ra rb ha hb x.0 y.0 c hc x.1 y.1
