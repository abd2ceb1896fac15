-- States that hold the same everywhere do so after the same values are taken or given back.
use Rattle.std.proofs.Common.{◌≡◌, ℕ, ◌+◌, ◌/◌, ◌%◌, List, [], ◌∷◌, ap}
use Rattle.std.specs.Prelude.{if◌then◌else◌}
use Rattle.dcc_ir.specs.declared.syntax.Loc.{Loc}
use Rattle.dcc_ir.specs.declared.syntax.Put.{Put}
use Rattle.dcc_ir.specs.declared.syntax.Put.TheVariants.{Memory, One, Two}
use Rattle.dcc_ir.specs.declared.syntax.Param.{Param}
use Rattle.dcc_ir.specs.Location.{same_location, Values, with_value}
use Rattle.dcc_ir.specs.Run.{State, putting, passing}
use Rattle.dcc_ir.specs.Passes.{with_values}

-- two values of all locations are the same
abbrev pub Everywhere : Values → Values → Type 0
Everywhere v v' = (l : Loc) → v' l ≡ v l

pub with_value-same : (v v' : Values) (x : Loc) (n : ℕ) → Everywhere v v' → Everywhere (with_value v x n) (with_value v' x n)
with_value-same v v' x n same l = ap (λ m. if same_location l x then n else m) (same l)

-- where two values of all locations are the same, they are after values are given back
pub with_values-same : (v v' : Values) (results : List Loc) (r : List ℕ) → Everywhere v v' → Everywhere (with_values v results r) (with_values v' results r)
with_values-same v v' [] r same = same
with_values-same v v' (x ∷ results) [] same = same
with_values-same v v' (x ∷ results) (n ∷ r) same = with_values-same (with_value v x n) (with_value v' x n) results r (with_value-same v v' x n same)

-- the states hold the same everywhere
pub record Open (s t : State) : Type 0 where
  pub values : Everywhere s.running.values t.running.values
  pub memory : t.memory ≡ s.memory
  pub base : t.running.base ≡ s.running.base

put_same : (j : ℕ) (put : Put) (n : ℕ) (s t : State) → Open s t → Open (putting j put n s) (putting j put n t)
put_same j Memory n s t o = record { values = o.values; memory = let m = o.memory in let b = o.base in cc; base = o.base }
put_same j (One x) n s t o = record { values = with_value-same s.running.values t.running.values x n o.values; memory = o.memory; base = o.base }
put_same j (Two low high) n s t o = record {
  values = with_value-same (with_value s.running.values low (n % 256)) (with_value t.running.values low (n % 256)) high (n / 256)
      (with_value-same s.running.values t.running.values low (n % 256) o.values);
  memory = o.memory;
  base = o.base;
}

-- where two states hold the same everywhere, they do after arguments are taken
pub taken_same : (j : ℕ) (params : List Param) (a : List ℕ) (s t : State) → Open s t → Open (passing j params a s) (passing j params a t)
taken_same j [] a s t o = o
taken_same j (q ∷ params) [] s t o = o
taken_same j (q ∷ params) (n ∷ a) s t o = taken_same (j + 1) params a (putting j q.put n s) (putting j q.put n t) (put_same j q.put n s t o)
