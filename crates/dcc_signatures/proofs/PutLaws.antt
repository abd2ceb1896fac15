-- Params and arguments: what is taken together is what was taken apart.
use Rattle.std.proofs.Common.{arith, ◌≡◌, ℕ, ◌+◌, ◌*◌, ◌/◌, ◌%◌, ◌^◌, ◌<◌, Bool, true, false, ◌&&◌, ◌||◌, List, [], ◌∷◌, ◌++◌, length, Some, None, refl, sym, ap, ap₂, ◌∙◌, subst, true≢false, map, flat_map}
use Rattle.std.specs.Prelude.{if◌then◌else◌, option_map, All, Contains}
use Rattle.std.specs.List.{list_all}
use Rattle.std.proofs.lemmas.List.Elements.{All-nil, All-cons, All-head, All-tail}
use Rattle.dcc_num.specs.declared.Reg.{Reg}
use Rattle.dcc_num.specs.declared.Half.TheVariants.{Low, High}
use Rattle.dcc_ir.specs.declared.syntax.Loc.{Loc}
use Rattle.dcc_ir.specs.declared.syntax.Loc.TheVariants.{Half, Flag, Cell, Temp}
use Rattle.dcc_ir.specs.declared.syntax.Put.{Put}
use Rattle.dcc_ir.specs.declared.syntax.Put.TheVariants.{Memory, One, Two}
use Rattle.dcc_ir.specs.declared.syntax.Param.{Param}
use Rattle.dcc_ir.specs.Tree.{Expr, Const, Get}
use Rattle.dcc_ir.specs.Location.{same_location, location_width, Values, with_value}
use Rattle.dcc_ir.specs.Value.{width_of}
use Rattle.dcc_ir.specs.Joinable.{places_of}
use Rattle.dcc_ir.specs.Passing.{param_of, is_word_put}
use Rattle.dcc_ir.specs.Run.{State, setting, putting, passing}
use Rattle.dcc_ir.proofs.FitLaws.{both}
use Rattle.dcc_ir.proofs.LocationLaws.{location_same, Contains-none, Contains-cases}
use Rattle.dcc_signatures.specs.Packed.{are_halves, two_or_one, in_front, merged, one_put, param_with, one_param}
use Rattle.dcc_signatures.specs.Packed.{word_of, one_argument}
use Rattle.dcc_signatures.proofs.MergeLaws.{merged-apart, merged-map}

-- Halves.

-- two halves of a register are so
pub halves_are : (low high : Loc) → are_halves low high ≡ true → (r : Reg) × (low ≡ Half r Low) × (high ≡ Half r High)
halves_are low (Half r High) e = (r, location_same low (Half r Low) e, refl)
halves_are low (Half r Low) e = absurd (true≢false (sym e))
halves_are low (Flag f) e = absurd (true≢false (sym e))
halves_are low (Cell n h) e = absurd (true≢false (sym e))
halves_are low (Temp n) e = absurd (true≢false (sym e))

not_cell : (n : ℕ) (h : _) (high : Loc) → are_halves (Cell n h) high ≡ false
not_cell n h (Half r High) = refl
not_cell n h (Half r Low) = refl
not_cell n h (Flag f) = refl
not_cell n h (Cell m k) = refl
not_cell n h (Temp m) = refl

not_temp : (n : ℕ) (high : Loc) → are_halves (Temp n) high ≡ false
not_temp n (Half r High) = refl
not_temp n (Half r Low) = refl
not_temp n (Flag f) = refl
not_temp n (Cell m k) = refl
not_temp n (Temp m) = refl

-- Where locations go that pass, the halves of a register together.

abbrev pub puts : List Loc → List Put
puts locations = merged one_put (map One locations)

-- a place of a location, or of the halves of a register
abbrev pub IsGood : (Loc → Type 0) → Put → Type 0
IsGood P Memory = ⊥
IsGood P (One l) = P l
IsGood P (Two low high) = (are_halves low high ≡ true) × P low × P high

module _ (P : Loc → Type 0) where
  front-good : (x : Loc) → P x → (qs : List Put) → All (IsGood P) qs → All (IsGood P) (in_front one_put (One x) qs)
  front-good x here [] all = All-cons (IsGood P) (One x) [] here all
  front-good x here (q ∷ qs) all = go q (All-head (IsGood P) q qs all) (All-tail (IsGood P) q qs all)
    where
      go : (q : Put) → IsGood P q → All (IsGood P) qs → All (IsGood P) (two_or_one (One x) q qs (one_put (One x) q))
      go (One y) good rest = decide (are_halves x y) refl
        where
          decide : (b : Bool) → are_halves x y ≡ b → All (IsGood P) (two_or_one (One x) (One y) qs (if b then Some (Two x y) else None))
          decide true e = All-cons (IsGood P) (Two x y) qs (e, here, good) rest
          decide false e = All-cons (IsGood P) (One x) (One y ∷ qs) here (All-cons (IsGood P) (One y) qs good rest)
      go (Two low high) good rest = All-cons (IsGood P) (One x) (Two low high ∷ qs) here (All-cons (IsGood P) (Two low high) qs good rest)
      go Memory good rest = absurd good

  pub puts-good : (ls : List Loc) → All P ls → All (IsGood P) (puts ls)
  puts-good [] all = All-nil (IsGood P)
  puts-good (x ∷ ls) all = front-good x (All-head P x ls all) (puts ls) (puts-good ls (All-tail P x ls all))

front-places : (x : Loc) (qs : List Put) → flat_map places_of (in_front one_put (One x) qs) ≡ x ∷ flat_map places_of qs
front-places x [] = refl
front-places x (One y ∷ qs) = go (are_halves x y)
  where
    go : (b : Bool) → flat_map places_of (two_or_one (One x) (One y) qs (if b then Some (Two x y) else None)) ≡ x ∷ y ∷ flat_map places_of qs
    go true = refl
    go false = refl
front-places x (Two low high ∷ qs) = refl
front-places x (Memory ∷ qs) = refl

pub puts-places : (ls : List Loc) → flat_map places_of (puts ls) ≡ ls
puts-places [] = refl
puts-places (x ∷ ls) = front-places x (puts ls) ∙ ap (λ l. x ∷ l) (puts-places ls)

-- Params.

ones_params : (ls : List Loc) → map param_of ls ≡ map param_with (map One ls)
ones_params [] = refl
ones_params (l ∷ ls) = ap (λ qs. param_of l ∷ qs) (ones_params ls)

stack_apart : (ws : List Param) → list_all (λ w. w.stack && is_word_put w.put) ws ≡ true → (w q : Param) → Contains ws w → one_param w q ≡ None
stack_apart [] all w q c = absurd (Contains-none w c)
stack_apart (v ∷ ws) all w q c =
    let parts = both (v.stack && is_word_put v.put) (list_all (λ (x : Param). x.stack && is_word_put x.put) ws) all in
    Contains-cases v ws w (one_param w q ≡ None)
    (λ same. subst (λ x. one_param x q ≡ None) same (ap (λ b. if b || q.stack then None else option_map param_with (one_put v.put q.put)) (both v.stack (is_word_put v.put) parts.0).0))
    (λ d. stack_apart ws parts.1 w q d) c

-- words stay, and the halves of a register are one param
pub params-packed : (ws : List Param) (ls : List Loc) → list_all (λ w. w.stack && is_word_put w.put) ws ≡ true → merged one_param (ws ++ map param_of ls) ≡ ws ++ map param_with (puts ls)
params-packed ws ls stack =
    ap (λ qs. merged one_param (ws ++ qs)) (ones_params ls) ∙ merged-apart one_param ws (map param_with (map One ls)) (stack_apart ws stack)
    ∙ ap (λ qs. ws ++ qs) (merged-map one_put one_param param_with (λ x y. refl) (map One ls))

-- Arguments.

-- the argument for a place
abbrev pub got : Put → Expr
got Memory = Const 16 0
got (One l) = Get l
got (Two low high) = word_of low high

ones_got : (ls : List Loc) → map Get ls ≡ map got (map One ls)
ones_got [] = refl
ones_got (l ∷ ls) = ap (λ es. Get l ∷ es) (ones_got ls)

got-one : (x y : Put) → one_argument (got x) (got y) ≡ option_map got (one_put x y)
got-one (One low) (One high) = elim (are_halves low high) as (λ b. (if b then Some (word_of low high) else None) ≡ option_map got (if b then Some (Two low high) else None)) [ true ↦ refl | false ↦ refl ]
got-one (One low) (Two l h) = refl
got-one (One low) Memory = refl
got-one (Two l h) y = refl
got-one Memory y = refl

wide-none : (bits : List ℕ) (e y : Expr) → width_of bits e ≡ 16 → one_argument e y ≡ None
wide-none bits (Get (Half r h)) y e = absurd (omega (arith, e))
wide-none bits (Get (Flag f)) y e = absurd (omega (arith, e))
wide-none bits (Get (Cell n h)) (Get high) e = ap (λ b. if b then Some (word_of (Cell n h) high) else None) (not_cell n h high)
wide-none bits (Get (Temp n)) (Get high) e = ap (λ b. if b then Some (word_of (Temp n) high) else None) (not_temp n high)
wide-none bits (Get (Cell n h)) y e = refl
wide-none bits (Get (Temp n)) y e = refl
wide-none bits x y e = refl

-- words stay, and the halves of a register are one argument
pub arguments-packed : (bits : List ℕ) (ws : List Expr) (ls : List Loc) → ((e : Expr) → Contains ws e → width_of bits e ≡ 16) → merged one_argument (ws ++ map Get ls) ≡ ws ++ map got (puts ls)
arguments-packed bits ws ls wide =
    ap (λ es. merged one_argument (ws ++ es)) (ones_got ls) ∙ merged-apart one_argument ws (map got (map One ls)) (λ e y c. wide-none bits e y (wide e c))
    ∙ ap (λ es. ws ++ es) (merged-map one_put one_argument got got-one (map One ls))

-- What is taken.

-- the number that is taken for a place, where the locations hold these
abbrev pub held : Values → Put → ℕ
held v Memory = 0
held v (One l) = v l
held v (Two low high) = v high * 256 + v low

-- the states hold the same at the location, and in memory
pub record OpenAt (l : Loc) (s t : State) : Type 0 where
  pub value : t.running.values l ≡ s.running.values l
  pub memory : t.memory ≡ s.memory
  pub base : t.running.base ≡ s.running.base

module _ (l : Loc) where
  pub value-at : (v v' : Values) (x : Loc) (n n' : ℕ) → n' ≡ n → v' l ≡ v l → with_value v' x n' l ≡ with_value v x n l
  value-at v v' x n n' e same = ap₂ (λ a b. if same_location l x then a else b) e same

  put_at : (j : ℕ) (put : Put) (n : ℕ) (s t : State) → OpenAt l s t → OpenAt l (putting j put n s) (putting j put n t)
  put_at j Memory n s t o = record { value = o.value; memory = let m = o.memory in let b = o.base in cc; base = o.base }
  put_at j (One x) n s t o = record { value = value-at s.running.values t.running.values x n n refl o.value; memory = o.memory; base = o.base }
  put_at j (Two low high) n s t o = record {
    value = value-at (with_value s.running.values low (n % 256)) (with_value t.running.values low (n % 256)) high (n / 256) (n / 256) refl
        (value-at s.running.values t.running.values low (n % 256) (n % 256) refl o.value);
    memory = o.memory;
    base = o.base;
  }

  -- where two states hold the same at the location, and in memory, they do after the words are taken
  pub words_at : (j : ℕ) (params : List Param) (ns : List ℕ) (s t : State) → OpenAt l s t → OpenAt l (passing j params ns s) (passing j params ns t)
  words_at j [] ns s t o = o
  words_at j (q ∷ params) [] s t o = o
  words_at j (q ∷ params) (n ∷ ns) s t o = words_at (j + 1) params ns (putting j q.put n s) (putting j q.put n t) (put_at j q.put n s t o)

  -- locations take the same together as apart
  pub puts_at : (bits : List ℕ) (v : Values) (qs : List Put) (j j' : ℕ) (s t : State) → All (IsGood (λ x. v x < 2 ^ location_width bits x)) qs → OpenAt l s t →
      OpenAt l (passing j (map param_of (flat_map places_of qs)) (map v (flat_map places_of qs)) s) (passing j' (map param_with qs) (map (held v) qs) t)
  puts_at bits v [] j j' s t good o = o
  puts_at bits v (One x ∷ qs) j j' s t good o =
      puts_at bits v qs (j + 1) (j' + 1) (setting x (v x) s) (setting x (v x) t) (All-tail (IsGood (λ x. v x < 2 ^ location_width bits x)) (One x) qs good)
      (record { value = value-at s.running.values t.running.values x (v x) (v x) refl o.value; memory = o.memory; base = o.base })
  puts_at bits v (Two low high ∷ qs) j j' s t good o =
      let n = v high * 256 + v low in
      let here = All-head (IsGood (λ x. v x < 2 ^ location_width bits x)) (Two low high) qs good in
      let is = (halves_are low high here.0).1 in
      let small : v low < 256 = subst (λ x. v x < 2 ^ location_width bits x → v x < 256) (sym is) (λ less. less) here.1 in
      let lower : n % 256 ≡ v low = below (v high) (v low) small in
      let upper : n / 256 ≡ v high = above (v high) (v low) small in
      puts_at bits v qs ((j + 1) + 1) (j' + 1) (setting high (v high) (setting low (v low) s)) (setting high (n / 256) (setting low (n % 256) t)) (All-tail (IsGood (λ x. v x < 2 ^ location_width bits x)) (Two low high) qs good)
      (record {
        value = value-at (with_value s.running.values low (v low)) (with_value t.running.values low (n % 256)) high (v high) (n / 256) upper
            (value-at s.running.values t.running.values low (v low) (n % 256) lower o.value);
        memory = o.memory;
        base = o.base;
      })
    where
      below : (h l : ℕ) → l < 256 → (h * 256 + l) % 256 ≡ l
      below h l less = omega (arith, less)

      above : (h l : ℕ) → l < 256 → (h * 256 + l) / 256 ≡ h
      above h l less = omega (arith, less)
  puts_at bits v (Memory ∷ qs) j j' s t good o = absurd (All-head (IsGood (λ x. v x < 2 ^ location_width bits x)) Memory qs good)

-- the words go first
pub words_first : (j : ℕ) (ws qs : List Param) (ns ms : List ℕ) (s : State) → length ns ≡ length ws → passing j (ws ++ qs) (ns ++ ms) s ≡ passing (j + length ws) qs ms (passing j ws ns s)
words_first j [] qs [] ms s len = ap (λ i. passing i qs ms s) (omega arith)
words_first j (w ∷ ws) qs (n ∷ ns) ms s len =
    let index : (j + 1) + length ws ≡ j + length (w ∷ ws) = omega arith in
    words_first (j + 1) ws qs ns ms (putting j w.put n s) (omega (arith, len)) ∙ ap (λ i. passing i qs ms (passing (j + 1) ws ns (putting j w.put n s))) index
words_first j [] qs (n ∷ ns) ms s len = absurd (cc)
words_first j (w ∷ ws) qs [] ms s len = absurd (cc)
