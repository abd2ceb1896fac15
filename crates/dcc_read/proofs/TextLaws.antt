-- Reading functions and global variables one after the other.
use Rattle.std.proofs.Common.{◌≡◌, ℕ, zero, suc, ◌+◌, ◌-◌, ◌<◌, ◌==◌, Bool, true, false, ◌||◌, if◌then◌else◌, not, codes, List, [], ◌∷◌, ◌++◌, length, Option, Some, None, refl, sym, ap, ◌∙◌, subst, append_assoc}
use Rattle.std.specs.Prelude.{IfSome}
use Rattle.std.proofs.lemmas.List.{append-nil}
use Rattle.dcc_c.specs.Token.{place_line as place_words}
use Rattle.dcc_c.specs.declared.syntax.Class.TheVariants.{Plain}
use Rattle.dcc_c.specs.Partial.{NumberAt, PartialVariable, PartialFunction}
use Rattle.dcc_c.specs.Reading.{Reader, Got, got, is_stopped, take_mark}
use Rattle.dcc_c.specs.ReadingStatements.{sees_head, read_size, read_init}
use Rattle.dcc_c.specs.ReadingText.{Begun, read_begun, read_function, read_functions, with_functions, read_global, size_in_bytes, Declared, declared, before_declared, read_declared}
use Rattle.dcc_reader.specs.Parts.{before_list}
use Rattle.dcc_read.specs.TextViews.{place_line, is_global, global_address, before_globals}
use Rattle.dcc_reader.proofs.LoopLaws.{counted, if-true, if-false}

-- Functions.

pub functions-none : (n : ℕ) (r : Reader) → (is_stopped r || (length r.left == 0)) ≡ true → read_functions n r ≡ got [] r
functions-none zero r e = refl
functions-none (suc n) r e = if-true (is_stopped r || (length r.left == 0)) _ _ e

pub functions-some : (n : ℕ) (r : Reader) (begun : Got Begun) (first : Got PartialFunction) → 0 < n → (is_stopped r || (length r.left == 0)) ≡ false →
    begun ≡ read_begun r → first ≡ read_function (n - 1) begun →
    read_functions n r ≡ before_list (first.value ∷ []) (read_functions (n - 1) first.following)
functions-some n r begun first within e begins reads =
    ap (λ k. read_functions k r) (sym (counted n within))
    ∙ if-false (is_stopped r || (length r.left == 0)) _ _ e
    ∙ ap (λ (g : Got PartialFunction). before_list (g.value ∷ []) (read_functions (n - 1) g.following)) (sym (reads ∙ ap (read_function (n - 1)) begins))

-- Global variables.

-- the choice between a variable and a function
chosen-some : {A : Type 0} (address : Option ℕ) (b : Bool) (f : ℕ → A) (other : A) (here : ℕ) → (if b then address else None) ≡ Some here →
    (elim address [ Some at ↦ if b then f at else other | None ↦ other ]) ≡ f here
chosen-some (Some at) true f other here e = let same : at ≡ here = cc in ap f same
chosen-some (Some at) false f other here e = absurd (cc)
chosen-some None true f other here e = absurd (cc)
chosen-some None false f other here e = absurd (cc)

chosen-none : {A : Type 0} (address : Option ℕ) (b : Bool) (f : ℕ → A) (other : A) → (if b then address else None) ≡ None →
    (elim address [ Some at ↦ if b then f at else other | None ↦ other ]) ≡ other
chosen-none (Some at) true f other e = absurd (cc)
chosen-none (Some at) false f other e = refl
chosen-none None b f other e = refl

pub declared-place : (n : ℕ) (address : Option ℕ) (r : Reader) (place : Got ℕ) → 0 < n → sees_head place_words r ≡ true → place ≡ place_line r →
    read_declared n address r ≡ read_declared (n - 1) (Some place.value) place.following
declared-place n address r place within e is =
    ap (λ k. read_declared k address r) (sym (counted n within))
    ∙ if-true (sees_head place_words r) _ _ e
    ∙ ap (λ (g : Got ℕ). read_declared (n - 1) (Some g.value) g.following) (sym is)

-- what is declared after the test for a place line
declared-others : (n : ℕ) (address : Option ℕ) (r : Reader) (begun : Got Begun) → 0 < n → sees_head place_words r ≡ false → begun ≡ read_begun r →
    read_declared n address r
    ≡ (elim address [
      | Some here ↦ if is_global begun
          then (let v = read_global (n - 1) here begun in before_declared v.value (read_declared (n - 1) (Some (here + size_in_bytes v.value)) v.following))
          else declared [] (with_functions (n - 1) begun)
      | None ↦ declared [] (with_functions (n - 1) begun)
    ])
declared-others n address r begun within e begins =
    ap (λ k. read_declared k address r) (sym (counted n within))
    ∙ if-false (sees_head place_words r) _ _ e
    ∙ ap (λ (g : Got Begun). elim address [
      | Some here ↦ if is_global g
          then (let v = read_global (n - 1) here g in before_declared v.value (read_declared (n - 1) (Some (here + size_in_bytes v.value)) v.following))
          else declared [] (with_functions (n - 1) g)
      | None ↦ declared [] (with_functions (n - 1) g)
    ]) (sym begins)

pub declared-global : (n : ℕ) (address : Option ℕ) (r : Reader) (begun : Got Begun) (here : ℕ) (v : Got PartialVariable) → 0 < n →
    sees_head place_words r ≡ false → begun ≡ read_begun r → Some here ≡ global_address address begun → v ≡ read_global (n - 1) here begun →
    read_declared n address r ≡ before_declared v.value (read_declared (n - 1) (Some (here + size_in_bytes v.value)) v.following)
declared-global n address r begun here v within e begins stands reads =
    declared-others n address r begun within e begins
    ∙ chosen-some address (is_global begun)
    (λ at. let w = read_global (n - 1) at begun in before_declared w.value (read_declared (n - 1) (Some (at + size_in_bytes w.value)) w.following))
    (declared [] (with_functions (n - 1) begun)) here (sym stands)
    ∙ ap (λ (g : Got PartialVariable). before_declared g.value (read_declared (n - 1) (Some (here + size_in_bytes g.value)) g.following)) (sym reads)

pub declared-functions : (n : ℕ) (address : Option ℕ) (r : Reader) (begun : Got Begun) (functions : Got (List PartialFunction)) → 0 < n →
    sees_head place_words r ≡ false → begun ≡ read_begun r → None ≡ global_address address begun → functions ≡ with_functions (n - 1) begun →
    read_declared n address r ≡ declared [] functions
declared-functions n address r begun functions within e begins stands reads =
    declared-others n address r begun within e begins
    ∙ chosen-none address (is_global begun)
    (λ at. let w = read_global (n - 1) at begun in before_declared w.value (read_declared (n - 1) (Some (at + size_in_bytes w.value)) w.following))
    (declared [] (with_functions (n - 1) begun)) (sym stands)
    ∙ ap (declared []) (sym reads)

pub globals-step : (before now : List PartialVariable) (v : PartialVariable) (whole others target : Got Declared) → now ≡ before ++ v ∷ [] →
    whole ≡ before_declared v others → before_globals before whole ≡ target → before_globals now others ≡ target
globals-step before now v whole others target is step had =
    ap (λ l. before_globals l others) is
    ∙ ap (λ l. got (record { globals = l; functions = others.value.functions }) others.following) (append_assoc before (v ∷ []) others.value.globals)
    ∙ sym (ap (before_globals before) step) ∙ had

pub globals-done : (before : List PartialVariable) (functions : Got (List PartialFunction)) (whole target : Got Declared) → whole ≡ declared [] functions →
    before_globals before whole ≡ target → declared before functions ≡ target
globals-done before functions whole target end had =
    sym (ap (λ l. declared l functions) (append-nil before)) ∙ sym (ap (before_globals before) end) ∙ had

pub functions-first : (n : ℕ) (begun : Got Begun) (first : Got PartialFunction) (now : List PartialFunction) →
    first ≡ read_function n begun → now ≡ first.value ∷ [] → before_list now (read_functions n first.following) ≡ with_functions n begun
functions-first n begun first now is grown =
    ap (λ l. before_list l (read_functions n first.following)) grown
    ∙ ap (λ (g : Got PartialFunction). before_list (g.value ∷ []) (read_functions n g.following)) is

-- A global variable.

abbrev pub global : Begun → ℕ → Option NumberAt → List NumberAt → Bool → PartialVariable
global begun address size init done =
    record { name = begun.name; type = begun.result; class = Plain; size = size; init = init; address = address; done = done }

-- from the initial values on, and from the size on
abbrev pub global_filled : Begun → ℕ → Option NumberAt → Got (List NumberAt) → Got PartialVariable
global_filled begun address size init =
    let end = take_mark (codes ";") init.following in got (global begun address size init.value (not (is_stopped end))) end

abbrev global_sized : ℕ → Begun → ℕ → Got (Option NumberAt) → Got PartialVariable
global_sized calls begun address size = global_filled begun address size.value (read_init calls size.following)

pub global-read : (calls address : ℕ) (begun : Got Begun) (bounded filled end : Reader) (size : Option NumberAt) (init : List NumberAt) (stopped : Bool) →
    got size bounded ≡ read_size begun.following → got init filled ≡ read_init calls bounded → end ≡ take_mark (codes ";") filled → stopped ≡ is_stopped end →
    got (global begun.value address size init (not stopped)) end ≡ read_global calls address begun
global-read calls address begun bounded filled end size init stopped sizes fills ends stops =
    ap (λ b. got (global begun.value address size init (not b)) end) stops
    ∙ ap (λ e. got (global begun.value address size init (not (is_stopped e))) e) ends
    ∙ ap (global_filled begun.value address size) fills
    ∙ ap (global_sized calls begun.value address) sizes

kept : (P : ℕ → Type 0) (address : Option ℕ) (b : Bool) (here : ℕ) → (if b then address else None) ≡ Some here → IfSome address P → P here
kept P (Some at) true here e had = let same : at ≡ here = cc in subst P same had
kept P (Some at) false here e had = absurd (cc)
kept P None true here e had = absurd (cc)
kept P None false here e had = absurd (cc)

-- A variable that begins has the address in force.
pub address-kept : (P : ℕ → Type 0) (address : Option ℕ) (begun : Got Begun) (here : ℕ) → Some here ≡ global_address address begun → IfSome address P → P here
address-kept P address begun here stands had = kept P address (is_global begun) here (sym stands) had

pub functions-end : (n : ℕ) (r : Reader) → n ≡ 0 → read_functions n r ≡ got [] r
functions-end n r none = ap (λ k. read_functions k r) none

pub globals-none : (before : List PartialVariable) (whole : Got Declared) → before ≡ [] → before_globals before whole ≡ whole
globals-none before whole none = ap (λ l. before_globals l whole) none

pub declared-end : (n : ℕ) (address : Option ℕ) (r : Reader) → n ≡ 0 → read_declared n address r ≡ declared [] (got [] r)
declared-end n address r none = ap (λ k. read_declared k address r) none

pub globals-parts : (globals : List PartialVariable) (functions : List PartialFunction) (r : Reader) → functions ≡ [] →
    got (record { globals = globals; functions = functions }) r ≡ declared globals (got [] r)
globals-parts globals functions r none = ap (λ l. declared globals (got l r)) none
