-- A graph in which the expressions of available assignments stand in the place of reads stands for the other.
use Rattle.std.proofs.Common.{◌≡◌, ℕ, Bool, true, false, not, List, [], ◌∷◌, Option, Some, None, refl, sym, ap, ap₂, ◌∙◌, subst, map, slice_get, Contains}
use Rattle.std.specs.Prelude.{if◌then◌else◌, ◌/◌}
use Rattle.std.specs.List.{AllZip}
use Rattle.dcc_ir.specs.declared.syntax.Loc.{Loc}
use Rattle.dcc_ir.specs.Tree.{Expr, Get, Binary, Stmt, Set, Fetch, Store, Div, Call, Dos, Exit, Block, Graph}
use Rattle.dcc_ir.specs.Location.{same_location, location_width, Values, with_value, filled}
use Rattle.dcc_ir.specs.Value.{Environment, value_of, width_of, bytes_at, with_bytes_at, division_of, division_at}
use Rattle.dcc_ir.specs.Use.{reads_of, writes_of}
use Rattle.dcc_ir.specs.WellFormed.{IsGraph}
use Rattle.dcc_ir.specs.Run.{State, Activation, passing, scene_of, value_in, argument_in}
use Rattle.dcc_ir.specs.Local.{start_of}
use Rattle.dcc_ir.specs.Passes.{with_values}
use Rattle.dcc_ir.proofs.FitLaws.{both}
use Rattle.dcc_ir.proofs.ListLaws.{all_had}
use Rattle.dcc_ir.proofs.LocationLaws.{location_same, Contains-here, Contains-later}
use Rattle.dcc_ir.proofs.passes.AgreeLaws.{value_agrees}
use Rattle.dcc_ir.proofs.passes.SameLaws.{Everywhere, with_value-same, with_values-same, taken_same}
use Rattle.dcc_passes.specs.Replaced.{StandsFor}
use Rattle.dcc_passes.specs.Kinds.{param_kind, BlockStaysInKind, StaysInKind}
use Rattle.dcc_passes.specs.OneGraph.{BeginsIn}
use Rattle.dcc_passes.specs.Following.{Link, Bond, TakeAlike, DoAlike, EndsAlike, RunAlike, IsFollowedBy, done, both as step, calls, goes, IsFollowedByBlock, linked, IsFollowedByGraph}
use Rattle.dcc_passes.proofs.FollowLaws.{followed-stands}
use Rattle.dcc_substitution.specs.Available.{Availability, loads, addresses, is_of_locations, IsAvailableAfter, AreRight, IsRight, Holds}
use Rattle.dcc_substitution.specs.Substitute.{IsSubstitute, itself}
use Rattle.dcc_substitution.specs.Substituted.{IsSubstituteStmt, set, fetch, store, div, call, dos, same as unchanged, IsSubstituteExit, goto, test, switch, ret, stop, AreSubstitutes, done as ended, both as two, gone, IsSubstitutedBlock, IsSubstituted}
use Rattle.dcc_substitution.proofs.AvailableLaws.{value-anywhere, Changes, with-other, with-itself, not-so, holds-after}
use Rattle.dcc_substitution.proofs.SubstituteLaws.{kinds-zipped, rets-substitute, targets-substitute, jumps-substitute, calls-substitute, value-substitute}

-- Values.

-- a value that a location holds already changes nothing
pub with-held : (v : Values) (x : Loc) (n : ℕ) → v x ≡ n → (l : Loc) → v l ≡ with_value v x n l
with-held v x n held l = go (same_location l x) refl
  where
    go : (b : Bool) → same_location l x ≡ b → v l ≡ (if b then n else v l)
    go true is = ap v (location_same l x is) ∙ held
    go false is = refl

-- what isn't among the results stays
pub given-other : (v : Values) (results : List Loc) (r : List ℕ) (l : Loc) → (Contains results l → ⊥) → with_values v results r l ≡ v l
given-other v [] r l out = refl
given-other v (x ∷ results) [] l out = refl
given-other v (x ∷ results) (n ∷ r) l out =
    given-other (with_value v x n) results r l (λ c. out (Contains-later x results l c))
    ∙ with-other v x n l (λ is. out (subst (Contains (x ∷ results)) (sym is) (Contains-here x results)))

-- What statements change.

-- a location takes a value, and nothing else changes
pub one-changes : (stmt : Stmt) (x : Loc) (n : ℕ) (scene : Environment) → writes_of stmt ≡ x ∷ []
    → ((l : Loc) (e : Expr) → stmt ≡ Set l e → with_value scene.values x n l ≡ value_of scene e)
    → Changes stmt scene (record scene { values = with_value scene.values x n })
one-changes stmt x n scene writes sets = record {
  bits = refl;
  left = λ l out. with-other scene.values x n l (λ is. out (subst (λ ls. Contains ls l) (sym writes) (subst (Contains (x ∷ [])) (sym is) (Contains-here x []))));
  sets = sets;
  memory = λ e leaves some. refl;
  base = λ e leaves some. refl;
}

-- nothing changes
pub none-changes : (stmt : Stmt) (scene : Environment) → ((l : Loc) (e : Expr) → stmt ≡ Set l e → ⊥) → Changes stmt scene scene
none-changes stmt scene no_set = record {
  bits = refl;
  left = λ l out. refl;
  sets = λ l e is. absurd (no_set l e is);
  memory = λ e leaves some. refl;
  base = λ e leaves some. refl;
}

pub store-changes : (width : ℕ) (a e : Expr) (scene : Environment) (memory : List ℕ) → Changes (Store width a e) scene (record scene { memory = memory })
store-changes width a e scene memory = record {
  bits = refl;
  left = λ l out. refl;
  sets = λ l v is. absurd (cc);
  memory = λ v leaves some. absurd (not-so (loads v) leaves some);
  base = λ v leaves some. refl;
}

pub call-changes : (results : List Loc) (entry depth : ℕ) (arguments : List Expr) (s t : Environment) → t.bits ≡ s.bits → ((l : Loc) → (Contains results l → ⊥) → t.values l ≡ s.values l)
    → Changes (Call results entry arguments depth) s t
call-changes results entry depth arguments s t bits left = record {
  bits = bits;
  left = left;
  sets = λ l e is. absurd (cc);
  memory = λ e leaves some. absurd (not-so (loads e) (bothly e leaves).0 some);
  base = λ e leaves some. absurd (not-so (addresses e) (bothly e leaves).1 some);
}
  where
    bothly : (e : Expr) → is_of_locations e ≡ true → (not (loads e) ≡ true) × (not (addresses e) ≡ true)
    bothly e alone = both (not (loads e)) (not (addresses e)) alone

module _ (available : Availability) (before after : Graph) (right : IsRight before available) (is : IsSubstituted available before after) where
  bits-same : after.bits ≡ before.bits
  bits-same = ap (λ (g : Graph). g.bits) is.frame

  params-same : after.params ≡ before.params
  params-same = ap (λ (g : Graph). g.params) is.frame

  -- both hold the same, and what is available holds
  record Both (place : ℕ) (rest : List Stmt) (scene : Environment) (v' : Values) : Type 0 where
    same : Everywhere scene.values v'
    holds : Holds (available place rest) scene

  abbrev link : Link
  link place rest = Both place rest

  module _ (place : ℕ) where
    abbrev Is : List Stmt → Loc → Expr → Type 0
    Is rest = available place rest

    -- a substitute has one value in both
    value-both : (rest : List Stmt) (s t : State) → RunAlike before after (link place rest) s t → (e e' : Expr) → IsSubstitute (Is rest) e e' → value_in t e' ≡ value_in s e
    value-both rest s t h e e' sub =
        value_agrees (scene_of s) (scene_of t)
        (ap (λ (g : Graph). g.bits) h.second ∙ bits-same ∙ sym (ap (λ (g : Graph). g.bits) h.first)) h.outside.base h.outside.memory e'
        (all_had (λ l. t.running.values l ≡ s.running.values l) (reads_of e') (λ l c. h.holds.same l))
        ∙ value-substitute (scene_of s) (Is rest)
        (λ l e told. subst (λ (g : Graph). width_of g.bits e ≡ location_width g.bits l) (sym h.first) (right.widths place rest l e told)) h.holds.holds e e' sub

    values-both : (rest : List Stmt) (s t : State) → RunAlike before after (link place rest) s t → (es es' : List Expr) → AllZip (IsSubstitute (Is rest)) es es' → map (value_in t) es' ≡ map (value_in s) es
    values-both rest s t h [] [] all = refl
    values-both rest s t h [] (e' ∷ es') all = absurd all
    values-both rest s t h (e ∷ es) [] all = absurd all
    values-both rest s t h (e ∷ es) (e' ∷ es') all = ap₂ (λ n ns. n ∷ ns) (value-both rest s t h e e' all.0) (values-both rest s t h es es' all.1)

    module _ (stmt : Stmt) (rest : List Stmt) (step_right : (l : Loc) (e : Expr) → Is rest l e → IsAvailableAfter stmt (Is (stmt ∷ rest)) l e) (s t : State)
        (h : RunAlike before after (link place (stmt ∷ rest)) s t) where
      abbrev After : Bond
      After = link place rest

      after-holds : (next : Environment) → Changes stmt (scene_of s) next → Holds (Is rest) next
      after-holds next changes = holds-after stmt (Is (stmt ∷ rest)) (Is rest) step_right (scene_of s) next changes
          (λ l e told. subst (λ (g : Graph). width_of g.bits e ≡ location_width g.bits l) (sym h.first) (right.widths place (stmt ∷ rest) l e told)) h.holds.holds

      -- both take one value
      take-both : (x : Loc) (n n' : ℕ) → n' ≡ n → Changes stmt (scene_of s) (record (scene_of s) { values = with_value s.running.values x n })
          → After (record (scene_of s) { values = with_value s.running.values x n }) (with_value t.running.values x n')
      take-both x n n' same changes =
          subst (λ m. After (record (scene_of s) { values = with_value s.running.values x n }) (with_value t.running.values x m)) (sym same) (record {
            same = with_value-same s.running.values t.running.values x n h.holds.same;
            holds = after-holds (record (scene_of s) { values = with_value s.running.values x n }) changes;
          })

      -- both stay
      stay-both : (memory : List ℕ) → Changes stmt (scene_of s) (record (scene_of s) { memory = memory }) → After (record (scene_of s) { memory = memory }) t.running.values
      stay-both memory changes = record { same = h.holds.same; holds = after-holds (record (scene_of s) { memory = memory }) changes }

    set-alike : (x : Loc) (e e' : Expr) (rest : List Stmt) → ((l : Loc) (v : Expr) → Is rest l v → IsAvailableAfter (Set x e) (Is (Set x e ∷ rest)) l v) → IsSubstitute (Is (Set x e ∷ rest)) e e'
        → (s t : State) → RunAlike before after (link place (Set x e ∷ rest)) s t → DoAlike (link place rest) s t (Set x e) (Set x e')
    set-alike x e e' rest step_right sub s t h =
        take-both (Set x e) rest step_right s t h x (value_in s e) (value_in t e') (value-both (Set x e ∷ rest) s t h e e' sub)
        (set-changes x e (scene_of s))
      where
        set-changes : (x : Loc) (e : Expr) (scene : Environment) → Changes (Set x e) scene (record scene { values = with_value scene.values x (value_of scene e) })
        set-changes x e scene = one-changes (Set x e) x (value_of scene e) scene refl (λ l v same.
            let to : x ≡ l = cc in
            let of : e ≡ v = cc in
            ap (with_value scene.values x (value_of scene e)) (sym to) ∙ with-itself scene.values x (value_of scene e) ∙ ap (value_of scene) of)

    fetch-alike : (x : Loc) (width : ℕ) (a a' : Expr) (rest : List Stmt) → ((l : Loc) (v : Expr) → Is rest l v → IsAvailableAfter (Fetch x width a) (Is (Fetch x width a ∷ rest)) l v)
        → IsSubstitute (Is (Fetch x width a ∷ rest)) a a' → (s t : State) → RunAlike before after (link place (Fetch x width a ∷ rest)) s t → DoAlike (link place rest) s t (Fetch x width a) (Fetch x width a')
    fetch-alike x width a a' rest step_right sub s t h =
        take-both (Fetch x width a) rest step_right s t h x _ _
        (ap₂ (λ m n. bytes_at m (width / 8) n) h.outside.memory (value-both (Fetch x width a ∷ rest) s t h a a' sub))
        (one-changes (Fetch x width a) x _ (scene_of s) refl (λ l v same. absurd (cc)))

    store-alike : (width : ℕ) (a a' e e' : Expr) (rest : List Stmt) → ((l : Loc) (v : Expr) → Is rest l v → IsAvailableAfter (Store width a e) (Is (Store width a e ∷ rest)) l v)
        → IsSubstitute (Is (Store width a e ∷ rest)) a a' → IsSubstitute (Is (Store width a e ∷ rest)) e e' → (s t : State) → RunAlike before after (link place (Store width a e ∷ rest)) s t
        → DoAlike (link place rest) s t (Store width a e) (Store width a' e')
    store-alike width a a' e e' rest step_right suba sube s t h = (
      refl,
      value-both (Store width a e ∷ rest) s t h a a' suba,
      value-both (Store width a e ∷ rest) s t h e e' sube,
      stay-both (Store width a e) rest step_right s t h (with_bytes_at s.memory (width / 8) (value_in s a) (value_in s e)) (store-changes width a e (scene_of s) _),
    )

    div-alike : (x : Loc) (e e' : Expr) (rest : List Stmt) → ((l : Loc) (v : Expr) → Is rest l v → IsAvailableAfter (Div x e) (Is (Div x e ∷ rest)) l v)
        → (s t : State) → RunAlike before after (link place (Div x e ∷ rest)) s t → division_of (scene_of t) e' ≡ division_of (scene_of s) e → DoAlike (link place rest) s t (Div x e) (Div x e')
    div-alike x e e' rest step_right s t h same = (
      same,
      λ n. take-both (Div x e) rest step_right s t h x n n refl (one-changes (Div x e) x n (scene_of s) refl (λ l v is. absurd (cc))),
    )

    dos-alike : (number : ℕ) (to : Option Loc) (argument argument' : Option Expr) (rest : List Stmt)
        → ((l : Loc) (v : Expr) → Is rest l v → IsAvailableAfter (Dos number to argument) (Is (Dos number to argument ∷ rest)) l v)
        → (s t : State) → RunAlike before after (link place (Dos number to argument ∷ rest)) s t → argument_in t argument' ≡ argument_in s argument
        → DoAlike (link place rest) s t (Dos number to argument) (Dos number to argument')
    dos-alike number to argument argument' rest step_right s t h same = (
      refl,
      same,
      taken to step_right h,
      λ other. kept to step_right h,
    )
      where
        kept : (to : Option Loc) → ((l : Loc) (v : Expr) → Is rest l v → IsAvailableAfter (Dos number to argument) (Is (Dos number to argument ∷ rest)) l v)
            → RunAlike before after (link place (Dos number to argument ∷ rest)) s t → link place rest (scene_of s) t.running.values
        kept to step_right h = stay-both (Dos number to argument) rest step_right s t h s.memory (none-changes (Dos number to argument) (scene_of s) (λ l v is. absurd (cc)))

        taken : (to : Option Loc) → ((l : Loc) (v : Expr) → Is rest l v → IsAvailableAfter (Dos number to argument) (Is (Dos number to argument ∷ rest)) l v)
            → RunAlike before after (link place (Dos number to argument ∷ rest)) s t → TakeAlike (link place rest) (scene_of s) t.running.values to to
        taken (Some x) step_right h = λ n.
            take-both (Dos number (Some x) argument) rest step_right s t h x n n refl (one-changes (Dos number (Some x) argument) x n (scene_of s) refl (λ l v is. absurd (cc)))
        taken None step_right h = stay-both (Dos number None argument) rest step_right s t h s.memory (none-changes (Dos number None argument) (scene_of s) (λ l v is. absurd (cc)))

    -- a division whose operands are the same
    division-both : (rest : List Stmt) (s t : State) → RunAlike before after (link place rest) s t → (e : Expr) → division_of (scene_of t) e ≡ division_of (scene_of s) e
    division-both rest s t h (Binary operator width a b) =
        ap₂ (division_at operator width) (value-both rest s t h a a itself) (value-both rest s t h b b itself)
    division-both rest s t h e = refl

    same-zip : (rest : List Stmt) (es : List Expr) → AllZip (IsSubstitute (Is rest)) es es
    same-zip rest [] = tt
    same-zip rest (e ∷ es) = (itself, same-zip rest es)

    call-follows : (results : List Loc) (entry depth : ℕ) (arguments arguments' : List Expr) (rest rest' : List Stmt)
        → ((l : Loc) (v : Expr) → Is rest l v → IsAvailableAfter (Call results entry arguments depth) (Is (Call results entry arguments depth ∷ rest)) l v)
        → AllZip (IsSubstitute (Is (Call results entry arguments depth ∷ rest))) arguments arguments' → IsFollowedBy before after (link place) rest rest'
        → IsFollowedBy before after (link place) (Call results entry arguments depth ∷ rest) (Call results entry arguments' depth ∷ rest')
    call-follows results entry depth arguments arguments' rest rest' step_right all later =
        calls (λ s t h. values-both (Call results entry arguments depth ∷ rest) s t h arguments arguments' all)
        (λ s t r h fit base memory. record {
          same = with_values-same s.running.values t.running.values results r h.holds.same;
          holds =
              let next : Environment = record { bits = before.bits; values = with_values s.running.values results r; base = base; memory = memory } in
              after-holds (Call results entry arguments depth) rest step_right s t h next
              (call-changes results entry depth arguments (scene_of s) next (sym (ap (λ (g : Graph). g.bits) h.first)) (λ l out. given-other s.running.values results r l out));
        }) later

    stmt-follows : (stmt stmt' : Stmt) (rest rest' : List Stmt) → ((l : Loc) (v : Expr) → Is rest l v → IsAvailableAfter stmt (Is (stmt ∷ rest)) l v) → IsSubstituteStmt (Is (stmt ∷ rest)) stmt stmt'
        → IsFollowedBy before after (link place) rest rest' → IsFollowedBy before after (link place) (stmt ∷ rest) (stmt' ∷ rest')
    stmt-follows stmt stmt' rest rest' step_right (set {location = x} {e = e} {e' = e'} sub) later = step refl refl (set-alike x e e' rest step_right sub) later
    stmt-follows stmt stmt' rest rest' step_right (fetch {location = x} {width = width} {a = a} {a' = a'} sub) later = step refl refl (fetch-alike x width a a' rest step_right sub) later
    stmt-follows stmt stmt' rest rest' step_right (store {width = width} {a = a} {a' = a'} {e = e} {e' = e'} suba sube) later = step refl refl (store-alike width a a' e e' rest step_right suba sube) later
    stmt-follows stmt stmt' rest rest' step_right (div {location = x} {operator = operator} {width = width} {a = a} {a' = a'} {b = b} {b' = b'} suba subb) later =
        let e = Binary operator width a b in
        step refl refl (λ s t h. div-alike x e (Binary operator width a' b') rest step_right s t h
        (ap₂ (division_at operator width) (value-both (Div x e ∷ rest) s t h a a' suba) (value-both (Div x e ∷ rest) s t h b b' subb))) later
    stmt-follows stmt stmt' rest rest' step_right (call {results = results} {entry = entry} {depth = depth} {arguments = arguments} {arguments' = arguments'} all) later =
        call-follows results entry depth arguments arguments' rest rest' step_right all later
    stmt-follows stmt stmt' rest rest' step_right (dos {number = number} {place = to} {e = e} {e' = e'} sub) later =
        step refl refl (λ s t h. dos-alike number to (Some e) (Some e') rest step_right s t h (value-both (Dos number to (Some e) ∷ rest) s t h e e' sub)) later
    stmt-follows stmt stmt' rest rest' step_right unchanged later = go stmt step_right
      where
        go : (stmt : Stmt) → ((l : Loc) (v : Expr) → Is rest l v → IsAvailableAfter stmt (Is (stmt ∷ rest)) l v) → IsFollowedBy before after (link place) (stmt ∷ rest) (stmt ∷ rest')
        go (Set x e) step_right = step refl refl (set-alike x e e rest step_right itself) later
        go (Fetch x width a) step_right = step refl refl (fetch-alike x width a a rest step_right itself) later
        go (Store width a e) step_right = step refl refl (store-alike width a a e e rest step_right itself itself) later
        go (Div x e) step_right = step refl refl (λ s t h. div-alike x e e rest step_right s t h (division-both (Div x e ∷ rest) s t h e)) later
        go (Call results entry arguments depth) step_right =
            call-follows results entry depth arguments arguments rest rest' step_right (same-zip (Call results entry arguments depth ∷ rest) arguments) later
        go (Dos number to argument) step_right = step refl refl (λ s t h. dos-alike number to argument argument rest step_right s t h (told s t h argument)) later
          where
            told : (s t : State) → RunAlike before after (link place (Dos number to argument ∷ rest)) s t → (told : Option Expr) → argument_in t told ≡ argument_in s told
            told s t h (Some e) = value-both (Dos number to argument ∷ rest) s t h e e itself
            told s t h None = refl

    stmts-follow : (stmts news : List Stmt) → AreSubstitutes (available place) stmts news → AreRight before available place stmts → IsFollowedBy before after (link place) stmts news
    stmts-follow stmts news ended are = done
    stmts-follow stmts news (two {stmt = stmt} {stmt' = stmt'} {rest = rest} {rest' = rest'} sub w) are =
        stmt-follows stmt stmt' rest rest' are.0 sub (stmts-follow rest rest' w are.1)
    stmts-follow stmts news (gone {location = x} {e = e} {rest = rest} {rest' = rest'} sub w) are =
        goes refl
        (λ s t h.
        let took = set-alike x e e rest are.0 itself s t h in
        let held : s.running.values x ≡ value_in s e = value-substitute (scene_of s) (Is (Set x e ∷ rest))
        (λ l v told. subst (λ (g : Graph). width_of g.bits v ≡ location_width g.bits l) (sym h.first) (right.widths place (Set x e ∷ rest) l v told)) h.holds.holds e (Get x) sub in
        record { same = λ l. h.holds.same l ∙ with-held s.running.values x (value_in s e) held l; holds = took.holds })
        (stmts-follow rest rest' w are.1)

    exits-alike : (exit exit' : Exit) → IsSubstituteExit (Is []) exit exit' → (s t : State) → RunAlike before after (link place []) s t → EndsAlike s t exit exit'
    exits-alike exit exit' goto s t h = refl
    exits-alike exit exit' (test {e = e} {e' = e'} sub) s t h = (value-both [] s t h e e' sub, refl, refl)
    exits-alike exit exit' (switch {e = e} {e' = e'} sub) s t h = (value-both [] s t h e e' sub, refl)
    exits-alike exit exit' (ret {values = values} {values' = values'} all) s t h = values-both [] s t h values values' all
    exits-alike exit exit' stop s t h = tt

    block-follows : (block new : Block) → slice_get before.blocks place ≡ Some block → IsSubstitutedBlock available place block new → IsFollowedByBlock before after link place block new
    block-follows block new placed pair = record {
      stmts = stmts-follow block.stmts new.stmts pair.stmts (right.stmts place block placed);
      exit = λ s t h. exits-alike block.exit new.exit pair.exit s t h;
      goes = λ to next s t goes found h base memory. record {
        same = h.holds.same;
        holds = λ l e told.
            let back = right.goes place to block next l e placed goes found told in
            let there : Environment = record { bits = before.bits; values = s.running.values; base = base; memory = memory } in
            h.holds.holds l e back.0
            ∙ sym (value-anywhere (scene_of s) there (sym (ap (λ (g : Graph). g.bits) h.first)) e back.1 (all_had (λ r. s.running.values r ≡ s.running.values r) (reads_of e) (λ r c. refl)));
      };
    }

    block-kind : (block new : Block) → IsSubstitutedBlock available place block new → BlockStaysInKind before.bits before.bits block new
    block-kind block new pair = record {
      at = pair.at;
      targets_are = targets-substitute (Is []) block.exit new.exit pair.exit;
      jumps = jumps-substitute (Is []) block.exit new.exit pair.exit;
      given = rets-substitute before.bits (Is []) (right.widths place []) block.exit new.exit pair.exit;
      calls = calls-substitute before.bits (available place) (right.widths place) block.stmts new.stmts pair.stmts;
    }

  pub substituted-kind : StaysInKind before after
  substituted-kind = record {
    entry = ap (λ (g : Graph). g.entry) is.frame;
    params = ap₂ (λ bits params. map (param_kind bits) params) bits-same params-same;
    local = ap (λ (g : Graph). g.local) is.frame;
    pushed = ap (λ (g : Graph). g.pushed) is.frame;
    blocks = kinds-zipped before.bits after.bits before.blocks after.blocks is.count
        (λ k b c found there. subst (λ bits. BlockStaysInKind before.bits bits b c) (sym bits-same) (block-kind k b c (is.blocks k b c found there)));
  }

  substituted-begins : BeginsIn before after (linked before after link)
  substituted-begins fill base a s t fit outside opened opened' =
      let o = taken_same 0 before.params a s t (record {
        values = λ l. ap (λ (x : Activation). x.values l) opened' ∙ ap (λ bits. filled bits fill l) bits-same ∙ sym (ap (λ (x : Activation). x.values l) opened);
        memory = outside.memory;
        base = outside.base;
      }) in
      let s' = passing 0 before.params a s in
      subst (λ params. let t' = passing 0 params a t in (t'.memory ≡ s'.memory) × linked before after link (start_of before.entry) s'.running.values t'.running.values)
      (sym params-same) (o.memory, λ block found base memory. record { same = o.values; holds = λ l e told. absurd (right.start block l e found told) })

  substituted-follows : IsFollowedByGraph before after link
  substituted-follows = record {
    begins = substituted-begins;
    blocks = λ place block new found there. block-follows place block new found (is.blocks place block new found there);
  }

pub substituted-stands : (available : Availability) (before after : Graph) → IsRight before available → IsSubstituted available before after → IsGraph after → StandsFor before after
substituted-stands available before after right is fine =
    followed-stands before after (link available before after right is) (substituted-kind available before after right is) fine (substituted-follows available before after right is)
